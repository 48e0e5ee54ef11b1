-- A name is what its field spells.
use Rattle.std.proofs.Common.{◌≡◌, ℕ, zero, suc, ◌-◌, ◌<◌, true, false, not, List, [], ◌∷◌, ◌++◌, length, drop, replicate, refl, sym, ap, ◌∙◌, subst, ⊎_elim, arith}
use Rattle.std.specs.List.{list_all}
use Rattle.std.proofs.lemmas.Bool.{and_parts, cases_Bool, cond-true, eqb-true, not_from_false}
use Rattle.std.proofs.lemmas.List.{drop-replicate}
use Rattle.std.proofs.lemmas.List.Sums.{take_while-cons}
use Rattle.std.proofs.lemmas.Bool.Decides.{nat_tests}
use Rattle.std.specs.Str.{IsAscii, IsUtf8}
use Rattle.std.proofs.lemmas.Str.{IsUtf8-from_ascii}
use Rattle.std.proofs.lemmas.Str.Ascii.{IsAscii-nil, IsAscii-cons}
use Rattle.sci_telegram.specs.Names.{is_name_byte, is_padding, IsName, name_field, name_in, IsNameField}

-- no padding is in a name
no_padding : (byte : ℕ) → is_name_byte byte ≡ true → not (is_padding byte) ≡ true
no_padding byte h =
    let P : ℕ → Type 0 = λ b. is_name_byte b ≡ true in
    ⊎_elim
    (λ e. absurd (let at_padding : false ≡ true = subst P (eqb-true byte 95 e) h in cc))
    (λ e. not_from_false (is_padding byte) e)
    (cases_Bool (is_padding byte))

-- what stands before the padding is the name
name_before : (name : List ℕ) (k : ℕ) → list_all is_name_byte name ≡ true → name_in (name ++ replicate k 95) ≡ name
name_before [] zero h = refl
name_before [] (suc k) h = refl
name_before (x ∷ xs) k h =
    let parts = and_parts (is_name_byte x) (list_all is_name_byte xs) h in
    take_while-cons (λ b. not (is_padding b)) x (xs ++ replicate k 95)
    ∙ cond-true _ _ _ (no_padding x parts.0)
    ∙ ap (λ (rest : List ℕ). x ∷ rest) (name_before xs k parts.1)

-- a name is in its field
pub name_in-name_field : (name : List ℕ) → IsName name → name_in (name_field name) ≡ name
name_in-name_field name h = name_before name (20 - length name) h.each

-- the field of a name holds one
pub held : (name : List ℕ) → IsName name → IsNameField (name_field name)
held name h =
    let same = name_in-name_field name h in
    record { name = subst IsName (sym same) h; spelled = ap name_field (sym same) }

-- a name that is written over a field of padding
pub written : (name front : List ℕ) → front ≡ name → front ++ drop (length name) (replicate 20 95) ≡ name_field name
written name front e =
    ap (λ (xs : List ℕ). xs ++ drop (length name) (replicate 20 95)) e ∙ ap (λ (xs : List ℕ). name ++ xs) (drop-replicate (length name) 20 95)

-- what a name is made of is ASCII
name_byte_is_ascii : (byte : ℕ) → is_name_byte byte ≡ true → byte < 128
name_byte_is_ascii byte h = grind (arith, nat_tests)

name_is_ascii : (name : List ℕ) → list_all is_name_byte name ≡ true → IsAscii name
name_is_ascii [] h = IsAscii-nil
name_is_ascii (x ∷ xs) h =
    let parts = and_parts (is_name_byte x) (list_all is_name_byte xs) h in
    IsAscii-cons x xs (name_byte_is_ascii x parts.0) (name_is_ascii xs parts.1)

-- and so text
pub name_is_text : (name : List ℕ) → IsName name → IsUtf8 name
name_is_text name h = IsUtf8-from_ascii name (name_is_ascii name h.each)
