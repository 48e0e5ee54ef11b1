-- A name field, read from both sides.
use Rattle.std.proofs.Common.{◌≡◌, ℕ, ◌-◌, Bool, true, cond, ◌&&◌, List, length, replicate, Some, None, refl, sym, ap, ◌∙◌, subst, arith}
use Rattle.std.specs.Str.{bytes_eq}
use Rattle.std.proofs.lemmas.Bool.{and_parts, and_from, leb-true, le-leb}
use Rattle.std.proofs.lemmas.List.{length-append, length-replicate}
use Rattle.std.proofs.lemmas.Slice.Eq.{bytes_eq-Decides}
use Rattle.std.proofs.lemmas.Option.{same_Some}
use Rattle.sci_telegram.specs.Names.{is_name, IsName, name_field, name_in}
use Rattle.sci_telegram.specs.TelegramRead.{name_spelled}
use Rattle.sci_telegram.proofs.Names.{name_in-name_field}
use Rattle.sci_telegram.proofs.Steps.{test_some, some_or_none}

is_name_means : (name : List ℕ) → is_name name ≡ true → IsName name
is_name_means name h =
    let outer = and_parts _ _ h in
    let inner = and_parts _ _ outer.0 in
    record { some = leb-true 1 (length name) inner.0; most = leb-true (length name) 20 inner.1; each = outer.1 }

name_is_tested : (name : List ℕ) → IsName name → is_name name ≡ true
name_is_tested name h = and_from _ _ (and_from _ _ (le-leb 1 (length name) h.some) (le-leb (length name) 20 h.most)) h.each

-- a name that was read is spelled so
pub spelled_takes : (field name : List ℕ) → name_spelled field ≡ Some name → IsName name × (field ≡ name_field name)
unfolding name_spelled
spelled_takes field name e =
    let t = test_some (is_name (name_in field) && bytes_eq (name_field (name_in field)) field) (Some (name_in field)) name e in
    let parts = and_parts (is_name (name_in field)) (bytes_eq (name_field (name_in field)) field) t.0 in
    let made : IsName (name_in field) × (field ≡ name_field (name_in field)) = (is_name_means (name_in field) parts.0, sym ((bytes_eq-Decides (name_field (name_in field)) field).0 parts.1)) in
    subst (λ (n : List ℕ). IsName n × (field ≡ name_field n)) (same_Some (name_in field) name t.1) made

-- a name that is spelled so is read
pub spelled_again : (name : List ℕ) → IsName name → name_spelled (name_field name) ≡ Some name
unfolding name_spelled
spelled_again name h =
    let tested : (is_name name && bytes_eq (name_field name) (name_field name)) ≡ true = and_from _ _ (name_is_tested name h) ((bytes_eq-Decides (name_field name) (name_field name)).1 refl) in
    subst (λ (n : List ℕ). cond (is_name n && bytes_eq (name_field n) (name_field name)) (Some n) None ≡ Some name) (sym (name_in-name_field name h)) (ap (λ (b : Bool). cond b (Some name) None) tested)

-- a field that spells no name
pub spells_none : (field name : List ℕ) → name_spelled field ≡ None → IsName name → field ≡ name_field name → ⊥
spells_none field name none h e = some_or_none (name_spelled field) name (ap name_spelled e ∙ spelled_again name h) none

pub length-name_field : (name : List ℕ) → IsName name → length (name_field name) ≡ 20
length-name_field name h = omega (arith, length-append name (replicate (20 - length name) 95), length-replicate {A = ℕ} (20 - length name) 95, h.most)
