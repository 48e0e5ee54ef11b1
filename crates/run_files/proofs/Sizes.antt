-- How long parts are.
use Rattle.std.proofs.Common.{◌≡◌, ◌<◌, ◌∙◌, ℕ, Bool, true, false, if◌then◌else◌, List, [], ◌∷◌, ◌++◌, length, refl, sym, ap, subst, append-nil}
use Rattle.std.proofs.lemmas.Bool.{and_from, leb-false}
use Rattle.std.specs.Prelude.{◌≢◌, nat_le}
use Rattle.run_files.specs.Parts.{AllAre, IsLongerByItsLastLine, Parts, ends_line, is_full, next_part, nothing, parts_of, with_byte, with_opened, written}
use Rattle.run_files.proofs.Again.{all-push}

-- a list with an element at its end is in two as the list is, or its second part is empty
data Split (xs : List ℕ) (x : ℕ) (front last : List ℕ) : Type 0 where
  before : (rest : List ℕ) → last ≡ rest ++ x ∷ [] → xs ≡ front ++ rest → Split xs x front last
  empty : last ≡ [] → Split xs x front last

same_head : {a b : ℕ} {xs ys : List ℕ} → a ∷ xs ≡ b ∷ ys → a ≡ b
same_head e = cc

same_tail : {a b : ℕ} {xs ys : List ℕ} → a ∷ xs ≡ b ∷ ys → xs ≡ ys
same_tail e = cc

no_list : {a : ℕ} {xs : List ℕ} → [] ≡ a ∷ xs → ⊥
no_list e = cc

tail_none : (front last : List ℕ) → [] ≡ front ++ last → last ≡ []
tail_none [] last e = sym e
tail_none (f ∷ front) last e = absurd (no_list e)

longer_split : (y x f : ℕ) (ys front last : List ℕ) → y ≡ f → Split ys x front last → Split (y ∷ ys) x (f ∷ front) last
longer_split y x f ys front last same (before rest is are) = before rest is (ap (λ (h : ℕ). h ∷ ys) same ∙ ap (λ (l : List ℕ). f ∷ l) are)
longer_split y x f ys front last same (empty is) = empty is

split : (xs : List ℕ) (x : ℕ) (front last : List ℕ) → xs ++ x ∷ [] ≡ front ++ last → Split xs x front last
split xs x [] last e = before xs (sym e) refl
split [] x (f ∷ front) last e = empty (tail_none front last (same_tail e))
split (y ∷ ys) x (f ∷ front) last e = longer_split y x f ys front last (same_head e) (split ys x front last (same_tail e))

-- a list of no bytes has no line
pub nothing_long : (size : ℕ) → IsLongerByItsLastLine size []
nothing_long size [] [] e some ends = absurd (some refl)
nothing_long size [] (l ∷ last) e some ends = absurd (no_list e)
nothing_long size (f ∷ front) last e some ends = absurd (no_list e)

true_false : true ≡ false → ⊥
true_false e = cc

-- what isn't full and ends with a line is shorter
shorter_by : (size : ℕ) (part : List ℕ) (t : Bool) → nat_le size (length part) ≡ t → is_full size part ≡ false → ends_line part ≡ true → length part < size
shorter_by size part true test room ends = absurd (true_false (sym (and_from (ends_line part) (nat_le size (length part)) ends test) ∙ room))
shorter_by size part false test room ends = leb-false size (length part) test

shorter : (size : ℕ) (part : List ℕ) → is_full size part ≡ false → ends_line part ≡ true → length part < size
shorter size part room ends = shorter_by size part (nat_le size (length part)) refl room ends

-- one byte more, where the list is split so
split_longer : (size byte : ℕ) (part front last : List ℕ) → is_full size part ≡ false → IsLongerByItsLastLine size part → last ≢ [] → ends_line front ≡ true
    → Split part byte front last → length front < size
split_longer size byte part front last room had some ends (empty is) = absurd (some is)
split_longer size byte part front last room had some ends (before [] is are) =
    let same : part ≡ front = are ∙ append-nil front in
    subst (λ (l : List ℕ). length l < size) same (shorter size part room (ap ends_line same ∙ ends))
split_longer size byte part front last room had some ends (before (r ∷ rest) is are) = had front (r ∷ rest) are (λ e. no_list (sym e)) ends

one_longer : (size byte : ℕ) (part : List ℕ) → is_full size part ≡ false → IsLongerByItsLastLine size part → IsLongerByItsLastLine size (part ++ byte ∷ [])
one_longer size byte part room had front last e some ends = split_longer size byte part front last room had some ends (split part byte front last e)

abbrev AreLonger : ℕ → Parts → Type 0
AreLonger size parts = AllAre (IsLongerByItsLastLine size) parts.closed × IsLongerByItsLastLine size parts.opened

byte_longer : (size byte : ℕ) (parts : Parts) (t : Bool) → is_full size parts.opened ≡ t → AreLonger size parts → AreLonger size (with_opened (byte ∷ []) (if t then next_part parts else parts))
byte_longer size byte parts true full are = (all-push (IsLongerByItsLastLine size) parts.closed parts.opened are.0 are.1, one_longer size byte [] refl (nothing_long size))
byte_longer size byte parts false room are = (are.0, one_longer size byte parts.opened room are.1)

longer : (size : ℕ) (text : List ℕ) (parts : Parts) → AreLonger size parts → AreLonger size (written size text parts)
longer size [] parts are = are
longer size (byte ∷ text) parts are = longer size text (with_byte size byte parts) (byte_longer size byte parts (is_full size parts.opened) refl are)

pub all_longer : (size : ℕ) (text : List ℕ) → AllAre (IsLongerByItsLastLine size) (parts_of size text)
all_longer size text =
    let parts : Parts = written size text nothing in
    let are = longer size text nothing (tt, nothing_long size) in
    all-push (IsLongerByItsLastLine size) parts.closed parts.opened are.0 are.1
