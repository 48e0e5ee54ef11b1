-- The machine's table is sound.
use Rattle.std.proofs.Common.{inl, inr, ◌≡◌, ◌⊎◌, ℕ, Bool, true, false, not, List, [], ◌∷◌, refl, sym, ap, ◌∙◌}
use Rattle.std.specs.Prelude.{◌||◌, ◌==◌, ◌≢◌}
use Rattle.std.specs.List.{list_any}
use Rattle.std.proofs.lemmas.Bool.{true≢false, false≢true, eqb-true, eq-eqb}
use Rattle.ixl_spec.specs.sci_telegram.declared.message.Side.{Side}
use Rattle.ixl_spec.specs.sci_telegram.declared.message.Side.TheVariants as sides
use Rattle.ixl_spec.specs.Table.{Need, Row, Table, is_same_side}
use Rattle.simulator_machine.specs.Lists.{is_same}
use Rattle.simulator_machine.specs.Table.{IsSound}
use Rattle.simulator_move_laws.specs.Rows.{is_elsewhere, machine_table, row_at, rows_conflict, some_pair}
use Rattle.simulator_move_laws.proofs.Interlocking.Tests.{both_true, true_both, not_true}
use Rattle.simulator_move_laws.proofs.Interlocking.Changes.{same_is, same_self}

pub either : (a b : Bool) → a || b ≡ true → (a ≡ true) ⊎ (b ≡ true)
either true b is = inl refl
either false b is = inr is

left_of : (a b : Bool) → a ≡ true → a || b ≡ true
left_of true b is = refl
left_of false b is = absurd (false≢true is)

right_of : (a b : Bool) → b ≡ true → a || b ≡ true
right_of true b is = refl
right_of false b is = is

-- some of one list, and its place in the other's test
found : {A B : Type 0} (test : A → B → Bool) (swapped : B → A → Bool) → ((a : A) (b : B) → test a b ≡ true → swapped b a ≡ true) → (one : A) (others : List A) (list : List B) →
    list_any (test one) list ≡ true → some_pair swapped list (one ∷ others) ≡ true
found test swapped swap one others [] is = absurd (false≢true is)
found test swapped swap one others (first ∷ later) is = cases (either (test one first) (list_any (test one) later) is) (found test swapped swap one others later) where
  cases : (test one first ≡ true) ⊎ (list_any (test one) later ≡ true) → (list_any (test one) later ≡ true → some_pair swapped later (one ∷ others) ≡ true) →
      some_pair swapped (first ∷ later) (one ∷ others) ≡ true
  cases (inl e) on = left_of (swapped first one || list_any (swapped first) others) (some_pair swapped later (one ∷ others)) (left_of (swapped first one) (list_any (swapped first) others) (swap one first e))
  cases (inr e) on = right_of (swapped first one || list_any (swapped first) others) (some_pair swapped later (one ∷ others)) (on e)

one_more : {A B : Type 0} (swapped : B → A → Bool) (one : A) (others : List A) (list : List B) → some_pair swapped list others ≡ true → some_pair swapped list (one ∷ others) ≡ true
one_more swapped one others [] is = absurd (false≢true is)
one_more swapped one others (first ∷ later) is = cases (either (list_any (swapped first) others) (some_pair swapped later others) is) (one_more swapped one others later) where
  cases : (list_any (swapped first) others ≡ true) ⊎ (some_pair swapped later others ≡ true) → (some_pair swapped later others ≡ true → some_pair swapped later (one ∷ others) ≡ true) →
      some_pair swapped (first ∷ later) (one ∷ others) ≡ true
  cases (inl e) on = left_of (swapped first one || list_any (swapped first) others) (some_pair swapped later (one ∷ others)) (right_of (swapped first one) (list_any (swapped first) others) e)
  cases (inr e) on = right_of (swapped first one || list_any (swapped first) others) (some_pair swapped later (one ∷ others)) (on e)

pub pairs_swap : {A B : Type 0} (test : A → B → Bool) (swapped : B → A → Bool) → ((a : A) (b : B) → test a b ≡ true → swapped b a ≡ true) → (ones : List A) (list : List B) →
    some_pair test ones list ≡ true → some_pair swapped list ones ≡ true
pairs_swap test swapped swap [] list is = absurd (false≢true is)
pairs_swap test swapped swap (first ∷ others) list is = cases (either (list_any (test first) list) (some_pair test others list) is) (pairs_swap test swapped swap others list) where
  cases : (list_any (test first) list ≡ true) ⊎ (some_pair test others list ≡ true) → (some_pair test others list ≡ true → some_pair swapped list others ≡ true) → some_pair swapped list (first ∷ others) ≡ true
  cases (inl e) on = found test swapped swap first others list e
  cases (inr e) on = one_more swapped first others list (on e)

pub equal_swap : (a b : ℕ) → a == b ≡ true → b == a ≡ true
equal_swap a b is = eq-eqb b a (sym (eqb-true a b is))

sides_swap : (a b : Side) → not (is_same_side a b) ≡ true → not (is_same_side b a) ≡ true
sides_swap sides.Right sides.Right is = is
sides_swap sides.Right sides.Left is = is
sides_swap sides.Left sides.Right is = is
sides_swap sides.Left sides.Left is = is

pub elsewhere_swap : (a b : Need) → is_elsewhere a b ≡ true → is_elsewhere b a ≡ true
elsewhere_swap a b is = true_both (b.point == a.point) (not (is_same_side b.side a.side)) (equal_swap a.point b.point (both_true (a.point == b.point) (not (is_same_side a.side b.side)) is).0)
    (sides_swap a.side b.side (both_true (a.point == b.point) (not (is_same_side a.side b.side)) is).1)

conflict_swap : (number : ℕ) (row : Row) (other_number : ℕ) (other : Row) → rows_conflict number row other_number other ≡ true → rows_conflict other_number other number row ≡ true
conflict_swap number row other_number other is = by_two (either (entry || sections || needs || one) two is) where
  entry : Bool
  entry = row.entry == other.entry

  sections : Bool
  sections = some_pair (λ one another. one == another) row.sections other.sections

  needs : Bool
  needs = some_pair is_elsewhere row.needs other.needs

  one : Bool
  one = list_any (λ listed. listed == other_number) row.extra

  two : Bool
  two = list_any (λ listed. listed == number) other.extra

  entry' : Bool
  entry' = other.entry == row.entry

  sections' : Bool
  sections' = some_pair (λ one another. one == another) other.sections row.sections

  needs' : Bool
  needs' = some_pair is_elsewhere other.needs row.needs

  before : entry' || sections' || needs' ≡ true → entry' || sections' || needs' || two || one ≡ true
  before e = left_of (entry' || sections' || needs' || two) one (left_of (entry' || sections' || needs') two e)

  by_entry : (entry ≡ true) ⊎ (sections ≡ true) → entry' || sections' || needs' || two || one ≡ true
  by_entry (inl e) = before (left_of (entry' || sections') needs' (left_of entry' sections' (equal_swap row.entry other.entry e)))
  by_entry (inr e) = before (left_of (entry' || sections') needs' (right_of entry' sections' (pairs_swap (λ one another. one == another) (λ one another. one == another) equal_swap row.sections other.sections e)))

  by_needs : (entry || sections ≡ true) ⊎ (needs ≡ true) → entry' || sections' || needs' || two || one ≡ true
  by_needs (inl e) = by_entry (either entry sections e)
  by_needs (inr e) = before (right_of (entry' || sections') needs' (pairs_swap is_elsewhere is_elsewhere elsewhere_swap row.needs other.needs e))

  by_one : (entry || sections || needs ≡ true) ⊎ (one ≡ true) → entry' || sections' || needs' || two || one ≡ true
  by_one (inl e) = by_needs (either (entry || sections) needs e)
  by_one (inr e) = right_of (entry' || sections' || needs' || two) one e

  by_two : (entry || sections || needs || one ≡ true) ⊎ (two ≡ true) → entry' || sections' || needs' || two || one ≡ true
  by_two (inl e) = by_one (either (entry || sections || needs) one e)
  by_two (inr e) = left_of (entry' || sections' || needs' || two) one (right_of (entry' || sections' || needs') two e)

not_same : (a b : ℕ) → not (is_same a b) ≡ true → not (is_same b a) ≡ true
not_same a b is = cases (is_same b a) refl where
  cases : (test : Bool) → is_same b a ≡ test → not (is_same b a) ≡ true
  cases true e = absurd (true≢false (sym (ap (λ k. is_same k b) (sym (same_is b a e)) ∙ same_self b) ∙ not_true (is_same a b) is))
  cases false e = ap not e

apart : (a b : ℕ) → a ≢ b → not (is_same a b) ≡ true
apart a b other = cases (is_same a b) refl where
  cases : (test : Bool) → is_same a b ≡ test → not (is_same a b) ≡ true
  cases true e = absurd (other (same_is a b e))
  cases false e = ap not e

same_entry : (number : ℕ) (row : Row) (other_number : ℕ) (other : Row) → row.entry == other.entry ≡ true → rows_conflict number row other_number other ≡ true
same_entry number row other_number other is =
    left_of (row.entry == other.entry || sections || needs || one) two (left_of (row.entry == other.entry || sections || needs) one (left_of (row.entry == other.entry || sections) needs (left_of (row.entry == other.entry) sections is)))
  where
    sections : Bool
    sections = some_pair (λ one another. one == another) row.sections other.sections

    needs : Bool
    needs = some_pair is_elsewhere row.needs other.needs

    one : Bool
    one = list_any (λ listed. listed == other_number) row.extra

    two : Bool
    two = list_any (λ listed. listed == number) other.extra

pub sound : (table : Table) → IsSound (machine_table table)
unfolding machine_table
sound table = record {
  both_ways = λ a b is. true_both (not (is_same b a)) (rows_conflict b (row_at table b) a (row_at table a)) (not_same a b (both_true (not (is_same a b)) (rows_conflict a (row_at table a) b (row_at table b)) is).0)
      (conflict_swap a (row_at table a) b (row_at table b) (both_true (not (is_same a b)) (rows_conflict a (row_at table a) b (row_at table b)) is).1);
  one_entry = λ a b other same. true_both (not (is_same a b)) (rows_conflict a (row_at table a) b (row_at table b)) (apart a b other)
      (same_entry a (row_at table a) b (row_at table b) (eq-eqb (row_at table a).entry (row_at table b).entry same));
}
