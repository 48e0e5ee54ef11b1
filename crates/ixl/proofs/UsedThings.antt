-- What a route uses, by what its sections lock.
use Rattle.std.proofs.Common.{◌≡◌, ◌⊎◌, ◌↔◌, ℕ, Bool, true, false, List, [], ◌∷◌, drop, refl, subst, inl, inr, ⊎_elim}
use Rattle.std.specs.Prelude.{◌||◌, ◌==◌, IsTrue}
use Rattle.std.specs.List.{Contains, list_any}
use Rattle.std.proofs.lemmas.Bool.{false≢true, eqb-true, eq-eqb}
use Rattle.ixl_state.specs.ixl_spec.Due.{HoldsSection}
use Rattle.ixl_state.specs.ixl_spec.Table.{Row}
use Rattle.ixl_state.specs.ixl_spec.View.{freed_sections, holds_section}
use Rattle.ixl_state.specs.ixl_spec.declared.phase.Phase.{Phase}
use Rattle.ixl.proofs.RowLaws.{and_shown, and_yes, contains-cases, contains-here, contains-none, contains-there, same_test}

either_yes : (a b : Bool) → (a || b) ≡ true → (a ≡ true) ⊎ (b ≡ true)
either_yes true b is = inl refl
either_yes false b is = inr is

first_shown : (a b : Bool) → a ≡ true → (a || b) ≡ true
first_shown true b is = refl
first_shown false b is = absurd (false≢true is)

then_shown : (a b : Bool) → b ≡ true → (a || b) ≡ true
then_shown true b is = refl
then_shown false b is = is

listed : (section : ℕ) (list : List ℕ) → list_any (λ other. other == section) list ≡ true → Contains list section
listed section [] is = absurd (false≢true is)
listed section (first ∷ others) is =
    ⊎_elim (λ here. subst (λ (n : ℕ). Contains (first ∷ others) n) (eqb-true first section here) (contains-here first others))
    (λ later. contains-there first section others (listed section others later)) (either_yes _ _ is)

listed_shown : (section : ℕ) (list : List ℕ) → Contains list section → list_any (λ other. other == section) list ≡ true
listed_shown section [] has = absurd (contains-none section has)
listed_shown section (first ∷ others) has =
    ⊎_elim (λ here. first_shown _ _ (eq-eqb first section here)) (λ later. then_shown _ _ (listed_shown section others later)) (contains-cases first section others has)

-- a route's locks say which sections it holds
pub section_held : (row : Row) (phase : Phase) (section : ℕ) (is : Bool) → IsTrue is ↔ HoldsSection row phase section → is ≡ holds_section row phase section
section_held row phase section is locks = same_test _ _
    (λ yes. and_shown _ _ (locks.0 yes).0 (listed_shown section (drop (freed_sections phase) row.sections) (locks.0 yes).1))
    (λ yes. locks.1 ((and_yes _ _ yes).0, listed section (drop (freed_sections phase) row.sections) (and_yes _ _ yes).1))
