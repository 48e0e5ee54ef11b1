-- What a look at a section leaves of a route.
use Rattle.std.proofs.Common.{◌≡◌, ◌∙◌, ◌==◌, ◌||◌, ◌⊎◌, Bool, true, false, ℕ, ◌<◌, List, length, Option, Some, None, refl, sym, ap, subst, ⊎_elim}
use Rattle.std.specs.Prelude.{IfSome, IsTrue}
use Rattle.std.specs.List.{Contains}
use Rattle.std.specs.Bool.{Decides}
use Rattle.std.specs.Cmp.{nat_cmp_total, unsigned_tied}
use Rattle.std.specs.FinSet.{contains, insert, contains-insert}
use Rattle.std.proofs.lemmas.Bool.{eqb-true, eq-eqb}
use Rattle.std.proofs.lemmas.Bool.Decides.{Decides-or}
use Rattle.std.proofs.lemmas.List.Quantifiers.{position-Some}
use Rattle.ixl_spec.specs.bit_row.Places.{Has, Places}
use Rattle.release.specs.Passage.{PassageState, after_look}
use Rattle.ixl_spec.specs.State.{RouteState}
use Rattle.ixl_spec.specs.Step.{route_looks}
use Rattle.ixl_spec.specs.Table.{Row}
use Rattle.ixl_spec.specs.View.{place_in}
use Rattle.ixl_state.specs.inside.Kept.{HoldsAlike, IsPassageOf}

place-below : (section : ℕ) (sections : List ℕ) (k : ℕ) → place_in section sections ≡ Some k → k < length sections
place-below section sections k is = (position-Some (λ other. other == section) sections k 0 is).0

pub place-absent : (section : ℕ) (sections : List ℕ) → (Contains sections section → ⊥) → place_in section sections ≡ None
place-absent section sections absent = cases (place_in section sections) refl where
  cases : (place : Option ℕ) → place_in section sections ≡ place → place ≡ None
  cases None is = refl
  cases (Some k) is = let found = position-Some (λ other. other == section) sections k section is in absurd (absent (k, found.0, eqb-true _ _ found.1))

pub place-within : (place : Option ℕ) (section : ℕ) (sections : List ℕ) (n : ℕ) → place ≡ place_in section sections → n ≡ length sections → IfSome place (λ k. k < n)
place-within None section sections n is long = tt
place-within (Some k) section sections n is long = subst (λ (m : ℕ). k < m) (sym long) (place-below section sections k (sym is))

looks-alike-at : (section : ℕ) (occupied : Bool) (row : Row) (old : RouteState) (place : Option ℕ) → place_in section row.sections ≡ place → HoldsAlike old.phase (route_looks section occupied row old).phase
looks-alike-at section occupied row old None is = rw is (record { set = refl; freed = refl })
looks-alike-at section occupied row old (Some k) is = rw is (record { set = refl; freed = refl })

pub looks-alike : (section : ℕ) (occupied : Bool) (row : Row) (old : RouteState) → HoldsAlike old.phase (route_looks section occupied row old).phase
looks-alike section occupied row old = looks-alike-at section occupied row old (place_in section row.sections) refl

inserted : (s : Places) (j k : ℕ) → Has (insert s j) k → (k ≡ j) ⊎ Has s k
inserted s j k h =
    let d : Decides (k == j || contains s k) ((k ≡ j) ⊎ IsTrue (contains s k)) = Decides-or (k == j) (contains s k) (eqb-true k j, eq-eqb k j) ((λ x. x), (λ x. x)) in
    d.0 (sym (contains-insert nat_cmp_total s j k ∙ ap (λ b. b || contains s k) (unsigned_tied k j)) ∙ h)

after-passage : (row : Row) (passage : PassageState) (k : ℕ) (occupied : Bool) → k < length row.sections → IsPassageOf row passage → IsPassageOf row (after_look passage k occupied)
after-passage row passage k true lt is = record {
  sections = is.sections;
  within = λ place h. ⊎_elim (λ same. subst (λ (n : ℕ). n < length row.sections) (sym same) lt) (is.within place) (inserted passage.seen k place h);
}
after-passage row passage k false lt is = record { sections = is.sections; within = is.within }

looks-passage-at : (section : ℕ) (occupied : Bool) (row : Row) (old : RouteState) (place : Option ℕ) → place_in section row.sections ≡ place → IsPassageOf row old.passage → IsPassageOf row (route_looks section occupied row old).passage
looks-passage-at section occupied row old None is passage = rw is passage
looks-passage-at section occupied row old (Some k) is passage = rw is (after-passage row old.passage k occupied (place-below section row.sections k is) passage)

pub looks-passage : (section : ℕ) (occupied : Bool) (row : Row) (old : RouteState) → IsPassageOf row old.passage → IsPassageOf row (route_looks section occupied row old).passage
looks-passage section occupied row old passage = looks-passage-at section occupied row old (place_in section row.sections) refl passage
