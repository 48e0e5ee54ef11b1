-- Where a section comes on the path of a route.
use Rattle.std.proofs.Common.{◌≡◌, ◌⊎◌, inl, inr, ℕ, zero, suc, ◌+◌, ◌<◌, ◌≤◌, Bool, true, false, List, [], ◌∷◌, length, map, arith, refl, ap, sym, ◌∙◌, subst}
use Rattle.std.specs.Prelude.{◌==◌, Some, slice_get}
use Rattle.std.specs.List.{position_or_len}
use Rattle.std.proofs.lemmas.Bool.{cases_lt, cond_below, eq-eqb, eqb-true}
use Rattle.std.proofs.lemmas.Option.{get_or_from_slice_get, slice_get_within}
use Rattle.ixl_state.specs.layout.Entries.{Site}
use Rattle.ixl_state.specs.layout.Once.{Distinct}
use Rattle.ixl_state.specs.layout.declared.ids.SectionId.{SectionId}
use Rattle.ixl_state.specs.control_table.Table.{AreSections}
use Rattle.ixl_state.specs.ixl_spec.Table.{Row, Table}
use Rattle.ixl_state.specs.ixl_spec.View.{place_in}
use Rattle.ixl_state.specs.ixl_table.Table.{IsTableOf, as_route, as_section}
use Rattle.ixl_laws.specs.History.{ComesAt}
use Rattle.ixl_laws.proofs.PickedByTest.{none_is, some_same}

-- ---- the place at which the step finds a section

next : (n : ℕ) → 1 + n ≡ suc n
next n = omega arith

first_at : (section : ℕ) (sections : List ℕ) (place : ℕ) → slice_get sections place ≡ Some section → ((other : ℕ) → slice_get sections other ≡ Some section → place ≤ other)
    → position_or_len (λ other. other == section) sections ≡ place
first_at section [] place stands first = absurd (none_is stands)
first_at section (one ∷ others) zero stands first = rw (eq-eqb one section (some_same stands)) refl
first_at section (one ∷ others) (suc place) stands first = by_test (one == section) refl (first_at section others place stands behind) where
  behind : (other : ℕ) → slice_get others other ≡ Some section → place ≤ other
  behind other is = let late = first (suc other) is in omega (arith, late)

  by_test : (test : Bool) → (one == section) ≡ test → position_or_len (λ other. other == section) others ≡ place → position_or_len (λ other. other == section) (one ∷ others) ≡ suc place
  by_test true is rest = absurd (let late = first 0 (ap Some (eqb-true one section is)) in omega (arith, late))
  by_test false is rest = rw is (ap (λ n. 1 + n) rest ∙ next place)

pub found_at : (sections : List ℕ) (section place : ℕ) → ComesAt sections section place → place_in section sections ≡ Some place
found_at sections section place comes =
    let at = first_at section sections place comes.stands comes.first
    in let within = slice_get_within sections place section comes.stands
    in sym (cond_below (position_or_len (λ other. other == section) sections) (length sections) _ _ (subst (λ n. n < length sections) (sym at) within)) ∙ ap Some at

-- ---- of the table of a station

mapped_there : {A B : Type 0} (f : A → B) (list : List A) (place : ℕ) (one : A) → slice_get list place ≡ Some one → slice_get (map f list) place ≡ Some (f one)
mapped_there f [] place one is = absurd (none_is is)
mapped_there f (first ∷ others) zero one is = ap (λ o. Some (f o)) (some_same is)
mapped_there f (first ∷ others) (suc place) one is = mapped_there f others place one is

never_again : (sections : List SectionId) → Distinct sections → (place other : ℕ) (section : SectionId) → slice_get sections place ≡ Some section → slice_get sections other ≡ Some section → place ≤ other
never_again sections distinct place other section stands again = by_order (cases_lt other place) where
  by_order : (other < place) ⊎ (place ≤ other) → place ≤ other
  by_order (inl before) = absurd (distinct other place section before (slice_get_within sections place section stands)
      (get_or_from_slice_get sections other section section again ∙ sym (get_or_from_slice_get sections place section section stands)))
  by_order (inr behind) = behind

pub comes_alone : (site : Site) (table : Table) → IsTableOf site table → (number : ℕ) (row : Row) → slice_get table.rows number ≡ Some row
    → (section place : ℕ) → slice_get row.sections place ≡ Some section → ComesAt row.sections section place
comes_alone site table is_table number row there section place stands = record {
  stands = stands;
  first = λ other again. never_again (map as_section row.sections) (all_once (is_table.rows.their number row there).sections) place other (as_section section)
      (mapped_there as_section row.sections place section stands) (mapped_there as_section row.sections other section again);
}
  where
    all_once : AreSections site (as_route number) (map as_section row.sections) → Distinct (map as_section row.sections)
    all_once (route, path, is_route, is_path, same) = subst Distinct (sym same) is_path.once.sections
