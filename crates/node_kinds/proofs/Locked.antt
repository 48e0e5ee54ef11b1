-- What set routes lock, place by place.
use Rattle.std.proofs.Common.{◌≡◌, ◌∙◌, ◌⊎◌, ◌↔◌, ℕ, zero, suc, ◌+◌, ◌<◌, ◌≤◌, add-one, ◌==◌, ◌&&◌, ◌||◌, Bool, true, false, if◌then◌else◌, IsTrue, List, [], ◌∷◌, length, drop, Some, slice_get, refl, sym, ap, subst, inl, inr, ⊎_elim, arith}
use Rattle.std.specs.Cmp.{nat_cmp_total}
use Rattle.std.specs.FinSet.{contains, empty, insert, union, contains-empty, contains-union}
use Rattle.std.specs.List.{Contains, list_any}
use Rattle.std.specs.Ordering.{nat_cmp}
use Rattle.std.proofs.lemmas.Bool.{cases_lt, eq-eqb, eqb-true, false≢true}
use Rattle.std.proofs.lemmas.Option.{none-some, same_Some, slice_get_within}
use Rattle.simulator_spec.specs.bit_row.Places.{Has, Places}
use Rattle.simulator_spec.specs.ixl_spec.Due.{HoldsSection}
use Rattle.simulator_spec.specs.ixl_spec.State.{RouteState}
use Rattle.simulator_spec.specs.ixl_spec.Table.{Row}
use Rattle.simulator_spec.specs.ixl_spec.View.{freed_sections, holds_section, is_set, some_route}
use Rattle.simulator_spec.specs.ixl_spec.declared.phase.Phase.{Phase}
use Rattle.node_kinds.specs.Kept.{places_where}
use Rattle.node_kinds.proofs.Listed.{contains-cases, contains-there, two_tests}

-- ---- the places that pass a test

pub no_places : (test : ℕ → Bool) → places_where test 0 ≡ empty
unfolding places_where
no_places test = refl

pub more_places : (test : ℕ → Bool) (place : ℕ) (passes : Bool) → passes ≡ test place → places_where test (place + 1) ≡ (if passes then insert (places_where test place) place else places_where test place)
unfolding places_where
more_places test place passes is = rw add-one (ap (λ v. if v then insert (places_where test place) place else places_where test place) (sym is))

-- ---- a section that one route hasn't freed

one_of : (a b : Bool) → (a || b) ≡ true → (a ≡ true) ⊎ (b ≡ true)
one_of true b e = inl refl
one_of false b e = inr e

first_shown : (a b : Bool) → a ≡ true → (a || b) ≡ true
first_shown true b e = refl
first_shown false b e = absurd (false≢true e)

then_shown : (a b : Bool) → b ≡ true → (a || b) ≡ true
then_shown true b e = refl
then_shown false b e = e

among : (section : ℕ) (list : List ℕ) → list_any (λ other. other == section) list ≡ true → Contains list section
among section [] e = absurd (false≢true e)
among section (first ∷ others) e =
    ⊎_elim (λ here. (0, omega arith, eqb-true first section here)) (λ later. contains-there first section others (among section others later)) (one_of (first == section) (list_any (λ other. other == section) others) e)

among_shown : (section : ℕ) (list : List ℕ) → Contains list section → list_any (λ other. other == section) list ≡ true
among_shown section [] has = absurd (let lt = has.1 in omega (arith, lt))
among_shown section (first ∷ others) has =
    ⊎_elim (λ here. first_shown (first == section) _ (eq-eqb first section here)) (λ later. then_shown (first == section) _ (among_shown section others later)) (contains-cases first section others has)

held : (row : Row) (phase : Phase) (section : ℕ) → holds_section row phase section ≡ true → HoldsSection row phase section
held row phase section e =
    let left = drop (freed_sections phase) row.sections in
    let parts = two_tests (is_set phase) (list_any (λ other. other == section) left) e in
    (parts.0, among section left parts.1)

held_shown : (row : Row) (phase : Phase) (section : ℕ) → HoldsSection row phase section → holds_section row phase section ≡ true
held_shown row phase section holds =
    ap (λ v. v && list_any (λ other. other == section) (drop (freed_sections phase) row.sections)) holds.0 ∙ among_shown section (drop (freed_sections phase) row.sections) holds.1

-- ---- sections that some of the first routes haven't

abbrev pub LocksBelow : List Row → List RouteState → ℕ → ℕ → Type 0
LocksBelow rows routes count section = (k : ℕ) × (row : Row) × (route : RouteState) × (k < count) × (slice_get rows k ≡ Some row) × (slice_get routes k ≡ Some route) × HoldsSection row route.phase section

abbrev pub AreLockedBelow : List Row → List RouteState → ℕ → Places → Type 0
AreLockedBelow rows routes count sections = (section : ℕ) → Has sections section ↔ LocksBelow rows routes count section

pub none_locked : (rows : List Row) (routes : List RouteState) → AreLockedBelow rows routes 0 empty
none_locked rows routes section = (λ has. absurd (false≢true (sym (contains-empty nat_cmp section) ∙ has)), λ below. absurd (let lt = below.3 in omega (arith, lt)))

pub more_locked : (rows : List Row) (routes : List RouteState) (number : ℕ) (row : Row) (route : RouteState) (sections its : Places) → slice_get rows number ≡ Some row → slice_get routes number ≡ Some route
    → ((section : ℕ) → Has its section ↔ HoldsSection row route.phase section) → AreLockedBelow rows routes number sections → AreLockedBelow rows routes (number + 1) (union sections its)
more_locked rows routes number row route sections its at_row at_route its_are are section = (to, from)
  where
    is : contains (union sections its) section ≡ (contains sections section || contains its section)
    is = contains-union nat_cmp_total sections its section

    to : Has (union sections its) section → LocksBelow rows routes (number + 1) section
    to has =
        ⊎_elim (λ before. let b = (are section).0 before in let lt = b.3 in (b.0, b.1, b.2, omega (arith, lt), b.4, b.5, b.6)) (λ here. (number, row, route, omega arith, at_row, at_route, (its_are section).0 here))
        (one_of (contains sections section) (contains its section) (sym is ∙ has))

    last : (k : ℕ) (other : Row) (one : RouteState) → k ≡ number → slice_get rows k ≡ Some other → slice_get routes k ≡ Some one → HoldsSection other one.phase section → HoldsSection row route.phase section
    last k other one same there also holds =
        let row_is : other ≡ row = same_Some other row (sym there ∙ ap (slice_get rows) same ∙ at_row) in
        let route_is : one ≡ route = same_Some one route (sym also ∙ ap (slice_get routes) same ∙ at_route) in
        subst (λ (r : Row). HoldsSection r route.phase section) row_is (subst (λ (s : RouteState). HoldsSection other s.phase section) route_is holds)

    from : LocksBelow rows routes (number + 1) section → Has (union sections its) section
    from (k, other, one, lt, there, also, holds) =
        is ∙ ⊎_elim (λ less. first_shown (contains sections section) _ ((are section).1 (k, other, one, less, there, also, holds)))
        (λ least. then_shown (contains sections section) _ ((its_are section).1 (last k other one (omega (arith, lt, least)) there also holds))) (cases_lt k number)

-- ---- that is a test of all routes

module _ (section : ℕ) where
  abbrev locks : ℕ → Row → RouteState → Bool
  locks number row route = holds_section row route.phase section

  found : (number : ℕ) (rows : List Row) (routes : List RouteState) → some_route locks number rows routes ≡ true
      → (k : ℕ) × (row : Row) × (route : RouteState) × (slice_get rows k ≡ Some row) × (slice_get routes k ≡ Some route) × (holds_section row route.phase section ≡ true)
  found number [] routes e = absurd (false≢true e)
  found number (row ∷ rows) [] e = absurd (false≢true e)
  found number (row ∷ rows) (route ∷ routes) e =
      ⊎_elim (λ here. (0, row, route, refl, refl, here)) (λ later. let f = found (suc number) rows routes later in (suc f.0, f.1, f.2, f.3, f.4, f.5))
      (one_of (locks number row route) (some_route locks (suc number) rows routes) e)

  shown : (number : ℕ) (rows : List Row) (routes : List RouteState) (k : ℕ) (row : Row) (route : RouteState) → slice_get rows k ≡ Some row → slice_get routes k ≡ Some route → holds_section row route.phase section ≡ true
      → some_route locks number rows routes ≡ true
  shown number [] routes k row route at also holds = absurd (none-some row at)
  shown number (first ∷ rows) [] k row route at also holds = absurd (none-some route also)
  shown number (first ∷ rows) (one ∷ routes) zero row route at also holds =
      first_shown (locks number first one) _ (ap (λ (r : Row). holds_section r one.phase section) (same_Some first row at) ∙ ap (λ (s : RouteState). holds_section row s.phase section) (same_Some one route also) ∙ holds)
  shown number (first ∷ rows) (one ∷ routes) (suc k) row route at also holds = then_shown (locks number first one) _ (shown (suc number) rows routes k row route at also holds)

  pub all_locked : (rows : List Row) (routes : List RouteState) (count : ℕ) → length rows ≤ count → LocksBelow rows routes count section ↔ IsTrue (some_route locks 0 rows routes)
  all_locked rows routes count all = (
    λ below. shown 0 rows routes below.0 below.1 below.2 below.4 below.5 (held_shown below.1 below.2.phase section below.6),
    λ e. let f = found 0 rows routes e in let there = slice_get_within rows f.0 f.1 f.3 in (f.0, f.1, f.2, omega (arith, there, all), f.3, f.4, held f.1 f.2.phase section f.5),
  )
