-- The first route of the table that passes a test.
use Rattle.std.proofs.Common.{◌≡◌, ℕ, suc, zero, ◌+◌, ◌<◌, Bool, true, false, if◌then◌else◌, List, [], ◌∷◌, arith, refl, sym, ◌∙◌, subst}
use Rattle.std.specs.Prelude.{Option, Some, None, slice_get}
use Rattle.std.proofs.lemmas.Option.{same_Some}
use Rattle.ixl_spec.specs.Table.{Row, Table}
use Rattle.ixl_spec.specs.State.{IxlState, RouteState}
use Rattle.ixl_spec.specs.Operations.{first_route}
use Rattle.ixl_spec.specs.OperationCauses.{IsFirstRoute, NoRoute, OfRoute}
use Rattle.ixl_spec.proofs.Decide.{Decides, no}
use Rattle.ixl_spec.proofs.HoldTests.{none_is}

-- a fact of the route at a place of these rows and routes, which are numbered from here on
abbrev HoldsAt : (ℕ → Row → RouteState → Type 0) → ℕ → List Row → List RouteState → ℕ → Type 0
HoldsAt holds number rows routes place =
    (row : Row) × (route : RouteState) × ((slice_get rows place ≡ Some row) × (slice_get routes place ≡ Some route)) × holds (number + place) row route

abbrev Found : (ℕ → Row → RouteState → Type 0) → ℕ → List Row → List RouteState → Option ℕ → Type 0
Found holds number rows routes None = (place : ℕ) → HoldsAt holds number rows routes place → ⊥
Found holds number rows routes (Some first) =
    (place : ℕ) × (first ≡ number + place) × HoldsAt holds number rows routes place × ((other : ℕ) → other < place → HoldsAt holds number rows routes other → ⊥)

-- what the first route of the table that passes a test is
abbrev pub FirstTells : (ℕ → Row → RouteState → Type 0) → Table → IxlState → Option ℕ → Type 0
FirstTells holds table ixl None = NoRoute table ixl holds
FirstTells holds table ixl (Some number) = IsFirstRoute table ixl holds number

module _ (holds : ℕ → Row → RouteState → Type 0) where
  -- what holds at the first place, and at a later one
  at_first : (number : ℕ) (row : Row) (rows : List Row) (route : RouteState) (routes : List RouteState) → holds number row route →
      HoldsAt holds number (row ∷ rows) (route ∷ routes) 0
  at_first number row rows route routes is = (row, route, (refl, refl), subst (λ n. holds n row route) (omega arith) is)

  of_first : (number : ℕ) (row : Row) (rows : List Row) (route : RouteState) (routes : List RouteState) →
      HoldsAt holds number (row ∷ rows) (route ∷ routes) 0 → holds number row route
  of_first number row rows route routes (other, state, is, holding) =
      subst (λ r. holds number r route) (sym (same_Some _ _ is.0)) (subst (λ r. holds number other r) (sym (same_Some _ _ is.1)) (subst (λ n. holds n other state) (omega arith) holding))

  at_later : (number place : ℕ) (row : Row) (rows : List Row) (route : RouteState) (routes : List RouteState) → HoldsAt holds (suc number) rows routes place →
      HoldsAt holds number (row ∷ rows) (route ∷ routes) (suc place)
  at_later number place row rows route routes is = (is.0, is.1, is.2, subst (λ n. holds n is.0 is.1) (omega arith) is.3)

  of_later : (number place : ℕ) (row : Row) (rows : List Row) (route : RouteState) (routes : List RouteState) →
      HoldsAt holds number (row ∷ rows) (route ∷ routes) (suc place) → HoldsAt holds (suc number) rows routes place
  of_later number place row rows route routes is = (is.0, is.1, is.2, subst (λ n. holds n is.0 is.1) (omega arith) is.3)

  -- what is found behind a route of which it doesn't hold
  behind : (number : ℕ) (row : Row) (rows : List Row) (route : RouteState) (routes : List RouteState) (found : Option ℕ) → (holds number row route → ⊥) →
      Found holds (suc number) rows routes found → Found holds number (row ∷ rows) (route ∷ routes) found
  behind number row rows route routes None none is = later where
    later : (place : ℕ) → HoldsAt holds number (row ∷ rows) (route ∷ routes) place → ⊥
    later zero at = none (of_first number row rows route routes at)
    later (suc place) at = is place (of_later number place row rows route routes at)
  behind number row rows route routes (Some first) none (place, told, found, before) =
      (suc place, told ∙ omega arith, at_later number place row rows route routes found, earlier)
    where
      earlier : (other : ℕ) → other < suc place → HoldsAt holds number (row ∷ rows) (route ∷ routes) other → ⊥
      earlier zero less at = none (of_first number row rows route routes at)
      earlier (suc other) less at = before other (omega (arith, less)) (of_later number other row rows route routes at)

  module _ (test : ℕ → Row → RouteState → Bool) (each : (number : ℕ) (row : Row) (route : RouteState) → Decides (test number row route) (holds number row route)) where
    found_first : (number : ℕ) (rows : List Row) (routes : List RouteState) → Found holds number rows routes (first_route test number rows routes)
    found_first number [] routes = λ place is. none_is is.2.0
    found_first number (row ∷ rows) [] = λ place is. none_is is.2.1
    found_first number (row ∷ rows) (route ∷ routes) = by_test (test number row route) refl (found_first (suc number) rows routes) where
      by_test : (b : Bool) → test number row route ≡ b → Found holds (suc number) rows routes (first_route test (suc number) rows routes) →
          Found holds number (row ∷ rows) (route ∷ routes) (if b then Some number else first_route test (suc number) rows routes)
      by_test true is rest = (0, omega arith, at_first number row rows route routes ((each number row route).yes is), λ other less. absurd (omega (arith, less)))
      by_test false is rest = behind number row rows route routes _ (no _ _ (each number row route) is) rest

    by_place : (table : Table) (ixl : IxlState) (found : Option ℕ) → Found holds 0 table.rows ixl.routes found → FirstTells holds table ixl found
    by_place table ixl None is = λ number of. is number (of.0, of.1, of.2, subst (λ n. holds n of.0 of.1) (omega arith) of.3)
    by_place table ixl (Some number) (place, told, at, before) =
        let same : place ≡ number = omega (arith, told) in (
          subst (OfRoute table ixl holds) same (at.0, at.1, at.2, subst (λ n. holds n at.0 at.1) (omega arith) at.3),
          λ other less of. before other (omega (arith, told, less)) (of.0, of.1, of.2, subst (λ n. holds n of.0 of.1) (omega arith) of.3),
        )

    pub first_tells : (table : Table) (ixl : IxlState) → FirstTells holds table ixl (first_route test 0 table.rows ixl.routes)
    first_tells table ixl = by_place table ixl _ (found_first 0 table.rows ixl.routes)
