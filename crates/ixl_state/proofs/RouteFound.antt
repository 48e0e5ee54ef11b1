-- Some route of a table that passes a test.
use Rattle.std.proofs.Common.{◌≡◌, ◌∙◌, ◌&&◌, ◌||◌, Bool, true, false, ℕ, zero, suc, ◌+◌, ◌<◌, ◌≤◌, List, [], ◌∷◌, length, get_or, Some, refl, sym, ap, subst, ⊎_elim, arith}
use Rattle.std.specs.Prelude.{slice_get, ◌↔◌, IsTrue}
use Rattle.std.specs.Bool.{Decides}
use Rattle.std.proofs.lemmas.Bool.{cases_lt, false≢true}
use Rattle.std.proofs.lemmas.Bool.Decides.{Decides-and}
use Rattle.std.proofs.lemmas.Option.{none-some, same_Some, slice_get_read, slice_get_within}
use Rattle.ixl_spec.specs.sci_telegram.declared.message.Side.{Side}
use Rattle.route_lock.specs.Locks.{Holds, LockState}
use Rattle.ixl_spec.specs.State.{RouteState}
use Rattle.ixl_spec.specs.Table.{Row}
use Rattle.ixl_spec.specs.View.{holds_point, some_route, was_authorised}
use Rattle.ixl_table.specs.Locks.{IsKeptRoute}
use Rattle.ixl_table.specs.Table.{SitedTable, as_point, as_route}
use Rattle.ixl_state.specs.inside.Kept.{HoldsWithAuthority, SomeHoldsWithAuthority}
use Rattle.ixl_state.proofs.Lists.{get-below}

pub same-truth : (b d : Bool) → (IsTrue b → IsTrue d) → (IsTrue d → IsTrue b) → b ≡ d
same-truth true true to from = refl
same-truth true false to from = sym (to refl)
same-truth false true to from = from refl
same-truth false false to from = refl

module _ (test : Row → RouteState → Bool) where
  pub some-found : (n : ℕ) (rows : List Row) (routes : List RouteState) → some_route (λ number row route. test row route) n rows routes ≡ true
      → (i : ℕ) × (row : Row) × (route : RouteState) × (slice_get rows i ≡ Some row) × (slice_get routes i ≡ Some route) × (test row route ≡ true)
  some-found n [] routes e = absurd (false≢true e)
  some-found n (row ∷ rows) [] e = absurd (false≢true e)
  some-found n (row ∷ rows) (route ∷ routes) e = cases (test row route) refl (some-found (suc n) rows routes) e where
    cases : (b : Bool) → test row route ≡ b
        → (some_route (λ number row route. test row route) (suc n) rows routes ≡ true → (i : ℕ) × (r : Row) × (s : RouteState) × (slice_get rows i ≡ Some r) × (slice_get routes i ≡ Some s) × (test r s ≡ true))
        → (b || some_route (λ number row route. test row route) (suc n) rows routes) ≡ true
        → (i : ℕ) × (r : Row) × (s : RouteState) × (slice_get (row ∷ rows) i ≡ Some r) × (slice_get (route ∷ routes) i ≡ Some s) × (test r s ≡ true)
    cases true passes rest f = (0, row, route, refl, refl, passes)
    cases false fails rest f = let h = rest f in (suc h.0, h.1, h.2, h.3, h.4, h.5)

  pub finds-some : (n : ℕ) (rows : List Row) (routes : List RouteState) (i : ℕ) (row : Row) (route : RouteState)
      → slice_get rows i ≡ Some row → slice_get routes i ≡ Some route → test row route ≡ true → some_route (λ number row route. test row route) n rows routes ≡ true
  finds-some n [] routes i row route e f passes = absurd (none-some row e)
  finds-some n (w ∷ rows) [] i row route e f passes = absurd (none-some route f)
  finds-some n (w ∷ rows) (v ∷ routes) zero row route e f passes =
      let is : test w v ≡ true = ap (λ (r : Row). test r v) (same_Some w row e) ∙ ap (test row) (same_Some v route f) ∙ passes in
      rw is refl
  finds-some n (w ∷ rows) (v ∷ routes) (suc i) row route e f passes = cases (test w v) (finds-some (suc n) rows routes i row route e f passes) where
    cases : (b : Bool) → some_route (λ number row route. test row route) (suc n) rows routes ≡ true → (b || some_route (λ number row route. test row route) (suc n) rows routes) ≡ true
    cases true rest = refl
    cases false rest = rest

-- ---- route after route

abbrev pub NoneBefore : LockState → List RouteState → ℕ → ℕ → Type 0
NoneBefore locks routes point before = (k : ℕ) (route : RouteState) → k < before → slice_get routes k ≡ Some route → HoldsWithAuthority locks k route point → ⊥

pub none-more : (locks : LockState) (routes : List RouteState) (point k : ℕ) (route : RouteState) → k < length routes → route ≡ get_or routes k route → (HoldsWithAuthority locks k route point → ⊥) → NoneBefore locks routes point k
    → NoneBefore locks routes point (k + 1)
none-more locks routes point k route lt is not before j other within at holds = ⊎_elim (λ less. before j other less at holds) here (cases_lt j k) where
  here : k ≤ j → ⊥
  here le =
      let same : j ≡ k = omega (arith, le, within) in
      let there : slice_get routes k ≡ Some other = subst (λ (n : ℕ). slice_get routes n ≡ Some other) same at in
      let one : other ≡ route = same_Some other route (sym there ∙ slice_get_read routes (length routes) k route refl lt is) in
      not (subst (λ (r : RouteState). HoldsWithAuthority locks k r point) one (subst (λ (n : ℕ). HoldsWithAuthority locks n other point) same holds))

pub none-at-all : (locks : LockState) (routes : List RouteState) (point k : ℕ) → length routes ≤ k → NoneBefore locks routes point k → SomeHoldsWithAuthority locks routes point → ⊥
none-at-all locks routes point k le none h = let lt = slice_get_within routes h.0 h.1 h.2 in none h.0 h.1 (omega (arith, le, lt)) h.2 h.3

-- ---- a point that is held

pub held-with-authority : (sited : SitedTable) (routes : List RouteState) (locks : LockState) (point : ℕ) (b : Bool) → length routes ≡ length sited.table.rows
    → ((number : ℕ) (row : Row) (route : RouteState) → IsKeptRoute sited.table routes number row route → ((side : Side) × Holds locks (as_route number) (as_point point) side) ↔ IsTrue (holds_point row route.phase point))
    → IsTrue b ↔ SomeHoldsWithAuthority locks routes point → b ≡ some_route (λ number row route. was_authorised route.phase && holds_point row route.phase point) 0 sited.table.rows routes
held-with-authority sited routes locks point b each law some =
    same-truth b (some_route (λ number row route. test row route) 0 sited.table.rows routes)
    (λ h.
    let found = some.0 h in
    let lt = slice_get_within routes found.0 found.1 found.2 in
    let row = get-below sited.table.rows found.0 (omega (arith, lt, each)) in
    finds-some test 0 sited.table.rows routes found.0 row.0 found.1 row.1 found.2 ((decides row.0 found.1).1 (found.3.0, (law found.0 row.0 found.1 (row.1, found.2)).0 found.3.1)))
    (λ h.
    let found = some-found test 0 sited.table.rows routes h in
    let both = (decides found.1 found.2).0 found.5 in
    some.1 (found.0, found.2, found.4, (both.0, (law found.0 found.1 found.2 (found.3, found.4)).1 both.1)))
  where
    test : Row → RouteState → Bool
    test row route = was_authorised route.phase && holds_point row route.phase point

    decides : (row : Row) (route : RouteState) → Decides (was_authorised route.phase && holds_point row route.phase point) (IsTrue (was_authorised route.phase) × IsTrue (holds_point row route.phase point))
    decides row route = Decides-and (was_authorised route.phase) (holds_point row route.phase point) ((λ h. h), (λ h. h)) ((λ h. h), (λ h. h))
