-- The first route that blocks another, and some route that holds a point.
use Rattle.std.proofs.Common.{◌≡◌, ◌∙◌, ◌⊎◌, Bool, true, false, if◌then◌else◌, ◌||◌, ℕ, zero, suc, ◌+◌, ◌<◌, ◌≤◌, List, [], ◌∷◌, length, Some, None, refl, sym, ap, subst, inl, inr, arith}
use Rattle.std.specs.Prelude.{slice_get, ◌↔◌, IsTrue}
use Rattle.std.specs.List.{Contains}
use Rattle.std.proofs.lemmas.Bool.{cases_lt, false≢true}
use Rattle.ixl_spec.specs.sci_telegram.declared.message.Side.{Side}
use Rattle.ixl_spec.specs.layout.declared.ids.SectionId.{SectionId}
use Rattle.ixl_spec.specs.layout.declared.ids.RouteId.{RouteId}
use Rattle.ixl_spec.specs.bit_row.Places.{Has}
use Rattle.ixl_spec.specs.control_table.Table.{AreSections, LeadsOver}
use Rattle.route_lock.specs.Locks.{Blocks, FirstBlocks, Holds, LockState, locked_by}
use Rattle.ixl_spec.specs.Table.{Row}
use Rattle.ixl_spec.specs.State.{IxlState, RouteState}
use Rattle.ixl_spec.specs.View.{blocks, first_blocking, holds_point_at, is_held_at, some_route}
use Rattle.ixl_table.specs.Table.{IsTableOf, SitedTable, as_point, as_route}
use Rattle.ixl_table.specs.Locks.{AreLocksOf, HaveSectionsLeft, IsKeptRoute}
use Rattle.ixl_table.proofs.Lists.{get-below, none-some, some-injective}
use Rattle.ixl_table.proofs.LockLaws.{blocks-is, point-held}

zero-plus : (n : ℕ) → 0 + n ≡ n
zero-plus n = omega arith

plus-zero : (n : ℕ) → n + 0 ≡ n
plus-zero n = omega arith

plus-suc : (n i : ℕ) → suc n + i ≡ n + suc i
plus-suc n i = omega arith

-- ---- the first of two lists that passes

module _ (wanted : ℕ) (wanted_row : Row) where
  abbrev At : ℕ → List Row → List RouteState → ℕ → Type 0
  At n rows routes i = (row : Row) × (route : RouteState) × (slice_get rows i ≡ Some row) × (slice_get routes i ≡ Some route) × (blocks wanted wanted_row (n + i) row route ≡ true)

  abbrev NoneUpTo : ℕ → List Row → List RouteState → ℕ → Type 0
  NoneUpTo n rows routes i = (j : ℕ) → j < i → At n rows routes j → ⊥

  later : (n : ℕ) (row : Row) (rows : List Row) (route : RouteState) (routes : List RouteState) (i : ℕ) → At (suc n) rows routes i → At n (row ∷ rows) (route ∷ routes) (suc i)
  later n row rows route routes i h = (h.0, h.1, h.2, h.3, subst (λ (k : ℕ). blocks wanted wanted_row k h.0 h.1 ≡ true) (plus-suc n i) h.4)

  earlier : (n : ℕ) (row : Row) (rows : List Row) (route : RouteState) (routes : List RouteState) (i : ℕ) → At n (row ∷ rows) (route ∷ routes) (suc i) → At (suc n) rows routes i
  earlier n row rows route routes i h = (h.0, h.1, h.2, h.3, subst (λ (k : ℕ). blocks wanted wanted_row k h.0 h.1 ≡ true) (sym (plus-suc n i)) h.4)

  here : (n : ℕ) (row : Row) (rows : List Row) (route : RouteState) (routes : List RouteState) → blocks wanted wanted_row n row route ≡ true → At n (row ∷ rows) (route ∷ routes) 0
  here n row rows route routes h = (row, route, refl, refl, subst (λ (k : ℕ). blocks wanted wanted_row k row route ≡ true) (sym (plus-zero n)) h)

  not-here : (n : ℕ) (row : Row) (rows : List Row) (route : RouteState) (routes : List RouteState) → blocks wanted wanted_row n row route ≡ false → At n (row ∷ rows) (route ∷ routes) 0 → ⊥
  not-here n row rows route routes fails h =
      let r : row ≡ h.0 = some-injective row h.0 h.2 in
      let s : route ≡ h.1 = some-injective route h.1 h.3 in
      let passes : blocks wanted wanted_row n row route ≡ true = subst (λ (k : ℕ). blocks wanted wanted_row k row route ≡ true) (plus-zero n) (subst (λ (x : RouteState). blocks wanted wanted_row (n + 0) row x ≡ true) (sym s) (subst (λ (x : Row). blocks wanted wanted_row (n + 0) x h.1 ≡ true) (sym r) h.4)) in
      false≢true (sym fails ∙ passes)

  up-to : (n : ℕ) (row : Row) (rows : List Row) (route : RouteState) (routes : List RouteState) (i : ℕ) → (At n (row ∷ rows) (route ∷ routes) 0 → ⊥) → NoneUpTo (suc n) rows routes i → NoneUpTo n (row ∷ rows) (route ∷ routes) (suc i)
  up-to n row rows route routes i fails none zero lt h = fails h
  up-to n row rows route routes i fails none (suc j) lt h = none j (omega (arith, lt)) (earlier n row rows route routes j h)

  found : (n : ℕ) (rows : List Row) (routes : List RouteState) (k : ℕ) → first_blocking wanted wanted_row n rows routes ≡ Some k → (i : ℕ) × (k ≡ n + i) × At n rows routes i × NoneUpTo n rows routes i
  found n [] routes k e = absurd (none-some k e)
  found n (row ∷ rows) [] k e = absurd (none-some k e)
  found n (row ∷ rows) (route ∷ routes) k e = cases (blocks wanted wanted_row n row route) refl (λ f. found (suc n) rows routes k f) e where
    cases : (b : Bool) → blocks wanted wanted_row n row route ≡ b
        → (first_blocking wanted wanted_row (suc n) rows routes ≡ Some k → (i : ℕ) × (k ≡ suc n + i) × At (suc n) rows routes i × NoneUpTo (suc n) rows routes i)
        → (if b then Some n else first_blocking wanted wanted_row (suc n) rows routes) ≡ Some k
        → (i : ℕ) × (k ≡ n + i) × At n (row ∷ rows) (route ∷ routes) i × NoneUpTo n (row ∷ rows) (route ∷ routes) i
    cases true passes rest f = (0, (let same = some-injective n k f in omega (arith, same)), here n row rows route routes passes, λ j lt h. absurd (omega (arith, lt)))
    cases false fails rest f =
        let h = rest f in
        (suc h.0, (let same = h.1 in omega (arith, same)), later n row rows route routes h.0 h.2, up-to n row rows route routes h.0 (not-here n row rows route routes fails) h.3)

  finds : (n : ℕ) (rows : List Row) (routes : List RouteState) (i : ℕ) → At n rows routes i → NoneUpTo n rows routes i → first_blocking wanted wanted_row n rows routes ≡ Some (n + i)
  finds n [] routes i h none = absurd (none-some h.0 h.2)
  finds n (row ∷ rows) [] i h none = absurd (none-some h.1 h.3)
  finds n (row ∷ rows) (route ∷ routes) zero h none =
      let r : h.0 ≡ row = sym (some-injective row h.0 h.2) in
      let s : h.1 ≡ route = sym (some-injective route h.1 h.3) in
      let passes : blocks wanted wanted_row n row route ≡ true = subst (λ (k : ℕ). blocks wanted wanted_row k row route ≡ true) (plus-zero n) (subst (λ (x : RouteState). blocks wanted wanted_row (n + 0) row x ≡ true) s (subst (λ (x : Row). blocks wanted wanted_row (n + 0) x h.1 ≡ true) r h.4)) in
      rw passes (ap Some (sym (plus-zero n)))
  finds n (row ∷ rows) (route ∷ routes) (suc i) h none =
      cases (blocks wanted wanted_row n row route) refl (finds (suc n) rows routes i (earlier n row rows route routes i h) (λ j lt x. none (suc j) (omega (arith, lt)) (later n row rows route routes j x))) where
        cases : (b : Bool) → blocks wanted wanted_row n row route ≡ b → first_blocking wanted wanted_row (suc n) rows routes ≡ Some (suc n + i)
            → (if b then Some n else first_blocking wanted wanted_row (suc n) rows routes) ≡ Some (n + suc i)
        cases true passes rest = absurd (none 0 (omega arith) (here n row rows route routes passes))
        cases false fails rest = rest ∙ ap Some (plus-suc n i)

  none-found : (n : ℕ) (rows : List Row) (routes : List RouteState) → first_blocking wanted wanted_row n rows routes ≡ None → (i : ℕ) → At n rows routes i → ⊥
  none-found n [] routes e i h = none-some h.0 h.2
  none-found n (row ∷ rows) [] e i h = none-some h.1 h.3
  none-found n (row ∷ rows) (route ∷ routes) e i h = cases (blocks wanted wanted_row n row route) refl (none-found (suc n) rows routes) e i h where
    cases : (b : Bool) → blocks wanted wanted_row n row route ≡ b
        → (first_blocking wanted wanted_row (suc n) rows routes ≡ None → (i : ℕ) → At (suc n) rows routes i → ⊥)
        → (if b then Some n else first_blocking wanted wanted_row (suc n) rows routes) ≡ None → (i : ℕ) → At n (row ∷ rows) (route ∷ routes) i → ⊥
    cases true passes rest f i h = none-some n (sym f)
    cases false fails rest f zero h = not-here n row rows route routes fails h
    cases false fails rest f (suc i) h = rest f i (earlier n row rows route routes i h)

  finds-none : (n : ℕ) (rows : List Row) (routes : List RouteState) → ((i : ℕ) → At n rows routes i → ⊥) → first_blocking wanted wanted_row n rows routes ≡ None
  finds-none n [] routes none = refl
  finds-none n (row ∷ rows) [] none = refl
  finds-none n (row ∷ rows) (route ∷ routes) none = cases (blocks wanted wanted_row n row route) refl (finds-none (suc n) rows routes (λ i h. none (suc i) (later n row rows route routes i h))) where
    cases : (b : Bool) → blocks wanted wanted_row n row route ≡ b → first_blocking wanted wanted_row (suc n) rows routes ≡ None
        → (if b then Some n else first_blocking wanted wanted_row (suc n) rows routes) ≡ None
    cases true passes rest = absurd (none 0 (here n row rows route routes passes))
    cases false fails rest = rest

-- ---- the first that blocks

module _ (sited : SitedTable) (routes : List RouteState) (locks : LockState) (table : IsTableOf sited.site sited.table) (each : length routes ≡ length sited.table.rows)
    (are : AreLocksOf sited routes locks) where
  -- what locks something is a route of the table
  kept : (a : RouteId) (section : ℕ) → Has (locked_by locks a) section → (row : Row) × (route : RouteState) × IsKeptRoute sited.table routes a.0 row route
  kept a section h = by (cases_lt a.0 (length sited.table.rows)) where
    by : (a.0 < length sited.table.rows) ⊎ (length sited.table.rows ≤ a.0) → (row : Row) × (route : RouteState) × IsKeptRoute sited.table routes a.0 row route
    by (inl lt) =
        let row = get-below sited.table.rows a.0 lt in
        let route = get-below routes a.0 (omega (arith, lt, each)) in
        (row.0, route.0, (row.1, route.1))
    by (inr le) = absurd (are.no_other a.0 section le h)

  module _ (over : (a : RouteId) (ss : List SectionId) → AreSections sited.site a ss → (s : SectionId) → Contains ss s ↔ LeadsOver sited.site a s) (left : HaveSectionsLeft sited.table routes)
      (wanted : ℕ) (wanted_row : Row) (wanted_route : RouteState) (wanted_is : IsKeptRoute sited.table routes wanted wanted_row wanted_route) where
    to-blocks : (i : ℕ) → At wanted wanted_row 0 sited.table.rows routes i → Blocks locks (as_route i) (as_route wanted)
    to-blocks i h =
        (blocks-is sited routes locks are i h.0 h.1 (h.2, h.3) table wanted wanted_row wanted_route wanted_is over left).1 (subst (λ (k : ℕ). blocks wanted wanted_row k h.0 h.1 ≡ true) (zero-plus i) h.4)

    from-blocks : (a : RouteId) → Blocks locks a (as_route wanted) → At wanted wanted_row 0 sited.table.rows routes a.0
    from-blocks a h =
        let k = kept a h.0.0 h.0.1 in
        (k.0, k.1, k.2.0, k.2.1, subst (λ (n : ℕ). blocks wanted wanted_row n k.0 k.1 ≡ true) (sym (zero-plus a.0)) ((blocks-is sited routes locks are a.0 k.0 k.1 k.2 table wanted wanted_row wanted_route wanted_is over left).0 h))

    pub first-is : (number : ℕ) → FirstBlocks locks (as_route number) (as_route wanted) ↔ (first_blocking wanted wanted_row 0 sited.table.rows routes ≡ Some number)
    first-is number = (
      λ h. finds wanted wanted_row 0 sited.table.rows routes number (from-blocks (as_route number) h.0) (λ j lt at. h.1 (as_route j) lt (to-blocks j at)) ∙ ap Some (zero-plus number),
      λ e.
          let h = found wanted wanted_row 0 sited.table.rows routes number e in
          let same : h.0 ≡ number = (let is = h.1 in omega (arith, is)) in
          subst (λ (n : ℕ). FirstBlocks locks (as_route n) (as_route wanted)) same (to-blocks h.0 h.2, λ c lt b. h.3 c.0 lt (from-blocks c b)),
    )

    pub none-is : ((a : RouteId) → Blocks locks a (as_route wanted) → ⊥) ↔ (first_blocking wanted wanted_row 0 sited.table.rows routes ≡ None)
    none-is = (
      λ none. finds-none wanted wanted_row 0 sited.table.rows routes (λ i h. none (as_route i) (to-blocks i h)),
      λ e a b. none-found wanted wanted_row 0 sited.table.rows routes e a.0 (from-blocks a b),
    )

-- ---- some route

some-found : (test : ℕ → Row → RouteState → Bool) (n : ℕ) (rows : List Row) (routes : List RouteState) → some_route test n rows routes ≡ true
    → (i : ℕ) × (row : Row) × (route : RouteState) × (slice_get rows i ≡ Some row) × (slice_get routes i ≡ Some route) × (test (n + i) row route ≡ true)
some-found test n [] routes e = absurd (false≢true e)
some-found test n (row ∷ rows) [] e = absurd (false≢true e)
some-found test n (row ∷ rows) (route ∷ routes) e = cases (test n row route) refl (some-found test (suc n) rows routes) e where
  cases : (b : Bool) → test n row route ≡ b
      → (some_route test (suc n) rows routes ≡ true → (i : ℕ) × (r : Row) × (s : RouteState) × (slice_get rows i ≡ Some r) × (slice_get routes i ≡ Some s) × (test (suc n + i) r s ≡ true))
      → (b || some_route test (suc n) rows routes) ≡ true
      → (i : ℕ) × (r : Row) × (s : RouteState) × (slice_get (row ∷ rows) i ≡ Some r) × (slice_get (route ∷ routes) i ≡ Some s) × (test (n + i) r s ≡ true)
  cases true passes rest f = (0, row, route, refl, refl, subst (λ (k : ℕ). test k row route ≡ true) (sym (plus-zero n)) passes)
  cases false fails rest f = let h = rest f in (suc h.0, h.1, h.2, h.3, h.4, subst (λ (k : ℕ). test k h.1 h.2 ≡ true) (plus-suc n h.0) h.5)

finds-some : (test : ℕ → Row → RouteState → Bool) (n : ℕ) (rows : List Row) (routes : List RouteState) (i : ℕ) (row : Row) (route : RouteState)
    → slice_get rows i ≡ Some row → slice_get routes i ≡ Some route → test (n + i) row route ≡ true → some_route test n rows routes ≡ true
finds-some test n [] routes i row route e f passes = absurd (none-some row e)
finds-some test n (w ∷ rows) [] i row route e f passes = absurd (none-some route f)
finds-some test n (w ∷ rows) (v ∷ routes) zero row route e f passes =
    let r : row ≡ w = sym (some-injective w row e) in
    let s : route ≡ v = sym (some-injective v route f) in
    let is : test n w v ≡ true = subst (λ (k : ℕ). test k w v ≡ true) (plus-zero n) (subst (λ (x : RouteState). test (n + 0) w x ≡ true) s (subst (λ (x : Row). test (n + 0) x route ≡ true) r passes)) in
    rw is refl
finds-some test n (w ∷ rows) (v ∷ routes) (suc i) row route e f passes =
    cases (test n w v) (finds-some test (suc n) rows routes i row route e f (subst (λ (k : ℕ). test k row route ≡ true) (sym (plus-suc n i)) passes)) where
      cases : (b : Bool) → some_route test (suc n) rows routes ≡ true → (b || some_route test (suc n) rows routes) ≡ true
      cases true rest = refl
      cases false rest = rest

module _ (sited : SitedTable) (ixl : IxlState) (locks : LockState) (table : IsTableOf sited.site sited.table) (each : length ixl.routes ≡ length sited.table.rows) (are : AreLocksOf sited ixl.routes locks) where
  pub held-somewhere : (point : ℕ) (side : Side) → ((a : RouteId) × Holds locks a (as_point point) side) ↔ IsTrue (is_held_at sited.table ixl point side)
  held-somewhere point side = (
    λ h.
        let k = kept sited ixl.routes locks table each are h.0 h.1.1.0.0 h.1.1.2 in
        finds-some (λ number row route. holds_point_at row route.phase point side) 0 sited.table.rows ixl.routes h.0.0 k.0 k.1 k.2.0 k.2.1 ((point-held sited ixl.routes locks are h.0.0 k.0 k.1 k.2 table point side).0 h.1),
    λ e.
        let k = some-found (λ number row route. holds_point_at row route.phase point side) 0 sited.table.rows ixl.routes e in
        (as_route k.0, (point-held sited ixl.routes locks are k.0 k.1 k.2 (k.3, k.4) table point side).1 k.5),
  )
