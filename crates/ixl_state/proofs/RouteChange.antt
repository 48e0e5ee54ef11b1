-- A route is changed: what holds of the routes and of the locks is kept.
use Rattle.std.proofs.Common.{◌≡◌, ◌≢◌, ◌∙◌, Bool, ℕ, ◌<◌, List, length, map, drop, slice_set, get_or, Some, refl, sym, ap, subst, ⊎_elim, arith}
use Rattle.std.specs.Prelude.{slice_get, ◌↔◌, IsTrue}
use Rattle.std.specs.List.{Contains}
use Rattle.std.specs.FinSet.{empty}
use Rattle.std.proofs.lemmas.List.{get_or-set_other, get_or-set_same, length-map, length-set}
use Rattle.std.proofs.lemmas.Option.{same_Some, slice_get_read, slice_get_within}
use Rattle.ixl_spec.specs.bit_row.Places.{Has, Places}
use Rattle.ixl_spec.specs.closings.declared.closed.Closings.{Closings}
use Rattle.route_lock.specs.Locks.{LockState, locked_by, locking}
use Rattle.ixl_spec.specs.layout.Entries.{Site}
use Rattle.ixl_spec.specs.Commands.{unmoved_for}
use Rattle.ixl_spec.specs.Due.{HoldsSection}
use Rattle.ixl_spec.specs.State.{RouteState}
use Rattle.ixl_spec.specs.Table.{Row}
use Rattle.ixl_spec.specs.View.{freed_sections, is_set}
use Rattle.ixl_spec.specs.declared.phase.Phase.{Phase}
use Rattle.ixl_table.specs.Locks.{AreLocksOf, IsKeptRoute}
use Rattle.ixl_table.specs.Table.{IsTableOf, SitedTable, as_route}
use Rattle.ixl_known.specs.Field.{FieldState, kept}
use Rattle.ixl_state.specs.State.{AtRoute, StateView, route_changed}
use Rattle.ixl_state.specs.inside.Kept.{AreRoutesOf, HoldsAlike, IsPassageOf, IsState}
use Rattle.ixl_state.proofs.Lists.{changed-is-set, get-below, set-cases}
use Rattle.ixl_spec.specs.First.{key_of}
use Rattle.ixl_state.proofs.Keys.{unmoved-under}

abbrev pub view_of : SitedTable → FieldState → List RouteState → ℕ → Bool → Closings → StateView
view_of sited field routes created resumed closed = record { sited = sited; ixl = kept field (record { routes = routes; created = created; resumed = resumed; closed = closed }) }

-- ---- where a route is

pub place-below : (sited : SitedTable) (field : FieldState) (routes : List RouteState) (created : ℕ) (resumed : Bool) (closed : Closings) (now : StateView) (number : ℕ) → view_of sited field routes created resumed closed ≡ now
    → AreRoutesOf sited routes → number < length now.sited.table.rows → (number < length sited.table.rows) × (number < length routes)
place-below sited field routes created resumed closed now number is are there =
    let same = ap (λ (s : StateView). length s.sited.table.rows) is in
    let each = are.each in
    (omega (arith, same, there), omega (arith, same, each, there))

pub kept-at : (sited : SitedTable) (routes : List RouteState) (number : ℕ) → AreRoutesOf sited routes → number < length sited.table.rows → (row : Row) × (route : RouteState) × IsKeptRoute sited.table routes number row route
kept-at sited routes number are there =
    let each = are.each in
    let row = get-below sited.table.rows number there in
    let route = get-below routes number (omega (arith, each, there)) in
    (row.0, route.0, (row.1, route.1))

-- ---- one route is set

module _ (sited : SitedTable) (routes : List RouteState) (number : ℕ) (row : Row) (old new : RouteState) (is : IsKeptRoute sited.table routes number row old) where
  at-set : (P : ℕ → Row → RouteState → Type 0) → P number row new → ((m : ℕ) (r : Row) (route : RouteState) → m ≢ number → IsKeptRoute sited.table routes m r route → P m r route)
      → (m : ℕ) (r : Row) (route : RouteState) → IsKeptRoute sited.table (slice_set routes number new) m r route → P m r route
  at-set P here there m r route at = ⊎_elim
      (λ h.
      let same : row ≡ r = same_Some row r (sym is.0 ∙ ap (slice_get sited.table.rows) (sym h.0) ∙ at.0) in
      subst (λ (n : ℕ). P n r route) (sym h.0) (subst (λ (x : Row). P number x route) same (subst (λ (x : RouteState). P number row x) (sym h.1) here)))
      (λ h. there m r route h.0 (at.0, h.1)) (set-cases routes number m new route at.1)

  pub routes-kept : AreRoutesOf sited routes → (IsTrue (is_set new.phase) → freed_sections new.phase < length row.sections) → IsPassageOf row new.passage → AreRoutesOf sited (slice_set routes number new)
  routes-kept are left passage = record {
    each = length-set routes number new ∙ are.each;
    left = at-set (λ m r route. IsTrue (is_set route.phase) → freed_sections route.phase < length r.sections) left (λ m r route other at. are.left m r route at);
    passages = at-set (λ m r route. IsPassageOf r route.passage) passage (λ m r route other at. are.passages m r route at);
  }

  -- the locks stay where the route holds what it held
  pub locks-kept : (locks : LockState) → AreLocksOf sited routes locks → HoldsAlike old.phase new.phase → AreLocksOf sited (slice_set routes number new) locks
  locks-kept locks are alike = record {
    site = are.site;
    locked = at-set (λ m r route. (section : ℕ) → Has (locked_by locks (as_route m)) section ↔ HoldsSection r route.phase section)
        (λ section.
        let held = are.locked number row old is section in (
          λ h. let x = held.0 h in (subst IsTrue (sym alike.set) x.0, subst (λ n. Contains (drop n row.sections) section) (sym alike.freed) x.1),
          λ h. held.1 (subst IsTrue alike.set h.0, subst (λ n. Contains (drop n row.sections) section) alike.freed h.1),
        ))
        (λ m r route other at. are.locked m r route at);
    no_other = are.no_other;
  }

  -- they follow where it locks what it holds now
  pub locks-put : (locks : LockState) → AreLocksOf sited routes locks → number < length locks.locked → (sections : Places) → ((section : ℕ) → Has sections section ↔ HoldsSection row new.phase section)
      → AreLocksOf sited (slice_set routes number new) (locking locks (as_route number) sections)
  locks-put locks are within sections its = record {
    site = are.site;
    locked = at-set (λ m r route. (section : ℕ) → Has (locked_by (locking locks (as_route number) sections) (as_route m)) section ↔ HoldsSection r route.phase section)
        (λ section. subst (λ (x : Places). Has x section ↔ HoldsSection row new.phase section) (sym (get_or-set_same locks.locked number sections empty within)) (its section))
        (λ m r route other at section. subst (λ (x : Places). Has x section ↔ HoldsSection r route.phase section) (sym (get_or-set_other locks.locked number m sections empty other)) (are.locked m r route at section));
    no_other = λ m section past h.
        let lt = slice_get_within sited.table.rows number row is.0 in
        are.no_other m section past (subst (λ (x : Places). Has x section) (get_or-set_other locks.locked number m sections empty (λ same. absurd (omega (arith, lt, past, same)))) h);
  }

  pub view-changed : (field : FieldState) (created : ℕ) (resumed : Bool) (closed : Closings) (now : StateView) → view_of sited field routes created resumed closed ≡ now → (change : RouteState → RouteState) → new ≡ change old
      → view_of sited field (slice_set routes number new) created resumed closed ≡ route_changed change number now
  view-changed field created resumed closed now same change changes =
      ap (λ (rs : List RouteState). view_of sited field rs created resumed closed) (changed-is-set change routes number old new is.1 changes) ∙ ap (route_changed change number) same

-- ---- a whole state of which one route is changed

pub at-inside : (sited : SitedTable) (field : FieldState) (routes : List RouteState) (created : ℕ) (resumed : Bool) (closed : Closings) (now : StateView) (number : ℕ) → view_of sited field routes created resumed closed ≡ now
    → (F : Row → RouteState → Type 0) → AtRoute now number F → AtRoute (view_of sited field routes created resumed closed) number F
at-inside sited field routes created resumed closed now number is F at = subst (λ (s : StateView). AtRoute s number F) (sym is) at

pub kept-state : (sited : SitedTable) (field : FieldState) (routes : List RouteState) (locks : LockState) (number : ℕ) (row : Row) (old new : RouteState) → IsKeptRoute sited.table routes number row old
    → IsState sited field routes locks → HoldsAlike old.phase new.phase → IsPassageOf row new.passage → IsState sited field (slice_set routes number new) locks
kept-state sited field routes locks number row old new at is alike passage = record {
  field_is = is.field_is;
  routes_are = routes-kept sited routes number row old new at is.routes_are
      (λ set. subst (λ (n : ℕ). n < length row.sections) (sym alike.freed) (is.routes_are.left number row old at (subst IsTrue alike.set set))) passage;
  locks_are = locks-kept sited routes number row old new at locks is.locks_are alike;
}

pub put-state : (sited : SitedTable) (field : FieldState) (routes : List RouteState) (locks new_locks : LockState) (number : ℕ) (row : Row) (old new : RouteState) (sections : Places) → IsKeptRoute sited.table routes number row old
    → IsState sited field routes locks → number < length locks.locked → new_locks ≡ locking locks (as_route number) sections → ((section : ℕ) → Has sections section ↔ HoldsSection row new.phase section)
    → (IsTrue (is_set new.phase) → freed_sections new.phase < length row.sections) → new.passage ≡ old.passage → IsState sited field (slice_set routes number new) new_locks
put-state sited field routes locks new_locks number row old new sections at is within same its left passage = record {
  field_is = is.field_is;
  routes_are = routes-kept sited routes number row old new at is.routes_are left (subst (λ p. IsPassageOf row p) (sym passage) (is.routes_are.passages number row old at));
  locks_are = subst (λ (l : LockState). AreLocksOf sited (slice_set routes number new) l) (sym same) (locks-put sited routes number row old new at locks is.locks_are within sections its);
}

-- a route that is changed holds what it held where its phase does
pub alike-by : (old new : RouteState) (change : RouteState → RouteState) → new ≡ change old → HoldsAlike old.phase (change old).phase → HoldsAlike old.phase new.phase
alike-by old new change is alike = subst (λ (r : RouteState). HoldsAlike old.phase r.phase) (sym is) alike

pub passage-by : (row : Row) (old new : RouteState) (change : RouteState → RouteState) → new ≡ change old → IsPassageOf row (change old).passage → IsPassageOf row new.passage
passage-by row old new change is passage = subst (λ (r : RouteState). IsPassageOf row r.passage) (sym is) passage

pub alike-from : (was before after : Phase) → was ≡ before → HoldsAlike before after → HoldsAlike was after
alike-from was before after is alike = subst (λ (p : Phase). HoldsAlike p after) (sym is) alike

-- the row of a route that was read from the table
pub row-read : (rows of_table : List Row) (number : ℕ) (row read : Row) → rows ≡ of_table → slice_get of_table number ≡ Some row → read ≡ get_or rows number read → read ≡ row
row-read rows of_table number row read same at is =
    let there : slice_get rows number ≡ Some row = ap (λ (rs : List Row). slice_get rs number) same ∙ at in
    same_Some read row (sym (slice_get_read rows (length rows) number read refl (slice_get_within rows number row there) is) ∙ there)

pub read-is : {A : Type 0} (xs : List A) (n : ℕ) (x read : A) → slice_get xs n ≡ Some x → read ≡ get_or xs n read → read ≡ x
read-is xs n x read at is = same_Some read x (sym (slice_get_read xs (length xs) n read refl (slice_get_within xs n x at) is) ∙ at)

-- each route of the table has its locks
pub lock-within : (sited : SitedTable) (routes : List RouteState) (locks : LockState) (number : ℕ) → AreLocksOf sited routes locks → IsTableOf sited.site sited.table → length locks.locked ≡ length locks.table.routes
    → number < length sited.table.rows → number < length locks.locked
lock-within sited routes locks number are table each lt =
    let same = ap (λ (l : Site). length l.routes) are.site in
    let rows = table.rows.each in
    omega (arith, same, rows, each, lt)

-- a point counts as unmoved
pub unmoved-state : (sited : SitedTable) (field new : FieldState) (routes : List RouteState) (locks : LockState) (number : ℕ) → new ≡ record field { known_points = map (unmoved_for number) field.known_points } → IsState sited field routes locks
    → IsState sited new routes locks
unmoved-state sited field new routes locks number same is = subst (λ (f : FieldState). IsState sited f routes locks) (sym same) (record {
  field_is = record {
    reporters = is.field_is.reporters;
    known_signals = is.field_is.known_signals;
    known_points = length-map field.known_points (unmoved_for number) ∙ is.field_is.known_points;
    detectors = is.field_is.detectors;
    keys = unmoved-under number (key_of sited.site) field is.field_is.keys;
  };
  routes_are = is.routes_are;
  locks_are = is.locks_are;
})
