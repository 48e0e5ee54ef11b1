-- A move by command keeps what each move keeps, to a point that is available and that no set route holds.
use Rattle.simulator_recovery.proofs.Words.Basics.{◌≡◌, ℕ, zero, suc, ◌+◌, ◌<◌, ◌==◌, ◌&&◌, ◌||◌, nat_lt, Bool, true, false, not, if◌then◌else◌, List, [], ◌∷◌, Option, Some, None, is_some, slice_get, refl, sym, ap, subst, ◌∙◌, arith, eq-eqb, lt-ltb, list_any, Contains, same_Some, false≢true, true≢false}
use Rattle.simulator_recovery.proofs.Words.Links.{Key}
use Rattle.simulator_recovery.proofs.Words.Controllers.{Side}
use Rattle.simulator_recovery.proofs.Lemmas.Ground.DueShapes.{one_keeps}
use Rattle.simulator_recovery.proofs.Words.Interlockings.{Commands, Input, commanded_by, first_holding, first_route, freed_sections, given, held_told, holds_need, holds_point, is_set, moved_at_once, moving_refusal, obeyed, own_section_refusal, refusal, refused_where, IxlState, StepSoFar, giving_move, Need, Phase, Row, RouteState, Table, is_holding, is_point_available, Command, Refusal}
use Rattle.simulator_spec.specs.layout.declared.ids.PointId.{PointId}
use Rattle.simulator_spec.specs.ixl_spec.closings.Closed.{is_closed}
use Rattle.simulator_spec.specs.ixl_spec.closings.declared.thing.Thing.{Thing}
use Rattle.simulator_spec.specs.ixl_spec.Operations.{has_thing}

rest_passed : (fails : Bool) (told : Refusal) (rest : Option Refusal) → refused_where fails told rest ≡ None → rest ≡ None
rest_passed true told rest is = absurd (true≢false (ap is_some is))
rest_passed false told rest is = is

test_passed : (b : Bool) (told : Refusal) (rest : Option Refusal) → refused_where (not b) told rest ≡ None → b ≡ true
test_passed true told rest is = refl
test_passed false told rest is = absurd (true≢false (ap is_some is))

none_held : (found : Option ℕ) (rest : Option Refusal) → held_told found rest ≡ None → rest ≡ None
none_held None rest is = is
none_held (Some holder) rest is = absurd (true≢false (ap is_some is))

unheld : (found : Option ℕ) (rest : Option Refusal) → held_told found rest ≡ None → found ≡ None
unheld None rest is = refl
unheld (Some holder) rest is = absurd (true≢false (ap is_some is))

-- past what is closed
moving_held : (table : Table) (point : PointId) (side : Side) (ixl : IxlState) → moving_refusal table ixl point side ≡ None →
    held_told (first_holding table ixl point.0) (refused_where (not (is_point_available ixl point.0)) (Refusal.PointUnavailable point) (own_section_refusal table ixl point.0)) ≡ None
unfolding moving_refusal
moving_held table point side ixl none =
    rest_passed (is_closed ixl.closed (Thing.Point point side)) (Refusal.Closed (Thing.Point point side))
    (held_told (first_holding table ixl point.0) (refused_where (not (is_point_available ixl point.0)) (Refusal.PointUnavailable point) (own_section_refusal table ixl point.0))) none

moving_available : (table : Table) (point : PointId) (side : Side) (ixl : IxlState) → moving_refusal table ixl point side ≡ None → is_point_available ixl point.0 ≡ true
moving_available table point side ixl none =
    let own : Option Refusal = own_section_refusal table ixl point.0
    in let last : Option Refusal = refused_where (not (is_point_available ixl point.0)) (Refusal.PointUnavailable point) own
    in test_passed (is_point_available ixl point.0) (Refusal.PointUnavailable point) own (none_held (first_holding table ixl point.0) last (moving_held table point side ixl none))

-- past the first three tests
move_moving : (now : ℕ) (table : Table) (point : PointId) (side : Side) (ixl : IxlState) → refusal now table (Command.Move point side) ixl ≡ None → moving_refusal table ixl point side ≡ None
unfolding refusal
move_moving now table point side ixl none =
    let resumed : Option Refusal = refused_where (not ixl.resumed) Refusal.NotResumed (moving_refusal table ixl point side)
    in let holding : Option Refusal = refused_where (is_holding now ixl) Refusal.Holding resumed
    in rest_passed (not ixl.resumed) Refusal.NotResumed (moving_refusal table ixl point side)
    (rest_passed (is_holding now ixl) Refusal.Holding resumed (rest_passed (not (has_thing table ixl (Thing.Point point side))) Refusal.NoSuchThing holding none))

move_available : (now : ℕ) (table : Table) (point : PointId) (side : Side) (ixl : IxlState) → refusal now table (Command.Move point side) ixl ≡ None → is_point_available ixl point.0 ≡ true
move_available now table point side ixl none = moving_available table point side ixl (move_moving now table point side ixl none)

moving_unheld : (table : Table) (point : PointId) (side : Side) (ixl : IxlState) → moving_refusal table ixl point side ≡ None → first_holding table ixl point.0 ≡ None
moving_unheld table point side ixl none =
    unheld (first_holding table ixl point.0) (refused_where (not (is_point_available ixl point.0)) (Refusal.PointUnavailable point) (own_section_refusal table ixl point.0))
    (moving_held table point side ixl none)

-- no set route holds the point
pub move_unheld : (now : ℕ) (table : Table) (point : PointId) (side : Side) (ixl : IxlState) → refusal now table (Command.Move point side) ixl ≡ None → first_holding table ixl point.0 ≡ None
move_unheld now table point side ixl none = moving_unheld table point side ixl (move_moving now table point side ixl none)

-- where no route passes a test, each fails it
pub none_passes : (test : ℕ → Row → RouteState → Bool) (from : ℕ) (rows : List Row) (routes : List RouteState) → first_route test from rows routes ≡ None → (k : ℕ) (row : Row) (route : RouteState) →
    slice_get rows k ≡ Some row → slice_get routes k ≡ Some route → test (from + k) row route ≡ false
none_passes test from [] routes none k row route there is = absurd (true≢false (ap is_some (sym there)))
none_passes test from (first ∷ rows) [] none k row route there is = absurd (true≢false (ap is_some (sym is)))
none_passes test from (first ∷ rows) (kept ∷ routes) none k row route there is = by_first (test from first kept) refl none (none_passes test (suc from) rows routes) k there is where
  by_first : (passes : Bool) → test from first kept ≡ passes → (if passes then Some from else first_route test (suc from) rows routes) ≡ None →
      (first_route test (suc from) rows routes ≡ None → (k : ℕ) (row : Row) (route : RouteState) → slice_get rows k ≡ Some row → slice_get routes k ≡ Some route → test (suc from + k) row route ≡ false) →
      (k : ℕ) → slice_get (first ∷ rows) k ≡ Some row → slice_get (kept ∷ routes) k ≡ Some route → test (from + k) row route ≡ false
  by_first true passes told behind place at also = absurd (true≢false (ap is_some told))
  by_first false fails told behind zero at also =
      let here : from + 0 ≡ from = omega arith
      in ap (λ (n : ℕ). test n row route) here ∙ ap (λ (r : Row). test from r route) (sym (same_Some first row at)) ∙ ap (test from first) (sym (same_Some kept route also)) ∙ fails
  by_first false fails told behind (suc place) at also =
      let later : from + suc place ≡ suc from + place = omega arith
      in ap (λ (n : ℕ). test n row route) later ∙ behind told place row route at also

-- ---- a set route that awaits some sections holds its points

some_passes : (test : Need → Bool) (list : List Need) (one : Need) → Contains list one → test one ≡ true → list_any test list ≡ true
some_passes test [] one has passes = absurd (omega (arith, has.1))
some_passes test (first ∷ others) one (zero, below, at) passes = ap (λ (b : Bool). b || list_any test others) (ap test at ∙ passes)
some_passes test (first ∷ others) one (suc place, below, at) passes = either_so (test first) (some_passes test others one (place, omega (arith, below), at) passes) where
  either_so : (b : Bool) → list_any test others ≡ true → (b || list_any test others) ≡ true
  either_so true behind = refl
  either_so false behind = behind

point_held : (row : Row) (p : Phase) (need : Need) → Contains row.needs need → is_set p ≡ true → freed_sections p < need.until → holds_point row p need.point ≡ true
point_held row p need within set less = some_passes (λ (own : Need). own.point == need.point && holds_need p own) row.needs need within
    (ap (λ (b : Bool). b && holds_need p need) (eq-eqb need.point need.point refl) ∙ ap (λ (b : Bool). b && nat_lt (freed_sections p) need.until) set ∙ lt-ltb (freed_sections p) need.until less)

-- so no command moves one of them
pub held_unmoved : (now : ℕ) (table : Table) (ixl : IxlState) (k : ℕ) (row : Row) (route : RouteState) (need : Need) → slice_get table.rows k ≡ Some row → slice_get ixl.routes k ≡ Some route → Contains row.needs need →
    is_set route.phase ≡ true → freed_sections route.phase < need.until → (moved : PointId) (side : Side) → moved.0 ≡ need.point → refusal now table (Command.Move moved side) ixl ≡ None → ⊥
held_unmoved now table ixl k row route need row_there there within set less moved side same none =
    false≢true (sym (none_passes (λ (number : ℕ) (own : Row) (kept : RouteState). holds_point own kept.phase moved.0) 0 table.rows ixl.routes (move_unheld now table moved side ixl none) k row route row_there there)
    ∙ (ap (holds_point row route.phase) same ∙ point_held row route.phase need within set less))

-- ---- what a move keeps

module _ (P : StepSoFar → Type 0) (now : ℕ) where
  -- what was kept of a command, and then its move where it is one
  pub moved_where : (cause : Option Refusal) (command : Command) (part : StepSoFar) → P part → ((point : PointId) (side : Side) → command ≡ Command.Move point side → cause ≡ None → P (giving_move now point.0 side part)) →
      P (moved_at_once now cause command part)
  unfolding moved_at_once
  moved_where (Some refused) command part all moves = all
  moved_where None (Command.Move point side) part all moves = moves point side refl refl
  moved_where None (Command.Request route) part all moves = all
  moved_where None (Command.Cancel route) part all moves = all
  moved_where None Command.Resume part all moves = all
  moved_where None (Command.Release route) part all moves = all
  moved_where None (Command.Close named) part all moves = all
  moved_where None (Command.Open named) part all moves = all

module _ (P : StepSoFar → Type 0) (now : ℕ) (table : Table) (moves : (point : ℕ) (side : Side) (part : StepSoFar) → is_point_available part.ixl point ≡ true → P part → P (giving_move now point side part)) where
  -- what was kept of a command, and then its move
  pub moved_keeps : (cause : Option Refusal) (command : Command) (part : StepSoFar) → refusal now table command part.ixl ≡ cause → P (record part { ixl = commanded_by now cause command part.ixl })
      → P (moved_at_once now cause command (record part { ixl = commanded_by now cause command part.ixl }))
  unfolding moved_at_once obeyed
  moved_keeps (Some refused) command part is all = all
  moved_keeps None (Command.Move point side) part is all = moves point.0 side part (move_available now table point side part.ixl is) all
  moved_keeps None (Command.Request route) part is all = all
  moved_keeps None (Command.Cancel route) part is all = all
  moved_keeps None Command.Resume part is all = all
  moved_keeps None (Command.Release route) part is all = all
  moved_keeps None (Command.Close named) part is all = all
  moved_keeps None (Command.Open named) part is all = all

-- a move by command changes no route
pub move_leaves_routes : (now : ℕ) (table : Table) (key : Key) (place : PointId) (to : Side) (input : Input) (part : StepSoFar) → input ≡ Commands (Command.Move place to) → (given now table key input part).ixl.routes ≡ part.ixl.routes
unfolding given obeyed giving_move
move_leaves_routes now table key place to input part is = subst (λ (i : Input). (given now table key i part).ixl.routes ≡ part.ixl.routes) (sym is)
    (moved_where (λ q. q.ixl.routes ≡ part.ixl.routes) now (refusal now table (Command.Move place to) part.ixl) (Command.Move place to)
    (record part { ixl = commanded_by now (refusal now table (Command.Move place to) part.ixl) (Command.Move place to) part.ixl }) kept
    (λ point side same none. one_keeps (λ q. q.ixl.routes ≡ part.ixl.routes) (slice_get (commanded_by now (refusal now table (Command.Move place to) part.ixl) (Command.Move place to) part.ixl).known_points point.0) _
    (record part { ixl = commanded_by now (refusal now table (Command.Move place to) part.ixl) (Command.Move place to) part.ixl }) (λ known e. kept) kept))
  where
    by_cause : (cause : Option Refusal) → (commanded_by now cause (Command.Move place to) part.ixl).routes ≡ part.ixl.routes
    by_cause None = refl
    by_cause (Some cause) = refl

    kept : (commanded_by now (refusal now table (Command.Move place to) part.ixl) (Command.Move place to) part.ixl).routes ≡ part.ixl.routes
    kept = by_cause (refusal now table (Command.Move place to) part.ixl)
