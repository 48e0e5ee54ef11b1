-- A point to which no move is due in a step is left by the rules, and by a tick, as it was heard.
use Rattle.simulator_recovery.proofs.Words.Basics.{◌≡◌, ℕ, ◌==◌, Bool, true, false, List, Option, Some, None, slice_get, refl, sym, ap, subst, ◌∙◌, Contains}
use Rattle.simulator_recovery.proofs.Words.Links.{reading_of}
use Rattle.simulator_recovery.proofs.Words.Controllers.{Side}
use Rattle.simulator_recovery.proofs.Words.Interlockings.{IsTableOf, is_outside, IsClear, MoveDue, authorised, count, freed_by_cancel, is_move_due, is_proceed_due, moved, moving, moving_one, proceeding, ruled, IxlState, KnownDetectorState, KnownPointState, RouteState, Input, stepped, ticked, StepSoFar, over, with_route, Need, Row, Table}
use Rattle.simulator_recovery.proofs.Words.Stations.{Site, interlocking_stepped, WorldState, IsReached}
use Rattle.simulator_recovery.proofs.Words.Recovery.{known_in_step, MoveLaw, RequestLaw}
use Rattle.simulator_recovery.proofs.Lemmas.RoutesComing.HeldNeeds.{at_moves, last, same_points, seen_in}
use Rattle.simulator_recovery.proofs.Lemmas.Ground.DueShapes.{along_within, moving_keeps, no_route, over_keeps, route_keeps, where_keeps}
use Rattle.simulator_recovery.proofs.Lemmas.RoutesComing.DueKnown.{BringsNothing, PointStands, PointWas, clear_still, ticks_bring_nothing}
use Rattle.simulator_recovery.proofs.Lemmas.RoutesComing.NothingDueMoves.{MoveLeaves, move_before, move_leaves, same_routes_hold}
use Rattle.simulator_recovery.proofs.Lemmas.RoutesComing.NothingDueProceeds.{aspect_leaves}
use Rattle.simulator_recovery.proofs.Lemmas.Lamps.StopsGiven.{differs, is_equal}

-- no move is due to this point
abbrev pub NoneDue : Table → ℕ → IxlState → Type 0
NoneDue table point ixl = (number : ℕ) (row : Row) (route : RouteState) (need : Need) → slice_get table.rows number ≡ Some row → slice_get ixl.routes number ≡ Some route → Contains row.needs need
    → point ≡ need.point → MoveDue table ixl number route need → ⊥

-- ---- moves change no detector

move_leaves_one : (now : ℕ) (table : Table) (number : ℕ) (need : Need) (part : StepSoFar) → MoveLeaves need.point part.ixl (moving_one now table number need part).ixl
unfolding moving_one
move_leaves_one now table number need part = route_keeps Q table number _ part (λ row one there here. where_keeps Q (is_move_due table part.ixl number one need) part _
    (λ due. move_leaves now need.point need.side part) nothing) nothing
  where
    Q : StepSoFar → Type 0
    Q q = MoveLeaves need.point part.ixl q.ixl

    nothing : Q part
    nothing = record { routes = refl; signals = refl; detectors = refl; closed = refl; points = λ other differ. refl }

moving_detectors : (now : ℕ) (table : Table) (number : ℕ) (part : StepSoFar) → (moving now table number part).ixl.detectors ≡ part.ixl.detectors
moving_detectors now table number part = moving_keeps Q now table one_move number part refl
  where
    Q : StepSoFar → Type 0
    Q q = q.ixl.detectors ≡ part.ixl.detectors

    one_move : (k : ℕ) (need : Need) (q : StepSoFar) → Q q → Q (moving_one now table k need q)
    one_move k need q is = (move_leaves_one now table k need q).detectors ∙ is

all_moving_detectors : (now : ℕ) (table : Table) (part : StepSoFar) → (over (moving now table) (count table) part).ixl.detectors ≡ part.ixl.detectors
all_moving_detectors now table part = over_keeps Q (moving now table) one_turn (count table) part refl
  where
    Q : StepSoFar → Type 0
    Q q = q.ixl.detectors ≡ part.ixl.detectors

    one_turn : (number : ℕ) (q : StepSoFar) → Q q → Q (moving now table number q)
    one_turn number q is = moving_detectors now table number q ∙ is

-- ---- the fifth rule

module _ (law : MoveLaw) (now : ℕ) (table : Table) (point : ℕ) (start : IxlState) (none : NoneDue table point start) where
  -- the routes, the detectors and this point are as before it
  pub record IsLeft (part : StepSoFar) : Type 0 where
    pub routes : part.ixl.routes ≡ start.routes
    pub detectors : part.ixl.detectors ≡ start.detectors
    pub closed : part.ixl.closed ≡ start.closed
    pub same : slice_get part.ixl.known_points point ≡ slice_get start.known_points point

  moves_not : (number : ℕ) (need : Need) (row : Row) (part : StepSoFar) → Contains row.needs need → slice_get table.rows number ≡ Some row → point ≡ need.point → IsLeft part
      → moving_one now table number need part ≡ part
  unfolding moving_one
  moves_not number need row part within row_there here is = by_route (slice_get part.ixl.routes number) refl
    where
      by_route : (one : Option RouteState) → slice_get part.ixl.routes number ≡ one → moving_one now table number need part ≡ part
      by_route None e = no_route table number _ part e
      by_route (Some one) e = (law now table number need part row one (row_there, e)).otherwise (λ due.
          none number row one need row_there (ap (λ (routes : List RouteState). slice_get routes number) (sym is.routes) ∙ e) within here
          (move_before table start part.ixl number one need (same_routes_hold table start part.ixl need.point is.routes) is.detectors is.closed
          (subst (λ (p : ℕ). slice_get part.ixl.known_points p ≡ slice_get start.known_points p) here is.same) due))

  one_left : (number : ℕ) (need : Need) (row : Row) (part : StepSoFar) → Contains row.needs need → slice_get table.rows number ≡ Some row → IsLeft part
      → IsLeft (moving_one now table number need part)
  one_left number need row part within row_there is = decide (point == need.point) refl
    where
      decide : (b : Bool) → (point == need.point) ≡ b → IsLeft (moving_one now table number need part)
      decide true e = subst IsLeft (sym (moves_not number need row part within row_there (is_equal point need.point e) is)) is
      decide false e =
          -- a move of another point changes nothing here
          let leaves = move_leaves_one now table number need part
          in record {
            routes = leaves.routes ∙ is.routes;
            detectors = leaves.detectors ∙ is.detectors;
            closed = leaves.closed ∙ is.closed;
            same = leaves.points point (differs point need.point e) ∙ is.same;
          }

  moving_left : (number : ℕ) (part : StepSoFar) → IsLeft part → IsLeft (moving now table number part)
  unfolding moving
  moving_left number part is = route_keeps IsLeft table number _ part (λ row one there here. along_within IsLeft (moving_one now table number) row.needs
      (λ need within q left. one_left number need row q within there left) part is) is

  pub all_left : (part : StepSoFar) → part.ixl ≡ start → IsLeft (over (moving now table) (count table) part)
  all_left part is = over_keeps IsLeft (moving now table) moving_left (count table) part (record {
    routes = ap (λ (ixl : IxlState). ixl.routes) is;
    detectors = ap (λ (ixl : IxlState). ixl.detectors) is;
    closed = ap (λ (ixl : IxlState). ixl.closed) is;
    same = ap (λ (ixl : IxlState). slice_get ixl.known_points point) is;
  })

-- ---- the last rule

proceeding_detectors : (now : ℕ) (table : Table) (number : ℕ) (part : StepSoFar) → (proceeding now table number part).ixl.detectors ≡ part.ixl.detectors
unfolding proceeding
proceeding_detectors now table number part = route_keeps Q table number _ part (λ row one there here. where_keeps Q (is_proceed_due now table part.ixl row one) part _
    (λ due. (aspect_leaves now row.entry row.aspect (with_route number (authorised table part.ixl row) part)).detectors) refl) refl
  where
    Q : StepSoFar → Type 0
    Q q = q.ixl.detectors ≡ part.ixl.detectors

all_proceeding_detectors : (now : ℕ) (table : Table) (part : StepSoFar) → (over (proceeding now table) (count table) part).ixl.detectors ≡ part.ixl.detectors
all_proceeding_detectors now table part = over_keeps Q (proceeding now table) one_turn (count table) part refl
  where
    Q : StepSoFar → Type 0
    Q q = q.ixl.detectors ≡ part.ixl.detectors

    one_turn : (number : ℕ) (q : StepSoFar) → Q q → Q (proceeding now table number q)
    one_turn number q is = proceeding_detectors now table number q ∙ is

-- ---- a step

module _ (move : MoveLaw) (request : RequestLaw) (site : Site) (table : Table) (is_table : IsTableOf site table) (world : WorldState) (reached : IsReached site table world) (input : Input) (point : ℕ) where
  abbrev now : ℕ
  now = reading_of world.interlocking.clock

  -- where the fifth rule begins
  abbrev pub before_moves : IxlState
  before_moves = (at_moves move request site table is_table world reached input point Side.Left).ixl

  abbrev rules : StepSoFar
  rules = ruled now table (seen_in site table input world)

  pub points_heard : before_moves.known_points ≡ (known_in_step site table input world).known_points
  points_heard = same_points move request site table is_table world reached input point Side.Left

  brings : BringsNothing rules.ixl (ticked now input rules).ixl
  brings = ticks_bring_nothing now input rules

  module _ (none : NoneDue table point before_moves) where
    left : IsLeft move now table point before_moves none (moved now table (seen_in site table input world))
    left = all_left move now table point before_moves none (freed_by_cancel now table (seen_in site table input world)) refl

    points_ruled : rules.ixl.known_points ≡ (moved now table (seen_in site table input world)).ixl.known_points
    points_ruled = (last move request site table is_table world reached input point Side.Left).points

    -- a point that isn't outside is as it was heard
    pub as_heard : (known : KnownPointState) → slice_get (interlocking_stepped site table input world).interlocking.ixl.known_points point ≡ Some known → is_outside known.client.stage ≡ false
        → (was : KnownPointState) × (slice_get (known_in_step site table input world).known_points point ≡ Some was) × PointStands was known
    unfolding interlocking_stepped stepped
    as_heard known there inside =
        let it : PointWas rules.ixl.known_points point known = brings.points point known there
        in (
          it.was,
          ap (λ (points : List KnownPointState). slice_get points point) (sym points_heard) ∙ (sym left.same ∙ (ap (λ (points : List KnownPointState). slice_get points point) (sym points_ruled) ∙ it.there)),
          it.stands inside,
        )

  detectors_ruled : rules.ixl.detectors ≡ before_moves.detectors
  detectors_ruled = all_proceeding_detectors now table (moved now table (seen_in site table input world)) ∙ all_moving_detectors now table (freed_by_cancel now table (seen_in site table input world))

  -- A section that is clear as the moves are given is so after the step, where its detector isn't outside.
  pub clear_behind : (section : ℕ) (reporter : ℕ × ℕ) (known : KnownDetectorState) → slice_get table.reporters section ≡ Some reporter
      → slice_get (interlocking_stepped site table input world).interlocking.ixl.detectors reporter.0 ≡ Some known → is_outside known.client.stage ≡ false → IsClear table before_moves section
      → IsClear table (interlocking_stepped site table input world).interlocking.ixl section
  unfolding interlocking_stepped stepped
  clear_behind section reporter known reports there inside clear = clear_still table rules.ixl (ticked now input rules).ixl brings section reporter known reports there inside
      (subst (λ (detectors : List KnownDetectorState). IsClear table (record rules.ixl { detectors = detectors }) section) (sym detectors_ruled) clear)
