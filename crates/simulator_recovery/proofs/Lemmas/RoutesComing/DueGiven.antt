-- A move that is given to a point which a set route holds goes to the side at which the route holds it.
use Rattle.simulator_recovery.proofs.Words.Basics.{◌≡◌, ◌⊎◌, inl, inr, ℕ, ◌<◌, ◌==◌, ◌&&◌, Bool, true, false, List, ◌++◌, map, if◌then◌else◌, Some, slice_get, refl, sym, ap, subst, ◌∙◌, arith, not, Contains, false≢true, Contains-append_left, Contains-append_right, none-some, same_Some}
use Rattle.simulator_recovery.proofs.Words.Links.{answer_to_send, reading_of, OutboxState, Reason}
use Rattle.simulator_recovery.proofs.Words.Controllers.{Aspect, Side}
use Rattle.simulator_recovery.proofs.Words.Interlockings.{lies_in_closed, IsTableOf, ClientState, is_available, is_outside, ClientSoFar, Closes, LinkCall, Sends, begun, calling, commanding, is_refused_by_window, posting, IsHeldAt, authorised, count, is_move_due, is_over_clear, is_proceed_due, is_unmoved, is_waiting, moved, moving, moving_one, proceeding, ruled, IxlState, KnownPointState, RouteState, Input, detector_ticking, known_point_ticking, known_signal_ticking, stepped, ticked, Node, Point, StepSoFar, giving_aspect, giving_move, with_route, Need, Row, Table, freed_sections, is_held_with_authority, is_known, is_point_available, is_set, Phase}
use Rattle.simulator_recovery.proofs.Words.Stations.{Site, interlocking_stepped, WorldState, IsReached}
use Rattle.simulator_recovery.proofs.Words.Recovery.{commanded, GivesMoveTo, known_in_step, MoveLaw, RequestLaw}
use Rattle.simulator_spec.specs.ixl_client.declared.command.Command.{Command}
use Rattle.simulator_recovery.proofs.Lemmas.RoutesComing.HeldNeeds.{Holder, InOrder, agree, at_moves, contains_map, holder, in_order_of, routes_apart, same_points, seen_in}
use Rattle.simulator_recovery.proofs.Lemmas.RoutesComing.DueRoutes.{PointsApart}
use Rattle.simulator_recovery.proofs.Lemmas.Ground.DueShapes.{along_within, one_else, one_keeps, over_keeps, route_keeps, ticked_keeps, where_keeps}
use Rattle.simulator_recovery.proofs.Lemmas.RoutesComing.DueKnown.{ticks_bring_nothing}
use Rattle.simulator_recovery.proofs.Lemmas.RoutesComing.NothingDueMoves.{MoveLeaves, move_leaves}
use Rattle.simulator_recovery.proofs.Lemmas.RoutesComing.NothingDueProceeds.{aspect_leaves}
use Rattle.simulator_recovery.proofs.Lemmas.RoutesComing.NothingDueStops.{HoldsEach, holds_each}
use Rattle.simulator_recovery.proofs.Lemmas.Lamps.StopsGiven.{differs, is_equal}

-- ---- what was called stays called

module _ (called : Node × LinkCall) where
  abbrev Called : StepSoFar → Type 0
  Called part = Contains part.calls called

  still_called : (node : Node) (calls : List LinkCall) (part : StepSoFar) → Called part → Contains (part.calls ++ map (λ call. (node, call)) calls) called
  still_called node calls part is = Contains-append_left part.calls (map (λ call. (node, call)) calls) called is

  move_called : (now point : ℕ) (side : Side) (part : StepSoFar) → Called part → Called (giving_move now point side part)
  unfolding giving_move
  move_called now point side part is = one_keeps Called (slice_get part.ixl.known_points point) _ part (λ known e. still_called (Point point) _ part is) is

  aspect_called : (now signal : ℕ) (aspect : Aspect) (part : StepSoFar) → Called part → Called (giving_aspect now signal aspect part)
  unfolding giving_aspect
  aspect_called now signal aspect part is = one_keeps Called (slice_get part.ixl.known_signals signal) _ part (λ known e. still_called _ _ part is) is

  signal_called : (now place : ℕ) (part : StepSoFar) → Called part → Called (known_signal_ticking now place part)
  unfolding known_signal_ticking
  signal_called now place part is = one_keeps Called (slice_get part.ixl.known_signals place) _ part (λ known e. still_called _ _ part is) is

  point_called : (now place : ℕ) (part : StepSoFar) → Called part → Called (known_point_ticking now place part)
  unfolding known_point_ticking
  point_called now place part is = one_keeps Called (slice_get part.ixl.known_points place) _ part (λ known e. still_called _ _ part is) is

  detector_called : (now place : ℕ) (part : StepSoFar) → Called part → Called (detector_ticking now place part)
  unfolding detector_ticking
  detector_called now place part is = one_keeps Called (slice_get part.ixl.detectors place) _ part (λ known e. still_called _ _ part is) is

  ticked_called : (now : ℕ) (input : Input) (part : StepSoFar) → Called part → Called (ticked now input part)
  ticked_called now = ticked_keeps Called now (signal_called now) (point_called now) (detector_called now)

-- ---- a move is called

move_sent : (now : ℕ) (side : Side) (client : ClientState) (outbox : OutboxState) → Contains (commanding now (Command.Move side) (begun client outbox)).calls (Sends (commanded client.peer (Command.Move side)))
unfolding commanding posting calling
move_sent now side client outbox = choose (is_refused_by_window (answer_to_send now client.link))
  where
    item : List ℕ
    item = commanded client.peer (Command.Move side)

    sent : ClientSoFar
    sent = calling now (Sends item) (begun client outbox)

    choose : (b : Bool) → Contains (if b then calling now (Closes Reason.Window) sent else sent).calls (Sends item)
    choose true = (0, omega arith, refl)
    choose false = (0, omega arith, refl)

move_given : (now point : ℕ) (side : Side) (part : StepSoFar) (known : KnownPointState) → slice_get part.ixl.known_points point ≡ Some known
    → Contains (giving_move now point side part).calls (Point point, Sends (commanded known.client.peer (Command.Move side)))
unfolding giving_move
move_given now point side part known there = one_else Q (slice_get part.ixl.known_points point) _ part
    (λ one e. subst (λ (k : KnownPointState). Contains (part.calls ++ map (λ call. (Point point, call)) (commanding now (Command.Move side) (begun one.client part.outbox)).calls) (Point point, Sends (commanded k.client.peer (Command.Move side))))
    (same_Some one known (sym e ∙ there))
    (Contains-append_right part.calls (map (λ call. (Point point, call)) (commanding now (Command.Move side) (begun one.client part.outbox)).calls) (Point point, Sends (commanded one.client.peer (Command.Move side)))
    (contains_map (λ call. (Point point, call)) (commanding now (Command.Move side) (begun one.client part.outbox)).calls (Sends (commanded one.client.peer (Command.Move side))) (move_sent now side one.client part.outbox))))
    (λ none. absurd (none-some known (sym none ∙ there)))
  where
    Q : StepSoFar → Type 0
    Q q = Contains q.calls (Point point, Sends (commanded known.client.peer (Command.Move side)))

-- ---- the fifth rule

pub waiting_is : (p : Phase) → is_waiting p ≡ true → p ≡ Phase.Waiting
waiting_is Phase.Free e = absurd (false≢true e)
waiting_is Phase.Waiting e = refl
waiting_is Phase.Proceeding e = absurd (false≢true e)
waiting_is Phase.Withdrawn e = absurd (false≢true e)
waiting_is (Phase.Ended clock done) e = absurd (false≢true e)

pub waits_there : (table : Table) (ixl : IxlState) (number : ℕ) (route : RouteState) (need : Need) → is_move_due table ixl number route need ≡ true → is_waiting route.phase ≡ true
waits_there table ixl number route need due = first (is_waiting route.phase) (not route.cancelled) (is_point_available ixl need.point) (not (is_known ixl need.point need.side)) (is_over_clear table ixl need.point)
    (not (is_held_with_authority table ixl need.point)) (is_unmoved ixl need.point number) (not (lies_in_closed table ixl need.point)) due
  where
    first : (a b c d e f g h : Bool) → (a && b && c && d && e && f && g && h) ≡ true → a ≡ true
    first true b c d e f g h is = refl
    first false b c d e f g h is = absurd (false≢true is)

module _ (law : MoveLaw) (now : ℕ) (table : Table) (holds : HoldsEach table) (in_order : InOrder table) (routes : List RouteState) (apart : PointsApart table routes) (point : ℕ) (side : Side) (held : Holder law now table holds in_order routes apart point side)
    (known : KnownPointState) where
  abbrev call : Node × LinkCall
  call = (Point point, Sends (commanded known.client.peer (Command.Move side)))

  -- the point is as it was, or was given a move to this side
  abbrev Given : StepSoFar → Type 0
  Given part = (part.ixl.routes ≡ routes) × ((slice_get part.ixl.known_points point ≡ Some known) ⊎ Contains part.calls call)

  pub agreed : (number : ℕ) (need : Need) (row : Row) (one : RouteState) (part : StepSoFar) → Contains row.needs need → slice_get table.rows number ≡ Some row → slice_get part.ixl.routes number ≡ Some one → is_waiting one.phase ≡ true → point ≡ need.point
      → part.ixl.routes ≡ routes → side ≡ need.side
  agreed number need row one part within row_there here waits same are =
      let phase_is = waiting_is one.phase waits
      in agree table in_order routes apart held.number number held.row row held.route one point side need.side held.row_there row_there held.there (ap (λ (rs : List RouteState). slice_get rs number) (sym are) ∙ here) held.held
      (ap is_set phase_is, (need, within, sym same, refl, subst (λ (n : ℕ). n < need.until) (sym (ap freed_sections phase_is)) (holds number row need row_there within)))

  one_given : (number : ℕ) (need : Need) (row : Row) (part : StepSoFar) → Contains row.needs need → slice_get table.rows number ≡ Some row → Given part → Given (moving_one now table number need part)
  unfolding moving_one
  one_given number need row part within row_there is = route_keeps Given table number _ part (λ other one there here. where_keeps Given (is_move_due table part.ixl number one need) part _
      (λ due. (leaves.routes ∙ is.0, choose one here (waits_there table part.ixl number one need due) is.1 (point == need.point) refl)) is) is
    where
      leaves : MoveLeaves need.point part.ixl (giving_move now need.point need.side part).ixl
      leaves = move_leaves now need.point need.side part

      choose : (one : RouteState) → slice_get part.ixl.routes number ≡ Some one → is_waiting one.phase ≡ true → (slice_get part.ixl.known_points point ≡ Some known) ⊎ Contains part.calls call → (b : Bool) → (point == need.point) ≡ b
          → (slice_get (giving_move now need.point need.side part).ixl.known_points point ≡ Some known) ⊎ Contains (giving_move now need.point need.side part).calls call
      choose one here waits (inr called) b e = inr (move_called call now need.point need.side part called)
      choose one here waits (inl there) false e = inl (leaves.points point (differs point need.point e) ∙ there)
      choose one here waits (inl there) true e =
          let same : point ≡ need.point = is_equal point need.point e
          in let to : side ≡ need.side = agreed number need row one part within row_there here waits same is.0
          in inr (subst (λ (p : ℕ). Contains (giving_move now p need.side part).calls call) same (subst (λ (s : Side). Contains (giving_move now point s part).calls call) to (move_given now point side part known there)))

  moving_given : (number : ℕ) (part : StepSoFar) → Given part → Given (moving now table number part)
  unfolding moving
  moving_given number part is = route_keeps Given table number _ part (λ row one there here. along_within Given (moving_one now table number) row.needs (λ need within q so. one_given number need row q within there so) part is) is

  -- the last rule gives points nothing
  abbrev Stays : StepSoFar → Type 0
  Stays part = (slice_get part.ixl.known_points point ≡ Some known) ⊎ Contains part.calls call

  proceeding_given : (number : ℕ) (part : StepSoFar) → Stays part → Stays (proceeding now table number part)
  unfolding proceeding
  proceeding_given number part is = route_keeps Stays table number _ part (λ row one there here. where_keeps Stays (is_proceed_due now table part.ixl row one) part _ (λ due. choose row is) is) is
    where
      choose : (row : Row) → Stays part → Stays (giving_aspect now row.entry row.aspect (with_route number (authorised table part.ixl row) part))
      choose row (inl there) = inl (ap (λ (ps : List KnownPointState). slice_get ps point) (aspect_leaves now row.entry row.aspect (with_route number (authorised table part.ixl row) part)).points ∙ there)
      choose row (inr called) = inr (aspect_called call now row.entry row.aspect (with_route number (authorised table part.ixl row) part) called)

-- ---- a step

pub moves_to_side : MoveLaw → RequestLaw → (site : Site) (table : Table) (input : Input) (world : WorldState) (point : ℕ) (side : Side) (before after : KnownPointState) → IsTableOf site table → IsReached site table world
    → slice_get (known_in_step site table input world).known_points point ≡ Some before → is_available before.client.stage ≡ true → IsHeldAt table (interlocking_stepped site table input world).interlocking.ixl point side
    → slice_get (interlocking_stepped site table input world).interlocking.ixl.known_points point ≡ Some after → is_available after.client.stage ≡ false → is_outside after.client.stage ≡ false → GivesMoveTo site table input world point side before.client.peer
unfolding interlocking_stepped stepped
moves_to_side move request site table input world point side before after is_table reached there available held there_after unavailable inside = choose ruled_given
  where
    now : ℕ
    now = reading_of world.interlocking.clock

    rules : StepSoFar
    rules = ruled now table (seen_in site table input world)

    start : StepSoFar
    start = at_moves move request site table is_table world reached input point side

    apart : PointsApart table start.ixl.routes
    apart = routes_apart move request site table is_table world reached input point side

    holds : HoldsEach table
    holds = holds_each site table is_table

    is_held : Holder move now table holds (in_order_of site table is_table) start.ixl.routes apart point side
    is_held = holder move request site table is_table world reached input point side held

    moved_given : Given move now table holds (in_order_of site table is_table) start.ixl.routes apart point side is_held before (moved now table (seen_in site table input world))
    moved_given = over_keeps (Given move now table holds (in_order_of site table is_table) start.ixl.routes apart point side is_held before) (moving now table)
        (moving_given move now table holds (in_order_of site table is_table) start.ixl.routes apart point side is_held before) (count table) start
        (refl, inl (ap (λ (ps : List KnownPointState). slice_get ps point) (same_points move request site table is_table world reached input point side) ∙ there))

    ruled_given : Stays move now table holds (in_order_of site table is_table) start.ixl.routes apart point side is_held before rules
    ruled_given = over_keeps (Stays move now table holds (in_order_of site table is_table) start.ixl.routes apart point side is_held before) (proceeding now table)
        (proceeding_given move now table holds (in_order_of site table is_table) start.ixl.routes apart point side is_held before) (count table) (moved now table (seen_in site table input world)) moved_given.1

    choose : (slice_get rules.ixl.known_points point ≡ Some before) ⊎ Contains rules.calls (Point point, Sends (commanded before.client.peer (Command.Move side))) → Contains (ticked now input rules).calls (Point point, Sends (commanded before.client.peer (Command.Move side)))
    choose (inr called) = ticked_called (Point point, Sends (commanded before.client.peer (Command.Move side))) now input rules called
    choose (inl still) =
        let was = (ticks_bring_nothing now input rules).points point after there_after
        in let same : was.was ≡ before = same_Some was.was before (sym was.there ∙ still)
        in absurd (false≢true (sym unavailable ∙ (ap is_available ((was.stands inside).stage ∙ ap (λ (k : KnownPointState). k.client.stage) same) ∙ available)))
