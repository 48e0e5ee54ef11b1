-- What is so of a point's client, with the calls of its link, is kept by each part of a step that keeps it where the client hears or ticks.
use Rattle.simulator_recovery.proofs.Words.Basics.{◌≡◌, ◌≢◌, ◌⊎◌, inl, inr, ℕ, ◌∙◌, false, List, ◌++◌, map, Option, Some, None, slice_get, refl, sym, ap, subst}
use Rattle.simulator_recovery.proofs.Words.Links.{OutboxState, reading, Key}
use Rattle.simulator_recovery.proofs.Words.Controllers.{Aspect, Side}
use Rattle.simulator_recovery.proofs.Words.Interlockings.{ClientState, ClientSoFar, LinkCall, begun, commanding, hearing, ticking, Indicate, Move, commanded_by, obeyed, refusal, unmoved_for, count, freed_by_cancel, is_proceed_due, is_stop_due, moved, proceeding, ruled, withdrawing, KnownPointState, changed, Commands, Datagram, Input, Tick, addressed, detector_hearing, detector_ticking, given, known_point_hearing, known_point_ticking, known_signal_hearing, known_signal_ticking, looking, looks, node_hearing, occupied_heard, ticked, watching, Detector, Node, Point, Signal, StepSoFar, detector_after, giving_aspect, giving_move, noted, over, with_detector, with_one, Table, is_signal_ready, Command, Refusal}
use Rattle.simulator_spec.specs.layout.declared.ids.PointId.{PointId}
use Rattle.simulator_recovery.proofs.Lemmas.Ground.MovedAtOnce.{moved_where}
use Rattle.simulator_recovery.proofs.Lemmas.Ground.DueShapes.{along_keeps, looking_turns, one_keeps, over_keeps, route_keeps, ticked_keeps, until_freed, where_keeps}
use Rattle.simulator_recovery.proofs.Lemmas.Ground.IxlClients.{mapped_at, point_client}
use Rattle.simulator_recovery.proofs.Lemmas.Ground.IxlSoFar.{at_itself, at_node, at_other, is_node, other_place, set_at}

module _ (now point : ℕ) (F : ClientState → List LinkCall → Type 0)
    (hears : (client : ClientState) (outbox : OutboxState) (bytes : List ℕ) (calls : List LinkCall) → F client calls
    → F (hearing now bytes (begun client outbox)).client (calls ++ (hearing now bytes (begun client outbox)).calls))
    (ticks : (client : ClientState) (outbox : OutboxState) (calls : List LinkCall) → F client calls
    → F (ticking now (begun client outbox)).client (calls ++ (ticking now (begun client outbox)).calls)) where
  abbrev pub On : StepSoFar → Type 0
  On part = (known : KnownPointState) → slice_get part.ixl.known_points point ≡ Some known → F known.client (at_node (Point point) part.calls)

  elsewhere : (node : Node) (done : ClientSoFar) (part : StepSoFar) → is_node (Point point) node ≡ false → On part → On (noted node done part)
  elsewhere node done part differ is known e = subst (F known.client) (sym (at_other (Point point) node differ part.calls done.calls)) (is known e)

  -- a client of a point is another, by these calls more
  here : (place : ℕ) (new : KnownPointState) (done : ClientSoFar) (part : StepSoFar) → (point ≡ place → F new.client (at_node (Point point) part.calls ++ done.calls)) → On part
      → On (record (noted (Point place) done part) { ixl = record part.ixl { known_points = changed (λ old. new) place part.ixl.known_points } })
  here place new done part so is known e = choose (set_at place new part.ixl.known_points point known e)
    where
      choose : ((point ≡ place) × (known ≡ new)) ⊎ ((point ≢ place) × (slice_get part.ixl.known_points point ≡ Some known))
          → F known.client (at_node (Point point) (part.calls ++ map (λ call. (Point place, call)) done.calls))
      choose (inl (same, f)) = subst (λ (n : ℕ). F known.client (at_node (Point point) (part.calls ++ map (λ call. (Point n, call)) done.calls))) same
          (subst (λ (k : KnownPointState). F k.client (at_node (Point point) (part.calls ++ map (λ call. (Point point, call)) done.calls))) (sym f)
          (subst (F new.client) (sym (at_itself (Point point) part.calls done.calls)) (so same)))
      choose (inr (differ, f)) = subst (F known.client) (sym (at_other (Point point) (Point place) (other_place point place (λ same. differ (sym same))) part.calls done.calls)) (is known f)

  -- its own parts
  there_too : (place : ℕ) (part : StepSoFar) (known : KnownPointState) → slice_get part.ixl.known_points place ≡ Some known → On part → point ≡ place
      → F known.client (at_node (Point point) part.calls)
  there_too place part known e is same = is known (ap (slice_get part.ixl.known_points) same ∙ e)

  -- where it is kept as the point is given a move
  pub move_on : (place : ℕ) (to : Side) (part : StepSoFar)
      → ((known : KnownPointState) → point ≡ place → F known.client (at_node (Point point) part.calls)
      → F (commanding now (Move to) (begun known.client part.outbox)).client (at_node (Point point) part.calls ++ (commanding now (Move to) (begun known.client part.outbox)).calls))
      → On part
      → On (giving_move now place to part)
  unfolding giving_move
  move_on place to part moves is = one_keeps On (slice_get part.ixl.known_points place) _ part (λ known e. here place _ (commanding now (Move to) (begun known.client part.outbox)) part (λ same.
      subst (λ (c : ClientState). F c (at_node (Point point) part.calls ++ (commanding now (Move to) (begun known.client part.outbox)).calls)) (sym (point_client _ _ _))
      (moves known same (there_too place part known e is same))) is) is

  aspect_on : (signal : ℕ) (aspect : Aspect) (part : StepSoFar) → On part → On (giving_aspect now signal aspect part)
  unfolding giving_aspect
  aspect_on signal aspect part is = one_keeps On (slice_get part.ixl.known_signals signal) _ part
      (λ known e. elsewhere (Signal signal) (commanding now (Indicate aspect) (begun known.client part.outbox)) part refl is) is

  -- ---- the input

  hearing_on : (table : Table) (bytes : List ℕ) (node : Node) (part : StepSoFar) → On part → On (node_hearing now table bytes node part)
  unfolding node_hearing known_signal_hearing known_point_hearing detector_hearing
  hearing_on table bytes (Signal place) part is = one_keeps On (slice_get part.ixl.known_signals place) _ part
      (λ known e. elsewhere (Signal place) (hearing now bytes (begun known.client part.outbox)) part refl is) is
  hearing_on table bytes (Point place) part is = one_keeps On (slice_get part.ixl.known_points place) _ part (λ known e.
      here place _ (hearing now bytes (begun known.client part.outbox)) part (λ same.
      subst (λ (c : ClientState). F c (at_node (Point point) part.calls ++ (hearing now bytes (begun known.client part.outbox)).calls)) (sym (point_client _ _ _))
      (hears known.client part.outbox bytes (at_node (Point point) part.calls) (there_too place part known e is same))) is) is
  hearing_on table bytes (Detector place) part is = one_keeps On (slice_get table.detectors place) _ part (λ sections f. one_keeps On (slice_get part.ixl.detectors place) _ part (λ known e.
      let done = hearing now bytes (begun known.client part.outbox)
      in along_keeps On (looking table) (looking_turns On now table (λ number change part is. is)) (looks sections known done.heard done.client)
      (with_detector place (detector_after (occupied_heard done.heard known.occupied) done.client) (noted (Detector place) done part)) (elsewhere (Detector place) done part refl is)) is) is

  obeyed_on : (command : Command) (part : StepSoFar) → On part → On (record part { ixl = obeyed now command part.ixl })
  unfolding obeyed
  obeyed_on (Command.Request route) part is known e =
      let found = mapped_at (unmoved_for route.0) part.ixl.known_points point known e
      in subst (λ (k : KnownPointState). F k.client (at_node (Point point) part.calls)) (sym found.2) (is found.0 found.1)
  obeyed_on (Command.Cancel route) part is known e = is known e
  obeyed_on Command.Resume part is known e = is known e
  obeyed_on (Command.Release route) part is known e = is known e
  obeyed_on (Command.Move point side) part is known e = is known e
  obeyed_on (Command.Close named) part is known e = is known e
  obeyed_on (Command.Open named) part is known e = is known e

  commanded_on : (cause : Option Refusal) (command : Command) (part : StepSoFar) → On part → On (record part { ixl = commanded_by now cause command part.ixl })
  commanded_on None command part is = obeyed_on command part is
  commanded_on (Some cause) command part is = is

  heard_on : (table : Table) (bytes : List ℕ) (found : Option Node) (part : StepSoFar) → On part → On (with_one found (node_hearing now table bytes) part)
  heard_on table bytes None part is = is
  heard_on table bytes (Some node) part is = hearing_on table bytes node part is

  pub given_on : (table : Table) (key : Key) (input : Input) (part : StepSoFar)
      → ((place : PointId) (to : Side) (q : StepSoFar) → input ≡ Commands (Command.Move place to) → refusal now table (Command.Move place to) part.ixl ≡ None → On q → On (giving_move now place.0 to q))
      → On part → On (given now table key input part)
  unfolding given
  given_on table key Tick part moves is = is
  given_on table key (Datagram bytes) part moves is = heard_on table bytes (addressed (reading key bytes) part.ixl) part is
  given_on table key (Commands command) part moves is =
      let cause = refusal now table command part.ixl
      in let commanded = commanded_on cause command part is
      in moved_where On now cause command (record part { ixl = commanded_by now cause command part.ixl }) commanded
      (λ place to same none. moves place to (record part { ixl = commanded_by now cause command part.ixl }) (ap Commands same) (subst (λ (c : Command). refusal now table c part.ixl ≡ None) same none) commanded)

  -- ---- the rules

  withdrawing_on : (table : Table) (number : ℕ) (part : StepSoFar) → On part → On (withdrawing now table number part)
  unfolding withdrawing
  withdrawing_on table number part is = route_keeps On table number _ part (λ row one there at. where_keeps On (is_stop_due table part.ixl row one) part _
      (λ due. where_keeps On (is_signal_ready part.ixl row.entry) _ _ (λ ready. aspect_on row.entry Aspect.Stop _ is) is) is) is

  pub until_moves_on : (table : Table) (part : StepSoFar) → On part → On (freed_by_cancel now table (over (watching table) (count table) part))
  until_moves_on table = until_freed On now table (λ number change part is. is) (withdrawing_on table)

  proceeding_on : (table : Table) (number : ℕ) (part : StepSoFar) → On part → On (proceeding now table number part)
  unfolding proceeding
  proceeding_on table number part is = route_keeps On table number _ part (λ row one there at. where_keeps On (is_proceed_due now table part.ixl row one) part _
      (λ due. aspect_on row.entry row.aspect _ is) is) is

  -- ---- ticks

  signal_ticks_on : (place : ℕ) (part : StepSoFar) → On part → On (known_signal_ticking now place part)
  unfolding known_signal_ticking
  signal_ticks_on place part is = one_keeps On (slice_get part.ixl.known_signals place) _ part (λ known e. elsewhere (Signal place) (ticking now (begun known.client part.outbox)) part refl is) is

  point_ticks_on : (place : ℕ) (part : StepSoFar) → On part → On (known_point_ticking now place part)
  unfolding known_point_ticking
  point_ticks_on place part is = one_keeps On (slice_get part.ixl.known_points place) _ part (λ known e.
      here place _ (ticking now (begun known.client part.outbox)) part (λ same.
      subst (λ (c : ClientState). F c (at_node (Point point) part.calls ++ (ticking now (begun known.client part.outbox)).calls)) (sym (point_client _ _ _))
      (ticks known.client part.outbox (at_node (Point point) part.calls) (there_too place part known e is same))) is) is

  detector_ticks_on : (place : ℕ) (part : StepSoFar) → On part → On (detector_ticking now place part)
  unfolding detector_ticking
  detector_ticks_on place part is = one_keeps On (slice_get part.ixl.detectors place) _ part (λ known e. elsewhere (Detector place) (ticking now (begun known.client part.outbox)) part refl is) is

  ticked_on : (input : Input) (part : StepSoFar) → On part → On (ticked now input part)
  ticked_on = ticked_keeps On now signal_ticks_on point_ticks_on detector_ticks_on

  pub behind_moves_on : (table : Table) (input : Input) (part : StepSoFar) → On (moved now table part) → On (ticked now input (ruled now table part))
  behind_moves_on table input part is = ticked_on input (ruled now table part) (over_keeps On (proceeding now table) (proceeding_on table) (count table) (moved now table part) is)
