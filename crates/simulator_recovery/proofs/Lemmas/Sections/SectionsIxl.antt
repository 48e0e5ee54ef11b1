-- What is kept of the clients of detectors, with what is known of their sections, by each part of a step of an interlocking.
use Rattle.simulator_recovery.proofs.Words.Basics.{◌≡◌, ℕ, List, map, Option, Some, None, slice_get, refl}
use Rattle.simulator_recovery.proofs.Words.Links.{OutboxState, reading, Key}
use Rattle.simulator_recovery.proofs.Words.Controllers.{Aspect, Side}
use Rattle.simulator_recovery.proofs.Words.Interlockings.{LinkCall, begun, commanding, hearing, ticking, commanded_by, obeyed, refusal, come_to, count, is_stop_due, moving_one, proceeding, ruled, withdrawing, KnownDetectorState, changed, Commands, Datagram, Input, Tick, addressed, all_clocked, clocked_detector, detector_hearing, detector_ticking, given, known_point_hearing, known_point_ticking, known_signal_hearing, known_signal_ticking, looking, looks, node_hearing, occupied_heard, stepped, ticked, watching, Detector, Node, Point, Signal, StepSoFar, detector_after, giving_aspect, giving_move, noted, with_detector, with_one, with_route, Need, Table, is_signal_ready, Command, Refusal, Phase}
use Rattle.simulator_spec.specs.ixl_client.declared.command.Command.{Command as ClientCommand}
use Rattle.simulator_recovery.proofs.Lemmas.Ground.AspectCalls.{noted_at}
use Rattle.simulator_recovery.proofs.Lemmas.Ground.DueShapes.{along_keeps, looking_turns, one_keeps, over_keeps, route_holds, ticked_keeps, turned_keeps, watching_turns, where_both}
use Rattle.simulator_recovery.proofs.Lemmas.Ground.MovedAtOnce.{moved_keeps}

-- a detector hears a datagram, and what is known of its sections goes on by what it tells
abbrev pub heard_by : ℕ → List ℕ → KnownDetectorState → OutboxState → KnownDetectorState
heard_by now bytes known outbox = let done = hearing now bytes (begun known.client outbox) in detector_after (occupied_heard done.heard known.occupied) done.client

abbrev pub ticked_by : ℕ → KnownDetectorState → OutboxState → KnownDetectorState
ticked_by now known outbox = detector_after known.occupied (ticking now (begun known.client outbox)).client

-- What each part of a step keeps of the detectors, and of the calls of the links so far: of one whose clocks alone have acted, and of each.
pub record SectionsKeep (now : ℕ) (Clocked Holds : List KnownDetectorState → List (Node × LinkCall) → Type 0) : Type 0 where
  pub weaker : (detectors : List KnownDetectorState) (calls : List (Node × LinkCall)) → Clocked detectors calls → Holds detectors calls
  pub hears : (place : ℕ) (known : KnownDetectorState) (bytes : List ℕ) (outbox : OutboxState) (detectors : List KnownDetectorState) (calls : List (Node × LinkCall)) → slice_get detectors place ≡ Some known → Clocked detectors calls
      → Holds (changed (λ old. heard_by now bytes known outbox) place detectors) (noted_at (Detector place) (hearing now bytes (begun known.client outbox)).calls calls)
  pub ticks : (place : ℕ) (known : KnownDetectorState) (outbox : OutboxState) (detectors : List KnownDetectorState) (calls : List (Node × LinkCall)) → slice_get detectors place ≡ Some known → Holds detectors calls
      → Holds (changed (λ old. ticked_by now known outbox) place detectors) (noted_at (Detector place) (ticking now (begun known.client outbox)).calls calls)
  -- the links of other controllers
  pub signal : (place : ℕ) (more : List LinkCall) (detectors : List KnownDetectorState) (calls : List (Node × LinkCall)) → Holds detectors calls → Holds detectors (noted_at (Signal place) more calls)
  pub point : (place : ℕ) (more : List LinkCall) (detectors : List KnownDetectorState) (calls : List (Node × LinkCall)) → Holds detectors calls → Holds detectors (noted_at (Point place) more calls)

module _ (now : ℕ) (table : Table) (Clocked Holds : List KnownDetectorState → List (Node × LinkCall) → Type 0) (keep : SectionsKeep now Clocked Holds) where
  abbrev Held : StepSoFar → Type 0
  Held part = Holds part.ixl.detectors part.calls

  abbrev HeldFirst : StepSoFar → Type 0
  HeldFirst part = Clocked part.ixl.detectors part.calls

  weaker : (part : StepSoFar) → HeldFirst part → Held part
  weaker part all = keep.weaker part.ixl.detectors part.calls all

  -- commands that signals and points are given
  aspect_held : (signal : ℕ) (aspect : Aspect) (part : StepSoFar) → Held part → Held (giving_aspect now signal aspect part)
  unfolding giving_aspect
  aspect_held signal aspect part all = one_keeps Held (slice_get part.ixl.known_signals signal) _ part
      (λ known e. keep.signal signal (commanding now (ClientCommand.Indicate aspect) (begun known.client part.outbox)).calls part.ixl.detectors part.calls all) all

  move_held : (point : ℕ) (side : Side) (part : StepSoFar) → Held part → Held (giving_move now point side part)
  unfolding giving_move
  move_held point side part all = one_keeps Held (slice_get part.ixl.known_points point) _ part
      (λ known e. keep.point point (commanding now (ClientCommand.Move side) (begun known.client part.outbox)).calls part.ixl.detectors part.calls all) all

  -- ---- the rules

  withdrawing_held : (number : ℕ) (part : StepSoFar) → Held part → Held (withdrawing now table number part)
  unfolding withdrawing
  withdrawing_held number = route_holds Held table number _ (λ row route part there here all. where_both Held (is_stop_due table part.ixl row route) part _
      (where_both Held (is_signal_ready part.ixl row.entry) _ _ (aspect_held row.entry Aspect.Stop (with_route number (come_to Phase.Withdrawn) part) all) all) all)

  moving_one_held : (number : ℕ) (need : Need) (part : StepSoFar) → Held part → Held (moving_one now table number need part)
  unfolding moving_one
  moving_one_held number need = route_holds Held table number _ (λ row route part there here all. where_both Held _ part _ (move_held need.point need.side part all) all)

  proceeding_held : (number : ℕ) (part : StepSoFar) → Held part → Held (proceeding now table number part)
  unfolding proceeding
  proceeding_held number = route_holds Held table number _ (λ row route part there here all. where_both Held _ part _ (aspect_held row.entry row.aspect _ all) all)

  ruled_held : (part : StepSoFar) → Held part → Held (ruled now table part)
  ruled_held = turned_keeps Held now table (λ number change part all. all) withdrawing_held moving_one_held proceeding_held

  -- ---- what is heard

  hearing_held : (bytes : List ℕ) (node : Node) (part : StepSoFar) → HeldFirst part → Held (node_hearing now table bytes node part)
  unfolding node_hearing known_signal_hearing known_point_hearing detector_hearing
  hearing_held bytes (Signal place) part all = one_keeps Held (slice_get part.ixl.known_signals place) _ part
      (λ known e. keep.signal place (hearing now bytes (begun known.client part.outbox)).calls part.ixl.detectors part.calls (weaker part all)) (weaker part all)
  hearing_held bytes (Point place) part all = one_keeps Held (slice_get part.ixl.known_points place) _ part
      (λ known e. keep.point place (hearing now bytes (begun known.client part.outbox)).calls part.ixl.detectors part.calls (weaker part all)) (weaker part all)
  hearing_held bytes (Detector place) part all = one_keeps Held (slice_get table.detectors place) _ part (λ sections f. one_keeps Held (slice_get part.ixl.detectors place) _ part (λ known e.
      let done = hearing now bytes (begun known.client part.outbox)
      in along_keeps Held (looking table) (looking_turns Held now table (λ number change part all. all)) (looks sections known done.heard done.client)
      (with_detector place (heard_by now bytes known part.outbox) (noted (Detector place) done part))
      (keep.hears place known bytes part.outbox part.ixl.detectors part.calls e all)) (weaker part all)) (weaker part all)

  -- ---- the input

  obeyed_held : (command : Command) (part : StepSoFar) → Held part → Held (record part { ixl = obeyed now command part.ixl })
  unfolding obeyed
  obeyed_held (Command.Request route) part all = all
  obeyed_held (Command.Cancel route) part all = all
  obeyed_held Command.Resume part all = all
  obeyed_held (Command.Release route) part all = all
  obeyed_held (Command.Move point side) part all = all
  obeyed_held (Command.Close named) part all = all
  obeyed_held (Command.Open named) part all = all

  commanded_held : (cause : Option Refusal) (command : Command) (part : StepSoFar) → Held part → Held (record part { ixl = commanded_by now cause command part.ixl })
  commanded_held None command part all = obeyed_held command part all
  commanded_held (Some cause) command part all = all

  heard_at : (bytes : List ℕ) (found : Option Node) (part : StepSoFar) → HeldFirst part → Held (with_one found (node_hearing now table bytes) part)
  heard_at bytes None part all = weaker part all
  heard_at bytes (Some node) part all = hearing_held bytes node part all

  given_held : (key : Key) (input : Input) (part : StepSoFar) → HeldFirst part → Held (given now table key input part)
  unfolding given
  given_held key Tick part all = weaker part all
  given_held key (Datagram bytes) part all = heard_at bytes (addressed (reading key bytes) part.ixl) part all
  given_held key (Commands command) part all =
      moved_keeps Held now table (λ point side q available. move_held point side q) (refusal now table command part.ixl) command part refl
      (commanded_held (refusal now table command part.ixl) command part (weaker part all))

  -- ---- ticks

  signal_ticked : (place : ℕ) (part : StepSoFar) → Held part → Held (known_signal_ticking now place part)
  unfolding known_signal_ticking
  signal_ticked place part all = one_keeps Held (slice_get part.ixl.known_signals place) _ part
      (λ known e. keep.signal place (ticking now (begun known.client part.outbox)).calls part.ixl.detectors part.calls all) all

  point_ticked : (place : ℕ) (part : StepSoFar) → Held part → Held (known_point_ticking now place part)
  unfolding known_point_ticking
  point_ticked place part all = one_keeps Held (slice_get part.ixl.known_points place) _ part
      (λ known e. keep.point place (ticking now (begun known.client part.outbox)).calls part.ixl.detectors part.calls all) all

  detector_ticked : (place : ℕ) (part : StepSoFar) → Held part → Held (detector_ticking now place part)
  unfolding detector_ticking
  detector_ticked place part all = one_keeps Held (slice_get part.ixl.detectors place) _ part (λ known e. keep.ticks place known part.outbox part.ixl.detectors part.calls e all) all

  ticked_held : (input : Input) (part : StepSoFar) → Held part → Held (ticked now input part)
  ticked_held = ticked_keeps Held now signal_ticked point_ticked detector_ticked

  -- from detectors at which the clock alone has acted
  pub step_held : (key : Key) (input : Input) (part : StepSoFar) → Clocked (map (clocked_detector now) part.ixl.detectors) part.calls → Held (stepped now table key input part)
  unfolding stepped all_clocked
  step_held key input part all = ticked_held input _ (ruled_held _ (over_keeps Held (watching table) (watching_turns Held now table (λ number change part all. all)) (count table) _
      (given_held key input (record part { ixl = all_clocked now part.ixl }) all)))
