-- What is kept of the clients of points, with the sides at which these are known, by each part of a step of an interlocking.
use Rattle.simulator_recovery.proofs.Words.Basics.{◌≡◌, ℕ, Bool, List, length, map, Option, Some, None, slice_get}
use Rattle.simulator_recovery.proofs.Words.Links.{OutboxState, reading, Key}
use Rattle.simulator_recovery.proofs.Words.Controllers.{Aspect, Side}
use Rattle.simulator_recovery.proofs.Words.Interlockings.{LinkCall, begun, commanding, hearing, ticking, commanded_by, moved_at_once, obeyed, refusal, unmoved_for, count, is_proceed_due, is_stop_due, moved, moving_one, proceeding, ruled, withdrawing, KnownPointState, changed, Commands, Datagram, Input, Tick, addressed, all_clocked, clocked_known_point, detector_hearing, detector_ticking, given, known_point_hearing, known_point_ticking, known_signal_hearing, known_signal_ticking, looking, looking_by, looks, node_hearing, occupied_heard, side_heard, stepped, ticked, watching, Detector, Node, Point, Signal, StepSoFar, all_below, detector_after, giving_aspect, giving_move, known_point_after, noted, over, with_detector, with_one, Need, Table, is_signal_ready, Command, Refusal}
use Rattle.simulator_recovery.proofs.Words.Stations.{Places}
use Rattle.simulator_spec.specs.ixl_client.declared.command.Command.{Command as ClientCommand}
use Rattle.simulator_recovery.proofs.Lemmas.Ground.AspectCalls.{noted_at}
use Rattle.simulator_recovery.proofs.Lemmas.Ground.DueShapes.{along_keeps, one_keeps, over_keeps, route_keeps, ticked_keeps, turned_keeps, watching_turns, where_keeps}

-- a point's client hears a datagram, and its side goes on by what it tells
abbrev pub heard_by : ℕ → List ℕ → KnownPointState → OutboxState → KnownPointState
heard_by now bytes known outbox = let done = hearing now bytes (begun known.client outbox) in known_point_after (side_heard done.heard known.side) known.moved done.client

abbrev pub ticked_by : ℕ → KnownPointState → OutboxState → KnownPointState
ticked_by now known outbox = known_point_after known.side known.moved (ticking now (begun known.client outbox)).client

abbrev pub moved_by : ℕ → Side → Places → KnownPointState → OutboxState → KnownPointState
moved_by now side moved known outbox = known_point_after known.side moved (commanding now (ClientCommand.Move side) (begun known.client outbox)).client

-- What the input of a step keeps of the points, and of the calls of the links so far: of those whose clocks alone have acted.
pub record PointsHear (now : ℕ) (Clocked Heard : List KnownPointState → List (Node × LinkCall) → Type 0) : Type 0 where
  pub still : (points : List KnownPointState) (calls : List (Node × LinkCall)) → Clocked points calls → Heard points calls
  pub hears : (place : ℕ) (known : KnownPointState) (bytes : List ℕ) (outbox : OutboxState) (points : List KnownPointState) (calls : List (Node × LinkCall)) → slice_get points place ≡ Some known → Clocked points calls
      → Heard (changed (λ old. heard_by now bytes known outbox) place points) (noted_at (Point place) (hearing now bytes (begun known.client outbox)).calls calls)
  -- a command moves a point
  pub moves : (place : ℕ) (side : Side) (moved : Places) (known : KnownPointState) (outbox : OutboxState) (points : List KnownPointState) (calls : List (Node × LinkCall)) → slice_get points place ≡ Some known → Clocked points calls
      → Heard (changed (λ old. moved_by now side moved known outbox) place points) (noted_at (Point place) (commanding now (ClientCommand.Move side) (begun known.client outbox)).calls calls)
  -- a route is set
  pub unmoved : (number : ℕ) (points : List KnownPointState) (calls : List (Node × LinkCall)) → Heard points calls → Heard (map (unmoved_for number) points) calls
  -- the links of other controllers
  pub signal : (place : ℕ) (more : List LinkCall) (points : List KnownPointState) (calls : List (Node × LinkCall)) → Heard points calls → Heard points (noted_at (Signal place) more calls)
  pub detector : (place : ℕ) (more : List LinkCall) (points : List KnownPointState) (calls : List (Node × LinkCall)) → Heard points calls → Heard points (noted_at (Detector place) more calls)

-- What each part of a step after its input keeps of them.
pub record PointsKeep (now : ℕ) (Holds : List KnownPointState → List (Node × LinkCall) → Type 0) : Type 0 where
  pub ticks : (place : ℕ) (known : KnownPointState) (outbox : OutboxState) (points : List KnownPointState) (calls : List (Node × LinkCall)) → slice_get points place ≡ Some known → Holds points calls
      → Holds (changed (λ old. ticked_by now known outbox) place points) (noted_at (Point place) (ticking now (begun known.client outbox)).calls calls)
  pub moves : (place : ℕ) (side : Side) (moved : Places) (known : KnownPointState) (outbox : OutboxState) (points : List KnownPointState) (calls : List (Node × LinkCall)) → slice_get points place ≡ Some known → Holds points calls
      → Holds (changed (λ old. moved_by now side moved known outbox) place points) (noted_at (Point place) (commanding now (ClientCommand.Move side) (begun known.client outbox)).calls calls)
  -- the links of other controllers
  pub signal : (place : ℕ) (more : List LinkCall) (points : List KnownPointState) (calls : List (Node × LinkCall)) → Holds points calls → Holds points (noted_at (Signal place) more calls)
  pub detector : (place : ℕ) (more : List LinkCall) (points : List KnownPointState) (calls : List (Node × LinkCall)) → Holds points calls → Holds points (noted_at (Detector place) more calls)

-- ---- the input

module _ (now : ℕ) (table : Table) (Clocked Heard : List KnownPointState → List (Node × LinkCall) → Type 0) (hear : PointsHear now Clocked Heard) where
  abbrev HasHeard : StepSoFar → Type 0
  HasHeard part = Heard part.ixl.known_points part.calls

  abbrev IsClocked : StepSoFar → Type 0
  IsClocked part = Clocked part.ixl.known_points part.calls

  still_heard : (part : StepSoFar) → IsClocked part → HasHeard part
  still_heard part all = hear.still part.ixl.known_points part.calls all

  looking_heard : (look : ℕ × Bool) (part : StepSoFar) → HasHeard part → HasHeard (looking table look part)
  unfolding looking_by
  looking_heard look part all = over_keeps HasHeard (looking_by look.0 look.1 table) (λ number q is. route_keeps HasHeard table number _ q (λ row route there here. where_keeps HasHeard _ q _ (λ due. is) is) is) (count table) part all

  hearing_heard : (bytes : List ℕ) (node : Node) (part : StepSoFar) → IsClocked part → HasHeard (node_hearing now table bytes node part)
  unfolding node_hearing known_signal_hearing known_point_hearing detector_hearing
  hearing_heard bytes (Signal place) part all = one_keeps HasHeard (slice_get part.ixl.known_signals place) _ part
      (λ known e. hear.signal place (hearing now bytes (begun known.client part.outbox)).calls part.ixl.known_points part.calls (still_heard part all)) (still_heard part all)
  hearing_heard bytes (Point place) part all = one_keeps HasHeard (slice_get part.ixl.known_points place) _ part
      (λ known e. hear.hears place known bytes part.outbox part.ixl.known_points part.calls e all) (still_heard part all)
  hearing_heard bytes (Detector place) part all = one_keeps HasHeard (slice_get table.detectors place) _ part (λ sections f. one_keeps HasHeard (slice_get part.ixl.detectors place) _ part (λ known e.
      let done = hearing now bytes (begun known.client part.outbox)
      in along_keeps HasHeard (looking table) looking_heard (looks sections known done.heard done.client) (with_detector place (detector_after (occupied_heard done.heard known.occupied) done.client) (noted (Detector place) done part))
      (hear.detector place done.calls part.ixl.known_points part.calls (still_heard part all))) (still_heard part all)) (still_heard part all)

  move_heard : (place : ℕ) (side : Side) (part : StepSoFar) → IsClocked part → HasHeard (giving_move now place side part)
  unfolding giving_move
  move_heard place side part all = one_keeps HasHeard (slice_get part.ixl.known_points place) _ part
      (λ known e. hear.moves place side (all_below (length part.ixl.routes)) known part.outbox part.ixl.known_points part.calls e all) (still_heard part all)

  commanded_heard : (cause : Option Refusal) (command : Command) (part : StepSoFar) → IsClocked part → HasHeard (moved_at_once now cause command (record part { ixl = commanded_by now cause command part.ixl }))
  unfolding obeyed moved_at_once
  commanded_heard (Some refused) command part all = still_heard part all
  commanded_heard None (Command.Request route) part all = hear.unmoved route.0 part.ixl.known_points part.calls (still_heard part all)
  commanded_heard None (Command.Cancel route) part all = still_heard part all
  commanded_heard None Command.Resume part all = still_heard part all
  commanded_heard None (Command.Release route) part all = still_heard part all
  commanded_heard None (Command.Move point side) part all = move_heard point.0 side part all
  commanded_heard None (Command.Close named) part all = still_heard part all
  commanded_heard None (Command.Open named) part all = still_heard part all

  heard_at : (bytes : List ℕ) (found : Option Node) (part : StepSoFar) → IsClocked part → HasHeard (with_one found (node_hearing now table bytes) part)
  heard_at bytes None part all = still_heard part all
  heard_at bytes (Some node) part all = hearing_heard bytes node part all

  pub given_heard : (key : Key) (input : Input) (part : StepSoFar) → IsClocked part → HasHeard (given now table key input part)
  unfolding given
  given_heard key Tick part all = still_heard part all
  given_heard key (Datagram bytes) part all = heard_at bytes (addressed (reading key bytes) part.ixl) part all
  given_heard key (Commands command) part all = commanded_heard (refusal now table command part.ixl) command part all

-- ---- after it

module _ (now : ℕ) (table : Table) (Holds : List KnownPointState → List (Node × LinkCall) → Type 0) (keep : PointsKeep now Holds) where
  abbrev Held : StepSoFar → Type 0
  Held part = Holds part.ixl.known_points part.calls

  -- commands that signals and points are given
  aspect_held : (signal : ℕ) (aspect : Aspect) (part : StepSoFar) → Held part → Held (giving_aspect now signal aspect part)
  unfolding giving_aspect
  aspect_held signal aspect part all = one_keeps Held (slice_get part.ixl.known_signals signal) _ part
      (λ known e. keep.signal signal (commanding now (ClientCommand.Indicate aspect) (begun known.client part.outbox)).calls part.ixl.known_points part.calls all) all

  move_held : (point : ℕ) (side : Side) (part : StepSoFar) → Held part → Held (giving_move now point side part)
  unfolding giving_move
  move_held point side part all = one_keeps Held (slice_get part.ixl.known_points point) _ part
      (λ known e. keep.moves point side (all_below (length part.ixl.routes)) known part.outbox part.ixl.known_points part.calls e all) all

  -- ---- the rules

  withdrawing_held : (number : ℕ) (part : StepSoFar) → Held part → Held (withdrawing now table number part)
  unfolding withdrawing
  withdrawing_held number part all = route_keeps Held table number _ part (λ row route there here. where_keeps Held (is_stop_due table part.ixl row route) part _
      (λ due. where_keeps Held (is_signal_ready part.ixl row.entry) _ _ (λ ready. aspect_held row.entry Aspect.Stop _ all) all) all) all

  moving_one_held : (number : ℕ) (need : Need) (part : StepSoFar) → Held part → Held (moving_one now table number need part)
  unfolding moving_one
  moving_one_held number need part all = route_keeps Held table number _ part (λ row route there here. where_keeps Held _ part _ (λ due. move_held need.point need.side part all) all) all

  proceeding_held : (number : ℕ) (part : StepSoFar) → Held part → Held (proceeding now table number part)
  unfolding proceeding
  proceeding_held number part all = route_keeps Held table number _ part (λ row route there here. where_keeps Held (is_proceed_due now table part.ixl row route) part _ (λ due. aspect_held row.entry row.aspect _ all) all) all

  ruled_held : (part : StepSoFar) → Held part → Held (ruled now table part)
  ruled_held = turned_keeps Held now table (λ number change part all. all) withdrawing_held moving_one_held proceeding_held

  -- ---- ticks

  signal_ticked : (place : ℕ) (part : StepSoFar) → Held part → Held (known_signal_ticking now place part)
  unfolding known_signal_ticking
  signal_ticked place part all = one_keeps Held (slice_get part.ixl.known_signals place) _ part (λ known e. keep.signal place (ticking now (begun known.client part.outbox)).calls part.ixl.known_points part.calls all) all

  point_ticked : (place : ℕ) (part : StepSoFar) → Held part → Held (known_point_ticking now place part)
  unfolding known_point_ticking
  point_ticked place part all = one_keeps Held (slice_get part.ixl.known_points place) _ part (λ known e. keep.ticks place known part.outbox part.ixl.known_points part.calls e all) all

  detector_ticked : (place : ℕ) (part : StepSoFar) → Held part → Held (detector_ticking now place part)
  unfolding detector_ticking
  detector_ticked place part all = one_keeps Held (slice_get part.ixl.detectors place) _ part (λ known e. keep.detector place (ticking now (begun known.client part.outbox)).calls part.ixl.known_points part.calls all) all

  ticked_held : (input : Input) (part : StepSoFar) → Held part → Held (ticked now input part)
  ticked_held = ticked_keeps Held now signal_ticked point_ticked detector_ticked

  -- the rules, and a tick
  pub behind_held : (input : Input) (part : StepSoFar) → Held part → Held (ticked now input (ruled now table (over (watching table) (count table) part)))
  behind_held input part all = ticked_held input _ (ruled_held _ (over_keeps Held (watching table) (watching_turns Held now table (λ number change part all. all)) (count table) part all))

-- a step, from points at which the clock alone has acted
pub step_held : (now : ℕ) (table : Table) (Clocked Heard Holds : List KnownPointState → List (Node × LinkCall) → Type 0) → PointsHear now Clocked Heard → PointsKeep now Holds → ((points : List KnownPointState) (calls : List (Node × LinkCall)) → Heard points calls → Holds points calls)
    → (key : Key) (input : Input) (part : StepSoFar) → Clocked (map (clocked_known_point now) part.ixl.known_points) part.calls → Holds (stepped now table key input part).ixl.known_points (stepped now table key input part).calls
unfolding stepped all_clocked
step_held now table Clocked Heard Holds hear keep weaker key input part all =
    let heard = given now table key input (record part { ixl = all_clocked now part.ixl })
    in behind_held now table Holds keep input heard (weaker heard.ixl.known_points heard.calls (given_heard now table Clocked Heard hear key input (record part { ixl = all_clocked now part.ixl }) all))
