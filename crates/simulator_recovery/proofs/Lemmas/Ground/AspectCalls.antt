-- What is kept of the routes, of the signals' aspects, and of the calls of all links by each part of a step of an interlocking.
use Rattle.simulator_recovery.proofs.Words.Basics.{◌≡◌, ℕ, Bool, true, false, ◌&&◌, List, ◌++◌, map, Option, Some, None, slice_get, refl, inl, false≢true, not}
use Rattle.simulator_recovery.proofs.Words.Links.{OutboxState, reading, Key}
use Rattle.simulator_recovery.proofs.Words.Controllers.{Aspect, Side}
use Rattle.simulator_recovery.proofs.Words.Interlockings.{ClientState, is_ready, ClientSoFar, LinkCall, begun, commanding, hearing, ticking, commanded_by, obeyed, refusal, released_at, set_anew, authorised, come_to, count, is_move_due, is_proceed_due, is_proceeding, is_stop_due, is_waiting, moving_one, proceeding, ruled, withdrawing, IxlState, KnownSignalState, RouteState, changed, Commands, Datagram, Input, Tick, addressed, all_clocked, clocked_known_signal, detector_hearing, detector_ticking, given, known_point_hearing, known_point_ticking, known_signal_hearing, known_signal_ticking, looking, looks, node_hearing, occupied_heard, stepped, ticked, watching, Detector, Node, Point, Signal, StepSoFar, detector_after, giving_aspect, giving_move, known_signal_after, noted, with_detector, with_one, with_route, Need, Row, Table, at, all_clear, all_known, is_at_known_stop, is_known_signal_at_stop, is_signal_ready, Command, Refusal, Phase}
use Rattle.simulator_recovery.proofs.Words.Stations.{RouteId}
use Rattle.simulator_spec.specs.ixl_client.declared.command.Command.{Command as ClientCommand}
use Rattle.simulator_recovery.proofs.Lemmas.Ground.DueShapes.{along_keeps, either_keeps, one_keeps, over_keeps, ruled_keeps, there_keeps, ticked_keeps, where_keeps}
use Rattle.simulator_recovery.proofs.Lemmas.Ground.IxlSoFar.{test_of}
use Rattle.simulator_recovery.proofs.Lemmas.Ground.SignalParts.{AtRoute, IsQuiet, is_ready_there, is_waiting_there, new_signal, none_passes, not_cancelled_there, at_keeps, ending_keeps, next_keeps, cancel_keeps, watching_keeps, looking_keeps}
use Rattle.simulator_recovery.proofs.Lemmas.Ground.DueTests.{first_true}
use Rattle.simulator_recovery.proofs.Lemmas.Ground.MovedAtOnce.{moved_keeps}

-- ---- what a part of a step does

-- a client goes on by a datagram or a tick
pub data DoneBy (now : ℕ) (old : ClientState) (done : ClientSoFar) : Type 0 where
  hears : (bytes : List ℕ) (outbox : OutboxState) → done ≡ hearing now bytes (begun old outbox) → DoneBy now old done
  ticks : (outbox : OutboxState) → done ≡ ticking now (begun old outbox) → DoneBy now old done

-- it was ready, and is given an aspect
pub record IsCommanded (now : ℕ) (aspect : Aspect) (old : ClientState) (done : ClientSoFar) : Type 0 where
  pub ready : is_ready old.stage ≡ true
  pub outbox : OutboxState
  pub is : done ≡ commanding now (ClientCommand.Indicate aspect) (begun old outbox)

abbrev pub noted_at : Node → List LinkCall → List (Node × LinkCall) → List (Node × LinkCall)
noted_at node more calls = calls ++ map (λ call. (node, call)) more

-- What each part of a step keeps of the routes, the signals, and the calls of the links so far.
pub record CallsKeep (now : ℕ) (table : Table) (P : List RouteState → List KnownSignalState → List (Node × LinkCall) → Type 0) : Type 0 where
  pub clock : (routes : List RouteState) (signals : List KnownSignalState) (calls : List (Node × LinkCall)) → P routes signals calls → P routes (map (clocked_known_signal now) signals) calls
  pub client : (place : ℕ) (known : KnownSignalState) (done : ClientSoFar) (indicated : Option Aspect) (routes : List RouteState) (signals : List KnownSignalState) (calls : List (Node × LinkCall)) → slice_get signals place ≡ Some known
      → DoneBy now known.client done → P routes signals calls → P routes (changed (λ old. known_signal_after known.aspect known.number indicated done.client) place signals) (noted_at (Signal place) done.calls calls)
  -- the links of other controllers
  pub point : (place : ℕ) (more : List LinkCall) (routes : List RouteState) (signals : List KnownSignalState) (calls : List (Node × LinkCall)) → P routes signals calls → P routes signals (noted_at (Point place) more calls)
  pub detector : (place : ℕ) (more : List LinkCall) (routes : List RouteState) (signals : List KnownSignalState) (calls : List (Node × LinkCall)) → P routes signals calls → P routes signals (noted_at (Detector place) more calls)
  pub quiet : (number : ℕ) (change : RouteState → RouteState) (routes : List RouteState) (signals : List KnownSignalState) (calls : List (Node × LinkCall)) → ((route : RouteState) → slice_get routes number ≡ Some route → IsQuiet route (change route))
      → P routes signals calls → P (changed change number routes) signals calls
  pub withdraws : (number : ℕ) (row : Row) (route : RouteState) (known : KnownSignalState) (done : ClientSoFar) (routes : List RouteState) (signals : List KnownSignalState) (calls : List (Node × LinkCall)) → AtRoute table number row route routes
      → is_proceeding route.phase ≡ true → slice_get signals row.entry ≡ Some known → IsCommanded now Aspect.Stop known.client done → P routes signals calls
      → P (changed (come_to Phase.Withdrawn) number routes) (changed (λ old. new_signal Aspect.Stop done.client.link.given done.client known) row.entry signals) (noted_at (Signal row.entry) done.calls calls)
  -- where the signal isn't ready no stop is given
  pub falls : (number : ℕ) (row : Row) (route : RouteState) (routes : List RouteState) (signals : List KnownSignalState) (calls : List (Node × LinkCall)) → AtRoute table number row route routes
      → is_proceeding route.phase ≡ true → at signals row.entry (λ known. is_ready known.client.stage) ≡ false → P routes signals calls → P (changed (come_to Phase.Withdrawn) number routes) signals calls
  -- a route is given its aspect at known stop
  pub proceeds : (number : ℕ) (row : Row) (route : RouteState) (known : KnownSignalState) (done : ClientSoFar) (change : RouteState → RouteState) (routes : List RouteState) (signals : List KnownSignalState) (calls : List (Node × LinkCall))
      → AtRoute table number row route routes → is_waiting route.phase ≡ true → route.cancelled ≡ false → ((one : RouteState) → (change one).phase ≡ Phase.Proceeding) → slice_get signals row.entry ≡ Some known
      → is_known_signal_at_stop now known ≡ true → IsCommanded now row.aspect known.client done → P routes signals calls
      → P (changed change number routes) (changed (λ old. new_signal row.aspect done.client.link.given done.client known) row.entry signals) (noted_at (Signal row.entry) done.calls calls)
  pub sets : (route : RouteId) (ixl : IxlState) (calls : List (Node × LinkCall)) → refusal now table (Command.Request route) ixl ≡ None → P ixl.routes ixl.known_signals calls
      → P (changed set_anew route.0 ixl.routes) ixl.known_signals calls

-- ---- a step

module _ (now : ℕ) (table : Table) (P : List RouteState → List KnownSignalState → List (Node × LinkCall) → Type 0) (keep : CallsKeep now table P) where
  abbrev pub Held : StepSoFar → Type 0
  Held part = P part.ixl.routes part.ixl.known_signals part.calls

  is_stopped_there : (row : Row) (route : RouteState) (ixl : IxlState) (known : KnownSignalState) → slice_get ixl.known_signals row.entry ≡ Some known → is_proceed_due now table ixl row route ≡ true → is_known_signal_at_stop now known ≡ true
  unfolding is_at_known_stop
  is_stopped_there row route ixl known there due = test_of ixl.known_signals row.entry (is_known_signal_at_stop now) known there
      (last (is_waiting route.phase) (not route.cancelled) (all_known ixl row.needs) (all_clear table ixl row.sections) (is_signal_ready ixl row.entry) (is_at_known_stop now ixl row.entry) due)
    where
      last : (a b c d e f : Bool) → (a && b && c && d && e && f) ≡ true → f ≡ true
      last true true true true true f h = h
      last true true true true false f h = absurd (false≢true h)
      last true true true false e f h = absurd (false≢true h)
      last true true false d e f h = absurd (false≢true h)
      last true false c d e f h = absurd (false≢true h)
      last false b c d e f h = absurd (false≢true h)

  quietly : (number : ℕ) (change : RouteState → RouteState) (part : StepSoFar) → ((route : RouteState) → slice_get part.ixl.routes number ≡ Some route → IsQuiet route (change route)) → Held part → Held (with_route number change part)
  quietly number change part quiet all = keep.quiet number change part.ixl.routes part.ixl.known_signals part.calls quiet all

  -- a signal that is ready is given an aspect
  aspect_held : (signal : ℕ) (aspect : Aspect) (part : StepSoFar) → is_signal_ready part.ixl signal ≡ true
      → ((known : KnownSignalState) (done : ClientSoFar) → slice_get part.ixl.known_signals signal ≡ Some known → IsCommanded now aspect known.client done
      → P part.ixl.routes (changed (λ old. new_signal aspect done.client.link.given done.client known) signal part.ixl.known_signals) (part.calls ++ map (λ call. (Signal signal, call)) done.calls)) → Held (giving_aspect now signal aspect part)
  unfolding giving_aspect
  aspect_held signal aspect part ready each = there_keeps Held (slice_get part.ixl.known_signals signal) _ part
      (none_passes part.ixl.known_signals signal (λ known. is_ready known.client.stage) ready)
      (λ known e. each known (commanding now (ClientCommand.Indicate aspect) (begun known.client part.outbox)) e
      (record { ready = test_of part.ixl.known_signals signal (λ known. is_ready known.client.stage) known e ready; outbox = part.outbox; is = refl }))

  -- a move changes no route and no signal
  move_held : (point : ℕ) (side : Side) (part : StepSoFar) → Held part → Held (giving_move now point side part)
  unfolding giving_move
  move_held point side part all = one_keeps Held (slice_get part.ixl.known_points point) _ part
      (λ known e. keep.point point (commanding now (ClientCommand.Move side) (begun known.client part.outbox)).calls part.ixl.routes part.ixl.known_signals part.calls all) all

  -- ---- the rules

  withdrawing_held : (number : ℕ) (part : StepSoFar) → Held part → Held (withdrawing now table number part)
  unfolding withdrawing
  withdrawing_held number = at_keeps Held table number _ (λ row route part at all. where_keeps Held (is_stop_due table part.ixl row route) part _ (λ due.
      let given : is_proceeding route.phase ≡ true = first_true (is_proceeding route.phase) _ due
      in either_keeps Held (is_signal_ready part.ixl row.entry) _ _
      (λ ready. aspect_held row.entry Aspect.Stop (with_route number (come_to Phase.Withdrawn) part) ready (λ known done e so. keep.withdraws number row route known done part.ixl.routes part.ixl.known_signals part.calls at given e so all))
      (λ not_ready. keep.falls number row route part.ixl.routes part.ixl.known_signals part.calls at given not_ready all)) all)

  moving_one_held : (number : ℕ) (need : Need) (part : StepSoFar) → Held part → Held (moving_one now table number need part)
  unfolding moving_one
  moving_one_held number need = at_keeps Held table number _ (λ row route part at all. where_keeps Held (is_move_due table part.ixl number route need) part _
      (λ due. move_held need.point need.side part all) all)

  proceeding_held : (number : ℕ) (part : StepSoFar) → Held part → Held (proceeding now table number part)
  unfolding proceeding
  proceeding_held number = at_keeps Held table number _ (λ row route part at all. where_keeps Held (is_proceed_due now table part.ixl row route) part _ (λ due.
      aspect_held row.entry row.aspect (with_route number (authorised table part.ixl row) part) (is_ready_there now table part.ixl row route due) (λ known done e so.
      keep.proceeds number row route known done (authorised table part.ixl row) part.ixl.routes part.ixl.known_signals part.calls at (is_waiting_there now table part.ixl row route due)
      (not_cancelled_there now table part.ixl row route due) (λ one. refl) e (is_stopped_there row route part.ixl known e due) so all)) all)

  ruled_held : (part : StepSoFar) → Held part → Held (ruled now table part)
  ruled_held = ruled_keeps Held now table withdrawing_held (ending_keeps now table Held quietly) (next_keeps now table Held quietly)
      (cancel_keeps now table Held quietly) moving_one_held proceeding_held

  -- ---- what is heard

  hearing_held : (bytes : List ℕ) (node : Node) (part : StepSoFar) → Held part → Held (node_hearing now table bytes node part)
  unfolding node_hearing known_signal_hearing known_point_hearing detector_hearing
  hearing_held bytes (Signal place) part all = one_keeps Held (slice_get part.ixl.known_signals place) _ part (λ known e.
      keep.client place known (hearing now bytes (begun known.client part.outbox)) _ part.ixl.routes part.ixl.known_signals part.calls e (hears bytes part.outbox refl) all) all
  hearing_held bytes (Point place) part all = one_keeps Held (slice_get part.ixl.known_points place) _ part (λ known e.
      keep.point place (hearing now bytes (begun known.client part.outbox)).calls part.ixl.routes part.ixl.known_signals part.calls all) all
  hearing_held bytes (Detector place) part all = one_keeps Held (slice_get table.detectors place) _ part (λ sections f. one_keeps Held (slice_get part.ixl.detectors place) _ part (λ known e.
      let done = hearing now bytes (begun known.client part.outbox)
      in along_keeps Held (looking table) (looking_keeps now table Held quietly) (looks sections known done.heard done.client)
      (with_detector place (detector_after (occupied_heard done.heard known.occupied) done.client) (noted (Detector place) done part))
      (keep.detector place done.calls part.ixl.routes part.ixl.known_signals part.calls all)) all) all

  -- ---- the input

  obeyed_held : (command : Command) (part : StepSoFar) → refusal now table command part.ixl ≡ None → Held part → Held (record part { ixl = obeyed now command part.ixl })
  unfolding obeyed
  obeyed_held (Command.Request route) part none all = keep.sets route part.ixl part.calls none all
  obeyed_held (Command.Cancel route) part none all = keep.quiet route.0 (λ old. record old { cancelled = true }) part.ixl.routes part.ixl.known_signals part.calls (λ one e. inl (refl, λ cancelled. refl)) all
  obeyed_held Command.Resume part none all = all
  obeyed_held (Command.Release route) part none all = keep.quiet route.0 (released_at now) part.ixl.routes part.ixl.known_signals part.calls (λ one e. inl (refl, λ cancelled. cancelled)) all
  obeyed_held (Command.Move point side) part none all = all
  obeyed_held (Command.Close named) part none all = all
  obeyed_held (Command.Open named) part none all = all

  commanded_held : (cause : Option Refusal) (command : Command) (part : StepSoFar) → refusal now table command part.ixl ≡ cause → Held part → Held (record part { ixl = commanded_by now cause command part.ixl })
  commanded_held None command part is all = obeyed_held command part is all
  commanded_held (Some cause) command part is all = all

  heard_at : (bytes : List ℕ) (found : Option Node) (part : StepSoFar) → Held part → Held (with_one found (node_hearing now table bytes) part)
  heard_at bytes None part all = all
  heard_at bytes (Some node) part all = hearing_held bytes node part all

  given_held : (key : Key) (input : Input) (part : StepSoFar) → Held part → Held (given now table key input part)
  unfolding given
  given_held key Tick part all = all
  given_held key (Datagram bytes) part all = heard_at bytes (addressed (reading key bytes) part.ixl) part all
  given_held key (Commands command) part all =
      moved_keeps Held now table (λ point side part available. move_held point side part) (refusal now table command part.ixl) command part refl (commanded_held (refusal now table command part.ixl) command part refl all)

  clocked_held : (part : StepSoFar) → Held part → Held (record part { ixl = all_clocked now part.ixl })
  unfolding all_clocked
  clocked_held part all = keep.clock part.ixl.routes part.ixl.known_signals part.calls all

  -- ---- ticks

  signal_ticked : (place : ℕ) (part : StepSoFar) → Held part → Held (known_signal_ticking now place part)
  unfolding known_signal_ticking
  signal_ticked place part all = one_keeps Held (slice_get part.ixl.known_signals place) _ part (λ known e.
      keep.client place known (ticking now (begun known.client part.outbox)) _ part.ixl.routes part.ixl.known_signals part.calls e (ticks part.outbox refl) all) all

  point_ticked : (place : ℕ) (part : StepSoFar) → Held part → Held (known_point_ticking now place part)
  unfolding known_point_ticking
  point_ticked place part all = one_keeps Held (slice_get part.ixl.known_points place) _ part (λ known e.
      keep.point place (ticking now (begun known.client part.outbox)).calls part.ixl.routes part.ixl.known_signals part.calls all) all

  detector_ticked : (place : ℕ) (part : StepSoFar) → Held part → Held (detector_ticking now place part)
  unfolding detector_ticking
  detector_ticked place part all = one_keeps Held (slice_get part.ixl.detectors place) _ part (λ known e.
      keep.detector place (ticking now (begun known.client part.outbox)).calls part.ixl.routes part.ixl.known_signals part.calls all) all

  ticked_held : (input : Input) (part : StepSoFar) → Held part → Held (ticked now input part)
  ticked_held = ticked_keeps Held now signal_ticked point_ticked detector_ticked

  pub step_held : (key : Key) (input : Input) (part : StepSoFar) → Held part → Held (stepped now table key input part)
  unfolding stepped
  step_held key input part all = ticked_held input _ (ruled_held _ (over_keeps Held (watching table) (watching_keeps now table Held quietly) (count table) _
      (given_held key input (record part { ixl = all_clocked now part.ixl }) (clocked_held part all))))
