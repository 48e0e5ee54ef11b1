-- What an event of a station is to one of its signals: none, or a step of its controller.
use Rattle.simulator_recovery.proofs.Words.Basics.{◌≡◌, ℕ, zero, suc, ◌==◌, Bool, true, false, List, [], ◌∷◌, length, Option, Some, None, slice_get, slice_set, refl, sym, ap, subst, ◌∙◌, arith, nat_tests, none-some}
use Rattle.simulator_recovery.proofs.Words.Links.{LinksEvent}
use Rattle.simulator_recovery.proofs.Words.Controllers.{Input as HostInput, Occupancy, SignalState, signal_behaviour}
use Rattle.simulator_recovery.proofs.Words.Interlockings.{Table}
use Rattle.simulator_recovery.proofs.Words.Stations.{Site, Event, controller_after, step_of, coming, delivered_to, detector_stepped, happens, interlocking_stepped, point_stepped, sensed_by, signal_stepped, stepped_at, ticked_at, connection_of, copy_of, node_at, ClockedControllerState, WorldState, delivery_events, events_of, host_events, tick_events}
use Rattle.simulator_spec.specs.Nodes as nodes
use Rattle.simulator_recovery.proofs.Lemmas.Rounds.Clocks.{IsCalm}

set_here : {X : Type 0} (list : List X) (place : ℕ) (old new : X) → slice_get list place ≡ Some old → slice_get (slice_set list place new) place ≡ Some new
set_here [] place old new e = absurd (none-some old e)
set_here (x ∷ xs) zero old new e = refl
set_here (x ∷ xs) (suc place) old new e = set_here xs place old new e

set_elsewhere : {X : Type 0} (list : List X) (place other : ℕ) (new : X) → (place ≡ other → ⊥) → slice_get (slice_set list place new) other ≡ slice_get list other
set_elsewhere [] place other new differ = refl
set_elsewhere (x ∷ xs) zero zero new differ = absurd (differ refl)
set_elsewhere (x ∷ xs) zero (suc other) new differ = refl
set_elsewhere (x ∷ xs) (suc place) zero new differ = refl
set_elsewhere (x ∷ xs) (suc place) (suc other) new differ = set_elsewhere xs place other new (λ same. differ (ap suc same))

-- The controller of a signal is as it was, or it has made a step, and these are the calls of its links.
pub data IsStepped (place : ℕ) (c : ClockedControllerState SignalState) (new : WorldState) (events : List LinksEvent) : Type 0 where
  rests : slice_get new.signals place ≡ Some c → IsStepped place c new events
  steps : (input : HostInput) (connection moment : ℕ) → slice_get new.signals place ≡ Some (controller_after (step_of signal_behaviour input c) connection moment c)
      → events ≡ host_events signal_behaviour input connection place (Some c) → IsStepped place c new events

module _ (site : Site) (table : Table) (place : ℕ) where
  module _ (world : WorldState) (c : ClockedControllerState SignalState) (there : slice_get world.signals place ≡ Some c) where
    signal_steps : (input : HostInput) (connection at : ℕ) → IsStepped place c (signal_stepped site input connection at world) (host_events signal_behaviour input connection at (slice_get world.signals at))
    unfolding signal_stepped stepped_at
    signal_steps input connection at = by_place (at == place) refl
      where
        is_same : (at == place) ≡ true → at ≡ place
        is_same e = grind (arith, nat_tests, e)

        differs : (at == place) ≡ false → at ≡ place → ⊥
        differs e same = grind (arith, nat_tests, e, same)

        new_signals : Option (ClockedControllerState SignalState) → List (ClockedControllerState SignalState)
        new_signals found = (stepped_at signal_behaviour input connection world.time at at found (record { servers = world.signals; sent = world.sent })).servers

        apart : (found : Option (ClockedControllerState SignalState)) → (at ≡ place → ⊥) → slice_get (new_signals found) place ≡ Some c
        apart None differ = there
        apart (Some one) differ = set_elsewhere world.signals at place (controller_after (step_of signal_behaviour input one) connection (length world.sent) one) differ ∙ there

        here : (found : Option (ClockedControllerState SignalState)) → found ≡ Some c → at ≡ place → slice_get (new_signals found) place ≡ Some (controller_after (step_of signal_behaviour input c) connection (length world.sent) c)
        here found is same = subst (λ (o : Option (ClockedControllerState SignalState)). slice_get (new_signals o) place ≡ Some (controller_after (step_of signal_behaviour input c) connection (length world.sent) c)) (sym is)
            (subst (λ (n : ℕ). slice_get (slice_set world.signals n (controller_after (step_of signal_behaviour input c) connection (length world.sent) c)) place ≡ Some (controller_after (step_of signal_behaviour input c) connection (length world.sent) c)) (sym same)
            (set_here world.signals place c (controller_after (step_of signal_behaviour input c) connection (length world.sent) c) there))

        found_is : at ≡ place → slice_get world.signals at ≡ Some c
        found_is same = ap (slice_get world.signals) same ∙ there

        by_place : (b : Bool) → (at == place) ≡ b → IsStepped place c (signal_stepped site input connection at world) (host_events signal_behaviour input connection at (slice_get world.signals at))
        by_place true e = steps input connection (length world.sent) (here (slice_get world.signals at) (found_is (is_same e)) (is_same e))
            (ap (λ (n : ℕ). host_events signal_behaviour input connection n (slice_get world.signals at)) (is_same e) ∙ ap (host_events signal_behaviour input connection place) (found_is (is_same e)))
        by_place false e = rests (apart (slice_get world.signals at) (differs e))

    point_rests : (input : HostInput) (connection at : ℕ) (events : List LinksEvent) → IsStepped place c (point_stepped site input connection at world) events
    unfolding point_stepped
    point_rests input connection at events = rests there

    detector_rests : (input : HostInput) (connection at : ℕ) (events : List LinksEvent) → IsStepped place c (detector_stepped site input connection at world) events
    unfolding detector_stepped
    detector_rests input connection at events = rests there

    interlocking_rests : (input : _) (events : List LinksEvent) → IsStepped place c (interlocking_stepped site table input world) events
    unfolding interlocking_stepped
    interlocking_rests input events = rests there

    ticks : (at : Option nodes.Node) → IsStepped place c (ticked_at site table at world) (tick_events site table at world)
    ticks None = rests there
    ticks (Some nodes.Interlocking) = interlocking_rests _ _
    ticks (Some (nodes.Signal at)) = signal_steps HostInput.Tick 0 at
    ticks (Some (nodes.Point at)) = point_rests HostInput.Tick 0 at _
    ticks (Some (nodes.Detector at)) = detector_rests HostInput.Tick 0 at _

    comes : (bytes : List ℕ) (connection : ℕ) (at : Option nodes.Node) → IsStepped place c (delivered_to site table bytes connection at world) (delivery_events site table bytes connection at world)
    comes bytes connection None = rests there
    comes bytes connection (Some nodes.Interlocking) = interlocking_rests _ _
    comes bytes connection (Some (nodes.Signal at)) = signal_steps (coming bytes) connection at
    comes bytes connection (Some (nodes.Point at)) = point_rests (coming bytes) connection at _
    comes bytes connection (Some (nodes.Detector at)) = detector_rests (coming bytes) connection at _

    senses : (occupancy : Occupancy) (found : Option (ℕ × ℕ)) (events : List LinksEvent) → IsStepped place c (sensed_by site occupancy found world) events
    senses occupancy None events = rests there
    senses occupancy (Some reporter) events = detector_rests _ 0 reporter.0 events

  -- an event but time, a loss, and a restart
  pub calm_steps : (one : Event) (world : WorldState) (c : ClockedControllerState SignalState) → IsCalm one → slice_get world.signals place ≡ Some c → IsStepped place c (happens site table one world) (events_of site table one world)
  unfolding happens events_of
  calm_steps (Event.Request command) world c calm there = interlocking_rests world c there _ _
  calm_steps (Event.Occupy section occupancy) world c calm there = senses (record world { occupancies = slice_set world.occupancies section.0 occupancy }) c there occupancy (slice_get table.reporters section.0) _
  calm_steps (Event.Tick node) world c calm there = ticks world c there (node_at site node.0)
  calm_steps (Event.Time elapsed clocks) world c calm there = absurd calm
  calm_steps (Event.Deliver node bytes) world c calm there = comes world c there bytes (connection_of (copy_of bytes world)) (node_at site node.0)
  calm_steps (Event.Lose bytes) world c calm there = absurd calm
  calm_steps (Event.Reach point position) world c calm there = point_rests (record world { positions = slice_set world.positions point.0 position }) c there _ 0 point.0 _
  calm_steps (Event.Restart node clock first) world c calm there = absurd calm
