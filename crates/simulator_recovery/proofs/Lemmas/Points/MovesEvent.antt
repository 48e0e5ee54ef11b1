-- What one event of a station does at the controller of a point, and at its end of the link.
use Rattle.simulator_recovery.proofs.Words.Basics.{◌≡◌, ◌≢◌, ◌⊎◌, inl, inr, ℕ, zero, suc, ◌∙◌, ◌<◌, ◌==◌, Bool, true, false, List, [], ◌∷◌, length, map, Option, Some, None, slice_get, slice_set, refl, sym, ap, subst, arith, nat_tests, none-some, same_Some, slice_get_within}
use Rattle.simulator_recovery.proofs.Words.Links.{Links, LinksEvent, run_links, seen, Role}
use Rattle.simulator_recovery.proofs.Words.Controllers.{as_call, called_all, Occupancy, Input as HostInput, Sense, signal_behaviour, point_behaviour, PointState, detection_behaviour}
use Rattle.simulator_recovery.proofs.Words.Interlockings.{Table}
use Rattle.simulator_recovery.proofs.Words.Stations.{Site, Event, controller_after, step_of, coming, delivered_to, detector_stepped, happens, interlocking_stepped, point_stepped, sensed_by, signal_stepped, stepped_at, ticked_at, interlocking_step, connection_of, copy_of, detector_link, node_at, point_link, ClockedControllerState, WorldState, node_call, contact_events, delivery_events, detector_events, events_of, host_events, interlocking_events, point_events, signal_events, tick_events}
use Rattle.simulator_recovery.proofs.Words.Recovery.{LawsBelow}
use Rattle.simulator_spec.specs.ixl_spec.Step as ixl
use Rattle.simulator_spec.specs.Nodes as nodes
use Rattle.simulator_recovery.proofs.Lemmas.Rounds.Clocks.{IsCalm}
use Rattle.simulator_recovery.proofs.Lemmas.Ground.ControllersOnLinks.{all_called, elsewhere, lists_at, lists_of}

-- what an event brings to the controller of a point
abbrev pub IsInputOf : ℕ → Event → HostInput → Type 0
IsInputOf place (Event.Tick node) input = input ≡ HostInput.Tick
IsInputOf place (Event.Deliver node bytes) input = input ≡ coming bytes
IsInputOf place (Event.Reach point position) input = (point.0 ≡ place) × (input ≡ HostInput.Sense (Sense.Position position))
IsInputOf place _ input = ⊥

-- The controller stays as it is, and so does what its end gave and took; or it makes a step.
pub data PointEvent (link place : ℕ) (one : Event) (c new : ClockedControllerState PointState) (before after : Links) : Type 0 where
  stays : new ≡ c → lists_at after link ≡ lists_at before link → PointEvent link place one c new before after
  steps : (input : HostInput) (connection moment : ℕ) → IsInputOf place one input → new ≡ controller_after (step_of point_behaviour input c) connection moment c
      → seen link after ≡ called_all connection (step_of point_behaviour input c).calls (seen link before) → PointEvent link place one c new before after

set_same : {X : Type 0} (list : List X) (place : ℕ) (new x : X) → slice_get list place ≡ Some x → slice_get (slice_set list place new) place ≡ Some new
set_same [] place new x e = absurd (none-some x e)
set_same (y ∷ list) zero new x e = refl
set_same (y ∷ list) (suc place) new x e = set_same list place new x e

pub set_apart : {X : Type 0} (list : List X) (at place : ℕ) (new : X) → at ≢ place → slice_get (slice_set list at new) place ≡ slice_get list place
set_apart [] at place new differ = refl
set_apart (x ∷ list) zero zero new differ = absurd (differ refl)
set_apart (x ∷ list) zero (suc place) new differ = refl
set_apart (x ∷ list) (suc at) zero new differ = refl
set_apart (x ∷ list) (suc at) (suc place) new differ = set_apart list at place new (λ same. differ (ap suc same))

same_or_not : (a b : ℕ) → (a ≡ b) ⊎ (a ≢ b)
same_or_not a b = choose (a == b) refl
  where
    yes : (a == b) ≡ true → a ≡ b
    yes e = grind (arith, nat_tests, e)

    no : (a == b) ≡ false → a ≢ b
    no e same = grind (arith, nat_tests, e, same)

    choose : (c : Bool) → (a == b) ≡ c → (a ≡ b) ⊎ (a ≢ b)
    choose true e = inl (yes e)
    choose false e = inr (no e)

module _ (laws : LawsBelow) (site : Site) (table : Table) (place : ℕ) (world : WorldState) (network : Links) (signals_many : length world.signals ≡ length site.signals) (points_many : length world.points ≡ length site.points)
    (c : ClockedControllerState PointState) (there : slice_get world.points place ≡ Some c) where
  abbrev link : ℕ
  link = point_link site place

  few : place < length site.points
  few = let a = slice_get_within world.points place c there in omega (arith, a, points_many)

  abbrev Keeps : List LinksEvent → Type 0
  Keeps events = lists_at (run_links events network) link ≡ lists_at network link

  abbrev Does : Event → List (ClockedControllerState PointState) → List LinksEvent → Type 0
  Does one points events = (new : ClockedControllerState PointState) → slice_get points place ≡ Some new → PointEvent link place one c new network (run_links events network)

  quiet : (one : Event) (events : List LinksEvent) → Keeps events → Does one world.points events
  quiet one events keeps new e = stays (same_Some new c (sym e ∙ there)) keeps

  signal_keeps : (input : HostInput) (connection at : ℕ) → Keeps (signal_events input connection at world)
  signal_keeps input connection at = elsewhere laws signal_behaviour input connection at (slice_get world.signals at) network link (λ x f same. let a = slice_get_within world.signals at x f in omega (arith, a, signals_many, same))

  detector_keeps : (input : HostInput) (connection at : ℕ) → Keeps (detector_events site input connection at world)
  detector_keeps input connection at = elsewhere laws detection_behaviour input connection (detector_link site at) (slice_get world.detectors at) network link (λ x f same. let a = few in omega (arith, a, same))

  station_keeps : (input : ixl.Input) (connection : ℕ) → Keeps (interlocking_events site table input connection world.interlocking)
  station_keeps input connection = ap lists_of (laws.a_node_makes_a_step (map (node_call site connection) (interlocking_step site table input world.interlocking).calls) network link)

  -- a point makes a step
  points_do : (one : Event) (input : HostInput) (connection at : ℕ) → (at ≡ place → IsInputOf place one input) → Does one (point_stepped site input connection at world).points (point_events site input connection at world)
  unfolding point_stepped stepped_at
  points_do one input connection at comes = by_place (same_or_not at place)
    where
      by_place : (at ≡ place) ⊎ (at ≢ place) → Does one (point_stepped site input connection at world).points (point_events site input connection at world)
      by_place (inl same) = subst (λ (n : ℕ). Does one (point_stepped site input connection n world).points (point_events site input connection n world)) (sym same)
          (subst (λ (found : Option (ClockedControllerState PointState)). Does one (stepped_at point_behaviour input connection world.time link place found (record { servers = world.points; sent = world.sent })).servers (host_events point_behaviour input connection link found)) (sym there)
          (λ new e. steps input connection (length world.sent) (comes same) (same_Some new _ (sym e ∙ set_same world.points place _ c there))
          (laws.a_node_of_one_link_makes_a_step_own Role.Server link (map (as_call connection) (step_of point_behaviour input c).calls) network ∙ sym (all_called connection (step_of point_behaviour input c).calls (seen link network)))))
      by_place (inr differ) = by_found (slice_get world.points at)
        where
          by_found : (found : Option (ClockedControllerState PointState))
              → Does one (stepped_at point_behaviour input connection world.time (point_link site at) at found (record { servers = world.points; sent = world.sent })).servers (host_events point_behaviour input connection (point_link site at) found)
          by_found found new e = stays (by_points found e) (elsewhere laws point_behaviour input connection (point_link site at) found network link (λ x f same. differ (omega (arith, same))))
            where
              by_points : (some : Option (ClockedControllerState PointState)) → slice_get (stepped_at point_behaviour input connection world.time (point_link site at) at some (record { servers = world.points; sent = world.sent })).servers place ≡ Some new → new ≡ c
              by_points None f = same_Some new c (sym f ∙ there)
              by_points (Some x) f = same_Some new c (sym f ∙ set_apart world.points at place _ differ ∙ there)

  ticks_do : (one : Event) (node : Option nodes.Node) → IsInputOf place one HostInput.Tick → Does one (ticked_at site table node world).points (tick_events site table node world)
  unfolding signal_stepped detector_stepped interlocking_stepped
  ticks_do one None comes = quiet one [] refl
  ticks_do one (Some nodes.Interlocking) comes = quiet one (interlocking_events site table ixl.Tick 0 world.interlocking) (station_keeps ixl.Tick 0)
  ticks_do one (Some (nodes.Signal at)) comes = quiet one (signal_events HostInput.Tick 0 at world) (signal_keeps HostInput.Tick 0 at)
  ticks_do one (Some (nodes.Point at)) comes = points_do one HostInput.Tick 0 at (λ same. comes)
  ticks_do one (Some (nodes.Detector at)) comes = quiet one (detector_events site HostInput.Tick 0 at world) (detector_keeps HostInput.Tick 0 at)

  deliveries_do : (one : Event) (bytes : List ℕ) (connection : ℕ) (node : Option nodes.Node) → IsInputOf place one (coming bytes) → Does one (delivered_to site table bytes connection node world).points (delivery_events site table bytes connection node world)
  unfolding signal_stepped detector_stepped interlocking_stepped
  deliveries_do one bytes connection None comes = quiet one [] refl
  deliveries_do one bytes connection (Some nodes.Interlocking) comes = quiet one (interlocking_events site table (ixl.Datagram bytes) connection world.interlocking) (station_keeps (ixl.Datagram bytes) connection)
  deliveries_do one bytes connection (Some (nodes.Signal at)) comes = quiet one (signal_events (coming bytes) connection at world) (signal_keeps (coming bytes) connection at)
  deliveries_do one bytes connection (Some (nodes.Point at)) comes = points_do one (coming bytes) connection at (λ same. comes)
  deliveries_do one bytes connection (Some (nodes.Detector at)) comes = quiet one (detector_events site (coming bytes) connection at world) (detector_keeps (coming bytes) connection at)

  contacts_do : (one : Event) (occupancy : Occupancy) (reporter : Option (ℕ × ℕ)) (other : WorldState) → other.points ≡ world.points → Does one (sensed_by site occupancy reporter other).points (contact_events site reporter (λ at. HostInput.Sense (Sense.Section at occupancy)) world.detectors)
  unfolding detector_stepped
  contacts_do one occupancy None other same = subst (λ (points : List (ClockedControllerState PointState)). Does one points []) (sym same) (quiet one [] refl)
  contacts_do one occupancy (Some reporter) other same = subst (λ (points : List (ClockedControllerState PointState)). Does one points (contact_events site (Some reporter) (λ at. HostInput.Sense (Sense.Section at occupancy)) world.detectors)) (sym same)
      (quiet one (detector_events site (HostInput.Sense (Sense.Section reporter.1 occupancy)) 0 reporter.0 world) (detector_keeps (HostInput.Sense (Sense.Section reporter.1 occupancy)) 0 reporter.0))

  pub point_event : (one : Event) → IsCalm one → Does one (happens site table one world).points (events_of site table one world)
  unfolding happens events_of interlocking_stepped point_stepped
  point_event (Event.Request command) calm = quiet (Event.Request command) (interlocking_events site table (ixl.Commands command) 0 world.interlocking) (station_keeps (ixl.Commands command) 0)
  point_event (Event.Occupy section occupancy) calm = contacts_do (Event.Occupy section occupancy) occupancy (slice_get table.reporters section.0) (record world { occupancies = slice_set world.occupancies section.0 occupancy }) refl
  point_event (Event.Tick node) calm = ticks_do (Event.Tick node) (node_at site node.0) refl
  point_event (Event.Deliver node bytes) calm = deliveries_do (Event.Deliver node bytes) bytes (connection_of (copy_of bytes world)) (node_at site node.0) refl
  point_event (Event.Reach point position) calm = reach_does point.0 (λ same. (same, refl))
    where
      reach_does : (at : ℕ) → (at ≡ place → IsInputOf place (Event.Reach point position) (HostInput.Sense (Sense.Position position)))
          → Does (Event.Reach point position) (point_stepped site (HostInput.Sense (Sense.Position position)) 0 at (record world { positions = slice_set world.positions at position })).points (point_events site (HostInput.Sense (Sense.Position position)) 0 at (record world { positions = slice_set world.positions at position }))
      reach_does at comes = points_do (Event.Reach point position) (HostInput.Sense (Sense.Position position)) 0 at comes
  point_event (Event.Time elapsed clocks) calm = absurd calm
  point_event (Event.Lose bytes) calm = absurd calm
  point_event (Event.Restart node clock first) calm = absurd calm
