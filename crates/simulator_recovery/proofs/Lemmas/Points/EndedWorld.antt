-- What an event leaves of a point that isn't driven: it lies where it lay. And one end of each link of the points stays in its connection.
use Rattle.simulator_recovery.proofs.Words.Basics.{◌≡◌, ◌⊎◌, inl, inr, ℕ, ◌==◌, Bool, true, false, Option, Some, None, List, slice_get, slice_set, refl, ap, ◌∙◌}
use Rattle.simulator_recovery.proofs.Words.Controllers.{Occupancy, Position}
use Rattle.simulator_recovery.proofs.Words.Interlockings.{Table}
use Rattle.simulator_recovery.proofs.Words.Stations.{DetectorEntry, Site, Point as PointEntry, Signal as SignalEntry, Event, Beginning, delivered_to, detector_anew, detector_stepped, happens, interlocking_stepped, made_anew, passed, point_anew, point_stepped, sensed_by, signal_anew, signal_stepped, ticked_at, connection_of, copy_of, Detector, Interlocking, Node, node_at, driven_at, refusal, WorldState}
use Rattle.simulator_spec.specs.ixl_spec.Step as ixl
use Rattle.simulator_spec.specs.Nodes.{Point, Signal}
use Rattle.simulator_recovery.proofs.Lemmas.Points.FieldPointsAlways.{reach_refused}
use Rattle.simulator_recovery.proofs.Lemmas.Points.MovesEvent.{set_apart}
use Rattle.simulator_recovery.proofs.Lemmas.Lamps.StopsGiven.{differs, is_equal}

-- From one world to another the interlocking stays in its connections, or the points do; and all points lie as they lay.
record Leaves (old new : WorldState) : Type 0 where
  connections : (new.interlocking.connections ≡ old.interlocking.connections) ⊎ (new.points ≡ old.points)
  positions : new.positions ≡ old.positions

module _ (site : Site) (table : Table) (world : WorldState) where
  own_step : (input : ixl.Input) → Leaves world (interlocking_stepped site table input world)
  unfolding interlocking_stepped
  own_step input = record { connections = inr refl; positions = refl }

  still : Leaves world world
  still = record { connections = inl refl; positions = refl }

  ticked_leaves : (at : Option Node) → Leaves world (ticked_at site table at world)
  unfolding signal_stepped point_stepped detector_stepped
  ticked_leaves None = still
  ticked_leaves (Some Interlocking) = own_step ixl.Tick
  ticked_leaves (Some (Signal place)) = record { connections = inl refl; positions = refl }
  ticked_leaves (Some (Point place)) = record { connections = inl refl; positions = refl }
  ticked_leaves (Some (Detector place)) = record { connections = inl refl; positions = refl }

  delivered_leaves : (bytes : List ℕ) (connection : ℕ) (at : Option Node) → Leaves world (delivered_to site table bytes connection at world)
  unfolding signal_stepped point_stepped detector_stepped
  delivered_leaves bytes connection None = still
  delivered_leaves bytes connection (Some Interlocking) = own_step (ixl.Datagram bytes)
  delivered_leaves bytes connection (Some (Signal place)) = record { connections = inl refl; positions = refl }
  delivered_leaves bytes connection (Some (Point place)) = record { connections = inl refl; positions = refl }
  delivered_leaves bytes connection (Some (Detector place)) = record { connections = inl refl; positions = refl }

  sensed_leaves : (occupancy : Occupancy) (reporter : Option (ℕ × ℕ)) (later : WorldState) → Leaves world later → Leaves world (sensed_by site occupancy reporter later)
  unfolding detector_stepped
  sensed_leaves occupancy None later is = is
  sensed_leaves occupancy (Some reporter) later is = record { connections = is.connections; positions = is.positions }

  signal_leaves : (begins : Beginning) (place : ℕ) (entry : Option SignalEntry) → Leaves world (signal_anew site begins place entry world)
  signal_leaves begins place None = still
  signal_leaves begins place (Some entry) = record { connections = inl refl; positions = refl }

  point_leaves : (begins : Beginning) (place : ℕ) (entry : Option PointEntry) → Leaves world (point_anew site begins place entry world)
  point_leaves begins place None = still
  point_leaves begins place (Some entry) = record { connections = inl refl; positions = refl }

  detector_leaves : (begins : Beginning) (place : ℕ) (entry : Option DetectorEntry) → Leaves world (detector_anew site begins place entry world)
  detector_leaves begins place None = still
  detector_leaves begins place (Some entry) = record { connections = inl refl; positions = refl }

  anew_leaves : (begins : Beginning) (at : Option Node) → Leaves world (made_anew site table begins at world)
  anew_leaves begins None = still
  anew_leaves begins (Some Interlocking) = record { connections = inr refl; positions = refl }
  anew_leaves begins (Some (Signal place)) = signal_leaves begins place (slice_get site.signals place)
  anew_leaves begins (Some (Point place)) = point_leaves begins place (slice_get site.points place)
  anew_leaves begins (Some (Detector place)) = detector_leaves begins place (slice_get site.detectors place)

  -- ---- any event

  pub one_stays : (one : Event) → ((happens site table one world).interlocking.connections ≡ world.interlocking.connections) ⊎ ((happens site table one world).points ≡ world.points)
  unfolding happens passed point_stepped
  one_stays (Event.Time elapsed clocks) = inl refl
  one_stays (Event.Deliver node bytes) = (delivered_leaves bytes (connection_of (copy_of bytes world)) (node_at site node.0)).connections
  one_stays (Event.Tick node) = (ticked_leaves (node_at site node.0)).connections
  one_stays (Event.Reach point position) = inl refl
  one_stays (Event.Request command) = (own_step (ixl.Commands command)).connections
  one_stays (Event.Occupy section occupancy) = (sensed_leaves occupancy (slice_get table.reporters section.0) _ (record { connections = inl refl; positions = refl })).connections
  one_stays (Event.Lose bytes) = inl refl
  one_stays (Event.Restart node clock first) = (anew_leaves (record { clock = clock; first = first }) (node_at site node.0)).connections

  pub lies_still : (place : ℕ) → driven_at place world.points ≡ None → (one : Event) → refusal site one world ≡ None
      → slice_get (happens site table one world).positions place ≡ slice_get world.positions place
  unfolding happens passed point_stepped
  lies_still place none (Event.Time elapsed clocks) may = refl
  lies_still place none (Event.Deliver node bytes) may =
      ap (λ (positions : List Position). slice_get positions place) (delivered_leaves bytes (connection_of (copy_of bytes world)) (node_at site node.0)).positions
  lies_still place none (Event.Tick node) may = ap (λ (positions : List Position). slice_get positions place) (ticked_leaves (node_at site node.0)).positions
  lies_still place none (Event.Reach point position) may = choose (point.0 == place) refl
    where
      choose : (b : Bool) → (point.0 == place) ≡ b → slice_get (slice_set world.positions point.0 position) place ≡ slice_get world.positions place
      choose true e = absurd (reach_refused site point position world (ap (λ (n : ℕ). driven_at n world.points) (is_equal point.0 place e) ∙ none) may)
      choose false e = set_apart world.positions point.0 place position (differs point.0 place e)
  lies_still place none (Event.Request command) may = ap (λ (positions : List Position). slice_get positions place) (own_step (ixl.Commands command)).positions
  lies_still place none (Event.Occupy section occupancy) may = ap (λ (positions : List Position). slice_get positions place)
      (sensed_leaves occupancy (slice_get table.reporters section.0) _ (record { connections = inl refl; positions = refl })).positions
  lies_still place none (Event.Lose bytes) may = refl
  lies_still place none (Event.Restart node clock first) may =
      ap (λ (positions : List Position). slice_get positions place) (anew_leaves (record { clock = clock; first = first }) (node_at site node.0)).positions
