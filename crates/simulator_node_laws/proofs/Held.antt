-- What is held follows from the lives of the interlocking alone.
use Rattle.std.proofs.Common.{◌≡◌, ℕ, List, [], ◌∷◌, Option, Some, None, slice_get, refl, ap, ◌∙◌}
use Rattle.simulator_spec.specs.layout.Entries.{DetectorEntry, Site}
use Rattle.simulator_spec.specs.layout.declared.entries.Signal.{Signal as SignalEntry}
use Rattle.simulator_spec.specs.layout.declared.entries.Point.{Point as PointEntry}
use Rattle.simulator_spec.specs.ixl_spec.State.{IxlState}
use Rattle.simulator_spec.specs.ixl_spec.Step as ixl
use Rattle.simulator_spec.specs.ixl_spec.Table.{Table}
use Rattle.simulator_spec.specs.simulator_event.declared.event.Event.{Event}
use Rattle.simulator_spec.specs.simulator_event.declared.event.Event.TheVariants as event
use Rattle.simulator_spec.specs.First.{Beginning, Outset, world_at}
use Rattle.simulator_spec.specs.Happens.{detector_anew, detector_stepped, happens, interlocking_stepped, made_anew, passed, point_anew, point_stepped, signal_anew, signal_stepped}
use Rattle.simulator_spec.specs.Nodes.{Node, Interlocking, Signal, Point, Detector, node_at}
use Rattle.simulator_spec.specs.State.{ClockedInterlockingState, WorldState}
use Rattle.simulator_spec.specs.Interlocking.{held_of}
use Rattle.simulator_spec.specs.simulator_event.declared.snapshot.Held.{Held}
use Rattle.simulator_spec.specs.Run.{after_all}
use Rattle.simulator_node_laws.specs.Lives.{Life, LivesAsInterlocking, is_interlocking, life_after, the_interlocking}
use Rattle.simulator_node_laws.specs.Shown.{frozen_after, frozen_in, frozen_where, interlocking_now}
use Rattle.simulator_node_laws.specs.Split.{around, connection_in, stepped}
use Rattle.simulator_node_laws.specs.Told.{Told, Nobody, ToInterlocking, ToSignal, ToPoint, ToDetector, told}
use Rattle.simulator_node_laws.proofs.Split.{is_split}
use Rattle.simulator_node_laws.proofs.Station.{lives_on}

abbrev with_both : IxlState → ℕ → ClockedInterlockingState
with_both state clock = record { ixl = state; clock = clock; connections = [] }

bare : (table : Table) (station : ClockedInterlockingState) (frozen : List Held) → held_of table station frozen ≡ held_of table (with_both station.ixl station.clock) frozen
unfolding held_of
bare table station frozen = refl

module _ (site : Site) (table : Table) where
  pub held_by_life : (world : WorldState) (life : Life (Unit {0}) ixl.Input) (frozen : List Held) → LivesAsInterlocking site table world life → world.frozen ≡ frozen
      → held_of table world.interlocking world.frozen ≡ held_of table (interlocking_now site table life) frozen
  held_by_life world life frozen lives same = bare table world.interlocking world.frozen
      ∙ ap (λ i. held_of table (with_both i world.interlocking.clock) world.frozen) lives.state
      ∙ ap (λ n. held_of table (with_both (interlocking_now site table life).ixl n) world.frozen) lives.clock
      ∙ ap (λ f. held_of table (interlocking_now site table life) f) same

  told_freezes : (connection : ℕ) (what : Told) (world : WorldState) → (stepped site table connection what world).frozen ≡ world.frozen
  unfolding interlocking_stepped signal_stepped point_stepped detector_stepped
  told_freezes connection Nobody world = refl
  told_freezes connection (ToInterlocking input) world = refl
  told_freezes connection (ToSignal at input) world = refl
  told_freezes connection (ToPoint at input) world = refl
  told_freezes connection (ToDetector at input) world = refl

  anew_freezes : (begins : Beginning) (at : Option Node) (world : WorldState) (life : Life (Unit {0}) ixl.Input) (frozen : List Held) → LivesAsInterlocking site table world life → world.frozen ≡ frozen
      → (made_anew site table begins at world).frozen ≡ frozen_where (is_interlocking at) (held_of table (interlocking_now site table life) frozen) frozen
  anew_freezes begins None world life frozen lives same = same
  anew_freezes begins (Some Interlocking) world life frozen lives same = held_by_life world life frozen lives same
  anew_freezes begins (Some (Signal at)) world life frozen lives same = of_entry (slice_get site.signals at) where
    of_entry : (entry : Option SignalEntry) → (signal_anew site begins at entry world).frozen ≡ frozen
    of_entry None = same
    of_entry (Some entry) = same
  anew_freezes begins (Some (Point at)) world life frozen lives same = of_entry (slice_get site.points at) where
    of_entry : (entry : Option PointEntry) → (point_anew site begins at entry world).frozen ≡ frozen
    of_entry None = same
    of_entry (Some entry) = same
  anew_freezes begins (Some (Detector at)) world life frozen lives same = of_entry (slice_get site.detectors at) where
    of_entry : (entry : Option DetectorEntry) → (detector_anew site begins at entry world).frozen ≡ frozen
    of_entry None = same
    of_entry (Some entry) = same

  around_freezes : (happening : Event) (world : WorldState) (life : Life (Unit {0}) ixl.Input) (frozen : List Held) → LivesAsInterlocking site table world life → world.frozen ≡ frozen
      → (around site table happening world).frozen ≡ frozen_after site table happening life frozen
  unfolding passed
  around_freezes (event.Request command) world life frozen lives same = same
  around_freezes (event.Occupy section occupancy) world life frozen lives same = same
  around_freezes (event.Tick node) world life frozen lives same = same
  around_freezes (event.Time elapsed clocks) world life frozen lives same = same
  around_freezes (event.Deliver node bytes) world life frozen lives same = same
  around_freezes (event.Lose bytes) world life frozen lives same = same
  around_freezes (event.Reach point position) world life frozen lives same = same
  around_freezes (event.Restart node clock first) world life frozen lives same = anew_freezes (record { clock = clock; first = first }) (node_at site node.0) world life frozen lives same

  pub freezes_in : (events : List Event) (world : WorldState) (life : Life (Unit {0}) ixl.Input) (frozen : List Held) → LivesAsInterlocking site table world life → world.frozen ≡ frozen
      → (after_all site table events world).frozen ≡ frozen_in site table events life frozen
  freezes_in [] world life frozen lives same = same
  freezes_in (first ∷ others) world life frozen lives same =
      freezes_in others (happens site table first world) (life_after site table the_interlocking first life) (frozen_after site table first life frozen) (lives_on site table first world life lives)
      (ap (λ (w : WorldState). w.frozen) (is_split site table first world)
      ∙ told_freezes (connection_in first world) (told site table first) (around site table first world)
      ∙ around_freezes first world life frozen lives same)

  pub first_frozen : (outset : Outset) → (world_at site table outset).frozen ≡ []
  unfolding world_at
  first_frozen outset = refl
