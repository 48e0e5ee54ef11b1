-- What is seen of a world at the clocks of its moment, ticked or not.
use Rattle.std.specs.Prelude.{◌≡◌, map}
use Rattle.ixl_spec.specs.sci_telegram.declared.message.Aspect.{Aspect}
use Rattle.ixl_spec.specs.sci_telegram.declared.message.Position.{Position}
use Rattle.ixl_spec.specs.rasta_core.Ends.{reading_of}
use Rattle.signal_ctl.specs.Lamp.{aspect_shown}
use Rattle.signal_ctl.specs.Signal.{SignalState}
use Rattle.ixl_spec.specs.Table.{Table}
use Rattle.simulator_event.specs.declared.snapshot.Shown.{Shown}
use Rattle.simulator_event.specs.declared.snapshot.Snapshot.{Snapshot}
use Rattle.simulator_event.specs.declared.snapshot.Stands.{Stands}
use Rattle.simulator_spec.specs.Refusals.{driven_by}
use Rattle.simulator_spec.specs.State.{ClockedControllerState, WorldState}
use Rattle.simulator_spec.specs.Interlocking.{held_of}

-- what a signal shows
abbrev pub shown_by : ClockedControllerState SignalState → Aspect
shown_by server = aspect_shown server.host.object.lamp (reading_of server.clock)

-- as entries of a snapshot
abbrev pub as_shown : ClockedControllerState SignalState → Shown
as_shown server = record { 0 = shown_by server }

abbrev pub as_stands : Position → Stands
as_stands position = record { 0 = position }

-- A snapshot is that of a world.
pub record IsSnapshotOf (table : Table) (world : WorldState) (seen : Snapshot) : Type 0 where
  pub shows : seen.shows.items ≡ map as_shown world.signals
  pub held : seen.held.items ≡ held_of table world.interlocking world.frozen
  pub position : seen.position.items ≡ map as_stands world.positions
  pub driven : seen.driven.items ≡ map driven_by world.points
