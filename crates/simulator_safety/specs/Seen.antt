-- What the machine sees of a world, as far as its promise speaks of it.
use Rattle.std.specs.Prelude.{◌≡◌, ◌≢◌, ◌↔◌, ℕ, Bool, true, List, length, Some, slice_get, slice_index_or}
use Rattle.std.specs.List.{Contains}
use Rattle.simulator_link_laws.specs.sci_telegram.declared.message.Aspect.TheVariants as aspects
use Rattle.simulator_link_laws.specs.sci_telegram.declared.message.Position.{Position}
use Rattle.simulator_link_laws.specs.sci_telegram.declared.message.Position.TheVariants as positions
use Rattle.simulator_link_laws.specs.sci_telegram.declared.message.Side.{Side}
use Rattle.simulator_link_laws.specs.layout.Entries.{Site}
use Rattle.simulator_link_laws.specs.ixl_spec.Table.{Table}
use Rattle.simulator_link_laws.specs.point_ctl.Drive.{PointState}
use Rattle.simulator_link_laws.specs.signal_ctl.Signal.{SignalState}
use Rattle.simulator_link_laws.specs.simulator_move_laws.Items.{aspect_seen, position_seen}
use Rattle.simulator_machine.specs.Machine.{Machine, is_held}
use Rattle.simulator_machine.specs.Point.{Position as MachinePosition}
use Rattle.simulator_machine.specs.Signal.{shown}
use Rattle.simulator_machine.specs.Table.{Table as MachineTable}
use Rattle.simulator_link_laws.specs.simulator_move_laws.Rows.{machine_table}
use Rattle.simulator_link_laws.specs.simulator_spec.First.{Outset}
use Rattle.simulator_link_laws.specs.simulator_spec.Refusals.{driven_by}
use Rattle.simulator_link_laws.specs.simulator_spec.Seen.{shown_by}
use Rattle.simulator_link_laws.specs.simulator_spec.State.{ClockedControllerState, WorldState}
use Rattle.simulator_link_laws.specs.simulator_spec.Interlocking.{held_of}
use Rattle.simulator_link_laws.specs.simulator_event.Safe.{IsThere}
use Rattle.simulator_link_laws.specs.simulator_event.declared.snapshot.Held.{Held}

-- where the machine has its points when a station is started
abbrev pub positions_at : Outset → ℕ → MachinePosition
positions_at outset place = position_seen (slice_index_or outset.positions place positions.NoEndPosition)

-- a signal and a route that is held for it
abbrev pub pair_of : ℕ → ℕ → Held
pair_of signal route = record { signal = record { 0 = signal }; route = record { 0 = route } }

-- Pairs are the routes that pass a test, each with the signal at which it begins.
abbrev pub AreHeldPairs : MachineTable → List Held → (ℕ → Bool) → Type 0
AreHeldPairs table pairs test = (signal route : ℕ) → Contains pairs (pair_of signal route) ↔ ((table.entry route ≡ signal) × (test route ≡ true))

-- The promise speaks of what signals show, of where points stand and what drives them, and of the routes that are held.
pub record IsSeen (site : Site) (table : Table) (world : WorldState) (machine : Machine) : Type 0 where
  -- an aspect other than stop that a signal shows is the one that the machine's shows
  pub shows : (place : ℕ) (server : ClockedControllerState SignalState) → slice_get world.signals place ≡ Some server → shown_by server ≢ aspects.Stop
      → shown (machine.signals place) ≡ aspect_seen (shown_by server)
  -- a point stands where the machine's does, and one that is driven is driven there
  pub stands : (place : ℕ) (position : Position) → slice_get world.positions place ≡ Some position → (machine.points place).position ≡ position_seen position
  pub driven : (place : ℕ) (server : ClockedControllerState PointState) (side : Side) → slice_get world.points place ≡ Some server → driven_by server ≡ Some side
      → (machine.points place).driven ≡ true
  -- the pairs that are held are the routes that the machine holds, each with its signal
  pub held : AreHeldPairs (machine_table table) (held_of table world.interlocking world.frozen) (is_held machine)
  pub there : (pair : Held) → Contains (held_of table world.interlocking world.frozen) pair → IsThere site pair
  -- the world has the signals and points of the layout
  pub signals : length world.signals ≡ length site.signals
  pub positions : length world.positions ≡ length site.points
  pub points : length world.points ≡ length site.points
