-- What an event at one controller changes, and what it leaves.
use Rattle.std.specs.Prelude.{◌≡◌, ◌≢◌, ◌+◌, ◌<◌, ℕ, length, Some, slice_get, slice_set}
use Rattle.simulator_link_laws.specs.sci_telegram.declared.message.Position.{Position}
use Rattle.simulator_link_laws.specs.layout.declared.entries.Point.{Point}
use Rattle.simulator_link_laws.specs.layout.declared.entries.Signal.{Signal}
use Rattle.simulator_link_laws.specs.layout.Entries.{Site}
use Rattle.simulator_link_laws.specs.rasta_core.Links.{Links}
use Rattle.simulator_link_laws.specs.point_ctl.Drive.{PointState}
use Rattle.simulator_link_laws.specs.signal_ctl.Signal.{SignalState}
use Rattle.simulator_safety.specs.Represents.{IsHostOf, IsNetworkOf}
use Rattle.simulator_link_laws.specs.simulator_spec.Nodes.{point_link}
use Rattle.simulator_link_laws.specs.simulator_spec.State.{ClockedControllerState, WorldState}

-- What no controller changes: the interlocking, its ends of all links, and the frozen pairs. The links are those of the new
-- world.
pub record LeavesInterlocking (site : Site) (world new : WorldState) (before after : Links) : Type 0 where
  pub linked : IsNetworkOf site new after
  pub station : new.interlocking ≡ world.interlocking
  pub frozen : new.frozen ≡ world.frozen
  pub clients : (link : ℕ) → (after.ends link).client ≡ (before.ends link).client

-- One signal is another: no other controller, and no end but its own, is changed.
pub record SignalChanges (site : Site) (world new : WorldState) (before after : Links) (place : ℕ) (next : ClockedControllerState SignalState) : Type 0 where
  pub leaves : LeavesInterlocking site world new before after
  pub signals : new.signals ≡ slice_set world.signals place next
  pub points : new.points ≡ world.points
  pub positions : new.positions ≡ world.positions
  pub others : (link : ℕ) → link ≢ place → (after.ends link).server ≡ (before.ends link).server
  pub host : (entry : Signal) → slice_get site.signals place ≡ Some entry → IsHostOf site entry.name next.host

-- One point is another, and may have come to stand elsewhere: there its controller senses it.
pub record PointChanges (site : Site) (world new : WorldState) (before after : Links) (place : ℕ) (next : ClockedControllerState PointState) : Type 0 where
  pub leaves : LeavesInterlocking site world new before after
  pub signals : new.signals ≡ world.signals
  pub points : new.points ≡ slice_set world.points place next
  pub others : (link : ℕ) → link ≢ point_link site place → (after.ends link).server ≡ (before.ends link).server
  pub host : (entry : Point) → slice_get site.points place ≡ Some entry → IsHostOf site entry.name next.host
  pub stands : (position : Position) → slice_get new.positions place ≡ Some position → next.host.object.sensed ≡ position
  pub elsewhere : (other : ℕ) → other ≢ place → slice_get new.positions other ≡ slice_get world.positions other
  pub count : length new.positions ≡ length world.positions

-- No signal and no point is changed, nor an end of a link of theirs.
pub record NoneChanges (site : Site) (world new : WorldState) (before after : Links) : Type 0 where
  pub leaves : LeavesInterlocking site world new before after
  pub signals : new.signals ≡ world.signals
  pub points : new.points ≡ world.points
  pub positions : new.positions ≡ world.positions
  pub servers : (link : ℕ) → link < length site.signals + length site.points → (after.ends link).server ≡ (before.ends link).server
