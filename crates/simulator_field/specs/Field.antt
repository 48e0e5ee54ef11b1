-- All of a world but its interlocking.
use Rattle.std.specs.Prelude.{◌≡◌, ℕ, ◌+◌, ◌≤◌, true, List, [], length, drop}
use Rattle.simulator_spec.specs.layout.Entries.{Site}
use Rattle.simulator_spec.specs.ixl_spec.Table.{Table}
use Rattle.simulator_spec.specs.simulator_event.declared.snapshot.Held.{Held}
use Rattle.simulator_spec.specs.First.{Outset, first_interlocking, world_at}
use Rattle.simulator_spec.specs.Refusals.{are_within, clock_limit}
use Rattle.simulator_spec.specs.State.{ClockedInterlockingState, WorldState}
use Rattle.simulator_field.specs.declared.field.Field.{Field}

-- with an interlocking, and the rows that stand for its locks in its hold, they are a world
unfoldable pub world_of : ClockedInterlockingState → List Held → Field → WorldState
world_of interlocking frozen field = record {
  time = field.network.time;
  interlocking = interlocking;
  signals = field.signals.items;
  points = field.points.items;
  detectors = field.detectors.items;
  positions = field.positions.items;
  occupancies = field.occupancies.items;
  sent = field.network.sent;
  frozen = frozen;
}

-- There is one of each that a site names.
pub record AreOf (site : Site) (field : Field) : Type 0 where
  pub signals : length field.signals.items ≡ length site.signals
  pub points : length field.points.items ≡ length site.points
  pub detectors : length field.detectors.items ≡ length site.detectors
  pub positions : length field.positions.items ≡ length site.points
  pub occupancies : length field.occupancies.items ≡ length site.sections

-- They are those of a station as it lies when it is started.
abbrev pub AreAt : Site → Outset → Field → Type 0
AreAt site outset field = (table : Table) → world_of (first_interlocking site table) [] field ≡ world_at site table outset

-- True time and the clocks of all controllers may go on by these steps: there is one for each, and none passes the limit.
pub record MayPass (elapsed : ℕ) (steps : List ℕ) (field : Field) : Type 0 where
  pub count : length field.signals.items + length field.points.items + length field.detectors.items ≡ length steps
  pub time : field.network.time + elapsed ≤ clock_limit
  pub signals : are_within field.signals.items steps (λ rest. true) ≡ true
  pub points : are_within field.points.items (drop (length field.signals.items) steps) (λ rest. true) ≡ true
  pub detectors : are_within field.detectors.items (drop (length field.points.items) (drop (length field.signals.items) steps)) (λ rest. true) ≡ true
