-- Where nothing comes by which a point could be moved.
use Rattle.std.specs.Prelude.{◌≡◌, ◌≢◌, ◌≤◌, ◌⊎◌, ℕ, suc, List, ◌∷◌, length, Some, slice_get}
use Rattle.simulator_spec.specs.ixl_spec.Table.{Table}
use Rattle.simulator_spec.specs.simulator_event.declared.event.Event.{Event}
use Rattle.simulator_spec.specs.simulator_event.declared.event.Event.TheVariants as event
use Rattle.simulator_spec.specs.Flow.{Flowing}
use Rattle.simulator_recovery.specs.Ready.{ready_rounds}
use Rattle.simulator_recovery.specs.Rounds.{good_rounds}
use Rattle.simulator_recovery.specs.SectionsReported.{HasRoomToReport, section_rounds}

-- a section is occupied, or left, and isn't this one
abbrev pub IsOccupancyElsewhere : ℕ → Event → Type 0
IsOccupancyElsewhere section (event.Occupy other occupancy) = other.0 ≢ section
IsOccupancyElsewhere section _ = ⊥

-- a request, or a section is occupied or left that another detector than this reports
abbrev pub IsWorkElsewhere : Table → ℕ → Event → Type 0
IsWorkElsewhere table detector (event.Request command) = Unit {0}
IsWorkElsewhere table detector (event.Occupy section occupancy) = (reporter : ℕ × ℕ) → slice_get table.reporters section.0 ≡ Some reporter → reporter.0 ≢ detector
IsWorkElsewhere table detector _ = ⊥

-- The rounds after some first ones are enough for what was told of a section by then: 32, where links are ready from the first of them on; or one,
-- in which they become ready, where the window of its detector's link had room before it.
abbrev pub IsTimeToReport : Table → ℕ → List Event → List (List Event) → List (List Event) → Flowing → Type 0
IsTimeToReport table section between later more flowing = (ready_rounds ≤ suc (length later) × section_rounds ≤ length more)
    ⊎ (ready_rounds ≤ suc (suc (length later)) × (1 ≤ length more × HasRoomToReport table (good_rounds (between ∷ later) flowing).state.run section))
