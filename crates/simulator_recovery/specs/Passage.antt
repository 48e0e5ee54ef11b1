-- How far a train has gone over a route.
use Rattle.std.specs.Prelude.{◌≡◌, ◌<◌, ℕ, IsTrue, List, ◌∷◌, Some, length, slice_get}
use Rattle.std.specs.FinSet.{contains}
use Rattle.std.specs.List.{Contains}
use Rattle.simulator_spec.specs.rasta_core.Each.{Each}
use Rattle.simulator_spec.specs.sci_telegram.declared.message.Occupancy.TheVariants.{Clear}
use Rattle.simulator_spec.specs.ixl_spec.Due.{AllClear}
use Rattle.simulator_spec.specs.ixl_spec.State.{IxlState, RouteState}
use Rattle.simulator_spec.specs.ixl_spec.Table.{Row, Table}
use Rattle.simulator_spec.specs.simulator_event.declared.event.Event.{Event}
use Rattle.simulator_spec.specs.Flow.{Flowing, round}
use Rattle.simulator_spec.specs.Nodes.{detector_link}
use Rattle.simulator_recovery.specs.LinkRounds.{StaysBelowLimit}
use Rattle.simulator_recovery.specs.Rounds.{all_tried, good_rounds}
use Rattle.simulator_recovery.specs.SectionsReported.{LeavesSection}

-- Each section of a route was reported occupied since the route was given authority.
abbrev pub IsSeen : Row → RouteState → Type 0
IsSeen row route = (place : ℕ) → place < length row.sections → IsTrue (contains route.passage.seen place)

-- A train has gone over a whole route: each of its sections was reported occupied since the route was given authority, and all are clear.
pub record IsPassed (table : Table) (ixl : IxlState) (row : Row) (route : RouteState) : Type 0 where
  pub seen : IsSeen row route
  pub clear : AllClear table ixl row.sections

-- A section lies clear after good rounds, and neither end of the link of the detector that reports it comes to the limit of PDUs in a
-- connection within them.
pub record IsLeft (section : ℕ) (between : List Event) (rounds : List (List Event)) (flowing : Flowing) : Type 0 where
  pub clear : slice_get (good_rounds (between ∷ rounds) flowing).state.run.occupancies section ≡ Some Clear
  pub reporter : ℕ × ℕ
  pub reports : slice_get flowing.state.sited.table.reporters section ≡ Some reporter
  pub below : StaysBelowLimit flowing.state.sited.site (detector_link flowing.state.sited.site reporter.0) rounds (all_tried between (round flowing))

-- none of these events tells of a section of a route
abbrev pub AreUntold : Row → List (List Event) → Flowing → Type 0
AreUntold row more flowing = (section : ℕ) → Contains row.sections section → Each (Each (LeavesSection flowing.state.sited.site flowing.state.sited.table section)) more
