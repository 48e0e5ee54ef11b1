-- How a station lies when it is started, as it is kept.
use Rattle.simulator.specs.simulator_spec.First.{Outset}
use Rattle.replay.specs.declared.outset.Outset.{Outset as Kept}

abbrev pub outset_in : Kept → Outset
outset_in kept = record { positions = kept.positions.items; occupancies = kept.occupancies.items }
