use Rattle.std.proofs.Common.{rules, refl, ◌∷◌, ◌++◌}
use Rattle.simulator_machine.specs.Point.{Right}
use Rattle.simulator_machine.specs.Moves.{Sets}
use Rattle.simulator_machine.specs.Small.{ready, clears, point_moved, start}
use Rattle.simulator_machine.specs.Wrong.{one_way}
use Rattle.simulator_machine.proofs.Broken.{unblocked_one_way, one_way_broken, loose_broken}
use Rattle.simulator_machine.proofs.Composed.{both_may}
use Rattle.simulator_machine.proofs.runs.each_premise_is_needed.Goals as goal

pub returns-clause-both_ways : goal.returns-clause-both_ways
returns-clause-both_ways c = (
  both_may one_way (ready ++ Sets 3 ∷ clears 3) (Sets 0 ∷ point_moved Right ++ clears 0) start (search rules)
      (record { resumed = refl; free = refl; unblocked = unblocked_one_way }, search rules),
  one_way_broken,
)

pub returns-clause-one_entry : goal.returns-clause-one_entry
returns-clause-one_entry c = (search rules, loose_broken)
