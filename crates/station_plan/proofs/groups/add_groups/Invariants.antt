use Rattle.std.specs.List.{AllZip}
use Rattle.station_plan.specs.Plan.{Shows}
use Rattle.station_plan.proofs.groups.add_groups.Given as goal

abbrev pub invariant-loop-thing : goal.invariant-loop-thing
invariant-loop-thing l = AllZip Shows l.yielded l.groups.items
