use Rattle.std.proofs.Common.{◌-◌, length}
use Rattle.simulator_field.proofs.Copies.{start}
use Rattle.simulator_field.proofs.Searches.{KnowsOn, copies}
use Rattle.simulator_field.proofs.copies_found.oldest_copy.Given as goal

abbrev pub invariant-loop-found : goal.invariant-loop-found
invariant-loop-found l = KnowsOn l.bytes l.index.keys l.row l.entries l.found

abbrev pub decreases-loop-found : goal.decreases-loop-found
decreases-loop-found l = length (copies l.row l.entries) - start l.found (length (copies l.row l.entries))
