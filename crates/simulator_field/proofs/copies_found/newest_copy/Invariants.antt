use Rattle.simulator_field.proofs.Copies.{reach}
use Rattle.simulator_field.proofs.Searches.{KnowsBack}
use Rattle.simulator_field.proofs.copies_found.newest_copy.Given as goal

abbrev pub invariant-loop-found : goal.invariant-loop-found
invariant-loop-found l = KnowsBack l.bytes l.index.keys l.row l.entries l.found

abbrev pub decreases-loop-found : goal.decreases-loop-found
decreases-loop-found l = reach l.found
