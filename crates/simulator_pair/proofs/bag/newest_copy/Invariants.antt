use Rattle.std.proofs.Common.{length}
use Rattle.simulator_pair.proofs.Copies.{HasKey, NoneBetween, reach}
use Rattle.simulator_pair.proofs.bag.newest_copy.Given as goal

abbrev pub invariant-loop-found : goal.invariant-loop-found
invariant-loop-found l = NoneBetween l.bytes (reach l.found) (length l.sent) l.sent × HasKey l.bytes l.index.keys l.found

abbrev pub decreases-loop-found : goal.decreases-loop-found
decreases-loop-found l = reach l.found
