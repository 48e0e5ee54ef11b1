use Rattle.std.proofs.Common.{◌≡◌, length}
use Rattle.simulator_pair.specs.Bag.{in_bag}
use Rattle.simulator_pair.proofs.bag.BagIterator.next.Given as goal

abbrev pub invariant-loop-first : goal.invariant-loop-first
invariant-loop-first l = in_bag l.self ≡ in_bag l.fn.self

abbrev pub decreases-loop-first : goal.decreases-loop-first
decreases-loop-first l = length l.self.sent.now
