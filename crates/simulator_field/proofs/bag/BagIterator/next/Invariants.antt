use Rattle.std.proofs.Common.{◌≡◌, ◌-◌, length}
use Rattle.simulator_field.specs.Bag.{in_bag}
use Rattle.simulator_field.proofs.bag.BagIterator.next.Given as goal

abbrev pub invariant-loop-one : goal.invariant-loop-one
invariant-loop-one l = in_bag l.self ≡ in_bag l.fn.self

abbrev pub decreases-loop-one : goal.decreases-loop-one
decreases-loop-one l = length l.self.network.now.sent - l.self.place
