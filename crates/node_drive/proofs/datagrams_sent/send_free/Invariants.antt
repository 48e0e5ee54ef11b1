use Rattle.std.proofs.Common.{length, map}
use Rattle.node_drive.specs.Inside.{waiting_of_code}
use Rattle.node_drive.proofs.Sending.{Released}
use Rattle.node_drive.proofs.datagrams_sent.send_free.Given as goal

-- what left so far, and those that were not looked at yet
abbrev pub invariant-loop-one : goal.invariant-loop-one
invariant-loop-one g l =
    Released l.reading l.in_force (g.O.Outside.told l.fn.outside) (g.O.Outside.told l.outside) (map waiting_of_code l.fn.waiting.items) (map waiting_of_code l.waiting.items)

abbrev pub decreases-loop-one : goal.decreases-loop-one
decreases-loop-one g l = length l.waiting.items
