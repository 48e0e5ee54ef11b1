use Rattle.std.proofs.Common.{◌≡◌, length}
use Rattle.line_host.proofs.talk.empty.Given as goal

abbrev pub invariant-loop-datagram : goal.invariant-loop-datagram
invariant-loop-datagram l = l.outbox.capacity ≡ l.initial.outbox.capacity

abbrev pub decreases-loop-datagram : goal.decreases-loop-datagram
decreases-loop-datagram l = length l.outbox.datagrams
