use Rattle.std.proofs.Common.{◌≡◌, ◌+◌, ◌++◌, length, map}
use Rattle.std.specs.Vec.{vec_capacity, vec_len}
use Rattle.line_host.specs.Host.{emptied}
use Rattle.line_world.specs.Happens.{just_sent}
use Rattle.line_world.proofs.flying.send_all.Given as goal

abbrev pub invariant-loop-datagram : goal.invariant-loop-datagram
invariant-loop-datagram l =
    (l.flying.items ++ map just_sent l.process.talk.outbox.datagrams ≡ l.initial.flying.items ++ map just_sent l.initial.process.talk.outbox.datagrams)
    × (vec_len l.flying + length l.process.talk.outbox.datagrams ≡ vec_len l.initial.flying + length l.initial.process.talk.outbox.datagrams)
    × (vec_capacity l.flying ≡ vec_capacity l.initial.flying)
    × (emptied l.process ≡ emptied l.initial.process)

abbrev pub decreases-loop-datagram : goal.decreases-loop-datagram
decreases-loop-datagram l = length l.process.talk.outbox.datagrams
