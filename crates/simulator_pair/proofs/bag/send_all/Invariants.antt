use Rattle.std.proofs.Common.{◌≡◌, ◌+◌, ◌++◌, length, Some}
use Rattle.std.specs.Vec.{vec_len, vec_capacity}
use Rattle.rasta_core.specs.Ends.{handed_out}
use Rattle.simulator_pair.specs.inside.Indexed.{keys_of}
use Rattle.simulator_pair.proofs.bag.send_all.Given as goal

abbrev pub invariant-loop-datagram : goal.invariant-loop-datagram
invariant-loop-datagram l =
    (l.sent.items ++ handed_out l.time l.sender (Some l.number) l.outbox.datagrams ≡ l.initial.sent.items ++ handed_out l.time l.sender (Some l.number) l.initial.outbox.datagrams)
    × (vec_len l.sent + length l.outbox.datagrams ≡ vec_len l.initial.sent + length l.initial.outbox.datagrams)
    × (vec_capacity l.sent ≡ vec_capacity l.initial.sent)
    × (l.outbox.capacity ≡ l.initial.outbox.capacity)
    × (l.index.keys ≡ keys_of l.sent.items)
    × (l.index.room + length l.initial.outbox.datagrams ≡ l.initial.index.room + length l.outbox.datagrams)

abbrev pub decreases-loop-datagram : goal.decreases-loop-datagram
decreases-loop-datagram l = length l.outbox.datagrams
