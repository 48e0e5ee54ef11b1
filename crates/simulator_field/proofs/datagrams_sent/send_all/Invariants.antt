use Rattle.std.proofs.Common.{◌≡◌, ◌+◌, ◌++◌, length}
use Rattle.simulator_field.proofs.OutboxTaken.{by_server}
use Rattle.simulator_field.proofs.datagrams_sent.send_all.Given as goal

abbrev pub invariant-loop-datagram : goal.invariant-loop-datagram
invariant-loop-datagram g l = record {
  host : l.hosted.host ≡ l.initial.hosted.host;
  time : l.network.time ≡ l.initial.network.time;
  sent : l.network.sent ++ by_server l.link l.initial.network.time l.connection l.hosted.outbox.datagrams
      ≡ l.initial.network.sent ++ by_server l.link l.initial.network.time l.connection l.initial.hosted.outbox.datagrams;
  room : l.network.room + length l.initial.hosted.outbox.datagrams ≡ l.initial.network.room + length l.hosted.outbox.datagrams;
}

abbrev pub decreases-loop-datagram : goal.decreases-loop-datagram
decreases-loop-datagram g l = length l.hosted.outbox.datagrams
