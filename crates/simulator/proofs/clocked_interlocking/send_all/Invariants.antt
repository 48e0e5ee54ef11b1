use Rattle.std.proofs.Common.{◌≡◌, ◌+◌, length}
use Rattle.simulator_spec.specs.Interlocking.{sending_all}
use Rattle.simulator.specs.inside.Connections.{sending_by}
use Rattle.simulator.proofs.clocked_interlocking.send_all.Given as goal

abbrev pub invariant-loop-datagram : goal.invariant-loop-datagram
invariant-loop-datagram l = record {
  sending : sending_all l.initial.interlocking.state.sited.site l.initial.network.time l.interlocking.outbox.datagrams (sending_by l.connections l.network)
      ≡ sending_all l.initial.interlocking.state.sited.site l.initial.network.time l.initial.interlocking.outbox.datagrams (sending_by l.initial.connections l.initial.network);
  state : l.interlocking.state ≡ l.initial.interlocking.state;
  time : l.network.time ≡ l.initial.network.time;
  room : l.network.room + length l.initial.interlocking.outbox.datagrams ≡ l.initial.network.room + length l.interlocking.outbox.datagrams;
}

abbrev pub decreases-loop-datagram : goal.decreases-loop-datagram
decreases-loop-datagram l = length l.interlocking.outbox.datagrams
