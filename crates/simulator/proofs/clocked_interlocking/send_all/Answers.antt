use Rattle.std.proofs.Common.{◌≡◌, ap, ◌∙◌, ◌∷◌, [], length, drop, arith, rules}
use Rattle.ixl_state.specs.rasta_core.Outbox.{OutboxState}
use Rattle.simulator_spec.specs.Interlocking.{sending_all, sending_one}
use Rattle.simulator.specs.inside.Connections.{sending_by}
use Rattle.simulator.proofs.DatagramsSent.{all_sent, first_taken, none_taken, others_sent}
use Rattle.simulator.proofs.clocked_interlocking.send_all.Goals as goal

pub send-requires : goal.send-requires
send-requires c =
    let first : c.loop-datagram.interlocking.outbox.datagrams ≡ c.in-Some.datagram.items ∷ drop 1 c.loop-datagram.interlocking.outbox.datagrams =
    first_taken c.loop-datagram.interlocking.outbox.datagrams c.in-Some.datagram.items (search (rules, c.take_first.ensures.value))
    in omega (arith, ap length first, c.loop-datagram.invariant.room, c.requires)

pub loop-datagram-preserved : goal.loop-datagram-preserved
loop-datagram-preserved c =
    let all = c.loop-datagram.interlocking.outbox.datagrams
    in let one = c.in-Some.datagram.items
    in let first : all ≡ one ∷ drop 1 all = first_taken all one (search (rules, c.take_first.ensures.value))
    in let rest : c.take_first.new.self.outbox.datagrams ≡ drop 1 all = ap (λ (o : OutboxState). o.datagrams) c.take_first.ensures.rest
    in let time = c.args.network.now.time
    in let site = c.args.interlocking.now.state.sited.site
    in let same : c.layout-layout.result.now ≡ site =
    c.layout-layout.ensures.entries ∙ c.checked.ensures.site ∙ ap (λ p. p.site) c.table.ensures.sited
    ∙ ap (λ s. s.sited.site) (c.take_first.ensures.state ∙ c.loop-datagram.invariant.state)
    in record {
      sending =
          ap (λ ds. sending_all site time ds (sending_by c.send.new.self c.send.new.network)) rest
          ∙ others_sent site time one all (drop 1 all) (sending_by c.loop-datagram.connections c.loop-datagram.network) (sending_by c.send.new.self c.send.new.network) first
          (c.send.ensures.sending
          ∙ ap (λ s. sending_one s c.loop-datagram.network.time one (sending_by c.loop-datagram.connections c.loop-datagram.network)) same
          ∙ ap (λ t. sending_one site t one (sending_by c.loop-datagram.connections c.loop-datagram.network)) c.loop-datagram.invariant.time)
          ∙ c.loop-datagram.invariant.sending;
      state = c.take_first.ensures.state ∙ c.loop-datagram.invariant.state;
      time = c.send.ensures.time ∙ c.loop-datagram.invariant.time;
      room = omega (arith, ap length first, ap length rest, c.send.ensures.room, c.loop-datagram.invariant.room);
    }

pub loop-datagram-smaller : goal.loop-datagram-smaller
loop-datagram-smaller c =
    let all = c.loop-datagram.interlocking.outbox.datagrams
    in let first : all ≡ c.in-Some.datagram.items ∷ drop 1 all = first_taken all c.in-Some.datagram.items (search (rules, c.take_first.ensures.value))
    in let rest : c.take_first.new.self.outbox.datagrams ≡ drop 1 all = ap (λ (o : OutboxState). o.datagrams) c.take_first.ensures.rest
    in omega (arith, ap length first, ap length rest)

pub returns-clause-sending : goal.returns-clause-sending
returns-clause-sending c =
    let none : c.loop-datagram.interlocking.outbox.datagrams ≡ [] = none_taken c.loop-datagram.interlocking.outbox.datagrams (search (rules, c.take_first.ensures.value))
    in all_sent c.args.interlocking.now.state.sited.site c.args.network.now.time c.loop-datagram.interlocking.outbox.datagrams (sending_by c.loop-datagram.connections c.loop-datagram.network) none
    ∙ c.loop-datagram.invariant.sending

pub returns-clause-state : goal.returns-clause-state
returns-clause-state c = c.take_first.ensures.state ∙ c.loop-datagram.invariant.state

pub returns-clause-room : goal.returns-clause-room
returns-clause-room c =
    let none : c.loop-datagram.interlocking.outbox.datagrams ≡ [] = none_taken c.loop-datagram.interlocking.outbox.datagrams (search (rules, c.take_first.ensures.value))
    in omega (arith, ap length none, c.loop-datagram.invariant.room)
