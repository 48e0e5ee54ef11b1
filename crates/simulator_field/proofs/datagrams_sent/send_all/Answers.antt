use Rattle.std.proofs.Common.{◌≡◌, sym, ap, ◌∙◌, ◌∷◌, ◌++◌, [], length, drop, arith, rules, Some, None}
use Rattle.simulator_spec.specs.rasta_core.Outbox.{OutboxState}
use Rattle.simulator_field.specs.Network.{NetworkState}
use Rattle.simulator_field.proofs.OutboxTaken.{by_server, first_taken, none_taken, one_sent}
use Rattle.simulator_field.proofs.datagrams_sent.send_all.Goals as goal

pub send-requires : goal.send-requires
send-requires g c =
    let first : c.loop-datagram.hosted.outbox.datagrams ≡ c.in-Some.datagram.items ∷ drop 1 c.loop-datagram.hosted.outbox.datagrams =
    first_taken c.loop-datagram.hosted.outbox.datagrams c.in-Some.datagram.items (search (rules, c.take_first.ensures.value))
    in omega (arith, ap length first, c.loop-datagram.invariant.room, c.requires)

pub loop-datagram-preserved : goal.loop-datagram-preserved
loop-datagram-preserved g c =
    let first : c.loop-datagram.hosted.outbox.datagrams ≡ c.in-Some.datagram.items ∷ drop 1 c.loop-datagram.hosted.outbox.datagrams =
    first_taken c.loop-datagram.hosted.outbox.datagrams c.in-Some.datagram.items (search (rules, c.take_first.ensures.value))
    in let rest : c.take_first.new.self.outbox.datagrams ≡ drop 1 c.loop-datagram.hosted.outbox.datagrams = ap (λ (o : OutboxState). o.datagrams) c.take_first.ensures.rest
    in let same_time = c.loop-datagram.invariant.time
    in let time = c.args.network.now.time
    in let link = c.args.link
    in let connection = c.args.connection
    in let sent : c.send.new.self.sent ≡ c.loop-datagram.network.sent ++ by_server link time connection (c.in-Some.datagram.items ∷ []) =
    ap (λ (n : NetworkState). n.sent) c.send.ensures ∙ ap (λ t. c.loop-datagram.network.sent ++ by_server link t connection (c.in-Some.datagram.items ∷ [])) same_time
    in record {
      host = c.take_first.ensures.host ∙ c.loop-datagram.invariant.host;
      time = ap (λ (n : NetworkState). n.time) c.send.ensures ∙ same_time;
      sent = ap (λ all. all ++ by_server link time connection c.take_first.new.self.outbox.datagrams) sent
          ∙ ap (λ ds. (c.loop-datagram.network.sent ++ by_server link time connection (c.in-Some.datagram.items ∷ [])) ++ by_server link time connection ds) rest
          ∙ one_sent c.loop-datagram.network.sent link time connection c.loop-datagram.hosted.outbox.datagrams (drop 1 c.loop-datagram.hosted.outbox.datagrams) c.in-Some.datagram.items first
          ∙ c.loop-datagram.invariant.sent;
      room = omega (arith, ap length first, ap length rest, ap (λ (n : NetworkState). n.room) c.send.ensures, c.loop-datagram.invariant.room, c.requires);
    }

pub returns-clause-room : goal.returns-clause-room
returns-clause-room g c =
    let none : c.loop-datagram.hosted.outbox.datagrams ≡ [] = none_taken c.loop-datagram.hosted.outbox.datagrams (search (rules, c.take_first.ensures.value))
    in omega (arith, ap length none, c.loop-datagram.invariant.room, c.requires)
