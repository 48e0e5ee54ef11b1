use Rattle.std.proofs.Common.{◌≤◌, ℕ, ◌+◌, refl, sym, ap, ◌∙◌, subst, List, length, arith}
use Rattle.std.specs.Vec.{vec_len}
use Rattle.rasta_core.specs.Outbox.{spellings}
use Rattle.rasta_core.specs.Ends.{Sent, outcome, end_after}
use Rattle.simulator_pair.specs.inside.CallsMade.{meant}
use Rattle.rasta_core.specs.identity.Role.TheVariants.{Client}
use Rattle.simulator_pair.specs.Events.{clock_limit}
use Rattle.simulator_pair.specs.inside.Order.{AreInOrder}
use Rattle.simulator_pair.specs.inside.Seen.{seen_end}
use Rattle.simulator_pair.specs.inside.Parts.{seen, seen_ends}
use Rattle.simulator_pair.proofs.Steps.{length-posted_alone, capacity-posted_after}
use Rattle.simulator_pair.proofs.Calls.{client_step, datagrams-posted}
use Rattle.simulator_pair.proofs.Order.{in_order_sending}
use Rattle.simulator_pair.proofs.parts.Parts.call_client.Goals as goal

pub send_all-requires-clause-memory : goal.send_all-requires-clause-memory
send_all-requires-clause-memory c =
    let made = c.call-answer.ensures
    in let sent = length-posted_alone _ _ _ _ c.requires.sound.nothing_out made.handed.posted
    in omega (arith, sent, made.handed.few, c.requires.room.sent)

pub send_all-requires-clause-room : goal.send_all-requires-clause-room
send_all-requires-clause-room c =
    let made = c.call-answer.ensures
    in let sent = length-posted_alone _ _ _ _ c.requires.sound.nothing_out made.handed.posted
    in omega (arith, sent, made.handed.few, c.requires.room.index)

pub returns-clause-step : goal.returns-clause-step
unfolding seen seen_ends seen_end
returns-clause-step c =
    let made = c.call-answer.ensures
    in let end = seen_end c.args.self.now.client
    in let moment = c.len-moment.ensures
    in let call = meant c.args.call
    in let posted = datagrams-posted _ _ _ _ c.requires.sound.nothing_out made.handed.posted
    in client_step call (seen c.args.self.now) _ _ _ c.call-answer.new.outbox.datagrams
    (made.end ∙ ap (λ m. end_after (outcome call m end) m end) moment)
    (posted ∙ ap (λ m. spellings end.link.identity.key (outcome call m end).pdus) moment)
    c.send_all.ensures.items
    (c.send_all.ensures.len ∙ ap (λ n. vec_len c.args.self.now.sent + n) (length-posted_alone _ _ _ _ c.requires.sound.nothing_out made.handed.posted ∙ ap (λ m. length (outcome call m end).pdus) moment))

pub returns-clause-sound : goal.returns-clause-sound
returns-clause-sound c =
    let sound = c.requires.sound
    in let made = c.call-answer.ensures
    in let emptied = c.send_all.ensures.emptied
    in let capacity = ap (λ b. b.capacity) emptied ∙ capacity-posted_after _ _ _ _ made.handed.posted
    in let Within : ℕ → Type 0 = λ clock. clock ≤ clock_limit
    in let Ordered : List Sent → Type 0 = AreInOrder c.args.self.now.time
    in record {
      client_clock = made.clock;
      server_clock = sound.server_clock;
      nothing_out = ap (λ b. b.datagrams) emptied;
      outbox_room = omega (arith, capacity, sound.outbox_room);
      nothing_in = c.clear.ensures;
      in_order = subst Ordered (sym c.send_all.ensures.items) (in_order_sending c.args.self.now.time c.args.self.now.sent.items Client c.call-answer.new.self.connection c.call-answer.new.outbox.datagrams sound.in_order);
      indexed = c.send_all.ensures.indexed;
      time_within = sound.time_within;
      client_within = subst Within (sym made.same_clock) sound.client_within;
      server_within = sound.server_within;
    }

pub returns-clause-room : goal.returns-clause-room
returns-clause-room c =
    let made = c.call-answer.ensures
    in let sent = length-posted_alone _ _ _ _ c.requires.sound.nothing_out made.handed.posted
    in record {
      client_lists = made.lists;
      server_lists = record { given_memory = omega arith; taken_memory = omega arith; given_more = omega arith; taken_more = omega arith };
      sent_memory = omega (arith, c.send_all.ensures.capacity);
      sent_more = omega (arith, sent, made.handed.few, c.send_all.ensures.len);
      sent_stays = omega (arith, c.send_all.ensures.len);
      index_more = omega (arith, sent, made.handed.few, c.send_all.ensures.room);
      room = refl;
    }
