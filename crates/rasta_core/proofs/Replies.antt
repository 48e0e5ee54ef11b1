-- A link in the connection answers a retransmission request that it has taken.
use Rattle.std.proofs.Common.{◌≡◌, ℕ, ◌+◌, ◌^◌, ◌<◌, ◌≤◌, true, false, List, [], ◌++◌, length, refl, sym, ap, ◌∙◌, arith}
use Rattle.std.proofs.lemmas.List.{append-nil}
use Rattle.rasta_core_spec.specs.Parameters.{connection_limit}
use Rattle.rasta_core_spec.specs.State.{LinkState, is_up}
use Rattle.rasta_core_spec.specs.PdusHandedOut.{header_of, pdu_of, sending}
use Rattle.rasta_core_spec.specs.Receipt.{retagged, repeating, answering}
use Rattle.rasta_core_spec.specs.pdu.Pdu.{Pdu}
use Rattle.rasta_core_spec.specs.body.Body.TheVariants.{RetransmissionRequest, RetransmissionResponse}
use Rattle.rasta_core_spec.specs.header.Header.{Header}
use Rattle.rasta_core.specs.EndFlow.{IsAt, EndFlow, sent, later}
use Rattle.rasta_core.specs.Order.{InOrder}
use Rattle.rasta_core.specs.LinkAndFlow.{HasJoined, joined, GoesOn}
use Rattle.rasta_core.proofs.Answers.{answer, answer_goes_on, answered, IsHeader, giver_answered, partner_answered, sent_answered}
use Rattle.rasta_core.proofs.Places.{opens_more}
use Rattle.rasta_core.proofs.OrderOfSent.{joined_confirms}

module _ (link : LinkState) (own other : EndFlow) (order : InOrder own other) (plays : HasJoined link own other) (is_up_now : is_up link.phase ≡ true) (room : link.sent < connection_limit)
    (unanswered : (place : ℕ) (pdu : Pdu) → IsAt place pdu own.flow → pdu.body ≡ RetransmissionResponse → place < other.reached)
    (asked_no_more : (place : ℕ) (pdu : Pdu) → IsAt place pdu other.flow → pdu.body ≡ RetransmissionRequest → own.reached ≤ place → ⊥)
    (other_waits : other.reading ≡ false)
    (all_wait : later other.reached own.waiting ≡ length own.waiting) where
  header : Header
  header = header_of link

  before : List (List ℕ)
  before = order.there.waits.last.0

  is_header : IsHeader own other.first (header_of link)
  unfolding header_of
  is_header = record { first = plays.inside.own_first; confirmed = joined_confirms link own other order plays; unsaid = plays.inside.unsaid }

  fits : sent own + length own.waiting + 2 < 2 ^ 31
  fits = omega (arith, plays.inside.counted, room, order.there.waits.few)

  reply_part : EndFlow
  reply_part = answered (header_of link) (length order.there.waits.last.0) own

  reply_order : InOrder (answered (header_of link) (length order.there.waits.last.0) own) other
  reply_order = record {
    there = giver_answered own other (header_of link) order.there.waits.last.0 order.there is_header order.back.counts.some fits order.there.waits.last.1
        unanswered asked_no_more other_waits all_wait;
    back = partner_answered own other (header_of link) order.there.waits.last.0 order.there is_header order.back.counts.some fits order.there.waits.last.1
        unanswered asked_no_more other_waits all_wait order.back;
  }

  sent_in_reply : sent (answered (header_of link) (length order.there.waits.last.0) own) ≡ sent own + length own.waiting + 2
  sent_in_reply = sent_answered own other (header_of link) order.there.waits.last.0 order.there is_header order.back.counts.some fits order.there.waits.last.1
      unanswered asked_no_more other_waits all_wait

  pub replied_on : GoesOn own other (answering link).link (answering link).pdus [] []
  unfolding answering sending repeating header_of pdu_of
  replied_on = record {
    part = answered (header_of link) (length order.there.waits.last.0) own;
    first = refl;
    flow = ap (λ count. own.flow ++ answer (header_of link) count own.waiting) (sym plays.inside.counted)
        ∙ ap (λ waiting. own.flow ++ answer (header_of link) link.sent waiting) (sym plays.inside.keeps.waiting);
    given = sym (append-nil own.given);
    taken = sym (append-nil own.taken);
    order = reply_order;
    plays = joined (record {
      inside = record {
        keeps = record {
          given = plays.inside.keeps.given;
          taken = plays.inside.keeps.taken;
          waiting = ap (λ count. retagged (count + 1) link.waiting) plays.inside.counted ∙ ap (retagged (sent own + 1)) plays.inside.keeps.waiting;
        };
        connected = plays.inside.connected;
        own_first = plays.inside.own_first;
        counted = omega (arith, sent_in_reply, plays.inside.counted, ap length plays.inside.keeps.waiting);
        room = omega (arith, sent_in_reply, plays.inside.counted, room, order.there.waits.few);
        unsaid = opens_more own.flow (answer (header_of link) (sent own) own.waiting) plays.inside.unsaid (answer_goes_on (header_of link) (sent own) own.waiting);
        alone = λ asks. absurd (cc (asks, plays.joined));
        reading = plays.inside.reading;
      };
      joined = plays.joined;
      partner_first = plays.partner_first;
      expected = plays.expected;
      come = record { starting = λ down. absurd (cc (is_up_now, down)); heard = plays.come.heard };
    });
  }
