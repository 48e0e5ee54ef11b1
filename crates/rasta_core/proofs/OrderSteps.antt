-- What a link does by itself in a connection: it closes, sends a heartbeat, gives an item, or asks for a missing PDU.
use Rattle.std.proofs.Common.{◌≡◌, ℕ, ◌+◌, ◌<◌, ◌≤◌, true, false, List, [], ◌∷◌, ◌++◌, length, ◌⊎◌, inl, inr, refl, sym, ap, ◌∙◌, arith}
use Rattle.std.proofs.lemmas.List.{length-append, append-nil}
use Rattle.rasta_core_spec.specs.Parameters.{connection_limit}
use Rattle.rasta_core_spec.specs.State.{LinkState, is_up}
use Rattle.rasta_core_spec.specs.PdusHandedOut.{Step, silent, header_of, pdu_of, sending, closed, telling, closing, reason_number, is_told, giving}
use Rattle.rasta_core_spec.specs.Receipt.{missing}
use Rattle.rasta_core_spec.specs.reason.Reason.{Reason}
use Rattle.rasta_core_spec.specs.pdu.Pdu.{Pdu}
use Rattle.rasta_core_spec.specs.body.Body.TheVariants.{RetransmissionRequest, DisconnectionRequest, Heartbeat, Data}
use Rattle.rasta_core.specs.EndFlow.{EndFlow, sent}
use Rattle.rasta_core.specs.Order.{BeginsByResponse, OpensOn, InOrder}
use Rattle.rasta_core.specs.LinkAndFlow.{IsInside, HasJoined, IsStillAsking, Plays, joined, left, GoesOn}
use Rattle.rasta_core.proofs.OrderTests.{by_test}
use Rattle.rasta_core.proofs.Places.{only_one, opens_more, close_one}
use Rattle.rasta_core.proofs.OrderOfTaken.{taker_sent, taker_asked, waits_for}
use Rattle.rasta_core.proofs.Drops.{giver_went_on}
use Rattle.rasta_core.proofs.Sends.{sends, upto, below, below_old, below_new, giver_sent}
use Rattle.rasta_core.proofs.Gives.{gives, giver_gave, held}
use Rattle.rasta_core.proofs.OrderOfSent.{Confirms, joined_confirms, next_pdu, sends_in_order, brings_none}

-- a part that stays as it is
pub stays : (own other : EndFlow) (link : LinkState) → InOrder own other → Plays link own other → GoesOn own other link [] [] []
stays own other link order plays = record {
  part = own;
  first = refl;
  flow = sym (append-nil own.flow);
  given = sym (append-nil own.given);
  taken = sym (append-nil own.taken);
  order = order;
  plays = plays;
}

-- an end that is in the connection, joined or asking
pub inside_confirms : (link : LinkState) (own other : EndFlow) (detail reason : ℕ) → InOrder own other → HasJoined link own other ⊎ IsStillAsking link own other
    → Confirms link own other (DisconnectionRequest detail reason)
inside_confirms link own other detail reason order (inl plays) = inl (joined_confirms link own other order plays)
inside_confirms link own other detail reason order (inr plays) = inr (plays.inside.alone plays.asking, tt, plays.client)

pub inside_is : (link : LinkState) (own other : EndFlow) → HasJoined link own other ⊎ IsStillAsking link own other → IsInside link own
inside_is link own other (inl plays) = plays.inside
inside_is link own other (inr plays) = plays.inside

-- it closes and tells its partner
pub told_on : (why : Reason) (link : LinkState) (own other : EndFlow) → InOrder own other → HasJoined link own other ⊎ IsStillAsking link own other
    → GoesOn own other (telling why link).link (telling why link).pdus [] []
unfolding telling sending
told_on why link own other order plays =
    let body = DisconnectionRequest 0 (reason_number why)
    in let inside = inside_is link own other plays
    in let confirms = inside_confirms link own other 0 (reason_number why) order plays
    in record {
      part = sends (pdu_of (header_of link) link.sent body) own;
      first = refl;
      flow = refl;
      given = sym (append-nil own.given);
      taken = sym (append-nil own.taken);
      order = sends_in_order link own other order inside body confirms (brings_none link own other order inside body confirms) (λ e. cc) (λ e. cc);
      plays = left refl (inl (record { given = inside.keeps.given; taken = inside.keeps.taken; waiting = inside.keeps.waiting }));
    }

-- it closes, for any reason
pub closed_on : (why : Reason) (link : LinkState) (own other : EndFlow) → InOrder own other → HasJoined link own other ⊎ IsStillAsking link own other
    → GoesOn own other (closing why link).link (closing why link).pdus [] []
unfolding closing
closed_on why link own other order plays =
    by_test (λ (step : Step). GoesOn own other step.link step.pdus [] []) (is_told why) (telling why link) (silent (closed link))
    (λ e. told_on why link own other order plays)
    (λ e. silently)
  where
    silently : GoesOn own other (closed link) [] [] []
    silently =
        let keeps = (inside_is link own other plays).keeps
        in stays own other (closed link) order (left refl (inl (record { given = keeps.given; taken = keeps.taken; waiting = keeps.waiting })))

-- it sends a heartbeat
pub beat_on : (link : LinkState) (own other : EndFlow) → InOrder own other → HasJoined link own other → is_up link.phase ≡ true → link.sent < connection_limit
    → GoesOn own other (sending Heartbeat link).link (sending Heartbeat link).pdus [] []
unfolding sending pdu_of
beat_on link own other order plays up room =
    let confirms : Confirms link own other Heartbeat = inl (joined_confirms link own other order plays)
    in let inside = plays.inside
    in record {
      part = sends (pdu_of (header_of link) link.sent Heartbeat) own;
      first = refl;
      flow = refl;
      given = sym (append-nil own.given);
      taken = sym (append-nil own.taken);
      order = sends_in_order link own other order inside Heartbeat confirms (brings_none link own other order inside Heartbeat confirms) (λ e. cc) (λ e. cc);
      plays = joined (record {
        inside = record {
          keeps = record { given = inside.keeps.given; taken = inside.keeps.taken; waiting = inside.keeps.waiting };
          connected = inside.connected;
          own_first = inside.own_first;
          counted = omega (arith, inside.counted, length-append own.flow (pdu_of (header_of link) link.sent Heartbeat ∷ []));
          room = omega (arith, inside.counted, length-append own.flow (pdu_of (header_of link) link.sent Heartbeat ∷ []), room);
          unsaid = opens_more own.flow (pdu_of (header_of link) link.sent Heartbeat ∷ []) inside.unsaid (close_one (pdu_of (header_of link) link.sent Heartbeat) (λ c. c));
          alone = λ asks. absurd (cc (asks, plays.joined));
          reading = inside.reading;
        };
        joined = plays.joined;
        partner_first = plays.partner_first;
        expected = plays.expected;
        come = record { starting = λ down. absurd (cc (up, down)); heard = plays.come.heard };
      });
    }

-- it gives an item
pub gave_on : (item : List ℕ) (link : LinkState) (own other : EndFlow) → InOrder own other → HasJoined link own other → is_up link.phase ≡ true → link.sent < connection_limit → length link.waiting < 20
    → GoesOn own other (giving item link).link (giving item link).pdus (item ∷ []) []
unfolding giving sending pdu_of
gave_on item link own other order plays up room few =
    let confirms : Confirms link own other (Data (item ∷ [])) = inl (joined_confirms link own other order plays)
    in let inside = plays.inside
    in let pdu = pdu_of (header_of link) link.sent (Data (item ∷ []))
    in record {
      part = gives item pdu own;
      first = refl;
      flow = refl;
      given = refl;
      taken = sym (append-nil own.taken);
      order = record {
        there = giver_gave own other item pdu order.there (next_pdu link own other order inside (Data (item ∷ [])) confirms) order.back.counts.some (omega (arith, inside.room))
            (omega (arith, few, ap length inside.keeps.waiting)) refl;
        back = taker_sent other own order.back (pdu ∷ []) (upto (sent own) (λ number. length own.given + 1) own.passed) (below (sent own) own.reached own.expecting)
            (own.given ++ item ∷ []) (own.waiting ++ held (sent own) item ∷ [])
            (λ number lt. below_old (sent own) number own.reached own.expecting lt)
            (λ place that at is. no_request (ap (λ (p : Pdu). p.body) (only_one place that pdu at).1 ∙ is));
      };
      plays = joined (record {
        inside = record {
          keeps = record {
            given = omega (arith, inside.keeps.given, length-append own.given (item ∷ []));
            taken = inside.keeps.taken;
            waiting = ap (λ front. front ++ held link.sent item ∷ []) inside.keeps.waiting ∙ ap (λ number. own.waiting ++ held number item ∷ []) inside.counted;
          };
          connected = inside.connected;
          own_first = inside.own_first;
          counted = omega (arith, inside.counted, length-append own.flow (pdu ∷ []));
          room = omega (arith, inside.counted, length-append own.flow (pdu ∷ []), room);
          unsaid = opens_more own.flow (pdu ∷ []) inside.unsaid (close_one (pdu) (λ c. c));
          alone = λ asks. absurd (cc (asks, plays.joined));
          reading = inside.reading;
        };
        joined = plays.joined;
        partner_first = plays.partner_first;
        expected = plays.expected;
        come = record { starting = λ down. absurd (cc (up, down)); heard = plays.come.heard };
      });
    }
  where
    no_request : Data (item ∷ []) ≡ RetransmissionRequest → ⊥
    no_request e = cc

-- it misses a PDU and asks
pub asked_on : (link : LinkState) (own other : EndFlow) → InOrder own other → HasJoined link own other → link.sent < connection_limit → own.reading ≡ true → BeginsByResponse other.flow ⊎ ((2 ≤ sent other) × OpensOn other.flow)
    → GoesOn own other (missing link).link (missing link).pdus [] []
unfolding missing sending pdu_of
asked_on link own other order plays room reading heard =
    let confirms : Confirms link own other RetransmissionRequest = inl (joined_confirms link own other order plays)
    in let inside = plays.inside
    in let pdu = pdu_of (header_of link) link.sent RetransmissionRequest
    in record {
      part = waits_for pdu (upto (sent own) (λ number. length own.given) own.passed) (below (sent own) own.reached own.expecting) own;
      first = refl;
      flow = refl;
      given = sym (append-nil own.given);
      taken = sym (append-nil own.taken);
      order = record {
        there = giver_went_on (sends pdu own) other own.reached false own.taken
            (giver_sent own other pdu order.there (next_pdu link own other order inside RetransmissionRequest confirms) order.back.counts.some (omega (arith, inside.room))
            (brings_none link own other order inside RetransmissionRequest confirms) (λ e. cc)) (omega arith);
        back = taker_asked other own order.back reading pdu (upto (sent own) (λ number. length own.given) own.passed) (below (sent own) own.reached own.expecting)
            (λ number lt. below_old (sent own) number own.reached own.expecting lt) (below_new (sent own) (sent own) own.reached own.expecting (omega arith));
      };
      plays = joined (record {
        inside = record {
          keeps = record { given = inside.keeps.given; taken = inside.keeps.taken; waiting = inside.keeps.waiting };
          connected = refl;
          own_first = inside.own_first;
          counted = omega (arith, inside.counted, length-append own.flow (pdu ∷ []));
          room = omega (arith, inside.counted, length-append own.flow (pdu ∷ []), room);
          unsaid = opens_more own.flow (pdu ∷ []) inside.unsaid (close_one (pdu) (λ c. c));
          alone = λ asks. absurd (cc (asks));
          reading = refl;
        };
        joined = refl;
        partner_first = plays.partner_first;
        expected = plays.expected;
        come = record { starting = λ down. absurd (cc (down)); heard = λ up. heard };
      });
    }
