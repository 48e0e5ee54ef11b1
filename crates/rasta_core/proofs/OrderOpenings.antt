-- A connection begins in order.
use Rattle.std.proofs.Common.{◌≡◌, ℕ, ◌^◌, ◌<◌, ◌≤◌, true, false, [], ◌∷◌, length, take, inl, inr, refl, sym, ap, subst, ◌∙◌, arith}
use Rattle.std.specs.Prelude.{if◌then◌else◌}
use Rattle.rasta_core_spec.specs.Sequence.{wire, before}
use Rattle.rasta_core_spec.specs.State.{LinkState, is_client}
use Rattle.rasta_core_spec.specs.PdusHandedOut.{header_of, pdu_of, sending}
use Rattle.rasta_core_spec.specs.Establishment.{own_opening, beginning, requesting, meeting, judging, granting}
use Rattle.rasta_core_spec.specs.pdu.Pdu.{Pdu}
use Rattle.rasta_core_spec.specs.body.Body.TheVariants.{ConnectionRequest, ConnectionResponse, RetransmissionRequest, RetransmissionResponse}
use Rattle.rasta_core.specs.EndFlow.{IsAt, EndFlow, sent, later, items_of}
use Rattle.rasta_core.specs.Order.{IsLevel, Carries, IsRequest, IsResponse, IsSent, Rises, Waits, Way}
use Rattle.rasta_core.specs.LinkAndFlow.{joined}
use Rattle.rasta_core.specs.FirstPdus.{IsEarly, asks, Asks, Grants}
use Rattle.rasta_core.proofs.Places.{only_one, short}
use Rattle.rasta_core.proofs.Numbers.{wire_0, wire_fits}

-- a part with one PDU, an opening
abbrev pub opens_with : ℕ → Pdu → EndFlow
opens_with first pdu = record {
  first = first;
  flow = pdu ∷ [];
  passed = λ number. 0;
  expecting = λ number. 1;
  given = [];
  taken = [];
  waiting = [];
  reached = 1;
  reading = true;
}

-- ---- the client asks

request_sent : (first : ℕ) (pdu : Pdu) → pdu.sequence_number ≡ wire first 0 → pdu.body ≡ ConnectionRequest own_opening
    → (server_first : ℕ) → IsSent (opens_with first pdu) server_first 0 pdu
request_sent first pdu number body server_first = record {
  number = number;
  some_expected = omega arith;
  expected = omega arith;
  confirms = inr (inl (subst IsRequest (sym body) tt));
  follows = λ two. absurd (omega (arith, two));
  carries = subst (Carries (opens_with first pdu) 0) (sym body) ((refl, refl), refl);
}

opens_early : (first : ℕ) (pdu : Pdu) → first < 2 ^ 32 → pdu.sequence_number ≡ wire first 0 → pdu.body ≡ ConnectionRequest own_opening → IsEarly (opens_with first pdu)
opens_early first pdu fits number body = record {
  first = fits;
  some = omega arith;
  room = omega arith;
  given = refl;
  taken = refl;
  waiting = refl;
  reached = refl;
  client_flow = λ begins. subst IsResponse (ap (λ (p : Pdu). p.body) (sym (only_one 0 begins.0 pdu begins.1).1) ∙ body) begins.2;
  passed = λ number. refl;
  expecting = λ number. refl;
  each = λ place that at server_first.
      let one = only_one place that pdu at
      in subst (λ here. IsSent (opens_with first pdu) server_first here that) (sym one.0)
      (subst (IsSent (opens_with first pdu) server_first 0) one.1 (request_sent first pdu number body server_first));
  no_asking = λ place that at is. no_request (sym body ∙ ap (λ (p : Pdu). p.body) (only_one place that pdu at).1 ∙ is);
  no_answer = λ place that at is. no_response (sym body ∙ ap (λ (p : Pdu). p.body) (only_one place that pdu at).1 ∙ is);
}
  where
    no_request : ConnectionRequest own_opening ≡ RetransmissionRequest → ⊥
    no_request e = cc

    no_response : ConnectionRequest own_opening ≡ RetransmissionResponse → ⊥
    no_response e = cc

pub requesting_on : (link : LinkState) → is_client link.identity.role ≡ true → 1 ≤ link.clock → Asks (requesting link).link (requesting link).pdus
unfolding requesting sending beginning header_of pdu_of
requesting_on link role late = record {
  part = opens_with (wire link.own_first link.sent) (pdu_of (header_of (beginning link)) 0 (ConnectionRequest own_opening));
  flow = refl;
  early = opens_early (wire link.own_first link.sent) (pdu_of (header_of (beginning link)) 0 (ConnectionRequest own_opening)) (wire_fits link.own_first link.sent) refl refl;
  plays = asks (record {
    keeps = record { given = refl; taken = refl; waiting = refl };
    connected = refl;
    own_first = refl;
    counted = omega arith;
    room = omega arith;
    unsaid = short (pdu_of (header_of (beginning link)) 0 (ConnectionRequest own_opening) ∷ []) refl;
    alone = λ asks. refl;
    reading = refl;
  }) role;
}

-- ---- the server enters

module _ (client : EndFlow) (early : IsEarly client) (first : ℕ) (pdu : Pdu) (number : pdu.sequence_number ≡ wire first 0)
    (confirms : pdu.confirmed_sequence_number ≡ wire client.first 0) (body : pdu.body ≡ ConnectionResponse own_opening) where
  not_request : ConnectionResponse own_opening ≡ RetransmissionRequest → ⊥
  not_request e = cc

  not_response : ConnectionResponse own_opening ≡ RetransmissionResponse → ⊥
  not_response e = cc

  response_sent : IsSent (opens_with first pdu) client.first 0 pdu
  response_sent = record {
    number = number;
    some_expected = omega arith;
    expected = omega arith;
    confirms = inl confirms;
    follows = λ two. absurd (omega (arith, two));
    carries = subst (Carries (opens_with first pdu) 0) (sym body) ((refl, refl), refl);
  }

  server_gives : Way (opens_with first pdu) client
  server_gives = record {
    counts = record {
      fits = omega arith;
      some = omega (arith, early.reached);
      most = omega (arith, early.reached);
      all = refl;
      passed = λ number le. omega arith;
    };
    each = λ place that at.
        let one = only_one place that pdu at
        in subst (λ here. IsSent (opens_with first pdu) client.first here that) (sym one.0) (subst (IsSent (opens_with first pdu) client.first 0) one.1 response_sent);
    waits = record { few = omega arith; rises = tt; last = ([], refl) };
    taken = early.taken;
    level = refl;
    ahead = λ reads number from most. refl;
    answers = λ place that at is from. absurd (not_response (sym body ∙ ap (λ (p : Pdu). p.body) (only_one place that pdu at).1 ∙ is));
    askings = λ place that at is from. absurd (early.no_asking place that at is);
  }

  pub client_waits : Waits client
  client_waits = record {
    few = omega (arith, ap length early.waiting);
    rises = subst (Rises 0 (sent client)) (sym early.waiting) tt;
    last = ([], early.given ∙ sym (ap items_of early.waiting));
  }

  client_level : (number : ℕ) → IsLevel client number
  client_level number = omega (arith, early.passed number, ap (later number) early.waiting, ap length early.given)

  pub client_gives : Way client (opens_with first pdu)
  client_gives = record {
    counts = record {
      fits = omega (arith, early.room);
      some = omega arith;
      most = early.some;
      all = early.passed (sent client) ∙ sym (ap length early.given);
      passed = λ number le. omega (arith, early.passed number);
    };
    each = λ place that at. early.each place that at first;
    waits = client_waits;
    taken = sym (ap (λ number. take number client.given) (early.passed 1));
    level = client_level 1;
    ahead = λ reads number from most. client_level number;
    answers = λ place that at is from. absurd (early.no_answer place that at is);
    askings = λ place that at is from. absurd (not_request (sym body ∙ ap (λ (p : Pdu). p.body) (only_one place that pdu at).1 ∙ is));
  }

pub granting_on : (client : EndFlow) → IsEarly client → (link : LinkState) (pdu : Pdu) → is_client link.identity.role ≡ false → 1 ≤ link.clock → IsAt 0 pdu client.flow
    → Grants client (granting pdu own_opening link).link (granting pdu own_opening link).pdus
unfolding granting judging sending meeting beginning header_of pdu_of
granting_on client early link pdu role late at = record {
  part = opens_with (wire link.own_first link.sent) response;
  first = wire_fits link.own_first link.sent;
  flow = refl;
  given = refl;
  taken = refl;
  order = record {
    there = server_gives client early (wire link.own_first link.sent) response refl confirms refl;
    back = client_gives client early (wire link.own_first link.sent) response refl confirms refl;
  };
  plays = joined (record {
    inside = record {
      keeps = record { given = refl; taken = refl; waiting = refl };
      connected = refl;
      own_first = refl;
      counted = omega arith;
      room = omega arith;
      unsaid = short (response ∷ []) refl;
      alone = λ asks. refl;
      reading = refl;
    };
    joined = role;
    partner_first = its_number;
    expected = refl;
    come = record { starting = λ down. (refl, refl); heard = λ up. absurd (cc (up)) };
  });
}
  where
    response : Pdu
    response = pdu_of (header_of (meeting pdu (beginning link))) 0 (ConnectionResponse own_opening)

    its_number : pdu.sequence_number ≡ client.first
    its_number = (early.each 0 pdu at 0).number ∙ wire_0 client.first early.first

    confirms : (header_of (meeting pdu (beginning link))).confirmed_sequence_number ≡ wire client.first 0
    confirms = ap (λ asking. if asking then 0 else wire pdu.sequence_number (before 1)) role ∙ ap (λ first. wire first 0) its_number
