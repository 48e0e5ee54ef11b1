-- What the order of a connection says of asks and answers.
use Rattle.rasta_core_recovery.proofs.Words.Basics.{◌≡◌, ℕ, zero, suc, ◌∙◌, ◌-◌, ◌^◌, ◌<◌, ◌⊎◌, inl, inr, false, List, [], ◌∷◌, Some, Ok, refl, sym, ap, subst, arith, false≢true, same_Some}
use Rattle.rasta_core_recovery.proofs.Words.Links.{Each, wire, is_asking, open_state, Phase, Pdu, Body, RetransmissionResponse, Sent, IsAmong, Names, reading, Ends, EndFlow, IsAt, IsOf, HasJoined, IsInside, reads, InOrder, IsAnswer as IsAnswerIn, IsAsking, IsClosing, IsRequest, IsSent, IsUnanswered, IsSpelledIn}
use Rattle.rasta_core_recovery.proofs.Words.Recovery.{AnswerComes, AreFew, AskComes, IsAnswerTo, IsSaid, IsWaiting, View, of_client, of_partner, of_server, reached_by}
use Rattle.rasta_core_recovery.proofs.Lemmas.Windows.Confirmed.{Both, client_inside, client_joined, reached_is, server_joined, server_reached_is, within}
use Rattle.rasta_core_recovery.proofs.Lemmas.Windows.ConfirmingEvents.{among}
use Rattle.rasta_core_recovery.proofs.Lemmas.Windows.WindowNumbers.{wire_once}

-- Two ends in one connection, in order.
pub record Seen (names : Names) (view : View) : Type 0 where
  pub own : EndFlow
  pub partner : EndFlow
  pub number : ℕ
  pub own_in : view.own.connection ≡ Some number
  pub partner_in : view.partner.connection ≡ Some number
  pub order : InOrder own partner
  pub own_inside : IsInside view.own.link own
  pub partner_inside : IsInside view.partner.link partner
  pub own_joined : is_asking view.own.link ≡ false → HasJoined view.own.link own partner
  pub partner_joined : is_asking view.partner.link ≡ false → HasJoined view.partner.link partner own
  pub own_reached : reached_by view.own.link ≡ own.reached
  pub partner_reached : reached_by view.partner.link ≡ partner.reached
  pub own_flow : Each (IsSpelledIn names view.who number own.flow) view.sent
  pub partner_flow : Each (IsSpelledIn names view.whom number partner.flow) view.sent

abbrev pub turn_seen : (names : Names) (view : View) → Seen names view → Seen names (of_partner view)
turn_seen names view s = record {
  own = s.partner;
  partner = s.own;
  number = s.number;
  own_in = s.partner_in;
  partner_in = s.own_in;
  order = record { there = s.order.back; back = s.order.there };
  own_inside = s.partner_inside;
  partner_inside = s.own_inside;
  own_joined = s.partner_joined;
  partner_joined = s.own_joined;
  own_reached = s.partner_reached;
  partner_reached = s.own_reached;
  own_flow = s.partner_flow;
  partner_flow = s.own_flow;
}

abbrev pub client_sees : (names : Names) (ends : Ends) → Both names ends → Seen names (of_client ends)
client_sees names ends both = record {
  own = both.together.client;
  partner = both.together.server;
  number = both.together.connection;
  own_in = both.together.of_client;
  partner_in = both.together.of_server;
  order = both.together.order;
  own_inside = client_inside names ends both;
  partner_inside = (server_joined names ends both).inside;
  own_joined = client_joined names ends both;
  partner_joined = λ not. server_joined names ends both;
  own_reached = reached_is names ends both;
  partner_reached = server_reached_is names ends both;
  own_flow = both.together.client_flow;
  partner_flow = both.together.server_flow;
}

abbrev pub server_sees : (names : Names) (ends : Ends) → Both names ends → Seen names (of_server ends)
server_sees names ends both = turn_seen names (of_client ends) (client_sees names ends both)

-- ---- PDUs by their numbers

at_once : (place : ℕ) (one other : Pdu) (flow : List Pdu) → IsAt place one flow → IsAt place other flow → one ≡ other
at_once place one other [] at also = absurd at
at_once zero one other (first ∷ flow) at also = sym at ∙ also
at_once (suc place) one other (first ∷ flow) at also = at_once place one other flow at also

waits_by : (at : Phase) → reads (open_state at) ≡ false → at ≡ Phase.RetransmissionRequested
waits_by Phase.Closed e = absurd (false≢true (sym e))
waits_by Phase.Start e = absurd (false≢true (sym e))
waits_by Phase.Up e = absurd (false≢true (sym e))
waits_by Phase.RetransmissionRequested e = refl
waits_by Phase.RetransmissionRunning e = absurd (false≢true (sym e))

module _ (names : Names) (view : View) (seen : Seen names view) where
  pub own_fits : view.own.link.sent < 2 ^ 31
  own_fits = let f = seen.order.there.counts.fits in let c = seen.own_inside.counted in omega (arith, f, c)

  pub partner_fits : view.partner.link.sent < 2 ^ 31
  partner_fits = let f = seen.order.back.counts.fits in let c = seen.partner_inside.counted in omega (arith, f, c)

  -- what the end said stands in its flow, at its number
  pub said_at : (number : ℕ) (pdu : Pdu) → IsSaid names view number pdu → IsAt number pdu seen.own.flow
  said_at number pdu said = subst (λ (n : ℕ). IsAt n pdu seen.own.flow) same of.1
    where
      of : IsOf pdu seen.own.flow
      of = among (IsSpelledIn names view.who seen.number seen.own.flow) said.datagram view.sent said.among seen.own_flow said.sender
          (same_Some said.datagram.connection seen.number (sym said.connection ∙ seen.own_in)) pdu said.read

      made : IsSent seen.own seen.partner.first of.0 pdu
      made = seen.order.there.each of.0 pdu of.1

      same : of.0 ≡ number
      same =
          let lt = within of.0 pdu seen.own.flow of.1 in let fits = seen.order.there.counts.fits in let b = said.below in let f = own_fits
          in wire_once seen.own.first of.0 number (omega (arith, lt, fits)) (omega (arith, b, f))
          (sym made.number ∙ said.numbered ∙ ap (λ (first : ℕ). wire first number) seen.own_inside.own_first)

  -- what it sent in this connection it said under some number
  pub said_of : (datagram : Sent) (pdu : Pdu) → IsAmong datagram view.sent → datagram.sender ≡ view.who → view.own.connection ≡ Some datagram.connection
      → reading names.key datagram.bytes ≡ Ok pdu → (number : ℕ) × IsSaid names view number pdu
  said_of datagram pdu is_among sender connection read = (
    of.0,
    record {
      datagram = datagram;
      among = is_among;
      sender = sender;
      connection = connection;
      read = read;
      numbered = made.number ∙ ap (λ (first : ℕ). wire first of.0) (sym seen.own_inside.own_first);
      below = let lt = within of.0 pdu seen.own.flow of.1 in let c = seen.own_inside.counted in omega (arith, lt, c);
    },
  )
    where
      of : IsOf pdu seen.own.flow
      of = among (IsSpelledIn names view.who seen.number seen.own.flow) datagram view.sent is_among seen.own_flow sender
          (same_Some datagram.connection seen.number (sym connection ∙ seen.own_in)) pdu read

      made : IsSent seen.own seen.partner.first of.0 pdu
      made = seen.order.there.each of.0 pdu of.1

  pub said_once : (number : ℕ) (one other : Pdu) → IsSaid names view number one → IsSaid names view number other → one ≡ other
  said_once number one other said also = at_once number one other seen.own.flow (said_at number one said) (said_at number other also)

  pub own_waits : seen.own.reading ≡ false → IsWaiting view.own.link
  own_waits e = waits_by view.own.link.phase (sym seen.own_inside.reading ∙ e)

  pub reads_not : IsWaiting view.own.link → seen.own.reading ≡ false
  reads_not e = seen.own_inside.reading ∙ ap (λ (at : Phase). reads (open_state at)) e

module _ (names : Names) (view : View) (seen : Seen names view) where
  -- an ask that still comes
  asking_is : (number : ℕ) → AskComes names view number → IsAsking seen.partner seen.own number
  asking_is number comes = seen.order.back.askings number comes.ask.pdu (said_at names view seen number comes.ask.pdu comes.ask.said) comes.ask.asks
      (let r = seen.partner_reached in let a = comes.ahead in omega (arith, r, a))

  answer_is : (number : ℕ) → AnswerComes names view number → IsAnswerIn seen.partner seen.own.reached seen.own.reading number
  answer_is number comes = seen.order.back.answers number comes.answer.pdu (said_at names (of_partner view) (turn_seen names view seen) number comes.answer.pdu comes.answer.said) comes.answer.answers
      (let r = seen.own_reached in let a = comes.ahead in omega (arith, r, a))

  pub are_few : AreFew names view
  are_few = record {
    ask_waits = λ number comes. own_waits names view seen (asking_is number comes).waiting;
    answer_waits = λ number comes. own_waits names view seen (answer_is number comes).waited_for;
    one_ask = λ one other comes also. (asking_is other also).only one comes.ask.pdu (said_at names view seen one comes.ask.pdu comes.ask.said) comes.ask.asks
        (let r = seen.partner_reached in let a = comes.ahead in omega (arith, r, a));
    one_answer = λ one other comes also.
        (answer_is other also).only one comes.answer.pdu (said_at names (of_partner view) (turn_seen names view seen) one comes.answer.pdu comes.answer.said) comes.answer.answers
        (let r = seen.own_reached in let a = comes.ahead in omega (arith, r, a));
    not_both = λ asked answered comes also. let before = (asking_is asked comes).unanswered answered also.answer.pdu
        (said_at names (of_partner view) (turn_seen names view seen) answered also.answer.pdu also.answer.said) also.answer.answers in
        let r = seen.own_reached in let a = also.ahead in omega (arith, before, r, a);
  }

  answer_opens : (body : Body) → body ≡ RetransmissionResponse → (place : ℕ) (flow : List Pdu) → IsUnanswered flow place body → ⊥
  answer_opens body is place flow (inl request) = subst IsRequest is request
  answer_opens body is place flow (inr closing) = subst IsClosing is closing.1

  -- an end had passed the ask that it answered
  pub passed_it : (asked number : ℕ) → IsAnswerTo names view asked number → asked < reached_by view.own.link
  passed_it asked number to = choose made.confirms
    where
      made : IsSent seen.own seen.partner.first number to.answer.pdu
      made = seen.order.there.each number to.answer.pdu (said_at names view seen number to.answer.pdu to.answer.said)

      choose : (to.answer.pdu.confirmed_sequence_number ≡ wire seen.partner.first (seen.own.expecting number - 1)) ⊎ IsUnanswered seen.own.flow number to.answer.pdu.body → asked < reached_by view.own.link
      choose (inr none) = absurd (answer_opens to.answer.pdu.body to.answer.answers number seen.own.flow none)
      choose (inl e) =
          let some = made.some_expected in let most = made.expected in let r = seen.own_reached in let m = seen.order.back.counts.most in let f = seen.order.back.counts.fits
          in let below = to.ask.said.below in let fits = partner_fits names view seen
          in let same = wire_once seen.partner.first (seen.own.expecting number - 1) asked (omega (arith, most, m, f)) (omega (arith, below, fits))
          (sym e ∙ to.confirms ∙ ap (λ (first : ℕ). wire first asked) seen.partner_inside.own_first)
          in omega (arith, same, some, most, r)
