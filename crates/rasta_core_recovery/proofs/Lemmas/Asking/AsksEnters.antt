-- A server enters the connection of a client that asks for it: neither has asked for a retransmission there, or answered one.
use Rattle.rasta_core_recovery.proofs.Words.Basics.{◌≡◌, ℕ, ◌∙◌, ◌<◌, ◌⊎◌, inl, inr, Bool, true, false, ◌==◌, List, [], ◌∷◌, ◌++◌, Option, Some, Result, Ok, Err, if◌then◌else◌, refl, sym, ap, subst, arith, nat_eq, pointwise, false≢true, none-some, same_Some}
use Rattle.rasta_core_recovery.proofs.Words.Links.{own_version, window_size, LinkState, is_asking, is_open, beginning, granting, judging, meeting, own_opening, Step, pdu_of, sending, telling, Receipt, hearing, hearing_bytes, receiving, spellings, Identity, Role, Key, Phase, Reason, Pdu, PduFault, Body, ConnectionResponse, RetransmissionResponse, Opening, reading, IsPdu, Each, Receives, Sent, end_after, handed_out, outcome, reading_of, IsAmong, IsDelivered, MayCall, AreNames, Names, Ends, IsOf, HearsOutside, PlaysEarly, asks as early_asks, gone, grants, refuses, InFlight, Timely, IsResponse, IsAlone, IsSpelledIn, Ordered, alone, together, unbegun, Times, times_of, IsKnown}
use Rattle.rasta_core_recovery.proofs.Words.Recovery.{AskInTurn, IsAnswer, IsAsk, IsSaid, IsWaiting, of_client, of_server, AreIn, LawsBelow}
use Rattle.rasta_core_recovery.proofs.Lemmas.Asking.AsksCalls.{start_never}
use Rattle.rasta_core_recovery.proofs.Lemmas.Asking.AsksSaid.{among_both}
use Rattle.rasta_core_recovery.proofs.Lemmas.Asking.AsksSeen.{are_few, client_sees, passed_it, said_once, server_sees}
use Rattle.rasta_core_recovery.proofs.Lemmas.Windows.Confirmed.{Both}
use Rattle.rasta_core_recovery.proofs.Lemmas.Windows.ConfirmingEvents.{among, connection_then, delivered_is, entered_both, entered_one, enters_by, server_new}
use Rattle.rasta_core_recovery.proofs.Lemmas.Rounds.Bridge.{reads_as}

-- ---- what a server says as it enters

-- it begins, and says the response alone
record Begins (k : LinkState) (ps : List Pdu) : Type 0 where
  starts : k.phase ≡ Phase.Start
  says : Each (λ (p : Pdu). IsResponse p.body) ps

granting_begins : (p : Pdu) (o : Opening) (l : LinkState) → is_open (granting p o l).link.phase ≡ true → Begins (granting p o l).link (granting p o l).pdus
unfolding granting judging meeting beginning sending telling pdu_of
granting_begins p o l = choose (pointwise nat_eq o.version own_version) (o.window == window_size)
  where
    met : LinkState
    met = meeting p (beginning l)

    choose : (a b : Bool) → let s = (if a then (if b then sending (ConnectionResponse own_opening) met else telling Reason.Window met) else telling Reason.Version met) in
        is_open s.link.phase ≡ true → Begins s.link s.pdus
    choose true true = λ o. record { starts = refl; says = (tt, tt) }
    choose true false = λ o. absurd (false≢true o)
    choose false b = λ o. absurd (false≢true o)

outside_begins : LawsBelow → (now : ℕ) (bytes : List ℕ) (l : LinkState) → is_open l.phase ≡ false → is_open (receiving now bytes l).link.phase ≡ true → Begins (receiving now bytes l).link (receiving now bytes l).pdus
unfolding receiving hearing_bytes
outside_begins laws now bytes l shut =
    subst (λ (s : Step). is_open (hearing_bytes (reading l.identity.key bytes) s.link).link.phase ≡ true
    → Begins (hearing_bytes (reading l.identity.key bytes) s.link).link (s.pdus ++ (hearing_bytes (reading l.identity.key bytes) s.link).pdus))
    (sym (laws.connection_begins_entering now l shut)) (takes (reading l.identity.key bytes))
  where
    at : LinkState
    at = record l { clock = now }

    by_outside : (p : Pdu) → HearsOutside p at (hearing p at) → is_open (hearing p at).link.phase ≡ true → Begins (hearing p at).link (hearing p at).pdus
    by_outside p (refuses why not same) opened = absurd (false≢true (sym shut ∙ ap (λ (r : Receipt). is_open r.link.phase) (sym same) ∙ opened))
    by_outside p (grants o server body down late same) opened = subst (λ (r : Receipt). Begins r.link r.pdus) (sym same)
        (granting_begins p o at (ap (λ (r : Receipt). is_open r.link.phase) (sym same) ∙ opened))

    takes : (what : Result Pdu PduFault) → is_open (hearing_bytes what at).link.phase ≡ true → Begins (hearing_bytes what at).link (hearing_bytes what at).pdus
    takes (Err fault) opened = absurd (false≢true (sym shut ∙ opened))
    takes (Ok p) opened = by_outside p (laws.connection_begins_hearing p at shut) opened

-- what these datagrams spell
each_spelled : LawsBelow → (names : Names) (P : Pdu → Type 0) (who : Role) (time : ℕ) (connection : Option ℕ) (ps : List Pdu) → Each IsPdu ps → Each P ps
    → Each (λ (d : Sent). (d.sender ≡ who) × ((pdu : Pdu) → reading names.key d.bytes ≡ Ok pdu → P pdu)) (handed_out time who connection (spellings names.key ps))
each_spelled laws names P who time connection [] are each = tt
each_spelled laws names P who time connection (p ∷ ps) are each = ((refl, λ pdu read. subst P (reads_as laws names.key p pdu are.0 read) each.0), each_spelled laws names P who time connection ps are.1 each.1)

response_answers : (body : Body) → IsResponse body → body ≡ RetransmissionResponse → ⊥
response_answers body is e = subst IsResponse e is

module _ (laws : LawsBelow) (names : Names) (are : AreNames names) (ends : Ends) (timely : Timely names ends) (ordered : Ordered names ends) (bytes : List ℕ) (connection : ℕ) (may : MayCall names Role.Server (Receives bytes connection) ends)
    (in_new : AreIn (server_new laws names are 0 ends timely ordered (Receives bytes connection) may)) (shut : is_open ends.server.link.phase ≡ false) where
  abbrev new : Ends
  new = server_new laws names are 0 ends timely ordered (Receives bytes connection) may

  abbrev more : List Sent
  more = handed_out ends.time Role.Server new.server.connection (spellings ends.server.link.identity.key (outcome (Receives bytes connection) ends.moment ends.server).pdus)

  both : Both names new
  both = entered_both laws names are 0 ends timely ordered bytes connection may in_new.server shut in_new

  abbrev delivered : (datagram : Sent) × IsDelivered ends bytes connection datagram
  delivered = delivered_is laws names are 0 ends timely ordered bytes connection may in_new.server shut

  then_connection : new.server.connection ≡ Some delivered.0.connection
  then_connection = connection_then laws names are 0 ends timely ordered bytes connection may in_new.server shut

  one : new.server.connection ≡ ends.client.connection
  one = entered_one laws names are 0 ends timely ordered bytes connection may in_new.server shut in_new

  -- the server wasn't in it
  not_there : (was : ℕ) → ends.server.connection ≡ Some was → ends.client.connection ≡ Some was → ⊥
  not_there was of_server_then of_client_then = over ((enters_by laws names are 0 ends timely ordered bytes connection may in_new.server shut).is_new was of_server_then)
    where
      same : delivered.0.connection ≡ was
      same = same_Some delivered.0.connection was (sym then_connection ∙ one ∙ of_client_then)

      over : was < delivered.0.connection → ⊥
      over lt = omega (arith, lt, same)

  -- so the client is alone there
  is_alone : IsAlone names ends
  is_alone = by ordered
    where
      by : Ordered names ends → IsAlone names ends
      by (unbegun none) = absurd (none-some delivered.0.connection (sym none ∙ sym one ∙ then_connection))
      by (alone is) = is
      by (together t) = absurd (not_there t.connection t.of_server t.of_client)

  begins : Begins new.server.link (outcome (Receives bytes connection) ends.moment ends.server).pdus
  unfolding outcome end_after
  begins = outside_begins laws (reading_of ends.server.clock) bytes ends.server.link shut in_new.server

  handed_as : Each (λ (d : Sent). (d.sender ≡ Role.Server) × ((pdu : Pdu) → reading names.key d.bytes ≡ Ok pdu → IsResponse pdu.body)) more
  handed_as = subst (λ (key : Key). Each (λ (d : Sent). (d.sender ≡ Role.Server) × ((pdu : Pdu) → reading names.key d.bytes ≡ Ok pdu → IsResponse pdu.body))
      (handed_out ends.time Role.Server new.server.connection (spellings key (outcome (Receives bytes connection) ends.moment ends.server).pdus)))
      (sym (ap (λ (i : Identity). i.key) timely.server.identity))
      (each_spelled laws names (λ (p : Pdu). IsResponse p.body) Role.Server ends.time new.server.connection (outcome (Receives bytes connection) ends.moment ends.server).pdus
      (laws.calls_hand_out_pdus names ends Role.Server (Receives bytes connection) timely may) begins.says)

  -- ---- the server has said its response alone

  server_says : (n : ℕ) (p : Pdu) → IsSaid names (of_server new) n p → IsResponse p.body
  server_says n p said = choose (among_both said.datagram ends.sent more said.among)
    where
      choose : IsAmong said.datagram ends.sent ⊎ IsAmong said.datagram more → IsResponse p.body
      choose (inr back) = (among (λ (d : Sent). (d.sender ≡ Role.Server) × ((pdu : Pdu) → reading names.key d.bytes ≡ Ok pdu → IsResponse pdu.body)) said.datagram more back handed_as).1 p said.read
      choose (inl front) = absurd (not_there timely.newest (known.entered newest tt) begun)
        where
          times : Times
          times = times_of ends timely.of_client timely.of_server timely.newest

          flies : InFlight names times said.datagram
          flies = among (InFlight names times) said.datagram ends.sent front timely.datagrams

          known : IsKnown times Role.Server said.datagram.at said.datagram.connection flies.pdu flies.back
          known = subst (λ (r : Role). IsKnown times r said.datagram.at said.datagram.connection flies.pdu flies.back) said.sender flies.known

          begun : ends.client.connection ≡ Some timely.newest
          begun = known.begun

          newest : said.datagram.connection ≡ timely.newest
          newest = same_Some said.datagram.connection timely.newest (sym said.connection ∙ one ∙ begun)

  -- ---- and the client its request

  client_of : (n : ℕ) (p : Pdu) → IsSaid names (of_client new) n p → IsOf p is_alone.client.flow
  client_of n p said = choose (among_both said.datagram ends.sent more said.among)
    where
      not_server : Role.Client ≡ Role.Server → ⊥
      not_server e = cc e

      choose : IsAmong said.datagram ends.sent ⊎ IsAmong said.datagram more → IsOf p is_alone.client.flow
      choose (inl front) = among (IsSpelledIn names Role.Client is_alone.connection is_alone.client.flow) said.datagram ends.sent front is_alone.flow said.sender
          (same_Some said.datagram.connection is_alone.connection (sym said.connection ∙ is_alone.of_client)) p said.read
      choose (inr back) = absurd (not_server (sym said.sender
          ∙ (among (λ (d : Sent). (d.sender ≡ Role.Server) × ((pdu : Pdu) → reading names.key d.bytes ≡ Ok pdu → IsResponse pdu.body)) said.datagram more back handed_as).0))

  client_asks : (n : ℕ) → IsAsk names (of_client new) n → ⊥
  client_asks n a = let of = client_of n a.pdu a.said in is_alone.early.no_asking of.0 a.pdu of.1 a.asks

  client_answers : (n : ℕ) → IsAnswer names (of_client new) n → ⊥
  client_answers n a = let of = client_of n a.pdu a.said in is_alone.early.no_answer of.0 a.pdu of.1 a.answers

  server_answers : (n : ℕ) → IsAnswer names (of_server new) n → ⊥
  server_answers n a = response_answers a.pdu.body (server_says n a.pdu a.said) a.answers

  server_waits : IsWaiting new.server.link → ⊥
  server_waits waits = apart (sym begins.starts ∙ waits)
    where
      apart : Phase.Start ≡ Phase.RetransmissionRequested → ⊥
      apart e = cc e

  pub asks_to_enter : is_asking ends.client.link ≡ true
  asks_to_enter = by is_alone.plays
    where
      by : PlaysEarly ends.client.link is_alone.client → is_asking ends.client.link ≡ true
      by (early_asks inside asking) = asking
      by (gone out keeps) = absurd (false≢true (sym out ∙ in_new.client))

  client_waits : IsWaiting ends.client.link → ⊥
  client_waits = start_never ends.client.link asks_to_enter

  pub asks_enter : AskInTurn names new
  asks_enter = record {
    client = record {
      few = are_few names (of_client new) (client_sees names new both);
      asked = λ waits. absurd (client_waits waits);
      answers = λ n a. absurd (client_answers n a);
      passed = passed_it names (of_client new) (client_sees names new both);
      once = said_once names (of_client new) (client_sees names new both);
    };
    server = record {
      few = are_few names (of_server new) (server_sees names new both);
      asked = λ waits. absurd (server_waits waits);
      answers = λ n a. absurd (server_answers n a);
      passed = passed_it names (of_server new) (server_sees names new both);
      once = said_once names (of_server new) (server_sees names new both);
    };
    apart = λ asked answered partner_asked partner_answered x y. absurd (client_answers answered x.answer);
  }
