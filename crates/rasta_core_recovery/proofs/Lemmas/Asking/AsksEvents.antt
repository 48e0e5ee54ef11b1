-- Two ends ask in turn, event by event.
use Rattle.rasta_core_recovery.proofs.Words.Basics.{◌≡◌, ℕ, ◌∙◌, ◌+◌, ◌≤◌, ◌<◌, ◌⊎◌, inl, inr, Bool, true, false, ◌==◌, List, [], ◌∷◌, Option, Some, None, if◌then◌else◌, refl, sym, ap, subst, arith, false≢true}
use Rattle.rasta_core_recovery.proofs.Words.Links.{wire, LinkState, is_asking, is_client, is_open, is_copy, without_oldest, created, spellings, Identity, Role, Key, Pdu, reading, Each, Call, Closes, EndState, Opens, Receives, Sends, Sent, Ticks, end_after, end_later, end_restarted, handed_out, newer, outcome, reading_of, Calls, Elsewhere, Event, IsAmong, Loses, May, MayCall, MayRun, Passes as TimePasses, Restarts, Start, happened, run, started, AreNames, Names, Ends, called, later, lost, restarted, IsPdu, Timely, Ordered}
use Rattle.rasta_core_recovery.proofs.Words.Recovery.{AnswerComes, AskInTurn, AsksInTurn, DontCross, EndsAskInTurn, HasAsked, IsAnswer, IsAnswerTo, IsAsk, IsSaid, View, of_client, of_partner, of_server, AreIn, reached_by, LawsBelow}
use Rattle.rasta_core_recovery.proofs.Lemmas.Asking.AsksCalls.{Acts, MaySpeakIn, acts_by, asking_acts_by}
use Rattle.rasta_core_recovery.proofs.Lemmas.Asking.AsksEnters.{asks_enter}
use Rattle.rasta_core_recovery.proofs.Lemmas.Asking.AsksGoes.{goes}
use Rattle.rasta_core_recovery.proofs.Lemmas.Asking.AsksSaid.{Brought, Called, IsHanded, IsPosted, first_posted, handed_row}
use Rattle.rasta_core_recovery.proofs.Lemmas.Asking.AsksSeen.{Seen, are_few, client_sees, passed_it, said_of, said_once, server_sees}
use Rattle.rasta_core_recovery.proofs.Lemmas.Windows.Confirmed.{Both, never_asks}
use Rattle.rasta_core_recovery.proofs.Lemmas.Windows.ConfirmingEvents.{CameBy, Found, asks_by, both_new, both_of, both_old, client_both_new, client_both_old, client_is, client_new, client_was_in, connection_is, enters_none, found_by, opens_not, server_enters_none, server_new, settled_open, settled_so, stays_outside, then_is}
use Rattle.rasta_core_recovery.proofs.Lemmas.Falling.FallsEvents.{client_past, not_client, not_server}
use Rattle.rasta_core_recovery.proofs.Lemmas.Windows.StaysIn.{Asks, IsSettledAt, joins as joins_then, still}

-- ---- a call

pub all_mine : (who : Role) (time : ℕ) (connection : Option ℕ) (bs : List (List ℕ)) → Each (λ (d : Sent). d.sender ≡ who) (handed_out time who connection bs)
all_mine who time connection [] = tt
all_mine who time connection (b ∷ bs) = (refl, all_mine who time connection bs)

pub swap_cross : (names : Names) (view : View) → DontCross names view → DontCross names (of_partner view)
swap_cross names view cross asked answered partner_asked partner_answered x y = choose (cross partner_asked partner_answered asked answered y x)
  where
    choose : (answered < partner_asked) ⊎ (partner_answered < asked) → (partner_answered < asked) ⊎ (answered < partner_asked)
    choose (inl e) = inr e
    choose (inr e) = inl e

module _ (laws : LawsBelow) (names : Names) (are : AreNames names) (ends : Ends) (timely : Timely names ends) (ordered : Ordered names ends) where
  -- of the server, in its connection
  module _ (call : Call) (may : MayCall names Role.Server call ends) (in_new : AreIn (server_new laws names are 0 ends timely ordered call may)) (was_in : is_open ends.server.link.phase ≡ true)
      (before : EndsAskInTurn names ends) where
    pub was : AskInTurn names ends
    was = before (record { client = in_new.client; server = was_in })

    pub old : Both names ends
    old = both_old laws names are 0 ends timely ordered call may in_new was_in

    pub new : Both names (server_new laws names are 0 ends timely ordered call may)
    new = both_new laws names are 0 ends timely ordered call may in_new was_in

    pub key_is : ends.server.link.identity.key ≡ names.key
    key_is = ap (λ (i : Identity). i.key) timely.server.identity

    abbrev pub server_end : EndState
    server_end = then_is laws names are 0 ends timely ordered call may

    pub pdus_are : Each IsPdu (outcome call ends.moment ends.server).pdus
    pdus_are = laws.calls_hand_out_pdus names ends Role.Server call timely may

    pub same_connection : server_end.connection ≡ ends.server.connection
    same_connection = connection_is laws names are 0 ends timely ordered call may in_new was_in

    pub acts : Acts (CameBy ends.server.link call) (MaySpeakIn call ends.server.link) ends.server.link server_end.link (outcome call ends.moment ends.server).pdus
    unfolding end_after
    acts = acts_by call ends.moment ends.server was_in (settled_so laws names ends Role.Server timely was_in) (never_asks ends.server.link (ap (λ (i : Identity). is_client i.role) timely.server.identity))
        (server_enters_none laws names ends timely was_in call) in_new.server

    pub brought : (c : Call) → c ≡ call → (p : Pdu) → CameBy ends.server.link c p → (p.receiver == ends.server.link.identity.own) ≡ true → (p.sender == ends.server.link.identity.partner) ≡ true
        → Brought names (of_server ends) p
    brought Ticks e p came receiver sender = absurd came
    brought Opens e p came receiver sender = absurd came
    brought (Closes why) e p came receiver sender = absurd came
    brought (Sends item) e p came receiver sender = absurd came
    brought (Receives bytes connection) e p came receiver sender = record { place = found.0; said = found.1 }
      where
        f : Found names Role.Server ends bytes connection p
        f = found_by laws names are Role.Server ends timely bytes connection (subst (λ (c : Call). MayCall names Role.Server c ends) (sym e) may) p came receiver sender

        found : (n : ℕ) × IsSaid names (of_client ends) n p
        found = said_of names (of_client ends) (client_sees names ends old) f.datagram p f.delivered.was_sent f.sender
            (sym (laws.one_connection_inside names ends timely in_new.client was_in) ∙ laws.own_connection_inside names ends Role.Server bytes connection f.datagram timely f.delivered was_in) f.read

    abbrev pub server_more : List Sent
    server_more = handed_out ends.time Role.Server server_end.connection (spellings ends.server.link.identity.key (outcome call ends.moment ends.server).pdus)

    abbrev pub server_called : Called names
    server_called = record {
      view = of_server ends;
      end = server_end;
      more = server_more;
      Came = CameBy ends.server.link call;
      MaySpeak = MaySpeakIn call ends.server.link;
      ps = (outcome call ends.moment ends.server).pdus;
      apart = not_client;
      connection = same_connection;
      mine = all_mine Role.Server ends.time server_end.connection (spellings ends.server.link.identity.key (outcome call ends.moment ends.server).pdus);
      hands = λ F row. subst (λ (key : Key). Each (IsHanded names Role.Server F ends.server.link.sent server_end.link.sent)
          (handed_out ends.time Role.Server server_end.connection (spellings key (outcome call ends.moment ends.server).pdus))) (sym key_is)
          (handed_row laws names Role.Server F ends.time server_end.connection ends.server.link.sent server_end.link.sent ends.server.link.sent (omega arith)
          (outcome call ends.moment ends.server).pdus pdus_are row);
      posts = λ p rest are_so. subst (λ (key : Key). IsPosted names Role.Server server_end.connection
          (handed_out ends.time Role.Server server_end.connection (spellings key (outcome call ends.moment ends.server).pdus)) p) (sym key_is)
          (first_posted laws names Role.Server ends.time old.together.connection server_end.connection (same_connection ∙ old.together.of_server)
          (outcome call ends.moment ends.server).pdus pdus_are p rest are_so);
      seen = server_sees names ends old;
      then_seen = server_sees names (server_new laws names are 0 ends timely ordered call may) new;
      acts = acts;
      find = brought call refl;
      was = record { own = was.server; partner = was.client; cross = swap_cross names (of_client ends) was.apart };
    }

    server_goes : AskInTurn names (server_new laws names are 0 ends timely ordered call may)
    server_goes = let all = goes names server_called in record { client = all.partner; server = all.own; apart = swap_cross names (of_server (server_new laws names are 0 ends timely ordered call may)) all.cross }

  -- of the client
  module _ (call : Call) (may : MayCall names Role.Client call ends) (in_new : AreIn (client_new laws names are 0 ends timely ordered call may)) (before : EndsAskInTurn names ends) where
    client_in : is_open ends.client.link.phase ≡ true
    client_in = client_was_in laws names are 0 ends timely ordered call may in_new

    pub client_was : AskInTurn names ends
    client_was = before (record { client = client_in; server = in_new.server })

    pub client_old : Both names ends
    client_old = client_both_old laws names are 0 ends timely ordered call may in_new

    pub client_then : Both names (client_new laws names are 0 ends timely ordered call may)
    client_then = client_both_new laws names are 0 ends timely ordered call may in_new

    pub client_key : ends.client.link.identity.key ≡ names.key
    client_key = ap (λ (i : Identity). i.key) timely.client.identity

    abbrev pub client_end : EndState
    client_end = client_is laws names are 0 ends timely ordered call may

    client_none : (outcome call ends.moment ends.client).enters ≡ None
    client_none = enters_none laws names are 0 ends timely ordered call may in_new

    pub client_pdus : Each IsPdu (outcome call ends.moment ends.client).pdus
    client_pdus = laws.calls_hand_out_pdus names ends Role.Client call timely may

    pub client_connection : client_end.connection ≡ ends.client.connection
    unfolding end_after
    client_connection = ap (λ (e : Option ℕ). newer e ends.client.connection) client_none

    pub client_acts : Acts (CameBy ends.client.link call) (MaySpeakIn call ends.client.link) ends.client.link client_end.link (outcome call ends.moment ends.client).pdus
    unfolding end_after
    client_acts = choose (is_asking ends.client.link) refl
      where
        settled_at : IsSettledAt (reading_of ends.client.clock) ends.client.link
        settled_at = settled_so laws names ends Role.Client timely client_in

        first_stays : Asks ends.client.link (outcome call ends.moment ends.client).link (outcome call ends.moment ends.client).given (outcome call ends.moment ends.client).taken
            → (outcome call ends.moment ends.client).link.own_first ≡ ends.client.link.own_first
        first_stays (still a own n w g h) = own
        first_stays (joins_then a e own n w g h) = own

        choose : (b : Bool) → is_asking ends.client.link ≡ b
            → Acts (CameBy ends.client.link call) (MaySpeakIn call ends.client.link) ends.client.link (outcome call ends.moment ends.client).link (outcome call ends.moment ends.client).pdus
        choose true e = asking_acts_by call ends.moment ends.client client_in settled_at (client_past names ends timely client_in) e client_none in_new.client
            (first_stays (asks_by call ends.moment ends.client client_in settled_at e client_none in_new.client))
        choose false e = acts_by call ends.moment ends.client client_in settled_at e client_none in_new.client

    pub client_brought : (c : Call) → c ≡ call → (p : Pdu) → CameBy ends.client.link c p → (p.receiver == ends.client.link.identity.own) ≡ true → (p.sender == ends.client.link.identity.partner) ≡ true
        → Brought names (of_client ends) p
    client_brought Ticks e p came receiver sender = absurd came
    client_brought Opens e p came receiver sender = absurd came
    client_brought (Closes why) e p came receiver sender = absurd came
    client_brought (Sends item) e p came receiver sender = absurd came
    client_brought (Receives bytes connection) e p came receiver sender = record { place = found.0; said = found.1 }
      where
        f : Found names Role.Client ends bytes connection p
        f = found_by laws names are Role.Client ends timely bytes connection (subst (λ (c : Call). MayCall names Role.Client c ends) (sym e) may) p came receiver sender

        found : (n : ℕ) × IsSaid names (of_server ends) n p
        found = said_of names (of_server ends) (server_sees names ends client_old) f.datagram p f.delivered.was_sent f.sender
            (laws.one_connection_inside names ends timely client_in in_new.server ∙ laws.own_connection_inside names ends Role.Client bytes connection f.datagram timely f.delivered client_in) f.read

    abbrev pub client_more : List Sent
    client_more = handed_out ends.time Role.Client client_end.connection (spellings ends.client.link.identity.key (outcome call ends.moment ends.client).pdus)

    abbrev pub client_called : Called names
    client_called = record {
      view = of_client ends;
      end = client_end;
      more = client_more;
      Came = CameBy ends.client.link call;
      MaySpeak = MaySpeakIn call ends.client.link;
      ps = (outcome call ends.moment ends.client).pdus;
      apart = not_server;
      connection = client_connection;
      mine = all_mine Role.Client ends.time client_end.connection (spellings ends.client.link.identity.key (outcome call ends.moment ends.client).pdus);
      hands = λ F row. subst (λ (key : Key). Each (IsHanded names Role.Client F ends.client.link.sent client_end.link.sent)
          (handed_out ends.time Role.Client client_end.connection (spellings key (outcome call ends.moment ends.client).pdus))) (sym client_key)
          (handed_row laws names Role.Client F ends.time client_end.connection ends.client.link.sent client_end.link.sent ends.client.link.sent (omega arith)
          (outcome call ends.moment ends.client).pdus client_pdus row);
      posts = λ p rest are_so. subst (λ (key : Key). IsPosted names Role.Client client_end.connection
          (handed_out ends.time Role.Client client_end.connection (spellings key (outcome call ends.moment ends.client).pdus)) p) (sym client_key)
          (first_posted laws names Role.Client ends.time client_old.together.connection client_end.connection (client_connection ∙ client_old.together.of_client)
          (outcome call ends.moment ends.client).pdus client_pdus p rest are_so);
      seen = client_sees names ends client_old;
      then_seen = client_sees names (client_new laws names are 0 ends timely ordered call may) client_then;
      acts = client_acts;
      find = client_brought call refl;
      was = record { own = client_was.client; partner = client_was.server; cross = client_was.apart };
    }

    client_goes : AskInTurn names (client_new laws names are 0 ends timely ordered call may)
    client_goes = let all = goes names client_called in record { client = all.own; server = all.partner; apart = all.cross }

  outside_asks : (call : Call) (may : MayCall names Role.Server call ends) → AreIn (server_new laws names are 0 ends timely ordered call may) → is_open ends.server.link.phase ≡ false
      → AskInTurn names (server_new laws names are 0 ends timely ordered call may)
  unfolding outcome
  outside_asks Ticks may in_new shut = absurd (stays_outside laws Ticks ends.moment ends.server shut refl in_new.server)
  outside_asks Opens may in_new shut = absurd (opens_not laws names are 0 ends timely ordered may in_new shut)
  outside_asks (Closes why) may in_new shut = absurd (stays_outside laws (Closes why) ends.moment ends.server shut refl in_new.server)
  outside_asks (Sends item) may in_new shut = absurd (stays_outside laws (Sends item) ends.moment ends.server shut refl in_new.server)
  outside_asks (Receives bytes connection) may in_new shut = asks_enter laws names are ends timely ordered bytes connection may in_new shut

  server_asks : (call : Call) → MayCall names Role.Server call ends → EndsAskInTurn names ends → EndsAskInTurn names (called Role.Server call ends)
  unfolding called
  server_asks call may before in_new = choose (is_open ends.server.link.phase) refl
    where
      choose : (b : Bool) → is_open ends.server.link.phase ≡ b → AskInTurn names (server_new laws names are 0 ends timely ordered call may)
      choose true e = server_goes call may in_new e before
      choose false e = outside_asks call may in_new e

  client_asks : (call : Call) → MayCall names Role.Client call ends → EndsAskInTurn names ends → EndsAskInTurn names (called Role.Client call ends)
  unfolding called
  client_asks call may before in_new = client_goes call may in_new before

-- ---- nothing is said, nor passed

-- an end that its partner doesn't tell from another
record IsSame (one other : EndState) : Type 0 where
  own_first : other.link.own_first ≡ one.link.own_first
  sent : other.link.sent ≡ one.link.sent
  reached : reached_by other.link ≡ reached_by one.link
  at : other.link.phase ≡ one.link.phase
  connection : other.connection ≡ one.connection

turn_same : (one other : EndState) → IsSame one other → IsSame other one
turn_same one other s = record { own_first = sym s.own_first; sent = sym s.sent; reached = sym s.reached; at = sym s.at; connection = sym s.connection }

-- a datagram of these bytes, of this sender and this connection
record IsLike (list : List Sent) (d : Sent) : Type 0 where
  datagram : Sent
  among : IsAmong datagram list
  bytes : datagram.bytes ≡ d.bytes
  sender : datagram.sender ≡ d.sender
  connection : datagram.connection ≡ d.connection

abbrev HasAll : List Sent → List Sent → Type 0
HasAll one other = (d : Sent) → IsAmong d one → IsLike other d

like_it : (list : List Sent) (d : Sent) → IsAmong d list → IsLike list d
like_it list d is = record { datagram = d; among = is; bytes = refl; sender = refl; connection = refl }

-- two ends as one of them sees them, at two moments
record AreSame (one other : View) : Type 0 where
  who : other.who ≡ one.who
  whom : other.whom ≡ one.whom
  own : IsSame one.own other.own
  partner : IsSame one.partner other.partner
  there : HasAll one.sent other.sent
  back : HasAll other.sent one.sent

turn_views : (one other : View) → AreSame one other → AreSame other one
turn_views one other s = record {
  who = sym s.who;
  whom = sym s.whom;
  own = turn_same one.own other.own s.own;
  partner = turn_same one.partner other.partner s.partner;
  there = s.back;
  back = s.there;
}

partners_same : (one other : View) → AreSame one other → AreSame (of_partner one) (of_partner other)
partners_same one other s = record { who = s.whom; whom = s.who; own = s.partner; partner = s.own; there = s.there; back = s.back }

module _ (names : Names) (one other : View) (same : AreSame one other) where
  said_same : (n : ℕ) (p : Pdu) → IsSaid names one n p → IsSaid names other n p
  said_same n p s = record {
    datagram = like.datagram;
    among = like.among;
    sender = like.sender ∙ s.sender ∙ sym same.who;
    connection = same.own.connection ∙ s.connection ∙ ap (λ (c : ℕ). Some c) (sym like.connection);
    read = ap (λ (b : List ℕ). reading names.key b) like.bytes ∙ s.read;
    numbered = s.numbered ∙ ap (λ (f : ℕ). wire f n) (sym same.own.own_first);
    below = let b = s.below in let e = same.own.sent in omega (arith, b, e);
  }
    where
      like : IsLike other.sent s.datagram
      like = same.there s.datagram s.among

  ask_same : (n : ℕ) → IsAsk names one n → IsAsk names other n
  ask_same n a = record { pdu = a.pdu; said = said_same n a.pdu a.said; asks = a.asks }

  answer_same : (n : ℕ) → IsAnswer names one n → IsAnswer names other n
  answer_same n a = record { pdu = a.pdu; said = said_same n a.pdu a.said; answers = a.answers }

module _ (names : Names) (one other : View) (same : AreSame one other) where
  to_same : (asked n : ℕ) → IsAnswerTo names one asked n → IsAnswerTo names other asked n
  to_same asked n to = record {
    answer = record { pdu = to.answer.pdu; said = said_same names one other same n to.answer.pdu to.answer.said; answers = to.answer.answers };
    ask = ask_same names (of_partner one) (of_partner other) (partners_same one other same) asked to.ask;
    confirms = to.confirms ∙ ap (λ (f : ℕ). wire f asked) (sym same.partner.own_first);
  }

module _ (names : Names) (one other : View) (same : AreSame one other) where
  back : AreSame other one
  back = turn_views one other same

  cross_same : DontCross names one → DontCross names other
  cross_same cross asked answered partner_asked partner_answered x y = cross asked answered partner_asked partner_answered (to_same names other one back asked answered x)
      (to_same names (of_partner other) (of_partner one) (partners_same other one back) partner_asked partner_answered y)

  asks_same : Seen names other → AsksInTurn names one → AsksInTurn names other
  asks_same seen was = record {
    few = are_few names other seen;
    asked = λ waits. let h = was.asked (sym same.own.at ∙ waits) in record {
      number = h.number;
      ask = ask_same names one other same h.number h.ask;
      asks_no_more = λ n a. h.asks_no_more n (ask_same names other one back n a);
      answers_no_more = λ n a. h.answers_no_more n (answer_same names other one back n a);
      comes = choose h h.comes;
      missed = let m = h.missed in let e = same.own.reached in let n = same.partner.sent in omega (arith, m, e, n);
    };
    answers = λ n a. let to = was.answers n (answer_same names other one back n a) in (to.0, to_same names one other same to.0 n to.1);
    passed = passed_it names other seen;
    once = said_once names other seen;
  }
    where
      choose : (h : HasAsked names one) → (reached_by one.partner.link ≤ h.number) ⊎ ((answered : ℕ) × AnswerComes names one answered)
          → (reached_by other.partner.link ≤ h.number) ⊎ ((answered : ℕ) × AnswerComes names other answered)
      choose h (inl ahead) = inl (let e = same.partner.reached in omega (arith, e, ahead))
      choose h (inr (answered, c)) = inr (
        answered,
        record {
          answer = answer_same names (of_partner one) (of_partner other) (partners_same one other same) answered c.answer;
          ahead = let e = same.own.reached in let a = c.ahead in omega (arith, e, a);
        },
      )

-- ---- time, and losses

later_same : (elapsed moment : ℕ) (end : EndState) → is_open (end_later elapsed moment end).link.phase ≡ true → IsSame end (end_later elapsed moment end) × (is_open end.link.phase ≡ true)
unfolding end_later
later_same elapsed moment end opened = let so = settled_open (reading_of (end.clock + elapsed)) end.link opened in (
  record {
    own_first = ap (λ (l : LinkState). l.own_first) so.0;
    sent = ap (λ (l : LinkState). l.sent) so.0;
    reached = ap reached_by so.0;
    at = ap (λ (l : LinkState). l.phase) so.0;
    connection = refl;
  },
  so.1,
)

same_again : (end : EndState) → IsSame end end
same_again end = record { own_first = refl; sent = refl; reached = refl; at = refl; connection = refl }

-- the loss of a datagram
still_there : (bytes : List ℕ) (list : List Sent) → HasAll list (without_oldest bytes list)
still_there bytes [] d is = absurd is
still_there bytes (first ∷ others) d is = choose (is_copy bytes first) is (still_there bytes others d)
  where
    in_rest : (rest : List Sent) (head : Sent) → IsLike rest d → IsLike (head ∷ rest) d
    in_rest rest head l = record { datagram = l.datagram; among = inr l.among; bytes = l.bytes; sender = l.sender; connection = l.connection }

    choose : (b : Bool) → (first ≡ d) ⊎ IsAmong d others → (IsAmong d others → IsLike (without_oldest bytes others) d) → IsLike (if b then (record first { is_lost = true }) ∷ others else first ∷ without_oldest bytes others) d
    choose true (inl same) more = record {
      datagram = record first { is_lost = true };
      among = inl refl;
      bytes = ap (λ (x : Sent). x.bytes) same;
      sender = ap (λ (x : Sent). x.sender) same;
      connection = ap (λ (x : Sent). x.connection) same;
    }
    choose true (inr rest) more = in_rest others (record first { is_lost = true }) (like_it others d rest)
    choose false (inl same) more = record { datagram = d; among = inl same; bytes = refl; sender = refl; connection = refl }
    choose false (inr rest) more = in_rest (without_oldest bytes others) first (more rest)

was_there : (bytes : List ℕ) (list : List Sent) → HasAll (without_oldest bytes list) list
was_there bytes [] d is = absurd is
was_there bytes (first ∷ others) d is = choose (is_copy bytes first) is (was_there bytes others d)
  where
    in_rest : IsLike others d → IsLike (first ∷ others) d
    in_rest l = record { datagram = l.datagram; among = inr l.among; bytes = l.bytes; sender = l.sender; connection = l.connection }

    choose : (b : Bool) → IsAmong d (if b then (record first { is_lost = true }) ∷ others else first ∷ without_oldest bytes others) → (IsAmong d (without_oldest bytes others) → IsLike others d) → IsLike (first ∷ others) d
    choose true (inl same) more = record {
      datagram = first;
      among = inl refl;
      bytes = ap (λ (x : Sent). x.bytes) same;
      sender = ap (λ (x : Sent). x.sender) same;
      connection = ap (λ (x : Sent). x.connection) same;
    }
    choose true (inr rest) more = in_rest (like_it others d rest)
    choose false (inl same) more = record { datagram = d; among = inl same; bytes = refl; sender = refl; connection = refl }
    choose false (inr rest) more = in_rest (more rest)

-- both, from what one of them sees
both_same : (names : Names) (one other : Ends) → Both names other → AreSame (of_client one) (of_client other) → AskInTurn names one → AskInTurn names other
both_same names one other both same was = record {
  client = asks_same names (of_client one) (of_client other) same (client_sees names other both) was.client;
  server = asks_same names (of_server one) (of_server other) (partners_same (of_client one) (of_client other) same) (server_sees names other both) was.server;
  apart = cross_same names (of_client one) (of_client other) same was.apart;
}

time_asks : (names : Names) (elapsed client_on server_on : ℕ) (ends : Ends) → (AreIn (later elapsed client_on server_on ends) → Both names (later elapsed client_on server_on ends)) → EndsAskInTurn names ends
    → EndsAskInTurn names (later elapsed client_on server_on ends)
unfolding later
time_asks names elapsed client_on server_on ends both before in_new = both_same names ends (later elapsed client_on server_on ends) (both in_new)
    (record { who = refl; whom = refl; own = c.0; partner = s.0; there = like_it ends.sent; back = like_it ends.sent }) (before (record { client = c.1; server = s.1 }))
  where
    c : IsSame ends.client (end_later client_on ends.moment ends.client) × (is_open ends.client.link.phase ≡ true)
    c = later_same client_on ends.moment ends.client in_new.client

    s : IsSame ends.server (end_later server_on ends.moment ends.server) × (is_open ends.server.link.phase ≡ true)
    s = later_same server_on ends.moment ends.server in_new.server

loses_asks : (names : Names) (bytes : List ℕ) (ends : Ends) → (AreIn (lost bytes ends) → Both names (lost bytes ends)) → EndsAskInTurn names ends → EndsAskInTurn names (lost bytes ends)
unfolding lost
loses_asks names bytes ends both before in_new = both_same names ends (lost bytes ends) (both in_new)
    (record { who = refl; whom = refl; own = same_again ends.client; partner = same_again ends.server; there = still_there bytes ends.sent; back = was_there bytes ends.sent })
    (before (record { client = in_new.client; server = in_new.server }))

elsewhere_asks : (names : Names) (count : ℕ) (ends : Ends) → EndsAskInTurn names ends → EndsAskInTurn names (record ends { moment = ends.moment + count })
elsewhere_asks names count ends before in_new = let was = before (record { client = in_new.client; server = in_new.server }) in record { client = was.client; server = was.server; apart = was.apart }

made_anew : (names : Names) (who : Role) (clock first : ℕ) (ends : Ends) → EndsAskInTurn names (restarted who clock first ends)
unfolding restarted end_restarted created
made_anew names Role.Client clock first ends in_new = absurd (false≢true in_new.client)
made_anew names Role.Server clock first ends in_new = absurd (false≢true in_new.server)

-- ---- every event

pub event_asks : (laws : LawsBelow) (names : Names) (event : Event) (ends : Ends) → AreNames names → Timely names ends → Ordered names ends → May names event ends → EndsAskInTurn names ends
    → EndsAskInTurn names (happened event ends)
event_asks laws names event ends are timely ordered may before = by event may (laws.every_event_keeps_time names event ends are timely may) (laws.every_event_keeps_order_kept names event ends are timely ordered may)
  where
    by : (e : Event) → May names e ends → Timely names (happened e ends) → Ordered names (happened e ends) → EndsAskInTurn names (happened e ends)
    by (Calls Role.Server call) m t o = server_asks laws names are ends timely ordered call m before
    by (Calls Role.Client call) m t o = client_asks laws names are ends timely ordered call m before
    by (TimePasses elapsed client_on server_on) m t o = time_asks names elapsed client_on server_on ends (both_of names (later elapsed client_on server_on ends) t o) before
    by (Loses bytes) m t o = loses_asks names bytes ends (both_of names (lost bytes ends) t o) before
    by (Restarts who clock first) m t o = made_anew names who clock first ends
    by (Elsewhere count) m t o = elsewhere_asks names count ends before

pub asks_start : (names : Names) (start : Start) → EndsAskInTurn names (started names start)
unfolding created
asks_start names start are_in = absurd (false≢true are_in.client)

pub all_ask : (laws : LawsBelow) (names : Names) → AreNames names → (events : List Event) (ends : Ends) → Timely names ends → Ordered names ends → EndsAskInTurn names ends → MayRun names events ends
    → EndsAskInTurn names (run events ends)
all_ask laws names are [] ends timely ordered before may = before
all_ask laws names are (e ∷ events) ends timely ordered before may =
    all_ask laws names are events (happened e ends) (laws.every_event_keeps_time names e ends are timely may.0) (laws.every_event_keeps_order_kept names e ends are timely ordered may.0)
    (event_asks laws names e ends are timely ordered may.0 before) may.1

-- and so it is after every list of events
pub asks_after : (laws : LawsBelow) (names : Names) (start : Start) (events : List Event) → AreNames names → MayRun names events (started names start) → EndsAskInTurn names (run events (started names start))
asks_after laws names start events are may =
    all_ask laws names are events (started names start) (laws.starts_in_time names start are) (laws.every_event_keeps_order_starts names start) (asks_start names start) may
