-- A client that is given items: the last of them waits under the last PDU that it sent.
use Rattle.simulator_recovery.proofs.Words.Basics.{◌≡◌, ◌⊎◌, inl, inr, ℕ, ◌+◌, Bool, true, false, nat_lt, List, [], ◌∷◌, ◌++◌, length, Option, Some, Result, Ok, Err, if◌then◌else◌, refl, sym, ap, subst, ◌∙◌, arith, is_ok, false≢true}
use Rattle.simulator_recovery.proofs.Words.Links.{HaveRoom, acceptance, sending_item, Each, Closes, Opens, Receives, Sends, Sent, Ticks, end_after, handed_out, outcome, reading_of, Calls, Elsewhere, Event, IsAmong, Loses, MayCall, MayRun, Passes, Restarts, run, Timely, AreNames, Names, spellings, Step, entered, giving, header_of, pdu_of, sending, silent, then_do, Ends, called, before, wire, LinkState, is_asking, is_up, SendFault, Identity, Role, Phase, reading, writing, IsPdu, Data, Key, Pdu}
use Rattle.simulator_recovery.proofs.Words.Recovery.{LawsBelow}
use Rattle.simulator_recovery.proofs.Lemmas.RoutesGoing.RepliedReceipt.{IsAtHome, entered_so}
use Rattle.simulator_recovery.proofs.Lemmas.RoutesGoing.RepliedThrough.{IsInThrough}
use Rattle.simulator_recovery.proofs.Lemmas.RoutesGoing.RepliedWindow.{GaveLast}

-- laws of what is written, handed in by who has them
-- an end is given an item, or something is sent elsewhere
abbrev pub IsGiving : Event → Type 0
IsGiving (Calls who (Sends item)) = Unit {0}
IsGiving (Elsewhere count) = Unit {0}
IsGiving _ = ⊥

pub up_asks : (l : LinkState) → is_up l.phase ≡ true → is_asking l ≡ false
up_asks l up = by_phase l.phase refl up
  where
    by_phase : (at : Phase) → l.phase ≡ at → is_up at ≡ true → is_asking l ≡ false
    by_phase Phase.Start f u = absurd (false≢true u)
    by_phase Phase.Closed f u = absurd (false≢true u)
    by_phase Phase.Up f u = grind (arith, f)
    by_phase Phase.RetransmissionRequested f u = grind (arith, f)
    by_phase Phase.RetransmissionRunning f u = grind (arith, f)

-- an item that is given to a link is refused, or goes out
data Given (now : ℕ) (item : List ℕ) (l : LinkState) : Type 0 where
  refused : (sending_item now item l).link ≡ l → Given now item l
  goes : is_up l.phase ≡ true → (sending_item now item l).link ≡ (giving item l).link → (sending_item now item l).pdus ≡ (giving item l).pdus → Given now item l

given_so : (now : ℕ) (item : List ℕ) (l : LinkState) → IsAtHome now l → Given now item l
unfolding sending_item acceptance
given_so now item l home = choose (is_ok (acceptance l)) refl
  where
    Does : Step → Step
    Does s = then_do s (λ k. if is_ok (acceptance k) then giving item k else silent k)

    is : Does (entered now l) ≡ Does (silent l)
    is = ap Does (entered_so now l home)

    answer : Bool → Bool → Result (Unit {0}) SendFault
    answer u room = if u then (if room then Ok tt else Err SendFault.WindowFull) else Err SendFault.NotUp

    up_is : (u room : Bool) → is_ok (answer u room) ≡ true → u ≡ true
    up_is true room e = refl
    up_is false room e = absurd (false≢true e)

    choose : (b : Bool) → is_ok (acceptance l) ≡ b → Given now item l
    choose true e = goes (up_is (is_up l.phase) (nat_lt (length l.waiting) 20) e) (ap (λ (s : Step). s.link) is ∙ ap (λ (b : Bool). (if b then giving item l else silent l).link) e)
        (ap (λ (s : Step). s.pdus) is ∙ ap (λ (b : Bool). (if b then giving item l else silent l).pdus) e)
    choose false e = refused (ap (λ (s : Step). s.link) is ∙ ap (λ (b : Bool). (if b then giving item l else silent l).link) e)

among_last : (one : Sent) (list : List Sent) → IsAmong one (list ++ one ∷ [])
among_last one [] = inl refl
among_last one (first ∷ list) = inr (among_last one list)

among_front : (one : Sent) (list more : List Sent) → IsAmong one list → IsAmong one (list ++ more)
among_front one [] more is = absurd is
among_front one (first ∷ list) more (inl same) = inl same
among_front one (first ∷ list) more (inr is) = inr (among_front one list more is)

-- more is sent
keeps : (names : Names) (connection : ℕ) (link : LinkState) (sent more : List Sent) → GaveLast names connection link sent → GaveLast names connection link (sent ++ more)
keeps names connection link sent more g = record {
  others = g.others;
  last = g.last;
  waits = g.waits;
  under = g.under;
  datagram = g.datagram;
  is_sent = among_front g.datagram sent more g.is_sent;
  sender = g.sender;
  of = g.of;
  pdu = g.pdu;
  read = g.read;
  number = g.number;
  confirms = g.confirms;
}

module _ (laws : LawsBelow) (names : Names) (are : AreNames names) (connection : ℕ) (first_link : LinkState) where
  -- the client's link is as it was, or it was given an item
  abbrev pub HasGiven : Ends → Type 0
  HasGiven ends = (ends.client.link ≡ first_link) ⊎ GaveLast names connection ends.client.link ends.sent

  module _ (item : List ℕ) (ends : Ends) (timely : Timely names ends) (may : MayCall names Role.Client (Sends item) ends) (home : IsAtHome (reading_of ends.client.clock) ends.client.link) (at : ends.client.connection ≡ Some connection) where
    abbrev now : ℕ
    now = reading_of ends.client.clock

    abbrev l : LinkState
    l = ends.client.link

    abbrev new : Ends
    new = called Role.Client (Sends item) ends

    link_is : new.client.link ≡ (sending_item now item l).link
    unfolding called outcome end_after
    link_is = refl

    abbrev pdu : Pdu
    pdu = pdu_of (header_of l) l.sent (Data (item ∷ []))

    abbrev datagram : Sent
    datagram = record { bytes = writing l.identity.key pdu; at = ends.time; sender = Role.Client; connection = connection; is_lost = false }

    sent_is : (sending_item now item l).pdus ≡ pdu ∷ [] → new.sent ≡ ends.sent ++ datagram ∷ []
    unfolding called outcome end_after
    sent_is e = ap (λ (o : Option ℕ). ends.sent ++ handed_out ends.time Role.Client o (spellings l.identity.key (sending_item now item l).pdus)) at
        ∙ ap (λ (ps : List Pdu). ends.sent ++ handed_out ends.time Role.Client (Some connection) (spellings l.identity.key ps)) e

    pdus_are : (giving item l).pdus ≡ pdu ∷ []
    unfolding giving sending
    pdus_are = refl

    is_pdu : (sending_item now item l).pdus ≡ pdu ∷ [] → IsPdu pdu
    unfolding outcome
    is_pdu e = (subst (Each IsPdu) e (laws.calls_hand_out_pdus names ends Role.Client (Sends item) timely may)).0

    key_is : l.identity.key ≡ names.key
    key_is = ap (λ (i : Identity). i.key) timely.client.identity

    gave : is_up l.phase ≡ true → (sending_item now item l).pdus ≡ pdu ∷ [] → GaveLast names connection (giving item l).link (ends.sent ++ datagram ∷ [])
    unfolding giving sending pdu_of header_of
    gave up e = record {
      others = l.waiting;
      last = record { tag = l.sent; item = item };
      waits = refl;
      under = refl;
      datagram = datagram;
      is_sent = among_last datagram ends.sent;
      sender = refl;
      of = refl;
      pdu = pdu;
      read = subst (λ (key : Key). reading key (writing l.identity.key pdu) ≡ Ok pdu) key_is (laws.written_pdu_is_read l.identity.key pdu (is_pdu e));
      number = refl;
      confirms = ap (λ (b : Bool). if b then 0 else wire l.partner_first (before l.expected)) (up_asks l up);
    }

    grown : GaveLast names connection l ends.sent → GaveLast names connection l new.sent
    unfolding called
    grown g = keeps names connection l ends.sent _ g

    sends_given : HasGiven ends → HasGiven new
    sends_given has = choose (given_so now item l home)
      where
        choose : Given now item l → HasGiven new
        choose (refused e) = by_before has
          where
            by_before : HasGiven ends → HasGiven new
            by_before (inl same) = inl (link_is ∙ e ∙ same)
            by_before (inr g) = inr (subst (λ (x : LinkState). GaveLast names connection x new.sent) (sym (link_is ∙ e)) (grown g))
        choose (goes up e f) = let all = f ∙ pdus_are in
            inr (subst (λ (x : LinkState). GaveLast names connection x new.sent) (sym (link_is ∙ e)) (subst (GaveLast names connection (giving item l).link) (sym (sent_is all)) (gave up all)))

  -- a call of the server
  server_sends : (item : List ℕ) (ends : Ends) → HasGiven ends → HasGiven (called Role.Server (Sends item) ends)
  unfolding called
  server_sends item ends (inl same) = inl same
  server_sends item ends (inr g) = inr (keeps names connection ends.client.link ends.sent _ g)

  stays_at : (item : List ℕ) (ends : Ends) → ends.client.connection ≡ Some connection → (called Role.Client (Sends item) ends).client.connection ≡ Some connection
  unfolding called outcome end_after
  stays_at item ends at = at

  server_stays : (item : List ℕ) (ends : Ends) → ends.client.connection ≡ Some connection → (called Role.Server (Sends item) ends).client.connection ≡ Some connection
  unfolding called
  server_stays item ends at = at

  pub all_given : (events : List Event) (ends : Ends) → Timely names ends → Each IsGiving events → MayRun names events ends → IsInThrough Role.Client connection events ends → HaveRoom events ends → ends.client.connection ≡ Some connection → HasGiven ends → HasGiven (run events ends)
  all_given [] ends timely giving_only may through room at has = has
  all_given (Calls Role.Client (Sends item) ∷ others) ends timely giving_only may through room at has =
      all_given others (called Role.Client (Sends item) ends) (laws.every_event_keeps_time names (Calls Role.Client (Sends item)) ends are timely may.0) giving_only.1 may.1 through.1 room.2 (stays_at item ends at)
      (sends_given item ends timely may.0 (record { opened = through.0.opened; settled_is = laws.links_are_settled names ends Role.Client timely; few = room.0 through.0.opened }) at has)
  all_given (Calls Role.Server (Sends item) ∷ others) ends timely giving_only may through room at has =
      all_given others (called Role.Server (Sends item) ends) (laws.every_event_keeps_time names (Calls Role.Server (Sends item)) ends are timely may.0) giving_only.1 may.1 through.1 room.2 (server_stays item ends at) (server_sends item ends has)
  all_given (Elsewhere count ∷ others) ends timely giving_only may through room at has =
      all_given others (record ends { moment = ends.moment + count }) (laws.every_event_keeps_time names (Elsewhere count) ends are timely may.0) giving_only.1 may.1 through.1 room.2 at (by_before has)
    where
      by_before : HasGiven ends → HasGiven (record ends { moment = ends.moment + count })
      by_before (inl same) = inl same
      by_before (inr g) = inr g
  all_given (Calls who Ticks ∷ others) ends timely giving_only may through room at has = absurd giving_only.0
  all_given (Calls who Opens ∷ others) ends timely giving_only may through room at has = absurd giving_only.0
  all_given (Calls who (Closes why) ∷ others) ends timely giving_only may through room at has = absurd giving_only.0
  all_given (Calls who (Receives bytes other) ∷ others) ends timely giving_only may through room at has = absurd giving_only.0
  all_given (Passes elapsed of_client of_server ∷ others) ends timely giving_only may through room at has = absurd giving_only.0
  all_given (Loses bytes ∷ others) ends timely giving_only may through room at has = absurd giving_only.0
  all_given (Restarts who clock first ∷ others) ends timely giving_only may through room at has = absurd giving_only.0
