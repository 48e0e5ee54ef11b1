-- How few of a client's items wait, event by event.
use Rattle.rasta_core_recovery.proofs.Words.Basics.{◌≡◌, ℕ, suc, ◌∙◌, ◌+◌, ◌-◌, ◌≤◌, ◌<◌, ◌⊎◌, inl, inr, Bool, true, false, ◌&&◌, not, nat_le, List, [], ◌∷◌, ◌++◌, length, Option, Some, None, Result, Ok, Err, if◌then◌else◌, refl, sym, ap, subst, arith, leb-false, nat_eq, ◌==◌, pointwise, eqb-true, false≢true, none-some, same_Some}
use Rattle.rasta_core_recovery.proofs.Words.Links.{own_version, window_size, wire, LinkState, is_asking, is_client, is_open, deadline, settled, beginning, granting, judging, meeting, own_opening, Step, pdu_of, sending, telling, Receipt, hearing, created, hearing_bytes, opens, receiving, spellings, Identity, Role, Phase, Reason, Key, Pdu, PduFault, Body, ConnectionRequest, ConnectionResponse, Data, DisconnectionRequest, Heartbeat, RetransmissionRequest, RetransmissionResponse, RetransmittedData, Opening, reading, IsPdu, is_copy, without_oldest, Each, Call, Closes, EndState, Opens, Receives, Sends, Sent, Ticks, end_after, end_later, end_restarted, handed_out, is_taken, kept, newer, outcome, reading_of, Calls, Elsewhere, Event, IsAmong, IsDelivered, IsFor as IsMeant, Loses, May, MayCall, Passes as TimePasses, Restarts, happened, AreNames, Names, identity_of, name_of, partner_of, Ends, called, end_of, later, lost, restarted, IsOpening, EndFlow, IsOf, items_of, HearsOutside, grants, refuses, InFlight, Timely, HasJoined, Carries, IsClosing, IsResponse, IsSent, IsSpelledIn, Ordered, times_of, IsKnown, Unconfirmed}
use Rattle.rasta_core_recovery.proofs.Words.Recovery.{Answers, AreIn, Confirming, FewWait, IsConfirmed, IsNumbered, reached_by, LawsBelow}
use Rattle.rasta_core.specs.EndFlow.{later as waiting_from}
use Rattle.rasta_core_recovery.specs.Confirming.{IsSaid}
use Rattle.rasta_core_recovery.proofs.Lemmas.Windows.Confirmed.{Both, Moves, asking_moves, client_inside, client_keeps, client_level, client_moves, never_asks, reached_is, server_joined, server_keeps, server_says, server_speaks, sides_of, with_client, with_server, within, word_closes}
use Rattle.rasta_core_recovery.proofs.Lemmas.Rounds.Facts.{are_together, each_map}
use Rattle.rasta_core_recovery.proofs.Lemmas.Rounds.Lists.{each_append}
use Rattle.rasta_core_recovery.proofs.Lemmas.Windows.StaysIn.{Asks, Does, IsFrom, IsSettledAt, NothingCame, Passes, Read, Speaks, closing_shuts, opens_asking, opens_on, receives_asking, receives_on, sends_asking, sends_on, ticks_asking, ticks_on}
use Rattle.rasta_core_recovery.proofs.Lemmas.Rounds.Words.{Row, row_most}
use Rattle.rasta_core_recovery.proofs.Lemmas.Rounds.Bridge.{reads_as}
use Rattle.rasta_core_recovery.proofs.Lemmas.Rounds.Blocks.{as_many_both}

-- ---- lists of datagrams

pub among : (P : Sent → Type 0) (datagram : Sent) (list : List Sent) → IsAmong datagram list → Each P list → P datagram
among P datagram [] is each = absurd is
among P datagram (first ∷ others) (inl same) each = subst P same each.0
among P datagram (first ∷ others) (inr is) each = among P datagram others is each.1

pub second_part : {X : Type 0} (P : X → Type 0) (one other : List X) → Each P (one ++ other) → Each P other
second_part P [] other each = each
second_part P (first ∷ one) other each = second_part P one other each.1

-- the loss of a datagram
pub each_without : (P : Sent → Type 0) → ((d : Sent) (is_lost : Bool) → P d → P (record d { is_lost = is_lost })) → (bytes : List ℕ) (list : List Sent) → Each P list → Each P (without_oldest bytes list)
each_without P turn bytes [] each = tt
each_without P turn bytes (first ∷ others) each = choose (is_copy bytes first) (each_without P turn bytes others each.1)
  where
    choose : (b : Bool) → Each P (without_oldest bytes others) → Each P (if b then (record first { is_lost = true }) ∷ others else first ∷ without_oldest bytes others)
    choose true rest = (turn first true each.0, each.1)
    choose false rest = (each.0, rest)

-- ---- what comes is of the partner

pub record Found (names : Names) (who : Role) (ends : Ends) (bytes : List ℕ) (connection : ℕ) (p : Pdu) : Type 0 where
  pub datagram : Sent
  pub delivered : IsDelivered ends bytes connection datagram
  pub sender : datagram.sender ≡ partner_of who
  pub read : reading names.key datagram.bytes ≡ Ok p

pub identity_is : (names : Names) (ends : Ends) (who : Role) → Timely names ends → (end_of who ends).link.identity ≡ identity_of who names
identity_is names ends Role.Client timely = timely.client.identity
identity_is names ends Role.Server timely = timely.server.identity

pub clock_is : (names : Names) (ends : Ends) (who : Role) → Timely names ends → (end_of who ends).link.clock ≡ reading_of (end_of who ends).clock
clock_is names ends Role.Client timely = timely.client.clock
clock_is names ends Role.Server timely = timely.server.clock

pub found_by : LawsBelow → (names : Names) → AreNames names → (who : Role) (ends : Ends) → Timely names ends → (bytes : List ℕ) (connection : ℕ) → MayCall names who (Receives bytes connection) ends → (p : Pdu) → Read (end_of who ends).link bytes p
    → (p.receiver == (end_of who ends).link.identity.own) ≡ true → (p.sender == (end_of who ends).link.identity.partner) ≡ true → Found names who ends bytes connection p
found_by laws names are who ends timely bytes connection may p read receiver sender = choose may
  where
    id : (end_of who ends).link.identity ≡ identity_of who names
    id = identity_is names ends who timely

    reads : reading names.key bytes ≡ Ok p
    reads = subst (λ (key : Key). reading key bytes ≡ Ok p) (ap (λ (i : Identity). i.key) id) read

    for : p.receiver ≡ name_of who names
    for = eqb-true p.receiver (end_of who ends).link.identity.own receiver ∙ ap (λ (i : Identity). i.own) id

    from : p.sender ≡ name_of (partner_of who) names
    from = eqb-true p.sender (end_of who ends).link.identity.partner sender ∙ ap (λ (i : Identity). i.partner) id

    choose : MayCall names who (Receives bytes connection) ends → Found names who ends bytes connection p
    choose (inr (inl damaged)) = absurd (damaged (laws.read_was_written names.key bytes p reads))
    choose (inr (inr foreign)) = absurd (foreign.3 (subst (λ (q : Pdu). IsMeant names who q) (same_pdu foreign.0 foreign.2) (record { receiver = for; sender = from })))
      where
        same_pdu : (q : Pdu) → reading names.key bytes ≡ Ok q → p ≡ q
        same_pdu q e = let r = reads in cc
    choose (inl sent) = record {
      datagram = sent.0;
      delivered = sent.1;
      sender = by_role who sent.0.sender (sym from_flight ∙ from);
      read = subst (λ (b : List ℕ). reading names.key b ≡ Ok p) (sym sent.1.bytes_same) reads;
    }
      where
        flies : InFlight names (times_of ends timely.of_client timely.of_server timely.newest) sent.0
        flies = among (InFlight names (times_of ends timely.of_client timely.of_server timely.newest)) sent.0 ends.sent sent.1.was_sent timely.datagrams

        same : flies.pdu ≡ p
        same = let f : reading names.key bytes ≡ Ok flies.pdu = subst (λ (b : List ℕ). reading names.key b ≡ Ok flies.pdu) sent.1.bytes_same flies.read in let r = reads in cc

        from_flight : p.sender ≡ name_of sent.0.sender names
        from_flight = ap (λ (q : Pdu). q.sender) (sym same) ∙ flies.sender

        by_role : (w s : Role) → name_of s names ≡ name_of (partner_of w) names → s ≡ partner_of w
        by_role Role.Client Role.Client e = absurd (are.differ e)
        by_role Role.Client Role.Server e = refl
        by_role Role.Server Role.Client e = refl
        by_role Role.Server Role.Server e = absurd (are.differ (sym e))

pub found : LawsBelow → (names : Names) → AreNames names → (who : Role) (ends : Ends) → Timely names ends → (bytes : List ℕ) (connection : ℕ) → MayCall names who (Receives bytes connection) ends → (p : Pdu) → Read (end_of who ends).link bytes p
    → Passes (end_of who ends).link p → Found names who ends bytes connection p
found laws names are who ends timely bytes connection may p read pass = found_by laws names are who ends timely bytes connection may p read pass.receiver pass.sender

-- ---- what came in a call

abbrev pub CameBy : LinkState → Call → Pdu → Type 0
CameBy l Ticks = NothingCame
CameBy l Opens = NothingCame
CameBy l (Closes why) = NothingCame
CameBy l (Sends item) = NothingCame
CameBy l (Receives bytes connection) = Read l bytes

young_is : (now : ℕ) (l : LinkState) → is_open l.phase ≡ true → settled now l ≡ l → l.clock ≡ now → now < l.own_stamp + 1800
unfolding settled deadline
young_is now l is_in same clock = choose (nat_le (l.own_stamp + 1800) now) refl
  where
    shut : nat_le (l.own_stamp + 1800) now ≡ true → is_open (settled now l).phase ≡ false
    shut e = rw (is_in, e) refl

    choose : (b : Bool) → nat_le (l.own_stamp + 1800) now ≡ b → now < l.own_stamp + 1800
    choose true e = absurd (false≢true (sym (shut e) ∙ ap (λ (k : LinkState). is_open k.phase) same ∙ is_in))
    choose false e = leb-false (l.own_stamp + 1800) now e

pub settled_so : LawsBelow → (names : Names) (ends : Ends) (who : Role) → Timely names ends → is_open (end_of who ends).link.phase ≡ true → IsSettledAt (reading_of (end_of who ends).clock) (end_of who ends).link
settled_so laws names ends who timely is_in = record {
  clock = clock_is names ends who timely;
  young = young_is (reading_of (end_of who ends).clock) (end_of who ends).link is_in (laws.links_are_settled names ends who timely) (clock_is names ends who timely);
}

pub not_entered : (b : Bool) (moment : ℕ) → (if b then Some moment else None) ≡ None → b ≡ false
not_entered false moment e = refl
not_entered true moment e = absurd (none-some moment (sym e))

pub does_by : (call : Call) (moment : ℕ) (end : EndState) → is_open end.link.phase ≡ true → IsSettledAt (reading_of end.clock) end.link → is_asking end.link ≡ false → (outcome call moment end).enters ≡ None → is_open (outcome call moment end).link.phase ≡ true
    → Does (CameBy end.link call) end.link (outcome call moment end).link (outcome call moment end).pdus (outcome call moment end).given (outcome call moment end).taken
unfolding outcome
does_by Ticks moment end is_in at joined none opened = ticks_on (reading_of end.clock) end.link is_in at joined opened
does_by Opens moment end is_in at joined none opened = opens_on (reading_of end.clock) end.link is_in at joined (not_entered (opens (reading_of end.clock) end.link) moment none) opened
does_by (Closes why) moment end is_in at joined none opened = absurd (closing_shuts (reading_of end.clock) end.link is_in at why opened)
does_by (Sends item) moment end is_in at joined none opened = sends_on (reading_of end.clock) end.link is_in at joined item opened
does_by (Receives bytes connection) moment end is_in at joined none opened = receives_on (reading_of end.clock) end.link is_in at joined bytes opened

pub asks_by : (call : Call) (moment : ℕ) (end : EndState) → is_open end.link.phase ≡ true → IsSettledAt (reading_of end.clock) end.link → is_asking end.link ≡ true → (outcome call moment end).enters ≡ None → is_open (outcome call moment end).link.phase ≡ true
    → Asks end.link (outcome call moment end).link (outcome call moment end).given (outcome call moment end).taken
unfolding outcome
asks_by Ticks moment end is_in at asks none opened = ticks_asking (reading_of end.clock) end.link is_in at asks opened
asks_by Opens moment end is_in at asks none opened = opens_asking (reading_of end.clock) end.link is_in at asks (not_entered (opens (reading_of end.clock) end.link) moment none) opened
asks_by (Closes why) moment end is_in at asks none opened = absurd (closing_shuts (reading_of end.clock) end.link is_in at why opened)
asks_by (Sends item) moment end is_in at asks none opened = sends_asking (reading_of end.clock) end.link is_in at asks item opened
asks_by (Receives bytes connection) moment end is_in at asks none opened = receives_asking (reading_of end.clock) end.link is_in at asks bytes opened

-- ---- what is handed out

abbrev pub Spells : Names → (Pdu → Type 0) → Sent → Type 0
Spells names Says datagram = (pdu : Pdu) → reading names.key datagram.bytes ≡ Ok pdu → Says pdu

-- datagrams of the client
of_client : (names : Names) (spare : ℕ) (ends : Ends) (time : ℕ) (connection : Option ℕ) (datagrams : List (List ℕ)) → Each (IsSaid names spare ends) (handed_out time Role.Client connection datagrams)
of_client names spare ends time connection [] = tt
of_client names spare ends time connection (bytes ∷ others) = (λ sender same pdu read closes. absurd (cc sender), of_client names spare ends time connection others)

-- what these datagrams spell
pub spell : LawsBelow → (names : Names) (Says : Pdu → Type 0) (who : Role) (time : ℕ) (connection : Option ℕ) (k : LinkState) (n last : ℕ) (ps : List Pdu) → Each IsPdu ps → Row (IsFrom k) n ps last
    → ((m : ℕ) (pdu : Pdu) → m < last → IsFrom k m pdu → Says pdu) → Each (Spells names Says) (handed_out time who connection (spellings names.key ps))
spell laws names Says who time connection k n last [] are row says = tt
spell laws names Says who time connection k n last (p ∷ ps) are row says = (
  λ pdu read. subst Says (reads_as laws names.key p pdu are.0 read) (says n p (let m = row_most (IsFrom k) (n + 1) last ps row.1 in omega (arith, m)) row.0),
  spell laws names Says who time connection k (n + 1) last ps are.1 row.1 says,
)

-- a client enters no connection in a call after which it is in one that its server knows
pub client_enters_none : (laws : LawsBelow) (names : Names) → AreNames names → (ends : Ends) → Timely names ends → (call : Call) → MayCall names Role.Client call ends
    → ends.server.connection ≡ (end_after (outcome call ends.moment ends.client) ends.moment ends.client).connection → (outcome call ends.moment ends.client).enters ≡ None
unfolding outcome end_after
client_enters_none laws names are ends timely Ticks may same = refl
client_enters_none laws names are ends timely (Closes why) may same = refl
client_enters_none laws names are ends timely (Sends item) may same = refl
client_enters_none laws names are ends timely Opens may same = choose (opens (reading_of ends.client.clock) ends.client.link) same
  where
    over : ends.moment < ends.moment → ⊥
    over lt = omega (arith, lt)

    choose : (b : Bool) → ends.server.connection ≡ newer (if b then Some ends.moment else None) ends.client.connection → (if b then Some ends.moment else None) ≡ None
    choose false e = refl
    choose true e = absurd (over (laws.one_connection_counted names ends Role.Server ends.moment timely e))
client_enters_none laws names are ends timely (Receives bytes connection) may same = choose (not (is_open ends.client.link.phase) && is_taken (receiving (reading_of ends.client.clock) bytes ends.client.link).verdict) refl
  where
    outside : (a c : Bool) → not a && c ≡ true → (a ≡ false) × (c ≡ true)
    outside false true e = (refl, refl)
    outside false false e = absurd (false≢true e)
    outside true c e = absurd (false≢true e)

    not_server : Role.Client ≡ Role.Server → ⊥
    not_server e = cc e

    by_may : is_open ends.client.link.phase ≡ false → is_taken (receiving (reading_of ends.client.clock) bytes ends.client.link).verdict ≡ true → MayCall names Role.Client (Receives bytes connection) ends → Role.Client ≡ Role.Server
    by_may shut taken (inl sent) = (laws.opening_is_new names ends Role.Client bytes connection sent.0 are timely sent.1 shut taken).is_server
    by_may shut taken (inr other) = absurd (false≢true (sym (laws.what_is_taken names ends Role.Client bytes timely other).1 ∙ taken))

    choose : (b : Bool) → not (is_open ends.client.link.phase) && is_taken (receiving (reading_of ends.client.clock) bytes ends.client.link).verdict ≡ b → (if b then Some connection else None) ≡ None
    choose false e = refl
    choose true e = let was = outside (is_open ends.client.link.phase) (is_taken (receiving (reading_of ends.client.clock) bytes ends.client.link).verdict) e in absurd (not_server (by_may was.0 was.1 may))

-- nor does a server that is in one
pub server_enters_none : (laws : LawsBelow) (names : Names) (ends : Ends) → Timely names ends → is_open ends.server.link.phase ≡ true → (call : Call) → (outcome call ends.moment ends.server).enters ≡ None
server_enters_none laws names ends timely opened call = choose (outcome call ends.moment ends.server).enters refl
  where
    choose : (found : Option ℕ) → (outcome call ends.moment ends.server).enters ≡ found → found ≡ None
    choose None e = refl
    choose (Some c) e = absurd (false≢true (sym (laws.outside_until_it_enters_server call ends.moment c ends.server (ap (λ (i : Identity). i.role) timely.server.identity) e) ∙ opened))

-- ---- a call

pub both_of : (names : Names) (ends : Ends) → Timely names ends → Ordered names ends → AreIn ends → Both names ends
both_of names ends timely ordered are_in = record { timely = timely; together = are_together names ends timely ordered are_in.client are_in.server; client_in = are_in.client; server_in = are_in.server }

module _ (laws : LawsBelow) (names : Names) (are : AreNames names) (spare : ℕ) (ends : Ends) (timely : Timely names ends) (ordered : Ordered names ends) where
  -- of the server
  module _ (call : Call) (may : MayCall names Role.Server call ends) where
    abbrev pub then_is : EndState
    then_is = end_after (outcome call ends.moment ends.server) ends.moment ends.server

    abbrev pub sent_then : List Sent
    sent_then = ends.sent ++ handed_out ends.time Role.Server (end_after (outcome call ends.moment ends.server) ends.moment ends.server).connection (spellings ends.server.link.identity.key (outcome call ends.moment ends.server).pdus)

    abbrev pub server_new : Ends
    server_new = with_server (end_after (outcome call ends.moment ends.server) ends.moment ends.server) sent_then (ends.moment + length (outcome call ends.moment ends.server).pdus) ends

    pub server_timely : Timely names server_new
    unfolding called
    server_timely = laws.every_event_keeps_time names (Calls Role.Server call) ends are timely may

    pub server_ordered : Ordered names server_new
    unfolding called
    server_ordered = laws.every_event_keeps_order_kept names (Calls Role.Server call) ends are timely ordered may

    pdus_are : Each IsPdu (outcome call ends.moment ends.server).pdus
    pdus_are = laws.calls_hand_out_pdus names ends Role.Server call timely may

    key_is : ends.server.link.identity.key ≡ names.key
    key_is = ap (λ (i : Identity). i.key) timely.server.identity

    -- it goes on in its connection
    module _ (in_new : AreIn server_new) (was_in : is_open ends.server.link.phase ≡ true) where
      in_old : AreIn ends
      in_old = record { client = in_new.client; server = was_in }

      pub both_old : Both names ends
      both_old = both_of names ends timely ordered in_old

      pub both_new : Both names server_new
      both_new = both_of names server_new server_timely server_ordered in_new

      none : (outcome call ends.moment ends.server).enters ≡ None
      none = server_enters_none laws names ends timely was_in call

      pub given_is : then_is.given ≡ ends.server.given ++ (outcome call ends.moment ends.server).given
      unfolding end_after
      given_is = ap (λ (e : Option ℕ). kept e ends.server.given ++ (outcome call ends.moment ends.server).given) none

      pub taken_is : then_is.taken ≡ ends.server.taken ++ (outcome call ends.moment ends.server).taken
      unfolding end_after
      taken_is = ap (λ (e : Option ℕ). kept e ends.server.taken ++ (outcome call ends.moment ends.server).taken) none

      pub connection_is : then_is.connection ≡ ends.server.connection
      unfolding end_after
      connection_is = ap (λ (e : Option ℕ). newer e ends.server.connection) none

      pub does : Does (CameBy ends.server.link call) ends.server.link then_is.link (outcome call ends.moment ends.server).pdus (outcome call ends.moment ends.server).given (outcome call ends.moment ends.server).taken
      unfolding end_after
      does = does_by call ends.moment ends.server was_in (settled_so laws names ends Role.Server timely was_in) (never_asks ends.server.link (ap (λ (i : Identity). is_client i.role) timely.server.identity)) none in_new.server

      pub in_flow : (c : Call) → c ≡ call → (p : Pdu) → CameBy ends.server.link c p → Passes ends.server.link p → IsOf p both_old.together.client.flow
      in_flow Ticks e p came pass = absurd came
      in_flow Opens e p came pass = absurd came
      in_flow (Closes why) e p came pass = absurd came
      in_flow (Sends item) e p came pass = absurd came
      in_flow (Receives bytes connection) e p came pass =
          let f = found laws names are Role.Server ends timely bytes connection (subst (λ (c : Call). MayCall names Role.Server c ends) (sym e) may) p came pass
          in let same = same_Some f.datagram.connection both_old.together.connection (sym (laws.own_connection_inside names ends Role.Server bytes connection f.datagram timely f.delivered was_in) ∙ both_old.together.of_server)
          in among (IsSpelledIn names Role.Client both_old.together.connection both_old.together.client.flow) f.datagram ends.sent f.delivered.was_sent both_old.together.client_flow f.sender same p f.read

      module _ (before : Confirming names spare ends) (within_spare : Answers spare server_new) where
        server_goes : IsConfirmed names spare server_new
        server_goes = record {
          few = conf.few;
          said = each_append (IsSaid names spare server_new) ends.sent _ (each_map (IsSaid names spare ends) (IsSaid names spare server_new) keeps ends.sent conf.said)
              (subst (λ (key : Key). Each (IsSaid names spare server_new) (handed_out ends.time Role.Server then_is.connection (spellings key (outcome call ends.moment ends.server).pdus))) (sym key_is)
              (each_map (Spells names (IsNumbered spare server_new)) (IsSaid names spare server_new) (λ d spells sender same pdu read closes. spells pdu read) _
              (spell laws names (IsNumbered spare server_new) Role.Server ends.time then_is.connection then_is.link ends.server.link.sent then_is.link.sent (outcome call ends.moment ends.server).pdus pdus_are speaks.pdus says)));
        }
          where
            conf : IsConfirmed names spare ends
            conf = before in_old

            speaks : Speaks ends.server.link then_is.link (outcome call ends.moment ends.server).pdus
            speaks = server_speaks spare ends then_is sent_then _ (sides_of names ends both_old) (sides_of names server_new both_new) (CameBy ends.server.link call) (outcome call ends.moment ends.server).pdus (outcome call ends.moment ends.server).given (outcome call ends.moment ends.server).taken
                given_is taken_is does (in_flow call refl) within_spare

            keeps : (d : Sent) → IsSaid names spare ends d → IsSaid names spare server_new d
            keeps d said sender same pdu read closes = server_keeps spare ends then_is sent_then _ (sides_of names ends both_old) (sides_of names server_new both_new) (CameBy ends.server.link call) (outcome call ends.moment ends.server).pdus (outcome call ends.moment ends.server).given (outcome call ends.moment ends.server).taken
                given_is taken_is does (in_flow call refl) within_spare pdu (said sender (sym connection_is ∙ same) pdu read closes)

            says : (m : ℕ) (pdu : Pdu) → m < then_is.link.sent → IsFrom then_is.link m pdu → IsNumbered spare server_new pdu
            says = server_says spare ends then_is sent_then _ (sides_of names ends both_old) (sides_of names server_new both_new) (CameBy ends.server.link call) (outcome call ends.moment ends.server).pdus (outcome call ends.moment ends.server).given (outcome call ends.moment ends.server).taken
                given_is taken_is does (in_flow call refl) within_spare

  -- of the client
  module _ (call : Call) (may : MayCall names Role.Client call ends) where
    abbrev pub client_is : EndState
    client_is = end_after (outcome call ends.moment ends.client) ends.moment ends.client

    abbrev pub client_sent : List Sent
    client_sent = ends.sent ++ handed_out ends.time Role.Client (end_after (outcome call ends.moment ends.client) ends.moment ends.client).connection (spellings ends.client.link.identity.key (outcome call ends.moment ends.client).pdus)

    abbrev pub client_new : Ends
    client_new = with_client (end_after (outcome call ends.moment ends.client) ends.moment ends.client) client_sent (ends.moment + length (outcome call ends.moment ends.client).pdus) ends

    pub client_timely : Timely names client_new
    unfolding called
    client_timely = laws.every_event_keeps_time names (Calls Role.Client call) ends are timely may

    pub client_ordered : Ordered names client_new
    unfolding called
    client_ordered = laws.every_event_keeps_order_kept names (Calls Role.Client call) ends are timely ordered may

    module _ (in_new : AreIn client_new) where
      client_one_then : ends.server.connection ≡ client_is.connection
      client_one_then = laws.one_connection_inside names client_new client_timely in_new.client in_new.server

      -- it enters no connection: the server is in none that begins now
      pub enters_none : (outcome call ends.moment ends.client).enters ≡ None
      enters_none = client_enters_none laws names are ends timely call may client_one_then

      pub client_was_in : is_open ends.client.link.phase ≡ true
      unfolding end_after
      client_was_in = choose (is_open ends.client.link.phase) refl
        where
          choose : (b : Bool) → is_open ends.client.link.phase ≡ b → b ≡ true
          choose true e = refl
          choose false e = absurd (false≢true (sym (laws.outside_until_it_enters_stays call ends.moment ends.client e enters_none) ∙ in_new.client))

      client_in_old : AreIn ends
      client_in_old = record { client = client_was_in; server = in_new.server }

      pub client_both_old : Both names ends
      client_both_old = both_of names ends timely ordered client_in_old

      pub client_both_new : Both names client_new
      client_both_new = both_of names client_new client_timely client_ordered in_new

      pub client_given_is : client_is.given ≡ ends.client.given ++ (outcome call ends.moment ends.client).given
      unfolding end_after
      client_given_is = ap (λ (e : Option ℕ). kept e ends.client.given ++ (outcome call ends.moment ends.client).given) enters_none

      pub client_taken_is : client_is.taken ≡ ends.client.taken ++ (outcome call ends.moment ends.client).taken
      unfolding end_after
      client_taken_is = ap (λ (e : Option ℕ). kept e ends.client.taken ++ (outcome call ends.moment ends.client).taken) enters_none

      client_found_in : (bytes : List ℕ) (connection : ℕ) → Receives bytes connection ≡ call → (p : Pdu) → Read ends.client.link bytes p → Passes ends.client.link p → Found names Role.Client ends bytes connection p
      client_found_in bytes connection e p came pass = found laws names are Role.Client ends timely bytes connection (subst (λ (c : Call). MayCall names Role.Client c ends) (sym e) may) p came pass

      client_own_is : (bytes : List ℕ) (connection : ℕ) (p : Pdu) (f : Found names Role.Client ends bytes connection p) → ends.client.connection ≡ Some f.datagram.connection
      client_own_is bytes connection p f = laws.own_connection_inside names ends Role.Client bytes connection f.datagram timely f.delivered client_was_in

      pub client_in_flow : (c : Call) → c ≡ call → (p : Pdu) → CameBy ends.client.link c p → Passes ends.client.link p → IsOf p client_both_old.together.server.flow
      client_in_flow Ticks e p came pass = absurd came
      client_in_flow Opens e p came pass = absurd came
      client_in_flow (Closes why) e p came pass = absurd came
      client_in_flow (Sends item) e p came pass = absurd came
      client_in_flow (Receives bytes connection) e p came pass =
          let f = client_found_in bytes connection e p came pass
          in let same = same_Some f.datagram.connection client_both_old.together.connection (sym (client_own_is bytes connection p f) ∙ client_both_old.together.of_client)
          in among (IsSpelledIn names Role.Server client_both_old.together.connection client_both_old.together.server.flow) f.datagram ends.sent f.delivered.was_sent client_both_old.together.server_flow f.sender same p f.read

      module _ (before : Confirming names spare ends) where
        client_conf : IsConfirmed names spare ends
        client_conf = before client_in_old

        client_numbered : (c : Call) → c ≡ call → (p : Pdu) → CameBy ends.client.link c p → Passes ends.client.link p → IsNumbered spare ends p
        client_numbered Ticks e p came pass = absurd came
        client_numbered Opens e p came pass = absurd came
        client_numbered (Closes why) e p came pass = absurd came
        client_numbered (Sends item) e p came pass = absurd came
        client_numbered (Receives bytes connection) e p came pass =
            let f = client_found_in bytes connection e p came pass
            in among (IsSaid names spare ends) f.datagram ends.sent f.delivered.was_sent client_conf.said f.sender
            (laws.one_connection_inside names ends timely client_was_in in_new.server ∙ client_own_is bytes connection p f) p f.read (word_closes p.body pass.word)

        moves : Moves spare ends client_is
        unfolding end_after
        moves = choose (is_asking ends.client.link) refl
          where
            settled_at : IsSettledAt (reading_of ends.client.clock) ends.client.link
            settled_at = settled_so laws names ends Role.Client timely client_was_in

            choose : (b : Bool) → is_asking ends.client.link ≡ b → Moves spare ends client_is
            choose true e = asking_moves spare ends client_is client_sent _ (sides_of names ends client_both_old) (sides_of names client_new client_both_new) (outcome call ends.moment ends.client).given (outcome call ends.moment ends.client).taken client_given_is client_taken_is client_conf.few e
                (asks_by call ends.moment ends.client client_was_in settled_at e enters_none in_new.client)
            choose false e = client_moves spare ends client_is client_sent _ (sides_of names ends client_both_old) (sides_of names client_new client_both_new) (outcome call ends.moment ends.client).given (outcome call ends.moment ends.client).taken client_given_is client_taken_is client_conf.few (CameBy ends.client.link call)
                (outcome call ends.moment ends.client).pdus e (does_by call ends.moment ends.client client_was_in settled_at e enters_none in_new.client) (client_numbered call refl) (client_in_flow call refl)

        client_goes : IsConfirmed names spare client_new
        client_goes = record {
          few = moves.few;
          said = each_append (IsSaid names spare client_new) ends.sent _
              (each_map (IsSaid names spare ends) (IsSaid names spare client_new) (λ d said sender same pdu read closes. client_keeps spare ends client_is client_sent _ moves pdu (said sender same pdu read closes)) ends.sent client_conf.said)
              (of_client names spare client_new ends.time client_is.connection (spellings ends.client.link.identity.key (outcome call ends.moment ends.client).pdus));
        }

-- ---- a server enters the connection

-- what an end outside says to what comes: the response, or a closing
abbrev IsFirst : Pdu → Type 0
IsFirst p = IsResponse p.body ⊎ IsClosing p.body

granting_says : (p : Pdu) (o : Opening) (l : LinkState) → Each IsFirst (granting p o l).pdus
unfolding granting judging sending telling pdu_of
granting_says p o l = choose (pointwise nat_eq o.version own_version) (o.window == window_size)
  where
    met : LinkState
    met = meeting p (beginning l)

    choose : (a b : Bool) → Each IsFirst (if a then (if b then sending (ConnectionResponse own_opening) met else telling Reason.Window met) else telling Reason.Version met).pdus
    choose true true = (inl tt, tt)
    choose true false = (inr tt, tt)
    choose false b = (inr tt, tt)

outside_says : LawsBelow → (now : ℕ) (bytes : List ℕ) (l : LinkState) → is_open l.phase ≡ false → Each IsFirst (receiving now bytes l).pdus
unfolding receiving hearing_bytes
outside_says laws now bytes l shut = subst (λ (s : Step). Each IsFirst (s.pdus ++ (hearing_bytes (reading l.identity.key bytes) s.link).pdus)) (sym (laws.connection_begins_entering now l shut)) (says (reading l.identity.key bytes))
  where
    at : LinkState
    at = record l { clock = now }

    by_outside : (p : Pdu) → HearsOutside p at (hearing p at) → Each IsFirst (hearing p at).pdus
    by_outside p (refuses why not same) = subst (λ (r : Receipt). Each IsFirst r.pdus) (sym same) tt
    by_outside p (grants o server body down late same) = subst (λ (r : Receipt). Each IsFirst r.pdus) (sym same) (granting_says p o at)

    says : (what : Result Pdu PduFault) → Each IsFirst (hearing_bytes what at).pdus
    says (Err fault) = tt
    says (Ok p) = by_outside p (laws.connection_begins_hearing p at shut)

-- a response is the first PDU of its sender
response_first : (giver : EndFlow) (place : ℕ) (body : Body) → IsResponse body → Carries giver place body → place ≡ 0
response_first giver place (ConnectionResponse o) is carries = carries.0.0
response_first giver place (ConnectionRequest o) is carries = absurd is
response_first giver place RetransmissionRequest is carries = absurd is
response_first giver place RetransmissionResponse is carries = absurd is
response_first giver place (DisconnectionRequest detail why) is carries = absurd is
response_first giver place Heartbeat is carries = absurd is
response_first giver place (Data items) is carries = absurd is
response_first giver place (RetransmittedData items) is carries = absurd is

pub as_many_wait : (waiting : List Unconfirmed) → length (items_of waiting) ≡ length waiting
as_many_wait [] = refl
as_many_wait (first ∷ others) = ap suc (as_many_wait others)

module _ (laws : LawsBelow) (names : Names) (are : AreNames names) (spare : ℕ) (ends : Ends) (timely : Timely names ends) (ordered : Ordered names ends)
    (bytes : List ℕ) (connection : ℕ) (may : MayCall names Role.Server (Receives bytes connection) ends)
    (opened : is_open (server_new laws names are spare ends timely ordered (Receives bytes connection) may).server.link.phase ≡ true) (shut : is_open ends.server.link.phase ≡ false) where
  abbrev entered_ends : Ends
  entered_ends = server_new laws names are spare ends timely ordered (Receives bytes connection) may

  entered_timely : Timely names entered_ends
  entered_timely = server_timely laws names are spare ends timely ordered (Receives bytes connection) may

  -- it takes what comes
  pub takes_it : is_taken (receiving (reading_of ends.server.clock) bytes ends.server.link).verdict ≡ true
  unfolding end_after outcome
  takes_it = choose (is_taken (receiving (reading_of ends.server.clock) bytes ends.server.link).verdict) refl
    where
      none_where : is_taken (receiving (reading_of ends.server.clock) bytes ends.server.link).verdict ≡ false → (outcome (Receives bytes connection) ends.moment ends.server).enters ≡ None
      none_where e = ap (λ (b : Bool). if not (is_open ends.server.link.phase) && b then Some connection else None) e ∙ off (not (is_open ends.server.link.phase))
        where
          off : (a : Bool) → (if a && false then Some connection else None) ≡ None
          off true = refl
          off false = refl

      choose : (b : Bool) → is_taken (receiving (reading_of ends.server.clock) bytes ends.server.link).verdict ≡ b → b ≡ true
      choose true e = refl
      choose false e = absurd (false≢true (sym (laws.outside_until_it_enters_stays (Receives bytes connection) ends.moment ends.server shut (none_where e)) ∙ opened))

  pub delivered_is : (datagram : Sent) × IsDelivered ends bytes connection datagram
  delivered_is = choose may
    where
      choose : MayCall names Role.Server (Receives bytes connection) ends → (datagram : Sent) × IsDelivered ends bytes connection datagram
      choose (inl sent) = sent
      choose (inr other) = absurd (false≢true (sym (laws.what_is_taken names ends Role.Server bytes timely other).1 ∙ takes_it))

  pub enters_by : IsOpening names Role.Server ends delivered_is.0
  enters_by = laws.opening_is_new names ends Role.Server bytes connection delivered_is.0 are timely delivered_is.1 shut takes_it

  pub connection_then : entered_ends.server.connection ≡ Some delivered_is.0.connection
  unfolding called
  connection_then = laws.own_connection_taken names ends Role.Server bytes connection delivered_is.0 timely delivered_is.1 takes_it

  -- where its client is in a connection
  module _ (in_new : AreIn entered_ends) where
    pub entered_both : Both names entered_ends
    entered_both = both_of names entered_ends entered_timely (server_ordered laws names are spare ends timely ordered (Receives bytes connection) may) in_new

    pub entered_one : entered_ends.server.connection ≡ ends.client.connection
    entered_one = laws.one_connection_inside names entered_ends entered_timely in_new.client in_new.server

    -- nothing was sent there before
    none_before : (d : Sent) → InFlight names (times_of ends timely.of_client timely.of_server timely.newest) d → IsSaid names spare entered_ends d
    none_before d flies sender same pdu read closes = absurd (over (enters_by.is_new timely.newest was_there))
      where
        known : IsKnown (times_of ends timely.of_client timely.of_server timely.newest) Role.Server d.at d.connection flies.pdu flies.back
        known = subst (λ (r : Role). IsKnown (times_of ends timely.of_client timely.of_server timely.newest) r d.at d.connection flies.pdu flies.back) sender flies.known

        newest_is : d.connection ≡ timely.newest
        newest_is = same_Some d.connection timely.newest (sym same ∙ entered_one ∙ known.begun)

        was_there : ends.server.connection ≡ Some timely.newest
        was_there = known.entered newest_is tt

        over : timely.newest < delivered_is.0.connection → ⊥
        over lt = let e = same_Some delivered_is.0.connection d.connection (sym connection_then ∙ same) in omega (arith, lt, e, newest_is)

    first_said : (ps : List Pdu) → Each IsPdu ps → Each IsFirst ps → (time : ℕ) (last : Option ℕ)
        → Each (IsSpelledIn names Role.Server entered_both.together.connection entered_both.together.server.flow) (handed_out time Role.Server last (spellings names.key ps)) → Each (IsSaid names spare entered_ends) (handed_out time Role.Server last (spellings names.key ps))
    first_said [] are_pdus first time last spelled = tt
    first_said (p ∷ ps) are_pdus first time last spelled = (
      λ sender same pdu read closes. numbered pdu (reads_as laws names.key p pdu are_pdus.0 read) closes
          (spelled.0 sender (same_Some _ entered_both.together.connection (sym same ∙ entered_both.together.of_server)) pdu read),
      first_said ps are_pdus.1 first.1 time last spelled.1,
    )
      where
        numbered : (pdu : Pdu) → p ≡ pdu → (IsClosing pdu.body → ⊥) → IsOf pdu entered_both.together.server.flow → IsNumbered spare entered_ends pdu
        numbered pdu is closes of = record {
          place = of.0;
          number = made.number ∙ ap (λ (f : ℕ). wire f of.0) (sym joined_is.inside.own_first);
          sent = let lt = within of.0 pdu entered_both.together.server.flow of.1 in let c = joined_is.inside.counted in omega (arith, lt, c);
          confirms = λ come. absurd (by_body (subst IsFirst is first.0) come);
        }
          where
            made : IsSent entered_both.together.server entered_both.together.client.first of.0 pdu
            made = entered_both.together.order.back.each of.0 pdu of.1

            joined_is : HasJoined entered_ends.server.link entered_both.together.server entered_both.together.client
            joined_is = server_joined names entered_ends entered_both

            by_body : IsFirst pdu → reached_by entered_ends.client.link ≤ of.0 → ⊥
            by_body (inr closing) come = closes closing
            by_body (inl response) come =
                let zero_is = response_first entered_both.together.server of.0 pdu.body response made.carries
                in let some = entered_both.together.order.back.counts.some
                in let r = reached_is names entered_ends entered_both
                in omega (arith, zero_is, some, r, come)

    none_given : length entered_ends.server.given ≡ 0
    unfolding end_after outcome
    none_given = ap (λ (b : Bool). length (kept (if not b && is_taken (receiving (reading_of ends.server.clock) bytes ends.server.link).verdict then Some connection else None) ends.server.given ++ [])) shut
        ∙ ap (λ (b : Bool). length (kept (if b then Some connection else None) ends.server.given ++ [])) takes_it

    are_first : Each IsFirst (outcome (Receives bytes connection) ends.moment ends.server).pdus
    unfolding outcome
    are_first = outside_says laws (reading_of ends.server.clock) bytes ends.server.link shut

    server_enters : IsConfirmed names spare entered_ends
    server_enters = record {
      few =
          let level = client_level names entered_ends entered_both
          in let none = none_given
          in let last = entered_both.together.order.there.waits.last
          in let many = ap length last.1 ∙ as_many_both last.0 (items_of entered_both.together.client.waiting)
          in let waits = as_many_wait entered_both.together.client.waiting
          in let w = ap length (client_inside names entered_ends entered_both).keeps.waiting
          in let g = ap length entered_both.together.client_given
          in omega (arith, level, none, many, waits, w, g);
      said = each_append (IsSaid names spare entered_ends) ends.sent _ (each_map (InFlight names (times_of ends timely.of_client timely.of_server timely.newest)) (IsSaid names spare entered_ends) none_before ends.sent timely.datagrams) first_ones;
    }
      where
        first_ones : Each (IsSaid names spare entered_ends) (handed_out ends.time Role.Server entered_ends.server.connection (spellings ends.server.link.identity.key (outcome (Receives bytes connection) ends.moment ends.server).pdus))
        first_ones = subst (λ (key : Key). Each (IsSaid names spare entered_ends) (handed_out ends.time Role.Server entered_ends.server.connection (spellings key (outcome (Receives bytes connection) ends.moment ends.server).pdus)))
            (sym (ap (λ (i : Identity). i.key) timely.server.identity))
            (first_said (outcome (Receives bytes connection) ends.moment ends.server).pdus (laws.calls_hand_out_pdus names ends Role.Server (Receives bytes connection) timely may) are_first ends.time entered_ends.server.connection
            (subst (λ (key : Key). Each (IsSpelledIn names Role.Server entered_both.together.connection entered_both.together.server.flow) (handed_out ends.time Role.Server entered_ends.server.connection (spellings key (outcome (Receives bytes connection) ends.moment ends.server).pdus)))
            (ap (λ (i : Identity). i.key) timely.server.identity)
            (second_part (IsSpelledIn names Role.Server entered_both.together.connection entered_both.together.server.flow) ends.sent _ entered_both.together.server_flow)))

-- ---- time

-- an end that a server's PDUs don't tell from another
pub record Alike (one other : EndState) : Type 0 where
  pub own_first : other.link.own_first ≡ one.link.own_first
  pub sent : other.link.sent ≡ one.link.sent
  pub reached : reached_by other.link ≡ reached_by one.link
  pub waiting : other.link.waiting ≡ one.link.waiting
  pub given : other.given ≡ one.given
  pub taken : other.taken ≡ one.taken
  pub connection : other.connection ≡ one.connection

pub numbered_alike : (spare : ℕ) (old new : Ends) → Alike old.client new.client → Alike old.server new.server → (pdu : Pdu) → IsNumbered spare old pdu → IsNumbered spare new pdu
numbered_alike spare old new c s pdu n = record {
  place = n.place;
  number = n.number ∙ ap (λ (f : ℕ). wire f n.place) (sym s.own_first);
  sent = let e = s.sent in let lt = n.sent in omega (arith, e, lt);
  confirms = λ come. let r = c.reached in let k = n.confirms (omega (arith, r, come)) in record {
    expecting = k.expecting;
    some = k.some;
    most = let e = c.sent in let m = k.most in omega (arith, e, m);
    confirmed = k.confirmed ∙ ap (λ (f : ℕ). wire f (k.expecting - 1)) (sym c.own_first);
    had = k.had;
    few = let e = ap length s.taken in let f = k.few in omega (arith, e, f);
    waits = let w = ap (waiting_from k.expecting) c.waiting in let g = ap length c.given in let h = k.waits in omega (arith, w, g, h);
    answers = let w = ap (waiting_from (n.place + 1)) s.waiting in let g = ap length s.given in let h = k.answers in omega (arith, w, g, h);
  };
}

pub few_alike : (spare : ℕ) (old new : Ends) → Alike old.client new.client → FewWait spare old → FewWait spare new
few_alike spare old new c few = let w = ap length c.waiting in let g = ap length c.given in let t = ap length c.taken in omega (arith, w, g, t, few)

-- an end whose clock went on, and that is still in its connection
pub settled_open : (now : ℕ) (l : LinkState) → is_open (settled now l).phase ≡ true → (settled now l ≡ record l { clock = now }) × (is_open l.phase ≡ true)
unfolding settled
settled_open now l = choose (is_open l.phase) (nat_le (deadline l) now) refl
  where
    over : LinkState
    over = record l { phase = Phase.Closed; closed_at = deadline l; clock = now }

    choose : (a b : Bool) → is_open l.phase ≡ a → is_open (if a && b then over else record l { clock = now }).phase ≡ true → ((if a && b then over else record l { clock = now }) ≡ record l { clock = now }) × (is_open l.phase ≡ true)
    choose true true f e = absurd (false≢true e)
    choose true false f e = (refl, f)
    choose false b f e = absurd (false≢true (sym f ∙ e))

pub later_alike : (elapsed moment : ℕ) (end : EndState) → is_open (end_later elapsed moment end).link.phase ≡ true → Alike end (end_later elapsed moment end) × (is_open end.link.phase ≡ true)
unfolding end_later
later_alike elapsed moment end opened =
    let so = settled_open (reading_of (end.clock + elapsed)) end.link opened
    in (
      record {
        own_first = ap (λ (l : LinkState). l.own_first) so.0;
        sent = ap (λ (l : LinkState). l.sent) so.0;
        reached = ap (λ (l : LinkState). if is_asking l then 1 else l.expected) so.0;
        waiting = ap (λ (l : LinkState). l.waiting) so.0;
        given = refl;
        taken = refl;
        connection = refl;
      },
      so.1,
    )

passes : (names : Names) (spare elapsed of_client of_server : ℕ) (ends : Ends) → Confirming names spare ends → Confirming names spare (later elapsed of_client of_server ends)
unfolding later
passes names spare elapsed of_client of_server ends before in_new = record {
  few = few_alike spare ends (later elapsed of_client of_server ends) c.0 conf.few;
  said = each_map (IsSaid names spare ends) (IsSaid names spare (later elapsed of_client of_server ends)) (λ d said sender same pdu read closes. numbered_alike spare ends (later elapsed of_client of_server ends) c.0 s.0 pdu (said sender (sym s.0.connection ∙ same) pdu read closes)) ends.sent conf.said;
}
  where
    c : Alike ends.client (end_later of_client ends.moment ends.client) × (is_open ends.client.link.phase ≡ true)
    c = later_alike of_client ends.moment ends.client in_new.client

    s : Alike ends.server (end_later of_server ends.moment ends.server) × (is_open ends.server.link.phase ≡ true)
    s = later_alike of_server ends.moment ends.server in_new.server

    conf : IsConfirmed names spare ends
    conf = before (record { client = c.1; server = s.1 })

-- ---- every event

losses : (names : Names) (spare : ℕ) (bytes : List ℕ) (ends : Ends) → Confirming names spare ends → Confirming names spare (lost bytes ends)
unfolding lost
losses names spare bytes ends before in_new = record {
  few = (before (record { client = in_new.client; server = in_new.server })).few;
  said = each_without (IsSaid names spare (record ends { sent = without_oldest bytes ends.sent })) (λ d is_lost said. said) bytes ends.sent
      (each_map (IsSaid names spare ends) (IsSaid names spare (record ends { sent = without_oldest bytes ends.sent })) (λ d said sender same pdu read closes. let n = said sender same pdu read closes in record { place = n.place; number = n.number; sent = n.sent; confirms = λ come. let k = n.confirms come in record { expecting = k.expecting; some = k.some; most = k.most; confirmed = k.confirmed; had = k.had; few = k.few; waits = k.waits; answers = k.answers } }) ends.sent (before (record { client = in_new.client; server = in_new.server })).said);
}

elsewhere : (names : Names) (spare count : ℕ) (ends : Ends) → Confirming names spare ends → Confirming names spare (record ends { moment = ends.moment + count })
elsewhere names spare count ends before in_new = record {
  few = (before (record { client = in_new.client; server = in_new.server })).few;
  said = each_map (IsSaid names spare ends) _ (λ d said sender same pdu read closes. let n = said sender same pdu read closes in record { place = n.place; number = n.number; sent = n.sent; confirms = λ come. let k = n.confirms come in record { expecting = k.expecting; some = k.some; most = k.most; confirmed = k.confirmed; had = k.had; few = k.few; waits = k.waits; answers = k.answers } }) ends.sent (before (record { client = in_new.client; server = in_new.server })).said;
}

anew : (names : Names) (spare : ℕ) (who : Role) (clock first : ℕ) (ends : Ends) → Confirming names spare (restarted who clock first ends)
unfolding restarted end_restarted created
anew names spare Role.Client clock first ends in_new = absurd (false≢true in_new.client)
anew names spare Role.Server clock first ends in_new = absurd (false≢true in_new.server)

-- a server outside that enters nothing stays outside
pub stays_outside : (laws : LawsBelow) (call : Call) (moment : ℕ) (end : EndState) → is_open end.link.phase ≡ false → (outcome call moment end).enters ≡ None → is_open (end_after (outcome call moment end) moment end).link.phase ≡ true → ⊥
unfolding end_after
stays_outside laws call moment end shut none opened = false≢true (sym (laws.outside_until_it_enters_stays call moment end shut none) ∙ opened)

module _ (laws : LawsBelow) (names : Names) (are : AreNames names) (spare : ℕ) (ends : Ends) (timely : Timely names ends) (ordered : Ordered names ends) where
  abbrev NewEnds : (call : Call) → MayCall names Role.Server call ends → Ends
  NewEnds call may = server_new laws names are spare ends timely ordered call may

  -- nor does it open: the client's connection isn't one that begins now
  pub opens_not : (may : MayCall names Role.Server Opens ends) → AreIn (NewEnds Opens may) → is_open ends.server.link.phase ≡ false → ⊥
  unfolding outcome end_after
  opens_not may in_new shut = choose (opens (reading_of ends.server.clock) ends.server.link) refl
    where
      one_then : (NewEnds Opens may).server.connection ≡ ends.client.connection
      one_then = laws.one_connection_inside names (NewEnds Opens may) (server_timely laws names are spare ends timely ordered Opens may) in_new.client in_new.server

      over : ends.moment < ends.moment → ⊥
      over lt = omega (arith, lt)

      choose : (b : Bool) → opens (reading_of ends.server.clock) ends.server.link ≡ b → ⊥
      choose false e = stays_outside laws Opens ends.moment ends.server shut (ap (λ (b : Bool). if b then Some ends.moment else None) e) in_new.server
      choose true e = over (laws.one_connection_counted names ends Role.Client ends.moment timely (sym one_then ∙ ap (λ (b : Bool). newer (if b then Some ends.moment else None) ends.server.connection) e))

  outside_server : (call : Call) (may : MayCall names Role.Server call ends) → AreIn (NewEnds call may) → is_open ends.server.link.phase ≡ false → IsConfirmed names spare (NewEnds call may)
  unfolding outcome
  outside_server Ticks may in_new shut = absurd (stays_outside laws Ticks ends.moment ends.server shut refl in_new.server)
  outside_server Opens may in_new shut = absurd (opens_not may in_new shut)
  outside_server (Closes why) may in_new shut = absurd (stays_outside laws (Closes why) ends.moment ends.server shut refl in_new.server)
  outside_server (Sends item) may in_new shut = absurd (stays_outside laws (Sends item) ends.moment ends.server shut refl in_new.server)
  outside_server (Receives bytes connection) may in_new shut = server_enters laws names are spare ends timely ordered bytes connection may in_new.server shut in_new

  calls_server : (call : Call) → MayCall names Role.Server call ends → Confirming names spare ends → (AreIn (called Role.Server call ends) → Answers spare (called Role.Server call ends)) → Confirming names spare (called Role.Server call ends)
  unfolding called
  calls_server call may before within_spare in_new = choose (is_open ends.server.link.phase) refl
    where
      choose : (b : Bool) → is_open ends.server.link.phase ≡ b → IsConfirmed names spare (NewEnds call may)
      choose true e = server_goes laws names are spare ends timely ordered call may in_new e before (within_spare in_new)
      choose false e = outside_server call may in_new e

  calls_client : (call : Call) → MayCall names Role.Client call ends → Confirming names spare ends → Confirming names spare (called Role.Client call ends)
  unfolding called
  calls_client call may before in_new = client_goes laws names are spare ends timely ordered call may in_new before

pub event_confirms : (laws : LawsBelow) (names : Names) (event : Event) (ends : Ends) (spare : ℕ) → AreNames names → Timely names ends → Ordered names ends → May names event ends → Confirming names spare ends
    → (AreIn (happened event ends) → Answers spare (happened event ends)) → Confirming names spare (happened event ends)
event_confirms laws names (Calls Role.Server call) ends spare are timely ordered may before within_spare = calls_server laws names are spare ends timely ordered call may before within_spare
event_confirms laws names (Calls Role.Client call) ends spare are timely ordered may before within_spare = calls_client laws names are spare ends timely ordered call may before
event_confirms laws names (TimePasses elapsed of_client of_server) ends spare are timely ordered may before within_spare = passes names spare elapsed of_client of_server ends before
event_confirms laws names (Loses bytes) ends spare are timely ordered may before within_spare = losses names spare bytes ends before
event_confirms laws names (Restarts who clock first) ends spare are timely ordered may before within_spare = anew names spare who clock first ends
event_confirms laws names (Elsewhere count) ends spare are timely ordered may before within_spare = elsewhere names spare count ends before
