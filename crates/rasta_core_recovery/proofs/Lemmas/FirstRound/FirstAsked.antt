-- A client that asks for a connection stands as it did when it asked, and has sent its request there and nothing else.
use Rattle.rasta_core_recovery.proofs.Words.Basics.{◌≡◌, ℕ, ◌∙◌, ◌+◌, ◌^◌, ◌<◌, inl, inr, Bool, true, false, ◌&&◌, not, nat_lt, List, [], ◌∷◌, ◌++◌, length, Option, Some, None, Ok, if◌then◌else◌, refl, sym, ap, subst, arith, false≢true, nat_tests, same_Some}
use Rattle.rasta_core_recovery.proofs.Words.Links.{wire, LinkState, is_asking, is_client, is_open, deadline, settled, state_at, beginning, is_down, may_open, requesting, Step, entered, header_of, pdu_of, sending, silent, telling, then_do, created, opening, opens, receiving, spellings, Identity, Role, Key, Reason, Phase, Pdu, reading, IsPdu, Each, Call, Closes, EndState, Opens, Receives, Sends, Sent, Ticks, end_after, end_later, end_restarted, handed_out, is_taken, newer, outcome, reading_of, Calls, Elsewhere, Event, Loses, May, MayCall, Passes as TimePasses, Restarts, Start, happened, started, AreNames, Names, Ends, called, later, lost, restarted, InFlight, Timely, times_of}
use Rattle.rasta_core_recovery.proofs.Words.Recovery.{LawsBelow}
use Rattle.rasta_core_recovery.proofs.Lemmas.Rounds.Calls.{not_down}
use Rattle.rasta_core_recovery.proofs.Lemmas.Windows.ConfirmingEvents.{CameBy, does_by, each_without, settled_open, settled_so}
use Rattle.rasta_core_recovery.proofs.Lemmas.Rounds.Deed.{lives_state}
use Rattle.rasta_core_recovery.proofs.Lemmas.Falling.FallsCalls.{AskMoved, ask_moves_by, asks_on, joins_by}
use Rattle.rasta_core_recovery.proofs.Lemmas.Falling.FallsEvents.{client_past}
use Rattle.rasta_core_recovery.proofs.Lemmas.Rounds.Lists.{each_append}
use Rattle.rasta_core_recovery.proofs.Lemmas.ComingUp.Opens.{Left, asking_link, request, resting_link}
use Rattle.rasta_core_recovery.proofs.Lemmas.ComingUp.Stays.{entered_out, left_of, out_is}
use Rattle.rasta_core_recovery.proofs.Lemmas.Windows.StaysIn.{Does, IsSettledAt, answers, calm, entering, gives, takes}
use Rattle.rasta_core_recovery.proofs.Lemmas.Rounds.Bridge.{reads_as}
use Rattle.rasta_core_recovery.proofs.Lemmas.Rounds.Facts.{each_map}

-- a datagram of the client in its connection spells its request
abbrev pub IsRequestOf : Names → Ends → Sent → Type 0
IsRequestOf names ends d = d.sender ≡ Role.Client → ends.client.connection ≡ Some d.connection → (pdu : Pdu) → reading names.key d.bytes ≡ Ok pdu
    → pdu ≡ request names ends.client.link.own_first ends.client.link.own_stamp

pub record IsAsked (names : Names) (ends : Ends) : Type 0 where
  pub link : ends.client.link ≡ asking_link names ends.client.link.clock ends.client.link.closed_at ends.client.link.own_first ends.client.link.own_stamp
  pub fits : ends.client.link.own_first < 2 ^ 32
  pub said : Each (IsRequestOf names ends) ends.sent

-- so it is while it asks
abbrev pub Asked : Names → Ends → Type 0
Asked names ends = is_asking ends.client.link ≡ true → IsAsked names ends

pub open_asking : (l : LinkState) → is_asking l ≡ true → is_open l.phase ≡ true
open_asking l e = by l.phase refl
  where
    by : (at : Phase) → l.phase ≡ at → is_open l.phase ≡ true
    by Phase.Closed f = absurd (cc (e, not_asking))
      where
        not_asking : is_asking l ≡ false
        not_asking = rw f refl
    by Phase.Start f = ap is_open f
    by Phase.Up f = ap is_open f
    by Phase.RetransmissionRequested f = ap is_open f
    by Phase.RetransmissionRunning f = ap is_open f

-- ---- a client opens

opening_asks : (names : Names) (now clock closed_at : ℕ) (left : Left) → opens now (resting_link names Role.Client clock closed_at left) ≡ true
    → opening now (resting_link names Role.Client clock closed_at left)
    ≡ record { link = asking_link names now closed_at (wire left.own_first left.sent) now; pdus = request names (wire left.own_first left.sent) now ∷ [] }
unfolding opening opens requesting beginning sending header_of pdu_of
opening_asks names now clock closed_at left may = ap (λ (s : Step). then_do s (λ l. if may_open l then requesting l else silent l)) at ∙ rw here refl
  where
    at : entered now (resting_link names Role.Client clock closed_at left) ≡ silent (resting_link names Role.Client now closed_at left)
    at = entered_out now (resting_link names Role.Client clock closed_at left) refl

    here : may_open (resting_link names Role.Client now closed_at left) ≡ true
    here = ap (λ (s : Step). may_open s.link) (sym at) ∙ may

-- one that is open doesn't
opens_not_inside : (now : ℕ) (l : LinkState) → is_open l.phase ≡ true → IsSettledAt now l → opens now l ≡ false
unfolding opens telling sending state_at deadline
opens_not_inside now l is_in settled_at = entering now l is_in settled_at (λ (s : Step). may_open s.link ≡ false) as_it_is (shut (is_client l.identity.role))
  where
    both : (a b : Bool) → b ≡ false → a && b ≡ false
    both true b e = e
    both false b e = refl

    as_it_is : may_open l ≡ false
    as_it_is = both (is_client l.identity.role) (is_down (state_at l.clock l))
        (ap is_down (lives_state l is_in (subst (λ (n : ℕ). n < l.own_stamp + 1800) (sym settled_at.clock) settled_at.young)) ∙ not_down l.phase is_in)

    told : LinkState
    told = (telling Reason.Sequence l).link

    shut : (b : Bool) → b && is_down (state_at (telling Reason.Sequence l).link.clock (telling Reason.Sequence l).link) ≡ false
    shut b = both b (is_down (state_at (telling Reason.Sequence l).link.clock (telling Reason.Sequence l).link)) (rw quiet refl)
      where
        quiet : nat_lt l.clock (l.clock + 6000) ≡ true
        quiet = grind (arith, nat_tests)

module _ (laws : LawsBelow) (names : Names) (are : AreNames names) (ends : Ends) (timely : Timely names ends) where
  -- ---- the client is called

  module _ (call : Call) (may : MayCall names Role.Client call ends) where
    abbrev client_is : EndState
    client_is = end_after (outcome call ends.moment ends.client) ends.moment ends.client

    abbrev sent_then : List Sent
    sent_then = ends.sent ++ handed_out ends.time Role.Client (end_after (outcome call ends.moment ends.client) ends.moment ends.client).connection
        (spellings ends.client.link.identity.key (outcome call ends.moment ends.client).pdus)

    abbrev client_new : Ends
    client_new = record ends {
      client = end_after (outcome call ends.moment ends.client) ends.moment ends.client;
      sent = sent_then;
      moment = ends.moment + length (outcome call ends.moment ends.client).pdus;
    }

    key_is : ends.client.link.identity.key ≡ names.key
    key_is = ap (λ (i : Identity). i.key) timely.client.identity

    -- it was in a connection, and enters none
    module _ (was_in : is_open ends.client.link.phase ≡ true) where
      settled_at : IsSettledAt (reading_of ends.client.clock) ends.client.link
      settled_at = settled_so laws names ends Role.Client timely was_in

      none_of : (c : Call) → (outcome c ends.moment ends.client).enters ≡ None
      unfolding outcome
      none_of Ticks = refl
      none_of Opens = ap (λ (b : Bool). if b then Some ends.moment else None) (opens_not_inside (reading_of ends.client.clock) ends.client.link was_in settled_at)
      none_of (Closes why) = refl
      none_of (Sends item) = refl
      none_of (Receives bytes connection) = ap (λ (b : Bool). if not b && is_taken (receiving (reading_of ends.client.clock) bytes ends.client.link).verdict then Some connection else None) was_in

      connection_is : client_is.connection ≡ ends.client.connection
      unfolding end_after
      connection_is = ap (λ (e : Option ℕ). newer e ends.client.connection) (none_of call)

      -- it asks on
      asks_still : Asked names ends → is_asking (outcome call ends.moment ends.client).link ≡ true → IsAsked names client_new
      unfolding end_after
      asks_still before asks = by_asking (is_asking ends.client.link) refl
        where
          opened : is_open (outcome call ends.moment ends.client).link.phase ≡ true
          opened = open_asking (outcome call ends.moment ends.client).link asks

          never : (Came : Pdu → Type 0) (k : LinkState) (ps : List Pdu) (accepted handed : List (List ℕ)) → is_asking k ≡ true → Does Came ends.client.link k ps accepted handed → ⊥
          never Came k ps accepted handed e (calm s x w a h) = false≢true (sym s.joined ∙ e)
          never Came k ps accepted handed e (gives item s x w a h) = false≢true (sym s.joined ∙ e)
          never Came k ps accepted handed e (takes p c pass s x w a) = false≢true (sym s.joined ∙ e)
          never Came k ps accepted handed e (answers p c pass b s x w a) = false≢true (sym s.joined ∙ e)

          on : IsAsked names ends → AskMoved (CameBy ends.client.link call) ends.client.link (outcome call ends.moment ends.client).link (outcome call ends.moment ends.client).pdus
              → IsAsked names client_new
          on was (joins_by p came receiver sender clock joined own sent met) = absurd (false≢true (sym joined ∙ asks))
          on was (asks_on same none) = record {
            link = same ∙ was.link ∙ sym (ap (λ (k : LinkState). asking_link names k.clock k.closed_at k.own_first k.own_stamp) same);
            fits = let f = was.fits in let e = ap (λ (k : LinkState). k.own_first) same in omega (arith, f, e);
            said = each_append (IsRequestOf names client_new) ends.sent _
                (each_map (IsRequestOf names ends) (IsRequestOf names client_new)
                (λ d is sender there pdu read. is sender (sym connection_is ∙ there) pdu read ∙ sym (ap (λ (k : LinkState). request names k.own_first k.own_stamp) same)) ends.sent
                was.said)
                (subst (λ (ps : List Pdu). Each (IsRequestOf names client_new) (handed_out ends.time Role.Client client_is.connection (spellings ends.client.link.identity.key ps))) (sym none) tt);
          }

          by_asking : (b : Bool) → is_asking ends.client.link ≡ b → IsAsked names client_new
          by_asking true e = on (before e) (ask_moves_by call ends.moment ends.client was_in settled_at (client_past names ends timely was_in) e (none_of call) opened)
          by_asking false e = absurd (never _ _ _ _ _ asks (does_by call ends.moment ends.client was_in settled_at e (none_of call) opened))

    -- it was outside
    module _ (shut : is_open ends.client.link.phase ≡ false) where
      stays_shut : (outcome call ends.moment ends.client).enters ≡ None → is_asking (outcome call ends.moment ends.client).link ≡ true → ⊥
      stays_shut none asks = false≢true (sym (laws.outside_until_it_enters_stays call ends.moment ends.client shut none) ∙ open_asking (outcome call ends.moment ends.client).link asks)

  resting_is : is_open ends.client.link.phase ≡ false → ends.client.link ≡ resting_link names Role.Client ends.client.link.clock ends.client.link.closed_at (left_of ends.client.link)
  resting_is shut = out_is names Role.Client ends.client.link timely.client.identity shut

  asks_now : (may : MayCall names Role.Client Opens ends) → is_open ends.client.link.phase ≡ false → opens (reading_of ends.client.clock) ends.client.link ≡ true → IsAsked names (client_new Opens may)
  unfolding outcome end_after
  asks_now may shut opens_is = record {
    link = ap (λ (s : Step). s.link) asked ∙ sym (ap (λ (s : Step). asking_link names s.link.clock s.link.closed_at s.link.own_first s.link.own_stamp) asked);
    fits = let e = ap (λ (s : Step). s.link.own_first) asked in omega (arith, e);
    said = each_append (IsRequestOf names (client_new Opens may)) ends.sent _
        (each_map (InFlight names (times_of ends timely.of_client timely.of_server timely.newest)) (IsRequestOf names (client_new Opens may)) none_before ends.sent timely.datagrams)
        (subst (λ (key : Key). Each (IsRequestOf names (client_new Opens may))
        (handed_out ends.time Role.Client (client_is Opens may).connection (spellings key (opening (reading_of ends.client.clock) ends.client.link).pdus))) (sym (key_is Opens may))
        (subst (λ (ps : List Pdu). Each IsPdu ps → Each (IsRequestOf names (client_new Opens may))
        (handed_out ends.time Role.Client (client_is Opens may).connection (spellings names.key ps))) (sym (ap (λ (s : Step). s.pdus) asked))
        (λ are_pdus. (λ sender there pdu read. sym (reads_as laws names.key _ pdu are_pdus.0 read) ∙ sym (ap (λ (s : Step). request names s.link.own_first s.link.own_stamp) asked), tt))
        (laws.calls_hand_out_pdus names ends Role.Client Opens timely may)));
  }
    where
      left : Left
      left = left_of ends.client.link

      asked : opening (reading_of ends.client.clock)
          ends.client.link ≡ record {
            link = asking_link names (reading_of ends.client.clock) ends.client.link.closed_at (wire ends.client.link.own_first ends.client.link.sent)
                (reading_of ends.client.clock);
            pdus = request names (wire ends.client.link.own_first ends.client.link.sent) (reading_of ends.client.clock) ∷ [];
          }
      asked = ap (opening (reading_of ends.client.clock)) (resting_is shut)
          ∙ opening_asks names (reading_of ends.client.clock) ends.client.link.clock ends.client.link.closed_at (left_of ends.client.link)
          (ap (opens (reading_of ends.client.clock)) (sym (resting_is shut)) ∙ opens_is)

      none_before : (d : Sent) → InFlight names (times_of ends timely.of_client timely.of_server timely.newest) d → IsRequestOf names (client_new Opens may) d
      none_before d flies sender there pdu read = absurd (over flies.known.counted)
        where
          moment_is : ends.moment ≡ d.connection
          moment_is = same_Some ends.moment d.connection (sym (ap (λ (b : Bool). newer (if b then Some ends.moment else None) ends.client.connection) opens_is) ∙ there)

          over : d.connection < ends.moment → ⊥
          over lt = omega (arith, lt, moment_is)

  asks_by_call : (call : Call) (may : MayCall names Role.Client call ends) → is_open ends.client.link.phase ≡ false → is_asking (outcome call ends.moment ends.client).link ≡ true
      → IsAsked names (client_new call may)
  unfolding outcome
  asks_by_call Ticks may shut asks = absurd (stays_shut Ticks may shut refl asks)
  asks_by_call Opens may shut asks = choose (opens (reading_of ends.client.clock) ends.client.link) refl
    where
      choose : (b : Bool) → opens (reading_of ends.client.clock) ends.client.link ≡ b → IsAsked names (client_new Opens may)
      choose true e = asks_now may shut e
      choose false e = absurd (stays_shut Opens may shut (ap (λ (b : Bool). if b then Some ends.moment else None) e) asks)
  asks_by_call (Closes why) may shut asks = absurd (stays_shut (Closes why) may shut refl asks)
  asks_by_call (Sends item) may shut asks = absurd (stays_shut (Sends item) may shut refl asks)
  asks_by_call (Receives bytes connection) may shut asks =
      absurd (stays_shut (Receives bytes connection) may shut (none_taken (is_taken (receiving (reading_of ends.client.clock) bytes ends.client.link).verdict) refl) asks)
    where
      not_server : Role.Client ≡ Role.Server → ⊥
      not_server e = cc e

      by_may : is_taken (receiving (reading_of ends.client.clock) bytes ends.client.link).verdict ≡ true → MayCall names Role.Client (Receives bytes connection) ends → ⊥
      by_may taken (inl sent) = not_server (laws.opening_is_new names ends Role.Client bytes connection sent.0 are timely sent.1 shut taken).is_server
      by_may taken (inr other) = false≢true (sym (laws.what_is_taken names ends Role.Client bytes timely other).1 ∙ taken)

      off : (a : Bool) → (if a && false then Some connection else None) ≡ None
      off true = refl
      off false = refl

      none_taken : (b : Bool) → is_taken (receiving (reading_of ends.client.clock) bytes ends.client.link).verdict ≡ b
          → (if not (is_open ends.client.link.phase) && is_taken (receiving (reading_of ends.client.clock) bytes ends.client.link).verdict then Some connection else None) ≡ None
      none_taken true e = absurd (by_may e may)
      none_taken false e = ap (λ (b : Bool). if not (is_open ends.client.link.phase) && b then Some connection else None) e ∙ off (not (is_open ends.client.link.phase))

  client_called : (call : Call) → MayCall names Role.Client call ends → Asked names ends → Asked names (called Role.Client call ends)
  unfolding called end_after
  client_called call may before asks = choose (is_open ends.client.link.phase) refl
    where
      choose : (b : Bool) → is_open ends.client.link.phase ≡ b → IsAsked names (client_new call may)
      choose true e = asks_still call may e before asks
      choose false e = asks_by_call call may e asks

  server_called : (call : Call) → Asked names ends → Asked names (called Role.Server call ends)
  unfolding called
  server_called call before asks = let was = before asks in record {
    link = was.link;
    fits = was.fits;
    said = each_append (IsRequestOf names ends) ends.sent _ was.said
        (others (end_after (outcome call ends.moment ends.server) ends.moment ends.server).connection (spellings ends.server.link.identity.key (outcome call ends.moment ends.server).pdus));
  }
    where
      others : (c : Option ℕ) (bs : List (List ℕ)) → Each (IsRequestOf names ends) (handed_out ends.time Role.Server c bs)
      others c [] = tt
      others c (b ∷ bs) = (λ sender there pdu read. absurd (cc sender), others c bs)

-- ---- every event

time_on : (names : Names) (elapsed of_client of_server : ℕ) (ends : Ends) → Asked names ends → Asked names (later elapsed of_client of_server ends)
unfolding later end_later
time_on names elapsed of_client of_server ends before asks = record {
  link = c.0 ∙ ap (λ (l : LinkState). record l { clock = reading_of (ends.client.clock + of_client) }) was.link
      ∙ sym (ap (λ (k : LinkState). asking_link names k.clock k.closed_at k.own_first k.own_stamp) c.0);
  fits = let f = was.fits in let e = ap (λ (k : LinkState). k.own_first) c.0 in omega (arith, f, e);
  said = each_map (IsRequestOf names ends) (IsRequestOf names (later elapsed of_client of_server ends))
      (λ d is sender there pdu read. is sender there pdu read ∙ sym (ap (λ (k : LinkState). request names k.own_first k.own_stamp) c.0)) ends.sent was.said;
}
  where
    c : (settled (reading_of (ends.client.clock + of_client)) ends.client.link ≡ record ends.client.link { clock = reading_of (ends.client.clock + of_client) })
        × (is_open ends.client.link.phase ≡ true)
    c = settled_open (reading_of (ends.client.clock + of_client)) ends.client.link (open_asking (settled (reading_of (ends.client.clock + of_client)) ends.client.link) asks)

    was : IsAsked names ends
    was = before (sym (ap is_asking c.0) ∙ asks)

made_anew : (names : Names) (who : Role) (clock first : ℕ) (ends : Ends) → Asked names ends → Asked names (restarted who clock first ends)
unfolding restarted end_restarted created
made_anew names Role.Client clock first ends before asks = absurd (false≢true asks)
made_anew names Role.Server clock first ends before asks = let was = before asks in record { link = was.link; fits = was.fits; said = was.said }

loses : (names : Names) (bytes : List ℕ) (ends : Ends) → Asked names ends → Asked names (lost bytes ends)
unfolding lost
loses names bytes ends before asks = let was = before asks in record { link = was.link; fits = was.fits; said = each_without (IsRequestOf names ends) (λ d is_lost is. is) bytes ends.sent was.said }

pub event_asked : (laws : LawsBelow) (names : Names) (event : Event) (ends : Ends) → AreNames names → Timely names ends → May names event ends → Asked names ends → Asked names (happened event ends)
event_asked laws names (Calls Role.Client call) ends are timely may before = client_called laws names are ends timely call may before
event_asked laws names (Calls Role.Server call) ends are timely may before = server_called laws names are ends timely call before
event_asked laws names (TimePasses elapsed of_client of_server) ends are timely may before = time_on names elapsed of_client of_server ends before
event_asked laws names (Loses bytes) ends are timely may before = loses names bytes ends before
event_asked laws names (Restarts who clock first) ends are timely may before = made_anew names who clock first ends before
event_asked laws names (Elsewhere count) ends are timely may before = λ asks. let was = before asks in record { link = was.link; fits = was.fits; said = was.said }

pub starts_asked : (names : Names) (start : Start) → Asked names (started names start)
unfolding created
starts_asked names start asks = absurd (false≢true asks)
