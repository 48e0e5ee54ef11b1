-- What comes to two ends in a round, with its bytes, is what comes to their links over PDUs.
use Rattle.rasta_core_recovery.proofs.Words.Basics.{◌≡◌, ℕ, ◌∙◌, ◌+◌, Bool, true, false, ◌&&◌, not, nat_le, if◌then◌else◌, List, [], ◌∷◌, ◌++◌, length, drop, Option, Result, Ok, append_assoc, append-nil, refl, sym, ap, subst, arith, nat_tests}
use Rattle.rasta_core_recovery.proofs.Words.Links.{LinkState, settled, Step, entered, hearing_bytes, receiving, spellings, writing, reading, IsPdu, Key, Identity, Role, Pdu, PduFault, Each, Sent, EndState, Call, Ticks, Opens, Receives, outcome, end_after, end_later, handed_out, reading_of, Ends, called, later, Event, Calls, Passes, May, MayCall, MayRun, happened, run, Names, AreNames, partner_of, identity_of, InFlight, Timely, Times, times_of, lifetime}
use Rattle.rasta_core_recovery.proofs.Words.Recovery.{behind_comings, round_of, Flow, can_come, comings, own_work, good_round, LawsBelow}
use Rattle.rasta_core_recovery.proofs.Lemmas.Rounds.Links.{Pair, heard, all_heard, worked, end_round, pair_round}
use Rattle.rasta_core_recovery.proofs.Lemmas.Rounds.Lists.{each_append, each_drop}
use Rattle.rasta_core_recovery.proofs.Lemmas.Rounds.Mirror.{Mirrors, AreRead, arriving, pending, bytes_from, chosen}
use Rattle.rasta_core_recovery.proofs.Lemmas.Rounds.Happen.{may_happen, run_joined}

-- ---- what comes to a link

pub received : (now : ℕ) (bytes : List ℕ) (pdu : Pdu) (l : LinkState) → reading l.identity.key bytes ≡ Ok pdu
    → ((receiving now bytes l).link ≡ (heard now pdu l).link) × ((receiving now bytes l).pdus ≡ (heard now pdu l).pdus)
unfolding receiving heard hearing_bytes
received now bytes pdu l read = (
  ap (λ (r : Result Pdu PduFault). (hearing_bytes r (entered now l).link).link) read,
  ap (λ (r : Result Pdu PduFault). (entered now l).pdus ++ (hearing_bytes r (entered now l).link).pdus) read,
)

-- ---- what is sent

pub from_append : (who : Role) (a b : List Sent) → bytes_from who (a ++ b) ≡ bytes_from who a ++ bytes_from who b
from_append who [] b = refl
from_append who (d ∷ a) b = ap (chosen who d.sender d.bytes) (from_append who a b) ∙ split who d.sender d.bytes (bytes_from who a) (bytes_from who b)
  where
    split : (w s : Role) (x : List ℕ) (p q : List (List ℕ)) → chosen w s x (p ++ q) ≡ chosen w s x p ++ q
    split Role.Client Role.Client x p q = refl
    split Role.Server Role.Server x p q = refl
    split Role.Client Role.Server x p q = refl
    split Role.Server Role.Client x p q = refl

pub from_own : (who : Role) (time : ℕ) (c : Option ℕ) (bs : List (List ℕ)) → bytes_from who (handed_out time who c bs) ≡ bs
from_own who time c [] = refl
from_own Role.Client time c (b ∷ bs) = ap (λ (r : List (List ℕ)). b ∷ r) (from_own Role.Client time c bs)
from_own Role.Server time c (b ∷ bs) = ap (λ (r : List (List ℕ)). b ∷ r) (from_own Role.Server time c bs)

pub from_other : (who : Role) (time : ℕ) (c : Option ℕ) (bs : List (List ℕ)) → bytes_from (partner_of who) (handed_out time who c bs) ≡ []
from_other who time c [] = refl
from_other Role.Client time c (b ∷ bs) = from_other Role.Client time c bs
from_other Role.Server time c (b ∷ bs) = from_other Role.Server time c bs

spelled_append : (key : Key) (a b : List Pdu) → spellings key (a ++ b) ≡ spellings key a ++ spellings key b
spelled_append key [] b = refl
spelled_append key (p ∷ a) b = ap (λ (r : List (List ℕ)). writing key p ∷ r) (spelled_append key a b)

-- sent at this time, and not lost
abbrev pub IsNow : ℕ → Sent → Type 0
IsNow time d = (d.at ≡ time) × (d.is_lost ≡ false)

pub handed_now : (time : ℕ) (who : Role) (c : Option ℕ) (bs : List (List ℕ)) → Each (IsNow time) (handed_out time who c bs)
handed_now time who c [] = tt
handed_now time who c (b ∷ bs) = ((refl, refl), handed_now time who c bs)

-- from some ends to others at one time: what each has sent
pub record Sends (names : Names) (old new : Ends) (to_client to_server : List Pdu) : Type 0 where
  pub time : new.time ≡ old.time
  pub client_clock : new.client.clock ≡ old.client.clock
  pub server_clock : new.server.clock ≡ old.server.clock
  pub more : List Sent
  pub sent : new.sent ≡ old.sent ++ more
  pub of_server : bytes_from Role.Server more ≡ spellings names.key to_client
  pub of_client : bytes_from Role.Client more ≡ spellings names.key to_server
  pub sent_now : Each (IsNow old.time) more
  pub client_pdus : Each IsPdu to_client
  pub server_pdus : Each IsPdu to_server

pub sends_none : (names : Names) (ends : Ends) → Sends names ends ends [] []
sends_none names ends = record { time = refl; client_clock = refl; server_clock = refl; more = []; sent = sym (append-nil ends.sent); of_server = refl; of_client = refl; sent_now = tt; client_pdus = tt; server_pdus = tt }

pub sends_then : (names : Names) (a b c : Ends) (tc ts tc' ts' : List Pdu) → Sends names a b tc ts → Sends names b c tc' ts' → Sends names a c (tc ++ tc') (ts ++ ts')
sends_then names a b c tc ts tc' ts' x y = record {
  time = y.time ∙ x.time;
  client_clock = y.client_clock ∙ x.client_clock;
  server_clock = y.server_clock ∙ x.server_clock;
  more = x.more ++ y.more;
  sent = y.sent ∙ ap (λ (s : List Sent). s ++ y.more) x.sent ∙ append_assoc a.sent x.more y.more;
  of_server = from_append Role.Server x.more y.more ∙ two x.of_server y.of_server ∙ sym (spelled_append names.key tc tc');
  of_client = from_append Role.Client x.more y.more ∙ two x.of_client y.of_client ∙ sym (spelled_append names.key ts ts');
  sent_now = each_append (IsNow a.time) x.more y.more x.sent_now (subst (λ (t : ℕ). Each (IsNow t) y.more) x.time y.sent_now);
  client_pdus = each_append IsPdu tc tc' x.client_pdus y.client_pdus;
  server_pdus = each_append IsPdu ts ts' x.server_pdus y.server_pdus;
}
  where
    two : {p q r s : List (List ℕ)} → p ≡ q → r ≡ s → p ++ r ≡ q ++ s
    two e f = cc

pub client_calls : LawsBelow → (names : Names) (call : Call) (ends : Ends) → Timely names ends → MayCall names Role.Client call ends → Sends names ends (called Role.Client call ends) [] (outcome call ends.moment ends.client).pdus
unfolding called end_after
client_calls laws names call ends is may = record {
  time = refl;
  client_clock = refl;
  server_clock = refl;
  more = handed_out ends.time Role.Client (end_after (outcome call ends.moment ends.client) ends.moment ends.client).connection (spellings ends.client.link.identity.key (outcome call ends.moment ends.client).pdus);
  sent = refl;
  of_server = from_other Role.Client ends.time ((end_after (outcome call ends.moment ends.client) ends.moment ends.client).connection) (spellings ends.client.link.identity.key (outcome call ends.moment ends.client).pdus);
  of_client = from_own Role.Client ends.time ((end_after (outcome call ends.moment ends.client) ends.moment ends.client).connection) (spellings ends.client.link.identity.key (outcome call ends.moment ends.client).pdus) ∙ ap (λ (i : Identity). spellings i.key (outcome call ends.moment ends.client).pdus) is.client.identity;
  sent_now = handed_now ends.time Role.Client ((end_after (outcome call ends.moment ends.client) ends.moment ends.client).connection) (spellings ends.client.link.identity.key (outcome call ends.moment ends.client).pdus);
  client_pdus = tt;
  server_pdus = laws.calls_hand_out_pdus names ends Role.Client call is may;
}

pub server_calls : LawsBelow → (names : Names) (call : Call) (ends : Ends) → Timely names ends → MayCall names Role.Server call ends → Sends names ends (called Role.Server call ends) (outcome call ends.moment ends.server).pdus []
unfolding called end_after
server_calls laws names call ends is may = record {
  time = refl;
  client_clock = refl;
  server_clock = refl;
  more = handed_out ends.time Role.Server (end_after (outcome call ends.moment ends.server) ends.moment ends.server).connection (spellings ends.server.link.identity.key (outcome call ends.moment ends.server).pdus);
  sent = refl;
  of_server = from_own Role.Server ends.time ((end_after (outcome call ends.moment ends.server) ends.moment ends.server).connection) (spellings ends.server.link.identity.key (outcome call ends.moment ends.server).pdus) ∙ ap (λ (i : Identity). spellings i.key (outcome call ends.moment ends.server).pdus) is.server.identity;
  of_client = from_other Role.Server ends.time ((end_after (outcome call ends.moment ends.server) ends.moment ends.server).connection) (spellings ends.server.link.identity.key (outcome call ends.moment ends.server).pdus);
  sent_now = handed_now ends.time Role.Server ((end_after (outcome call ends.moment ends.server) ends.moment ends.server).connection) (spellings ends.server.link.identity.key (outcome call ends.moment ends.server).pdus);
  client_pdus = laws.calls_hand_out_pdus names ends Role.Server call is may;
  server_pdus = tt;
}

-- ---- the datagrams of a round

-- the links after what came, and what they sent
record Came (names : Names) (old new : Ends) (tc ts : List Pdu) : Type 0 where
  client : new.client.link ≡ (all_heard (reading_of old.client.clock) tc old.client.link).link
  server : new.server.link ≡ (all_heard (reading_of old.server.clock) ts old.server.link).link
  sends : Sends names old new (all_heard (reading_of old.server.clock) ts old.server.link).pdus (all_heard (reading_of old.client.clock) tc old.client.link).pdus
  timely : Timely names new

-- ---- one datagram

pub reads_it : (names : Names) (who : Role) (l : LinkState) (bytes : List ℕ) (p : Pdu) → l.identity ≡ identity_of who names → reading names.key bytes ≡ Ok p → reading l.identity.key bytes ≡ Ok p
reads_it names who l bytes p identity e = ap (λ (i : Identity). reading i.key bytes) identity ∙ e

-- what is read of a written PDU is that PDU
pub reads_as : LawsBelow → (key : Key) (p that : Pdu) → IsPdu p → reading key (writing key p) ≡ Ok that → p ≡ that
reads_as laws key p that is read = let written : reading key (writing key p) ≡ Ok p = laws.written_is_read key p is in cc

-- what was written is read back
pub read_back : LawsBelow → (key : Key) (ps : List Pdu) (bs : List (List ℕ)) → Each IsPdu ps → bs ≡ spellings key ps → AreRead key bs ps
read_back laws key ps bs each e = subst (λ (cs : List (List ℕ)). AreRead key cs ps) (sym e) (spelled ps each)
  where
    spelled : (ps : List Pdu) → Each IsPdu ps → AreRead key (spellings key ps) ps
    spelled [] each = tt
    spelled (p ∷ ps) each = (laws.written_is_read key p each.0, spelled ps each.1)

pub client_link : (bytes : List ℕ) (c : ℕ) (p : Pdu) (ends : Ends) → reading ends.client.link.identity.key bytes ≡ Ok p
    → ((called Role.Client (Receives bytes c) ends).client.link ≡ (heard (reading_of ends.client.clock) p ends.client.link).link)
    × ((outcome (Receives bytes c) ends.moment ends.client).pdus ≡ (heard (reading_of ends.client.clock) p ends.client.link).pdus)
unfolding called end_after outcome
client_link bytes c p ends read = received (reading_of ends.client.clock) bytes p ends.client.link read

pub server_link : (bytes : List ℕ) (c : ℕ) (p : Pdu) (ends : Ends) → reading ends.server.link.identity.key bytes ≡ Ok p
    → ((called Role.Server (Receives bytes c) ends).server.link ≡ (heard (reading_of ends.server.clock) p ends.server.link).link)
    × ((outcome (Receives bytes c) ends.moment ends.server).pdus ≡ (heard (reading_of ends.server.clock) p ends.server.link).pdus)
unfolding called end_after outcome
server_link bytes c p ends read = received (reading_of ends.server.clock) bytes p ends.server.link read

pub client_alone : (call : Call) (ends : Ends) → ((called Role.Client call ends).server ≡ ends.server) × ((called Role.Client call ends).client.clock ≡ ends.client.clock)
unfolding called end_after
client_alone call ends = (refl, refl)

pub server_alone : (call : Call) (ends : Ends) → ((called Role.Server call ends).client ≡ ends.client) × ((called Role.Server call ends).server.clock ≡ ends.server.clock)
unfolding called end_after
server_alone call ends = (refl, refl)

came_client : (names : Names) (a b c : Ends) (p : Pdu) (tc ts : List Pdu) → b.client.link ≡ (heard (reading_of a.client.clock) p a.client.link).link → b.client.clock ≡ a.client.clock → b.server ≡ a.server
    → Sends names a b [] (heard (reading_of a.client.clock) p a.client.link).pdus → Came names b c tc ts → Came names a c (p ∷ tc) ts
unfolding all_heard
came_client names a b c p tc ts link clock other sends came = record {
  client = came.client ∙ heard_on (λ (s : Step). s.link);
  server = came.server ∙ ap (λ (e : EndState). (all_heard (reading_of e.clock) ts e.link).link) other;
  sends = subst (λ (q : List Pdu). Sends names a c q ((heard now p a.client.link).pdus ++ (all_heard now tc (heard now p a.client.link).link).pdus)) (ap (λ (e : EndState). (all_heard (reading_of e.clock) ts e.link).pdus) other)
      (subst (λ (q : List Pdu). Sends names a c (all_heard (reading_of b.server.clock) ts b.server.link).pdus ((heard now p a.client.link).pdus ++ q)) (heard_on (λ (s : Step). s.pdus))
      (sends_then names a b c _ _ _ _ sends came.sends));
  timely = came.timely;
}
  where
    now : ℕ
    now = reading_of a.client.clock

    heard_on : {A : Type 0} (x : Step → A) → x (all_heard (reading_of b.client.clock) tc b.client.link) ≡ x (all_heard now tc (heard now p a.client.link).link)
    heard_on x = ap (λ (k : ℕ). x (all_heard (reading_of k) tc b.client.link)) clock ∙ ap (λ (k : LinkState). x (all_heard now tc k)) link

came_server : (names : Names) (a b c : Ends) (p : Pdu) (tc ts : List Pdu) → b.server.link ≡ (heard (reading_of a.server.clock) p a.server.link).link → b.server.clock ≡ a.server.clock → b.client ≡ a.client
    → Sends names a b (heard (reading_of a.server.clock) p a.server.link).pdus [] → Came names b c tc ts → Came names a c tc (p ∷ ts)
unfolding all_heard
came_server names a b c p tc ts link clock other sends came = record {
  client = came.client ∙ ap (λ (e : EndState). (all_heard (reading_of e.clock) tc e.link).link) other;
  server = came.server ∙ heard_on (λ (s : Step). s.link);
  sends = subst (λ (q : List Pdu). Sends names a c ((heard now p a.server.link).pdus ++ (all_heard now ts (heard now p a.server.link).link).pdus) q) (ap (λ (e : EndState). (all_heard (reading_of e.clock) tc e.link).pdus) other)
      (subst (λ (q : List Pdu). Sends names a c ((heard now p a.server.link).pdus ++ q) (all_heard (reading_of b.client.clock) tc b.client.link).pdus) (heard_on (λ (s : Step). s.pdus))
      (sends_then names a b c _ _ _ _ sends came.sends));
  timely = came.timely;
}
  where
    now : ℕ
    now = reading_of a.server.clock

    heard_on : {A : Type 0} (x : Step → A) → x (all_heard (reading_of b.server.clock) ts b.server.link) ≡ x (all_heard now ts (heard now p a.server.link).link)
    heard_on x = ap (λ (k : ℕ). x (all_heard (reading_of k) ts b.server.link)) clock ∙ ap (λ (k : LinkState). x (all_heard now ts k)) link

-- ---- all of them

abbrev pub each_comes : List Sent → List Event
each_comes [] = []
each_comes (d ∷ ds) = Calls (partner_of d.sender) (Receives d.bytes d.connection) ∷ each_comes ds

none_came : (names : Names) (ends : Ends) → Timely names ends → Came names ends ends [] []
unfolding all_heard
none_came names ends is = record { client = refl; server = refl; sends = sends_none names ends; timely = is }

all_came : LawsBelow → (names : Names) → AreNames names → (ds : List Sent) (ends : Ends) (tc ts : List Pdu) → Timely names ends
    → AreRead names.key (bytes_from Role.Server ds) tc → AreRead names.key (bytes_from Role.Client ds) ts → MayRun names (each_comes ds) ends
    → Came names ends (run (each_comes ds) ends) tc ts
all_came laws names are [] ends [] [] is ec es may = none_came names ends is
all_came laws names are [] ends (p ∷ tc) ts is ec es may = absurd ec
all_came laws names are [] ends [] (p ∷ ts) is ec es may = absurd es
all_came laws names are (d ∷ ds) ends tc ts is ec es may = by_sender (λ mid xs ys t e f m. all_came laws names are ds mid xs ys t e f m) d.sender refl
  where
    Again : Type 0
    Again = (mid : Ends) (xs ys : List Pdu) → Timely names mid → AreRead names.key (bytes_from Role.Server ds) xs → AreRead names.key (bytes_from Role.Client ds) ys
        → MayRun names (each_comes ds) mid → Came names mid (run (each_comes ds) mid) xs ys

    Goal : Type 0
    Goal = Came names ends (run (each_comes (d ∷ ds)) ends) tc ts

    to_client : Again → (xs : List Pdu) → xs ≡ tc → d.sender ≡ Role.Server → AreRead names.key (d.bytes ∷ bytes_from Role.Server ds) xs → AreRead names.key (bytes_from Role.Client ds) ts → Goal
    to_client again [] same sender e f = absurd e
    to_client again (p ∷ xs) same sender e f =
        let others = e.1 in
        let read = reads_it names Role.Client ends.client.link d.bytes p is.client.identity e.0 in
        let does = client_link d.bytes d.connection p ends read in
        let call : Call = Receives d.bytes d.connection in
        let mid : Ends = called Role.Client call ends in
        let event : (called (partner_of d.sender) call ends) ≡ mid = ap (λ (s : Role). called (partner_of s) call ends) sender in
        let timely : Timely names mid = subst (λ (x : Ends). Timely names x) event (laws.every_event_keeps_time names (Calls (partner_of d.sender) (Receives d.bytes d.connection)) ends are is may.0) in
        let came : Came names mid (run (each_comes ds) mid) xs ts = again mid xs ts timely others f (subst (λ (x : Ends). MayRun names (each_comes ds) x) event may.1) in
        subst (λ (x : Ends). Came names ends (run (each_comes ds) x) tc ts) (sym event)
        (subst (λ (q : List Pdu). Came names ends (run (each_comes ds) mid) q ts) same
        (came_client names ends mid (run (each_comes ds) mid) p xs ts does.0 (client_alone call ends).1 (client_alone call ends).0
        (subst (λ (q : List Pdu). Sends names ends mid [] q) does.1 (client_calls laws names call ends is (subst (λ (w : Role). MayCall names w call ends) (ap partner_of sender) may.0))) came))

    to_server : Again → (xs : List Pdu) → xs ≡ ts → d.sender ≡ Role.Client → AreRead names.key (d.bytes ∷ bytes_from Role.Client ds) xs → AreRead names.key (bytes_from Role.Server ds) tc → Goal
    to_server again [] same sender e f = absurd e
    to_server again (p ∷ xs) same sender e f =
        let others = e.1 in
        let read = reads_it names Role.Server ends.server.link d.bytes p is.server.identity e.0 in
        let does = server_link d.bytes d.connection p ends read in
        let call : Call = Receives d.bytes d.connection in
        let mid : Ends = called Role.Server call ends in
        let event : (called (partner_of d.sender) call ends) ≡ mid = ap (λ (s : Role). called (partner_of s) call ends) sender in
        let timely : Timely names mid = subst (λ (x : Ends). Timely names x) event (laws.every_event_keeps_time names (Calls (partner_of d.sender) (Receives d.bytes d.connection)) ends are is may.0) in
        let came : Came names mid (run (each_comes ds) mid) tc xs = again mid tc xs timely f others (subst (λ (x : Ends). MayRun names (each_comes ds) x) event may.1) in
        subst (λ (x : Ends). Came names ends (run (each_comes ds) x) tc ts) (sym event)
        (subst (λ (q : List Pdu). Came names ends (run (each_comes ds) mid) tc q) same
        (came_server names ends mid (run (each_comes ds) mid) p tc xs does.0 (server_alone call ends).1 (server_alone call ends).0
        (subst (λ (q : List Pdu). Sends names ends mid q []) does.1 (server_calls laws names call ends is (subst (λ (w : Role). MayCall names w call ends) (ap partner_of sender) may.0))) came))

    by_sender : Again → (s : Role) → d.sender ≡ s → Goal
    by_sender again Role.Server e = to_client again tc refl e (subst (λ (s : Role). AreRead names.key (chosen Role.Server s d.bytes (bytes_from Role.Server ds)) tc) e ec) (subst (λ (s : Role). AreRead names.key (chosen Role.Client s d.bytes (bytes_from Role.Client ds)) ts) e es)
    by_sender again Role.Client e = to_server again ts refl e (subst (λ (s : Role). AreRead names.key (chosen Role.Client s d.bytes (bytes_from Role.Client ds)) ts) e es) (subst (λ (s : Role). AreRead names.key (chosen Role.Server s d.bytes (bytes_from Role.Server ds)) tc) e ec)

-- ---- the ends' own work

record Works (names : Names) (old new : Ends) : Type 0 where
  client : new.client.link ≡ (worked (reading_of old.client.clock) Role.Client old.client.link).link
  server : new.server.link ≡ (worked (reading_of old.server.clock) Role.Server old.server.link).link
  sends : Sends names old new (worked (reading_of old.server.clock) Role.Server old.server.link).pdus (worked (reading_of old.client.clock) Role.Client old.client.link).pdus

work_done : LawsBelow → (names : Names) → AreNames names → (ends : Ends) → Timely names ends → Works names ends (run own_work ends)
unfolding worked called outcome end_after
work_done laws names are ends is = record {
  client = refl;
  server = refl;
  sends = subst (λ (q : List Pdu). Sends names ends (called Role.Server Ticks opened) (outcome Ticks opened.moment opened.server).pdus q) (append-nil ((outcome Ticks ends.moment ends.client).pdus ++ (outcome Opens ticked.moment ticked.client).pdus))
      (sends_then names ends opened (called Role.Server Ticks opened) [] ((outcome Ticks ends.moment ends.client).pdus ++ (outcome Opens ticked.moment ticked.client).pdus) (outcome Ticks opened.moment opened.server).pdus []
      (sends_then names ends ticked opened [] (outcome Ticks ends.moment ends.client).pdus [] (outcome Opens ticked.moment ticked.client).pdus (client_calls laws names Ticks ends is tt) (client_calls laws names Opens ticked then_timely tt))
      (server_calls laws names Ticks opened opened_timely tt));
}
  where
    ticked : Ends
    ticked = called Role.Client Ticks ends

    then_timely : Timely names ticked
    then_timely = laws.every_event_keeps_time names (Calls Role.Client Ticks) ends are is tt

    opened : Ends
    opened = called Role.Client Opens ticked

    opened_timely : Timely names opened
    opened_timely = laws.every_event_keeps_time names (Calls Role.Client Opens) ticked are then_timely tt

works_timely : LawsBelow → (names : Names) → AreNames names → (ends : Ends) → Timely names ends → Timely names (run own_work ends)
works_timely laws names are ends is =
    laws.every_event_keeps_time names (Calls Role.Server Ticks) (called Role.Client Opens (called Role.Client Ticks ends)) are
    (laws.every_event_keeps_time names (Calls Role.Client Opens) (called Role.Client Ticks ends) are (laws.every_event_keeps_time names (Calls Role.Client Ticks) ends are is tt) tt) tt

-- ---- a round

pub front_may : (names : Names) (a b : List Event) (ends : Ends) → MayRun names (a ++ b) ends → MayRun names a ends
front_may names [] b ends may = tt
front_may names (e ∷ a) b ends may = (may.0, front_may names a b (happened e ends) may.1)

arriving_come : (t : ℕ) (ds : List Sent) → comings t ds ≡ each_comes (arriving t ds)
arriving_come t [] = refl
arriving_come t (d ∷ ds) = choose (can_come t d) (arriving_come t ds)
  where
    choose : (b : Bool) → comings t ds ≡ each_comes (arriving t ds)
        → (if b then Calls (partner_of d.sender) (Receives d.bytes d.connection) ∷ comings t ds else comings t ds) ≡ each_comes (if b then d ∷ arriving t ds else arriving t ds)
    choose true e = ap (λ (r : List Event). Calls (partner_of d.sender) (Receives d.bytes d.connection) ∷ r) e
    choose false e = e

pub now_arrives : (time : ℕ) (ds : List Sent) → Each (IsNow time) ds → arriving (time + 10000) ds ≡ ds
now_arrives time [] each = refl
now_arrives time (d ∷ ds) each = ap (λ (b : Bool). if b then d ∷ arriving (time + 10000) ds else arriving (time + 10000) ds) can ∙ ap (λ (r : List Sent). d ∷ r) (now_arrives time ds each.1)
  where
    in_time : nat_le (time + 10000) (d.at + lifetime) ≡ true
    in_time = let e = each.0.0 in grind (arith, nat_tests)

    can : can_come (time + 10000) d ≡ true
    can = ap (λ (b : Bool). not b && nat_le (time + 10000) (d.at + lifetime)) each.0.1 ∙ in_time

pub drop_append : {X : Type 0} (xs ys : List X) → drop (length xs) (xs ++ ys) ≡ ys
drop_append [] ys = refl
drop_append (x ∷ xs) ys = drop_append xs ys

pub passed_on : (ends : Ends) → ((later 10000 10000 10000 ends).client.link ≡ settled (reading_of (ends.client.clock + 10000)) ends.client.link)
    × ((later 10000 10000 10000 ends).client.clock ≡ ends.client.clock + 10000)
    × ((later 10000 10000 10000 ends).server.link ≡ settled (reading_of (ends.server.clock + 10000)) ends.server.link)
    × ((later 10000 10000 10000 ends).server.clock ≡ ends.server.clock + 10000)
    × ((later 10000 10000 10000 ends).sent ≡ ends.sent)
unfolding later end_later
passed_on ends = (refl, refl, refl, refl, refl)

time_passed : (ends : Ends) → (later 10000 10000 10000 ends).time ≡ ends.time + 10000
unfolding later
time_passed ends = refl

pub ten_later : (clock now : ℕ) → now ≡ reading_of clock → reading_of (clock + 10000) ≡ now + 10
ten_later clock now e = omega (arith, e)

-- an end's round from what came and what it did of its own
joined_round : (who : Role) (now : ℕ) (pdus : List Pdu) (l link after : LinkState) → l.identity.role ≡ who → link ≡ (all_heard now pdus (settled now l)).link → after ≡ (worked now who link).link
    → (after ≡ (end_round now pdus l).link) × ((all_heard now pdus (settled now l)).pdus ++ (worked now who link).pdus ≡ (end_round now pdus l).pdus)
unfolding end_round
joined_round who now pdus l link after is e f = (
  f ∙ ap (λ (k : LinkState). (worked now who k).link) e ∙ ap (λ (w : Role). (worked now w (all_heard now pdus (settled now l)).link).link) (sym is),
  ap (λ (k : LinkState). (all_heard now pdus (settled now l)).pdus ++ (worked now who k).pdus) e
      ∙ ap (λ (w : Role). (all_heard now pdus (settled now l)).pdus ++ (worked now w (all_heard now pdus (settled now l)).link).pdus) (sym is),
)

-- Two ends, and what comes to them in a round, of these datagrams: they may come in it as events.
pub record ComesIn (names : Names) (f : Flow) (due : List Sent) (p : Pair) : Type 0 where
  pub timely : Timely names f.ends
  pub client : f.ends.client.link ≡ p.client
  pub server : f.ends.server.link ≡ p.server
  pub to_client : AreRead names.key (bytes_from Role.Server (arriving (f.ends.time + 10000) due)) p.to_client
  pub to_server : AreRead names.key (bytes_from Role.Client (arriving (f.ends.time + 10000) due)) p.to_server
  pub may : MayRun names (Passes 10000 10000 10000 ∷ (comings (f.ends.time + 10000) due ++ own_work)) f.ends

-- What that round leaves, with all that is said in it: by the time that all has come, and by its end.
pub record LeavesIt (names : Names) (f : Flow) (due : List Sent) (p : Pair) : Type 0 where
  pub mirrors : Mirrors names (round_of due f) (pair_round p)
  pub early : List Sent
  pub then_sent : (behind_comings due f).sent ≡ f.ends.sent ++ early
  pub new : List Sent
  pub sent : (round_of due f).ends.sent ≡ f.ends.sent ++ new
  pub client_clock : (round_of due f).ends.client.clock ≡ f.ends.client.clock + 10000
  pub server_clock : (round_of due f).ends.server.clock ≡ f.ends.server.clock + 10000
  pub then_client : (behind_comings due f).client.link ≡ (all_heard (p.client.clock + 10) p.to_client (settled (p.client.clock + 10) p.client)).link
  pub then_server : (behind_comings due f).server.link ≡ (all_heard (p.server.clock + 10) p.to_server (settled (p.server.clock + 10) p.server)).link
  pub early_client : bytes_from Role.Client early ≡ spellings names.key (all_heard (p.client.clock + 10) p.to_client (settled (p.client.clock + 10) p.client)).pdus
  pub early_server : bytes_from Role.Server early ≡ spellings names.key (all_heard (p.server.clock + 10) p.to_server (settled (p.server.clock + 10) p.server)).pdus
  pub to_client : AreRead names.key (bytes_from Role.Server new) (pair_round p).to_client
  pub to_server : AreRead names.key (bytes_from Role.Client new) (pair_round p).to_server
  pub time : (round_of due f).ends.time ≡ f.ends.time + 10000
  pub now : Each (IsNow (f.ends.time + 10000)) new

pub leaves_it : LawsBelow → (names : Names) → AreNames names → (f : Flow) (due : List Sent) (p : Pair) → ComesIn names f due p → LeavesIt names f due p
unfolding pair_round
leaves_it laws names are f due p m = record {
  mirrors = record {
    timely = subst (Timely names) (sym whole) new_timely;
    client = subst (λ (e : Ends). e.client.link ≡ (end_round (p.client.clock + 10) p.to_client p.client).link) (sym whole) (client_round.0);
    server = subst (λ (e : Ends). e.server.link ≡ (end_round (p.server.clock + 10) p.to_server p.server).link) (sym whole) (server_round.0);
    to_client = subst (λ (ds : List Sent). AreRead names.key (bytes_from Role.Server ds) (end_round nows p.to_server p.server).pdus) (sym pending_is) read_client;
    to_server = subst (λ (ds : List Sent). AreRead names.key (bytes_from Role.Client ds) (end_round nowc p.to_client p.client).pdus) (sym pending_is) read_server;
  };
  early = came.sends.more;
  then_sent = ap (λ (es : List Event). (run es passed).sent) same ∙ came.sends.sent ∙ ap (λ (s : List Sent). s ++ came.sends.more) (passed_on f.ends).4;
  new = sends.more;
  sent = ap (λ (e : Ends). e.sent) whole ∙ sends.sent ∙ ap (λ (s : List Sent). s ++ sends.more) (passed_on f.ends).4;
  client_clock = ap (λ (e : Ends). e.client.clock) whole ∙ sends.client_clock ∙ (passed_on f.ends).1;
  server_clock = ap (λ (e : Ends). e.server.clock) whole ∙ sends.server_clock ∙ (passed_on f.ends).3;
  then_client = ap (λ (es : List Event). (run es passed).client.link) same ∙ came.client ∙ heard_client (λ (s : Step). s.link);
  then_server = ap (λ (es : List Event). (run es passed).server.link) same ∙ came.server ∙ heard_server (λ (s : Step). s.link);
  early_client = came.sends.of_client ∙ ap (λ (ps : List Pdu). spellings names.key ps) (heard_client (λ (s : Step). s.pdus));
  early_server = came.sends.of_server ∙ ap (λ (ps : List Pdu). spellings names.key ps) (heard_server (λ (s : Step). s.pdus));
  to_client = read_client;
  to_server = read_server;
  time = ap (λ (e : Ends). e.time) whole ∙ sends.time ∙ time_passed f.ends;
  now = subst (λ (t : ℕ). Each (IsNow t) sends.more) (time_passed f.ends) sends.sent_now;
}
  where
    ds : List Sent
    ds = arriving (f.ends.time + 10000) due

    passed : Ends
    passed = later 10000 10000 10000 f.ends

    nowc : ℕ
    nowc = p.client.clock + 10

    nows : ℕ
    nows = p.server.clock + 10

    same : comings (f.ends.time + 10000) due ≡ each_comes ds
    same = arriving_come (f.ends.time + 10000) due

    may_pass : May names (Passes 10000 10000 10000) f.ends
    may_pass = m.may.0

    may : MayRun names (each_comes ds) (later 10000 10000 10000 f.ends)
    may = front_may names (each_comes ds) own_work (later 10000 10000 10000 f.ends)
        (subst (λ (es : List Event). MayRun names (es ++ own_work) (later 10000 10000 10000 f.ends)) same m.may.1)

    mid : Ends
    mid = run (each_comes ds) passed

    new : Ends
    new = run own_work mid

    whole : run (comings (f.ends.time + 10000) due ++ own_work) passed ≡ new
    whole = run_joined (comings (f.ends.time + 10000) due) own_work passed ∙ ap (λ (es : List Event). run own_work (run es passed)) same

    client_now : reading_of passed.client.clock ≡ nowc
    client_now = ap reading_of (passed_on f.ends).1 ∙ ten_later f.ends.client.clock p.client.clock (sym (ap (λ (l : LinkState). l.clock) m.client) ∙ m.timely.client.clock)

    server_now : reading_of passed.server.clock ≡ nows
    server_now = ap reading_of (passed_on f.ends).3 ∙ ten_later f.ends.server.clock p.server.clock (sym (ap (λ (l : LinkState). l.clock) m.server) ∙ m.timely.server.clock)

    came : Came names passed mid p.to_client p.to_server
    came = all_came laws names are ds passed p.to_client p.to_server (laws.every_event_keeps_time names (Passes 10000 10000 10000) f.ends are m.timely may_pass) m.to_client m.to_server may

    works : Works names mid new
    works = work_done laws names are mid came.timely

    -- the clocks and links in the round, as those of the pair
    client_mid : mid.client.clock ≡ passed.client.clock
    client_mid = came.sends.client_clock

    settled_client : passed.client.link ≡ settled nowc p.client
    settled_client = (passed_on f.ends).0 ∙ ap (λ (n : ℕ). settled n f.ends.client.link) (sym (ap reading_of (passed_on f.ends).1) ∙ client_now) ∙ ap (settled nowc) m.client

    settled_server : passed.server.link ≡ settled nows p.server
    settled_server = (passed_on f.ends).2 ∙ ap (λ (n : ℕ). settled n f.ends.server.link) (sym (ap reading_of (passed_on f.ends).3) ∙ server_now) ∙ ap (settled nows) m.server

    heard_client : {A : Type 0} (x : Step → A) → x (all_heard (reading_of passed.client.clock) p.to_client passed.client.link) ≡ x (all_heard nowc p.to_client (settled nowc p.client))
    heard_client x = ap (λ (n : ℕ). x (all_heard n p.to_client passed.client.link)) client_now ∙ ap (λ (l : LinkState). x (all_heard nowc p.to_client l)) settled_client

    heard_server : {A : Type 0} (x : Step → A) → x (all_heard (reading_of passed.server.clock) p.to_server passed.server.link) ≡ x (all_heard nows p.to_server (settled nows p.server))
    heard_server x = ap (λ (n : ℕ). x (all_heard n p.to_server passed.server.link)) server_now ∙ ap (λ (l : LinkState). x (all_heard nows p.to_server l)) settled_server

    client_work : {A : Type 0} (x : Step → A) → x (worked (reading_of mid.client.clock) Role.Client mid.client.link) ≡ x (worked nowc Role.Client mid.client.link)
    client_work x = ap (λ (n : ℕ). x (worked n Role.Client mid.client.link)) (ap reading_of came.sends.client_clock ∙ client_now)

    server_work : {A : Type 0} (x : Step → A) → x (worked (reading_of mid.server.clock) Role.Server mid.server.link) ≡ x (worked nows Role.Server mid.server.link)
    server_work x = ap (λ (n : ℕ). x (worked n Role.Server mid.server.link)) (ap reading_of came.sends.server_clock ∙ server_now)

    client_role : p.client.identity.role ≡ Role.Client
    client_role = ap (λ (l : LinkState). l.identity.role) (sym m.client) ∙ ap (λ (i : Identity). i.role) m.timely.client.identity

    server_role : p.server.identity.role ≡ Role.Server
    server_role = ap (λ (l : LinkState). l.identity.role) (sym m.server) ∙ ap (λ (i : Identity). i.role) m.timely.server.identity

    client_round : (new.client.link ≡ (end_round nowc p.to_client p.client).link)
        × ((all_heard nowc p.to_client (settled nowc p.client)).pdus ++ (worked nowc Role.Client mid.client.link).pdus ≡ (end_round nowc p.to_client p.client).pdus)
    client_round = joined_round Role.Client nowc p.to_client p.client mid.client.link new.client.link client_role (came.client ∙ heard_client (λ (s : Step). s.link)) (works.client ∙ client_work (λ (s : Step). s.link))

    server_round : (new.server.link ≡ (end_round nows p.to_server p.server).link)
        × ((all_heard nows p.to_server (settled nows p.server)).pdus ++ (worked nows Role.Server mid.server.link).pdus ≡ (end_round nows p.to_server p.server).pdus)
    server_round = joined_round Role.Server nows p.to_server p.server mid.server.link new.server.link server_role (came.server ∙ heard_server (λ (s : Step). s.link)) (works.server ∙ server_work (λ (s : Step). s.link))

    all_sent : Sends names passed new
        ((all_heard (reading_of passed.server.clock) p.to_server passed.server.link).pdus ++ (worked (reading_of mid.server.clock) Role.Server mid.server.link).pdus)
        ((all_heard (reading_of passed.client.clock) p.to_client passed.client.link).pdus ++ (worked (reading_of mid.client.clock) Role.Client mid.client.link).pdus)
    all_sent = sends_then names passed mid new _ _ _ _ came.sends works.sends

    two : {a b c d e g h i : List Pdu} → a ≡ b → c ≡ d → e ≡ g → h ≡ i → Sends names passed new (a ++ c) (e ++ h) → Sends names passed new (b ++ d) (g ++ i)
    two {a} {b} {c} {d} {e} {g} {h} {i} w x y z s = subst (λ (q : List Pdu). Sends names passed new q (g ++ i)) (glue w x) (subst (λ (q : List Pdu). Sends names passed new (a ++ c) q) (glue y z) s)
      where
        glue : {j k l n : List Pdu} → j ≡ k → l ≡ n → j ++ l ≡ k ++ n
        glue u v = cc

    sends : Sends names passed new
        ((all_heard nows p.to_server (settled nows p.server)).pdus ++ (worked nows Role.Server mid.server.link).pdus)
        ((all_heard nowc p.to_client (settled nowc p.client)).pdus ++ (worked nowc Role.Client mid.client.link).pdus)
    sends = two (heard_server (λ (s : Step). s.pdus)) (server_work (λ (s : Step). s.pdus)) (heard_client (λ (s : Step). s.pdus)) (client_work (λ (s : Step). s.pdus)) all_sent

    new_timely : Timely names new
    new_timely = works_timely laws names are mid came.timely

    pending_is : pending (round_of due f) ≡ sends.more
    pending_is = ap (λ (e : Ends). arriving (e.time + 10000) (drop (length f.ends.sent) e.sent)) whole
        ∙ ap (λ (s : List Sent). arriving (new.time + 10000) (drop (length f.ends.sent) s)) (sends.sent ∙ ap (λ (s : List Sent). s ++ sends.more) (passed_on f.ends).4)
        ∙ ap (arriving (new.time + 10000)) (drop_append f.ends.sent sends.more)
        ∙ now_arrives new.time sends.more (subst (λ (t : ℕ). Each (IsNow t) sends.more) (sym sends.time) sends.sent_now)

    read_client : AreRead names.key (bytes_from Role.Server sends.more) (end_round nows p.to_server p.server).pdus
    read_client = read_back laws names.key _ _ (subst (Each IsPdu) server_round.1 sends.client_pdus) (sends.of_server ∙ ap (λ (ps : List Pdu). spellings names.key ps) server_round.1)

    read_server : AreRead names.key (bytes_from Role.Client sends.more) (end_round nowc p.to_client p.client).pdus
    read_server = read_back laws names.key _ _ (subst (Each IsPdu) client_round.1 sends.server_pdus) (sends.of_client ∙ ap (λ (ps : List Pdu). spellings names.key ps) client_round.1)

-- and each clock has gone on by ten
pub left_clocks : (names : Names) (f : Flow) (due : List Sent) (p : Pair) → Timely names f.ends → f.ends.client.link ≡ p.client → f.ends.server.link ≡ p.server → LeavesIt names f due p
    → ((pair_round p).client.clock ≡ p.client.clock + 10) × ((pair_round p).server.clock ≡ p.server.clock + 10)
left_clocks names f due p timely client server left = (
  let one = sym (ap (λ (l : LinkState). l.clock) left.mirrors.client) ∙ left.mirrors.timely.client.clock in
      let other = sym (ap (λ (l : LinkState). l.clock) client) ∙ timely.client.clock in
      omega (arith, one, other, left.client_clock),
  let one = sym (ap (λ (l : LinkState). l.clock) left.mirrors.server) ∙ left.mirrors.timely.server.clock in
      let other = sym (ap (λ (l : LinkState). l.clock) server) ∙ timely.server.clock in
      omega (arith, one, other, left.server_clock),
)

pub mirrors_on : LawsBelow → (names : Names) → AreNames names → (f : Flow) (p : Pair) → Mirrors names f p → Mirrors names (good_round f) (pair_round p)
unfolding good_round
mirrors_on laws names are f p m = (leaves_it laws names are f (drop f.passed f.ends.sent) p
    (record { timely = m.timely; client = m.client; server = m.server; to_client = m.to_client; to_server = m.to_server; may = may_happen names f })).mirrors

-- ---- the beginning: what can come are PDUs, whoever sent them

pub record Lists (names : Names) (ds : List Sent) : Type 0 where
  pub to_client : List Pdu
  pub to_server : List Pdu
  pub of_server : AreRead names.key (bytes_from Role.Server ds) to_client
  pub of_client : AreRead names.key (bytes_from Role.Client ds) to_server

-- a datagram that spells a PDU
abbrev pub Spells : Names → Sent → Type 0
Spells names d = (pdu : Pdu) × (reading names.key d.bytes ≡ Ok pdu)

pub lists_of : (names : Names) (ds : List Sent) → Each (Spells names) ds → Lists names ds
lists_of names [] each = record { to_client = []; to_server = []; of_server = tt; of_client = tt }
lists_of names (d ∷ ds) each = choose d.sender refl (lists_of names ds each.1)
  where
    choose : (s : Role) → d.sender ≡ s → Lists names ds → Lists names (d ∷ ds)
    choose Role.Client e l = record {
      to_client = l.to_client;
      to_server = each.0.0 ∷ l.to_server;
      of_server = subst (λ (s : Role). AreRead names.key (chosen Role.Server s d.bytes (bytes_from Role.Server ds)) l.to_client) (sym e) l.of_server;
      of_client = subst (λ (s : Role). AreRead names.key (chosen Role.Client s d.bytes (bytes_from Role.Client ds)) (each.0.0 ∷ l.to_server)) (sym e) (each.0.1, l.of_client);
    }
    choose Role.Server e l = record {
      to_client = each.0.0 ∷ l.to_client;
      to_server = l.to_server;
      of_server = subst (λ (s : Role). AreRead names.key (chosen Role.Server s d.bytes (bytes_from Role.Server ds)) (each.0.0 ∷ l.to_client)) (sym e) (each.0.1, l.of_server);
      of_client = subst (λ (s : Role). AreRead names.key (chosen Role.Client s d.bytes (bytes_from Role.Client ds)) l.to_server) (sym e) l.of_client;
    }

pub each_arriving : (P : Sent → Type 0) (t : ℕ) (ds : List Sent) → Each P ds → Each P (arriving t ds)
each_arriving P t [] each = tt
each_arriving P t (d ∷ ds) each = choose (can_come t d) (each_arriving P t ds each.1)
  where
    choose : (b : Bool) → Each P (arriving t ds) → Each P (if b then d ∷ arriving t ds else arriving t ds)
    choose true more = (each.0, more)
    choose false more = more

each_spells : (names : Names) (times : Times) (ds : List Sent) → Each (InFlight names times) ds → Each (Spells names) ds
each_spells names times [] each = tt
each_spells names times (d ∷ ds) each = ((each.0.pdu, each.0.read), each_spells names times ds each.1)

pub mirror_of : (names : Names) (f : Flow) → Timely names f.ends → (p : Pair) × Mirrors names f p
mirror_of names f is = (
  record { client = f.ends.client.link; server = f.ends.server.link; to_client = l.to_client; to_server = l.to_server },
  record { timely = is; client = refl; server = refl; to_client = l.of_server; to_server = l.of_client },
)
  where
    l : Lists names (pending f)
    l = lists_of names (pending f) (each_arriving (Spells names) (f.ends.time + 10000) (drop f.passed f.ends.sent)
        (each_drop (Spells names) f.passed f.ends.sent (each_spells names (times_of f.ends is.of_client is.of_server is.newest) f.ends.sent is.datagrams)))
