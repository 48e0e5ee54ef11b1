-- What two ends are called to in a round at work, with its bytes, is what is done at their links over PDUs.
use Rattle.rasta_core_recovery.proofs.Words.Basics.{◌≡◌, ℕ, ◌∙◌, ◌+◌, Bool, true, false, ◌&&◌, if◌then◌else◌, List, [], ◌∷◌, ◌++◌, length, drop, Ok, append_assoc, append-nil, refl, sym, ap, subst}
use Rattle.rasta_core_recovery.proofs.Words.Links.{LinkState, settled, Step, spellings, reading, IsPdu, Key, Identity, Role, Reason, Pdu, Each, Sent, EndState, Call, Ticks, Opens, Closes, Sends, Receives, outcome, end_after, end_later, reading_of, Ends, called, later, Event, Calls, Passes, Loses, Restarts, Elsewhere, MayRun, run, is_same, Names, AreNames, partner_of, identity_of, Timely}
use Rattle.rasta_core_recovery.proofs.Words.Recovery.{Flow, can_come, IsCall, called_in, calls_in, coming, all_coming, IsBeforeTick, IsBehindTick, LeavesOpen, clock_calls, IsWorkAt, due_to, HaveRoom, IsAtWork, work_round, LawsBelow}
use Rattle.rasta_core_recovery.proofs.Lemmas.Rounds.Links.{Pair}
use Rattle.rasta_core_recovery.proofs.Lemmas.Rounds.Acts.{Act, Hears, Beats, Asks, Gives, did, all_did, acted, all_brought, clock_acts, IsBefore, IsGift, IsWork, HasRoom, Roomy, WorkRound, client_step, server_step, behind}
use Rattle.rasta_core_recovery.proofs.Lemmas.Rounds.Course.{Joined}
use Rattle.rasta_core_recovery.proofs.Lemmas.Rounds.Within.{Within, Continues, continues_none, continues_then, call_continues}
use Rattle.rasta_core_recovery.proofs.Lemmas.Rounds.Mirror.{Mirrors, AreRead, arriving, bytes_from}
use Rattle.rasta_core_recovery.proofs.Lemmas.Rounds.Bridge.{Sends as Posts, IsNow, sends_none, sends_then, client_calls, server_calls, read_back, client_link, server_link, client_alone, server_alone, now_arrives, drop_append, passed_on, ten_later}

-- ---- calls as acts

abbrev pub ActsAs : Key → Call → Act → Type 0
ActsAs key Ticks Beats = Unit {0}
ActsAs key Opens Asks = Unit {0}
ActsAs key (Sends item) (Gives given) = item ≡ given
ActsAs key (Receives bytes connection) (Hears pdu) = reading key bytes ≡ Ok pdu
ActsAs key call act = ⊥

abbrev pub AllAct : Key → List Call → List Act → Type 0
AllAct key [] [] = Unit {0}
AllAct key [] (act ∷ acts) = ⊥
AllAct key (call ∷ calls) [] = ⊥
AllAct key (call ∷ calls) (act ∷ acts) = ActsAs key call act × AllAct key calls acts

-- not a close
abbrev IsNoClose : Call → Type 0
IsNoClose Ticks = Unit {0}
IsNoClose Opens = Unit {0}
IsNoClose (Closes why) = ⊥
IsNoClose (Sends item) = Unit {0}
IsNoClose (Receives bytes connection) = Unit {0}

no_act_closes : (key : Key) (why : Reason) (act : Act) → ActsAs key (Closes why) act → ⊥
no_act_closes key why Beats is = is
no_act_closes key why Asks is = is
no_act_closes key why (Hears pdu) is = is
no_act_closes key why (Gives item) is = is

pub one_client : (call : Call) (act : Act) (ends : Ends) → ActsAs ends.client.link.identity.key call act
    → ((called Role.Client call ends).client.link ≡ (did (reading_of ends.client.clock) act ends.client.link).link) × ((outcome call ends.moment ends.client).pdus ≡ (did (reading_of ends.client.clock) act ends.client.link).pdus)
unfolding called end_after outcome did
one_client Ticks Beats ends is = (refl, refl)
one_client Ticks (Hears pdu) ends is = absurd is
one_client Ticks Asks ends is = absurd is
one_client Ticks (Gives item) ends is = absurd is
one_client Opens Asks ends is = (refl, refl)
one_client Opens Beats ends is = absurd is
one_client Opens (Hears pdu) ends is = absurd is
one_client Opens (Gives item) ends is = absurd is
one_client (Closes why) Beats ends is = absurd is
one_client (Closes why) Asks ends is = absurd is
one_client (Closes why) (Hears pdu) ends is = absurd is
one_client (Closes why) (Gives item) ends is = absurd is
one_client (Sends item) (Gives given) ends is = subst (λ (x : List ℕ). ((called Role.Client (Sends item) ends).client.link ≡ (did (reading_of ends.client.clock) (Gives x) ends.client.link).link) × ((outcome (Sends item) ends.moment ends.client).pdus ≡ (did (reading_of ends.client.clock) (Gives x) ends.client.link).pdus)) is (refl, refl)
one_client (Sends item) Beats ends is = absurd is
one_client (Sends item) Asks ends is = absurd is
one_client (Sends item) (Hears pdu) ends is = absurd is
one_client (Receives bytes connection) (Hears pdu) ends is = client_link bytes connection pdu ends is
one_client (Receives bytes connection) Beats ends is = absurd is
one_client (Receives bytes connection) Asks ends is = absurd is
one_client (Receives bytes connection) (Gives item) ends is = absurd is

pub one_server : (call : Call) (act : Act) (ends : Ends) → ActsAs ends.server.link.identity.key call act
    → ((called Role.Server call ends).server.link ≡ (did (reading_of ends.server.clock) act ends.server.link).link) × ((outcome call ends.moment ends.server).pdus ≡ (did (reading_of ends.server.clock) act ends.server.link).pdus)
unfolding called end_after outcome did
one_server Ticks Beats ends is = (refl, refl)
one_server Ticks (Hears pdu) ends is = absurd is
one_server Ticks Asks ends is = absurd is
one_server Ticks (Gives item) ends is = absurd is
one_server Opens Asks ends is = (refl, refl)
one_server Opens Beats ends is = absurd is
one_server Opens (Hears pdu) ends is = absurd is
one_server Opens (Gives item) ends is = absurd is
one_server (Closes why) Beats ends is = absurd is
one_server (Closes why) Asks ends is = absurd is
one_server (Closes why) (Hears pdu) ends is = absurd is
one_server (Closes why) (Gives item) ends is = absurd is
one_server (Sends item) (Gives given) ends is = subst (λ (x : List ℕ). ((called Role.Server (Sends item) ends).server.link ≡ (did (reading_of ends.server.clock) (Gives x) ends.server.link).link) × ((outcome (Sends item) ends.moment ends.server).pdus ≡ (did (reading_of ends.server.clock) (Gives x) ends.server.link).pdus)) is (refl, refl)
one_server (Sends item) Beats ends is = absurd is
one_server (Sends item) Asks ends is = absurd is
one_server (Sends item) (Hears pdu) ends is = absurd is
one_server (Receives bytes connection) (Hears pdu) ends is = server_link bytes connection pdu ends is
one_server (Receives bytes connection) Beats ends is = absurd is
one_server (Receives bytes connection) Asks ends is = absurd is
one_server (Receives bytes connection) (Gives item) ends is = absurd is

-- what a call is as an act, and what is left to be read of what comes
record Turned (key : Key) (call : Call) (others : List (List ℕ)) : Type 0 where
  act : Act
  so_is : ActsAs key call act
  left : List Pdu
  rest : AreRead key others left

as_act : (key : Key) (call : Call) (others : List (List ℕ)) (pdus : List Pdu) → IsNoClose call → AreRead key (coming call ++ others) pdus → Turned key call others
as_act key Ticks others pdus open_call read = record { act = Beats; so_is = tt; left = pdus; rest = read }
as_act key Opens others pdus open_call read = record { act = Asks; so_is = tt; left = pdus; rest = read }
as_act key (Closes why) others pdus open_call read = absurd open_call
as_act key (Sends item) others pdus open_call read = record { act = Gives item; so_is = refl; left = pdus; rest = read }
as_act key (Receives bytes connection) others [] open_call read = absurd read
as_act key (Receives bytes connection) others (pdu ∷ pdus) open_call read = record { act = Hears pdu; so_is = read.0; left = pdus; rest = read.1 }

-- ---- a list of calls

-- what it does at both ends
record Done (names : Names) (old new : Ends) (client_calls server_calls : List Call) : Type 0 where
  client_acts : List Act
  server_acts : List Act
  client_as : AllAct names.key client_calls client_acts
  server_as : AllAct names.key server_calls server_acts
  client : new.client.link ≡ (all_did (reading_of old.client.clock) client_acts old.client.link).link
  server : new.server.link ≡ (all_did (reading_of old.server.clock) server_acts old.server.link).link
  sends : Posts names old new (all_did (reading_of old.server.clock) server_acts old.server.link).pdus (all_did (reading_of old.client.clock) client_acts old.client.link).pdus
  timely : Timely names new
  client_room : Roomy (reading_of old.client.clock) client_acts old.client.link
  server_room : Roomy (reading_of old.server.clock) server_acts old.server.link
  client_on : Within (reading_of old.client.clock) client_acts old.client.link → Continues old.client new.client
  server_on : Within (reading_of old.server.clock) server_acts old.server.link → Continues old.server new.server

done_none : (names : Names) (ends : Ends) → Timely names ends → HaveRoom [] ends → Done names ends ends [] []
unfolding all_did
done_none names ends is room = record { client_acts = []; server_acts = []; client_as = tt; server_as = tt; client = refl; server = refl; sends = sends_none names ends; timely = is; client_room = room.0; server_room = room.1; client_on = λ in_it. continues_none ends.client; server_on = λ in_it. continues_none ends.server }

done_client : (names : Names) (a b c : Ends) (call : Call) (act : Act) (cc cs : List Call) → ActsAs names.key call act → b.client.link ≡ (did (reading_of a.client.clock) act a.client.link).link → b.client.clock ≡ a.client.clock → b.server ≡ a.server
    → Posts names a b [] (did (reading_of a.client.clock) act a.client.link).pdus → HasRoom a.client.link → (Joined (reading_of a.client.clock) a.client.link → Continues a.client b.client) → Done names b c cc cs → Done names a c (call ∷ cc) cs
unfolding all_did
done_client names a b c call act cc cs so_is link clock other sends room goes d = record {
  client_acts = act ∷ d.client_acts;
  server_acts = d.server_acts;
  client_as = (so_is, d.client_as);
  server_as = d.server_as;
  client = d.client ∙ did_on (λ (s : Step). s.link);
  server = d.server ∙ ap (λ (e : EndState). (all_did (reading_of e.clock) d.server_acts e.link).link) other;
  sends = subst (λ (q : List Pdu). Posts names a c q ((did now act a.client.link).pdus ++ (all_did now d.client_acts (did now act a.client.link).link).pdus)) (ap (λ (e : EndState). (all_did (reading_of e.clock) d.server_acts e.link).pdus) other)
      (subst (λ (q : List Pdu). Posts names a c (all_did (reading_of b.server.clock) d.server_acts b.server.link).pdus ((did now act a.client.link).pdus ++ q)) (did_on (λ (s : Step). s.pdus)) (sends_then names a b c _ _ _ _ sends d.sends));
  timely = d.timely;
  client_room = (room, subst (λ (k : LinkState). Roomy now d.client_acts k) link (subst (λ (n : ℕ). Roomy (reading_of n) d.client_acts b.client.link) clock d.client_room));
  server_room = subst (λ (e : EndState). Roomy (reading_of e.clock) d.server_acts e.link) other d.server_room;
  client_on = λ in_it. continues_then a.client b.client c.client (goes in_it.0) (d.client_on (subst (λ (n : ℕ). Within (reading_of n) d.client_acts b.client.link) (sym clock) (subst (λ (k : LinkState). Within now d.client_acts k) (sym link) in_it.1)));
  server_on = subst (λ (e : EndState). Within (reading_of e.clock) d.server_acts e.link → Continues e c.server) other d.server_on;
}
  where
    now : ℕ
    now = reading_of a.client.clock

    did_on : {A : Type 0} (x : Step → A) → x (all_did (reading_of b.client.clock) d.client_acts b.client.link) ≡ x (all_did now d.client_acts (did now act a.client.link).link)
    did_on x = ap (λ (n : ℕ). x (all_did (reading_of n) d.client_acts b.client.link)) clock ∙ ap (λ (k : LinkState). x (all_did now d.client_acts k)) link

done_server : (names : Names) (a b c : Ends) (call : Call) (act : Act) (cc cs : List Call) → ActsAs names.key call act → b.server.link ≡ (did (reading_of a.server.clock) act a.server.link).link → b.server.clock ≡ a.server.clock → b.client ≡ a.client
    → Posts names a b (did (reading_of a.server.clock) act a.server.link).pdus [] → HasRoom a.server.link → (Joined (reading_of a.server.clock) a.server.link → Continues a.server b.server) → Done names b c cc cs → Done names a c cc (call ∷ cs)
unfolding all_did
done_server names a b c call act cc cs so_is link clock other sends room goes d = record {
  client_acts = d.client_acts;
  server_acts = act ∷ d.server_acts;
  client_as = d.client_as;
  server_as = (so_is, d.server_as);
  client = d.client ∙ ap (λ (e : EndState). (all_did (reading_of e.clock) d.client_acts e.link).link) other;
  server = d.server ∙ did_on (λ (s : Step). s.link);
  sends = subst (λ (q : List Pdu). Posts names a c ((did now act a.server.link).pdus ++ (all_did now d.server_acts (did now act a.server.link).link).pdus) q) (ap (λ (e : EndState). (all_did (reading_of e.clock) d.client_acts e.link).pdus) other)
      (subst (λ (q : List Pdu). Posts names a c ((did now act a.server.link).pdus ++ q) (all_did (reading_of b.client.clock) d.client_acts b.client.link).pdus) (did_on (λ (s : Step). s.pdus)) (sends_then names a b c _ _ _ _ sends d.sends));
  timely = d.timely;
  client_room = subst (λ (e : EndState). Roomy (reading_of e.clock) d.client_acts e.link) other d.client_room;
  server_room = (room, subst (λ (k : LinkState). Roomy now d.server_acts k) link (subst (λ (n : ℕ). Roomy (reading_of n) d.server_acts b.server.link) clock d.server_room));
  client_on = subst (λ (e : EndState). Within (reading_of e.clock) d.client_acts e.link → Continues e c.client) other d.client_on;
  server_on = λ in_it. continues_then a.server b.server c.server (goes in_it.0) (d.server_on (subst (λ (n : ℕ). Within (reading_of n) d.server_acts b.server.link) (sym clock) (subst (λ (k : LinkState). Within now d.server_acts k) (sym link) in_it.1)));
}
  where
    now : ℕ
    now = reading_of a.server.clock

    did_on : {A : Type 0} (x : Step → A) → x (all_did (reading_of b.server.clock) d.server_acts b.server.link) ≡ x (all_did now d.server_acts (did now act a.server.link).link)
    did_on x = ap (λ (n : ℕ). x (all_did (reading_of n) d.server_acts b.server.link)) clock ∙ ap (λ (k : LinkState). x (all_did now d.server_acts k)) link

-- datagrams on other links change nothing at these two ends
done_elsewhere : (names : Names) (count : ℕ) (a c : Ends) (cc cs : List Call) → Done names (record a { moment = a.moment + count }) c cc cs → Done names a c cc cs
done_elsewhere names count a c cc cs d = record {
  client_acts = d.client_acts;
  server_acts = d.server_acts;
  client_as = d.client_as;
  server_as = d.server_as;
  client = d.client;
  server = d.server;
  sends = record {
    time = d.sends.time;
    client_clock = d.sends.client_clock;
    server_clock = d.sends.server_clock;
    more = d.sends.more;
    sent = d.sends.sent;
    of_server = d.sends.of_server;
    of_client = d.sends.of_client;
    sent_now = d.sends.sent_now;
    client_pdus = d.sends.client_pdus;
    server_pdus = d.sends.server_pdus;
  };
  timely = d.timely;
  client_room = d.client_room;
  server_room = d.server_room;
  client_on = d.client_on;
  server_on = d.server_on;
}

client_continues : (call : Call) (ends : Ends) → Joined (reading_of ends.client.clock) ends.client.link → HasRoom ends.client.link → Continues ends.client (called Role.Client call ends).client
unfolding called
client_continues call ends in_it room = call_continues call ends.moment ends.client in_it room

server_continues : (call : Call) (ends : Ends) → Joined (reading_of ends.server.clock) ends.server.link → HasRoom ends.server.link → Continues ends.server (called Role.Server call ends).server
unfolding called
server_continues call ends in_it room = call_continues call ends.moment ends.server in_it room

pub key_of : (names : Names) (who : Role) (l : LinkState) (call : Call) (act : Act) → l.identity ≡ identity_of who names → ActsAs names.key call act → ActsAs l.identity.key call act
key_of names who l call act identity so_is = subst (λ (i : Identity). ActsAs i.key call act) (sym identity) so_is

all_done : LawsBelow → (names : Names) → AreNames names → (calls : List Event) (ends : Ends) (tc ts : List Pdu) → Timely names ends → Each IsCall calls → Each IsNoClose (calls_in Role.Client calls) → Each IsNoClose (calls_in Role.Server calls)
    → AreRead names.key (all_coming (calls_in Role.Client calls)) tc → AreRead names.key (all_coming (calls_in Role.Server calls)) ts → MayRun names calls ends → HaveRoom calls ends
    → Done names ends (run calls ends) (calls_in Role.Client calls) (calls_in Role.Server calls)
all_done laws names are [] ends tc ts is only oc os rc rs may room = done_none names ends is room
all_done laws names are (Calls Role.Client call ∷ calls) ends tc ts is only oc os rc rs may room =
    let t = as_act names.key call (all_coming (calls_in Role.Client calls)) tc oc.0 rc in
    let does = one_client call t.act ends (key_of names Role.Client ends.client.link call t.act is.client.identity t.so_is) in
    let mid : Ends = called Role.Client call ends in
    done_client names ends mid (run calls mid) call t.act (calls_in Role.Client calls) (calls_in Role.Server calls) t.so_is does.0 (client_alone call ends).1 (client_alone call ends).0
    (subst (λ (q : List Pdu). Posts names ends mid [] q) does.1 (client_calls laws names call ends is may.0)) room.0 (λ in_it. client_continues call ends in_it room.0)
    (all_done laws names are calls mid t.left ts (laws.every_event_keeps_time names (Calls Role.Client call) ends are is may.0) only.1 oc.1 os t.rest rs may.1 room.2)
all_done laws names are (Calls Role.Server call ∷ calls) ends tc ts is only oc os rc rs may room =
    let t = as_act names.key call (all_coming (calls_in Role.Server calls)) ts os.0 rs in
    let does = one_server call t.act ends (key_of names Role.Server ends.server.link call t.act is.server.identity t.so_is) in
    let mid : Ends = called Role.Server call ends in
    done_server names ends mid (run calls mid) call t.act (calls_in Role.Client calls) (calls_in Role.Server calls) t.so_is does.0 (server_alone call ends).1 (server_alone call ends).0
    (subst (λ (q : List Pdu). Posts names ends mid q []) does.1 (server_calls laws names call ends is may.0)) room.1 (λ in_it. server_continues call ends in_it room.1)
    (all_done laws names are calls mid tc t.left (laws.every_event_keeps_time names (Calls Role.Server call) ends are is may.0) only.1 oc os.1 rc t.rest may.1 room.2)
all_done laws names are (Elsewhere count ∷ calls) ends tc ts is only oc os rc rs may room = done_elsewhere names count ends (run calls (record ends { moment = ends.moment + count })) (calls_in Role.Client calls) (calls_in Role.Server calls)
    (all_done laws names are calls (record ends { moment = ends.moment + count }) tc ts (laws.every_event_keeps_time names (Elsewhere count) ends are is may.0) only.1 oc os rc rs may.1 room.2)
all_done laws names are (Passes elapsed of_client of_server ∷ calls) ends tc ts is only oc os rc rs may room = absurd only.0
all_done laws names are (Loses bytes ∷ calls) ends tc ts is only oc os rc rs may room = absurd only.0
all_done laws names are (Restarts who clock first ∷ calls) ends tc ts is only oc os rc rs may room = absurd only.0

-- ---- the shape of a round

record Split (key : Key) (front rest : List Call) (acts : List Act) : Type 0 where
  one : List Act
  other : List Act
  are : acts ≡ one ++ other
  front_as : AllAct key front one
  rest_as : AllAct key rest other

split : (key : Key) (front rest : List Call) (acts : List Act) → AllAct key (front ++ rest) acts → Split key front rest acts
split key [] rest acts so_is = record { one = []; other = acts; are = refl; front_as = tt; rest_as = so_is }
split key (call ∷ front) rest [] so_is = absurd so_is
split key (call ∷ front) rest (act ∷ acts) so_is = let s = split key front rest acts so_is.1 in record { one = act ∷ s.one; other = s.other; are = ap (λ (l : List Act). act ∷ l) s.are; front_as = (so_is.0, s.front_as); rest_as = s.rest_as }

before_acts : (key : Key) (calls : List Call) (acts : List Act) → Each IsBeforeTick calls → AllAct key calls acts → Each IsBefore acts
before_acts key [] [] each so_is = tt
before_acts key [] (act ∷ acts) each so_is = absurd so_is
before_acts key (call ∷ calls) [] each so_is = absurd so_is
before_acts key (Ticks ∷ calls) (act ∷ acts) each so_is = absurd each.0
before_acts key (Opens ∷ calls) (act ∷ acts) each so_is = absurd each.0
before_acts key (Closes why ∷ calls) (act ∷ acts) each so_is = absurd (no_act_closes key why act so_is.0)
before_acts key (Sends item ∷ calls) (Gives given ∷ acts) each so_is = (tt, before_acts key calls acts each.1 so_is.1)
before_acts key (Sends item ∷ calls) (Hears pdu ∷ acts) each so_is = absurd so_is.0
before_acts key (Sends item ∷ calls) (Beats ∷ acts) each so_is = absurd so_is.0
before_acts key (Sends item ∷ calls) (Asks ∷ acts) each so_is = absurd so_is.0
before_acts key (Receives bytes c ∷ calls) (Hears pdu ∷ acts) each so_is = (tt, before_acts key calls acts each.1 so_is.1)
before_acts key (Receives bytes c ∷ calls) (Gives given ∷ acts) each so_is = absurd so_is.0
before_acts key (Receives bytes c ∷ calls) (Beats ∷ acts) each so_is = absurd so_is.0
before_acts key (Receives bytes c ∷ calls) (Asks ∷ acts) each so_is = absurd so_is.0

gift_acts : (key : Key) (calls : List Call) (acts : List Act) → Each IsBehindTick calls → AllAct key calls acts → Each IsGift acts
gift_acts key [] [] each so_is = tt
gift_acts key [] (act ∷ acts) each so_is = absurd so_is
gift_acts key (call ∷ calls) [] each so_is = absurd so_is
gift_acts key (Ticks ∷ calls) (act ∷ acts) each so_is = absurd each.0
gift_acts key (Opens ∷ calls) (act ∷ acts) each so_is = absurd each.0
gift_acts key (Closes why ∷ calls) (act ∷ acts) each so_is = absurd (no_act_closes key why act so_is.0)
gift_acts key (Receives bytes c ∷ calls) (act ∷ acts) each so_is = absurd each.0
gift_acts key (Sends item ∷ calls) (Gives given ∷ acts) each so_is = (tt, gift_acts key calls acts each.1 so_is.1)
gift_acts key (Sends item ∷ calls) (Hears pdu ∷ acts) each so_is = absurd so_is.0
gift_acts key (Sends item ∷ calls) (Beats ∷ acts) each so_is = absurd so_is.0
gift_acts key (Sends item ∷ calls) (Asks ∷ acts) each so_is = absurd so_is.0

brought_acts : (key : Key) (calls : List Call) (acts : List Act) (pdus : List Pdu) → Each IsBeforeTick calls → AllAct key calls acts → AreRead key (all_coming calls) pdus → all_brought acts ≡ pdus
brought_acts key [] [] [] each so_is read = refl
brought_acts key [] [] (pdu ∷ pdus) each so_is read = absurd read
brought_acts key [] (act ∷ acts) pdus each so_is read = absurd so_is
brought_acts key (call ∷ calls) [] pdus each so_is read = absurd so_is
brought_acts key (Ticks ∷ calls) (act ∷ acts) pdus each so_is read = absurd each.0
brought_acts key (Opens ∷ calls) (act ∷ acts) pdus each so_is read = absurd each.0
brought_acts key (Closes why ∷ calls) (act ∷ acts) pdus each so_is read = absurd (no_act_closes key why act so_is.0)
brought_acts key (Sends item ∷ calls) (Gives given ∷ acts) pdus each so_is read = brought_acts key calls acts pdus each.1 so_is.1 read
brought_acts key (Sends item ∷ calls) (Hears pdu ∷ acts) pdus each so_is read = absurd so_is.0
brought_acts key (Sends item ∷ calls) (Beats ∷ acts) pdus each so_is read = absurd so_is.0
brought_acts key (Sends item ∷ calls) (Asks ∷ acts) pdus each so_is read = absurd so_is.0
brought_acts key (Receives bytes c ∷ calls) (Hears pdu ∷ acts) [] each so_is read = absurd read
brought_acts key (Receives bytes c ∷ calls) (Hears pdu ∷ acts) (first ∷ pdus) each so_is read = both same (brought_acts key calls acts pdus each.1 so_is.1 read.1)
  where
    same : pdu ≡ first
    same = let e = so_is.0 in let f = read.0 in cc (e, f)

    both : {p q : Pdu} {ps qs : List Pdu} → p ≡ q → ps ≡ qs → p ∷ ps ≡ q ∷ qs
    both e f = cc
brought_acts key (Receives bytes c ∷ calls) (Gives given ∷ acts) pdus each so_is read = absurd so_is.0
brought_acts key (Receives bytes c ∷ calls) (Beats ∷ acts) pdus each so_is read = absurd so_is.0
brought_acts key (Receives bytes c ∷ calls) (Asks ∷ acts) pdus each so_is read = absurd so_is.0

record ByClock (key : Key) (who : Role) (back : List Call) (acts : List Act) : Type 0 where
  others : List Act
  are : acts ≡ clock_acts who ++ others
  so_is : AllAct key back others

clock_as : (key : Key) (who : Role) (back : List Call) (acts : List Act) → AllAct key (clock_calls who ++ back) acts → ByClock key who back acts
clock_as key Role.Server back [] so_is = absurd so_is
clock_as key Role.Server back (Beats ∷ acts) so_is = record { others = acts; are = refl; so_is = so_is.1 }
clock_as key Role.Server back (Asks ∷ acts) so_is = absurd so_is.0
clock_as key Role.Server back (Hears pdu ∷ acts) so_is = absurd so_is.0
clock_as key Role.Server back (Gives item ∷ acts) so_is = absurd so_is.0
clock_as key Role.Client back [] so_is = absurd so_is
clock_as key Role.Client back (Asks ∷ acts) so_is = absurd so_is.0
clock_as key Role.Client back (Hears pdu ∷ acts) so_is = absurd so_is.0
clock_as key Role.Client back (Gives item ∷ acts) so_is = absurd so_is.0
clock_as key Role.Client back (Beats ∷ []) so_is = absurd so_is.1
clock_as key Role.Client back (Beats ∷ (Asks ∷ acts)) so_is = record { others = acts; are = refl; so_is = so_is.1.1 }
clock_as key Role.Client back (Beats ∷ (Beats ∷ acts)) so_is = absurd so_is.1.0
clock_as key Role.Client back (Beats ∷ (Hears pdu ∷ acts)) so_is = absurd so_is.1.0
clock_as key Role.Client back (Beats ∷ (Gives item ∷ acts)) so_is = absurd so_is.1.0

work_of : (key : Key) (who : Role) (due : List (List ℕ)) (calls : List Call) (acts : List Act) (pdus : List Pdu) → IsWorkAt who due calls → AllAct key calls acts → AreRead key due pdus → IsWork who pdus acts
work_of key who due calls acts pdus w so_is read = record {
  front = s.one;
  back = c.others;
  are = s.are ∙ ap (λ (l : List Act). s.one ++ l) c.are;
  brings = brought_acts key w.front s.one pdus w.before s.front_as (subst (λ (bs : List (List ℕ)). AreRead key bs pdus) (sym w.comes) read);
  before = before_acts key w.front s.one w.before s.front_as;
  behind = gift_acts key w.back c.others w.behind c.so_is;
}
  where
    s : Split key w.front (clock_calls who ++ w.back) acts
    s = split key w.front (clock_calls who ++ w.back) acts (subst (λ (l : List Call). AllAct key l acts) w.are so_is)

    c : ByClock key who w.back s.other
    c = clock_as key who w.back s.other s.rest_as

-- ---- what comes in it, and that nothing closes

coming_both : (one other : List Call) → all_coming (one ++ other) ≡ all_coming one ++ all_coming other
coming_both [] other = refl
coming_both (call ∷ one) other = ap (λ (l : List (List ℕ)). coming call ++ l) (coming_both one other) ∙ sym (append_assoc (coming call) (all_coming one) (all_coming other))

gifts_bring_none : (calls : List Call) → Each IsBehindTick calls → all_coming calls ≡ []
gifts_bring_none [] each = refl
gifts_bring_none (Ticks ∷ calls) each = absurd each.0
gifts_bring_none (Opens ∷ calls) each = absurd each.0
gifts_bring_none (Closes why ∷ calls) each = gifts_bring_none calls each.1
gifts_bring_none (Sends item ∷ calls) each = gifts_bring_none calls each.1
gifts_bring_none (Receives bytes c ∷ calls) each = absurd each.0

clock_brings_none : (who : Role) (back : List Call) → Each IsBehindTick back → all_coming (clock_calls who ++ back) ≡ []
clock_brings_none Role.Client back each = gifts_bring_none back each
clock_brings_none Role.Server back each = gifts_bring_none back each

comes_in : (who : Role) (due : List (List ℕ)) (calls : List Call) → IsWorkAt who due calls → all_coming calls ≡ due
comes_in who due calls w = ap all_coming w.are ∙ coming_both w.front (clock_calls who ++ w.back) ∙ ap (λ (l : List (List ℕ)). all_coming w.front ++ l) (clock_brings_none who w.back w.behind) ∙ append-nil (all_coming w.front) ∙ w.comes

-- where nothing closes an end
stays_open : (who : Role) (calls : List Event) → Each LeavesOpen calls → Each IsNoClose (calls_in who calls)
stays_open who [] each = tt
stays_open who (Calls at call ∷ calls) each = choose who at (no_close call each.0) (stays_open who calls each.1)
  where
    no_close : (call : Call) → LeavesOpen (Calls at call) → IsNoClose call
    no_close Ticks is = tt
    no_close Opens is = tt
    no_close (Closes why) is = is
    no_close (Sends item) is = tt
    no_close (Receives bytes c) is = tt

    choose : (who at : Role) → IsNoClose call → Each IsNoClose (calls_in who calls) → Each IsNoClose (called_in who (Calls at call) ++ calls_in who calls)
    choose Role.Client Role.Client is others = (is, others)
    choose Role.Server Role.Server is others = (is, others)
    choose Role.Client Role.Server is others = others
    choose Role.Server Role.Client is others = others
stays_open who (Passes elapsed of_client of_server ∷ calls) each = stays_open who calls each.1
stays_open who (Loses bytes ∷ calls) each = stays_open who calls each.1
stays_open who (Restarts at clock first ∷ calls) each = stays_open who calls each.1
stays_open who (Elsewhere count ∷ calls) each = stays_open who calls each.1

-- what is due is what is pending
due_client : (time : ℕ) (ds : List Sent) → due_to Role.Client time ds ≡ bytes_from Role.Server (arriving time ds)
due_client time [] = refl
due_client time (d ∷ ds) = choose (can_come time d) d.sender refl (due_client time ds)
  where
    choose : (b : Bool) (s : Role) → d.sender ≡ s → due_to Role.Client time ds ≡ bytes_from Role.Server (arriving time ds)
        → (if b && is_same (partner_of d.sender) Role.Client then d.bytes ∷ due_to Role.Client time ds else due_to Role.Client time ds) ≡ bytes_from Role.Server (if b then d ∷ arriving time ds else arriving time ds)
    choose false s e f = f
    choose true Role.Client e f = rw e f
    choose true Role.Server e f = rw e (ap (λ (l : List (List ℕ)). d.bytes ∷ l) f)

due_server : (time : ℕ) (ds : List Sent) → due_to Role.Server time ds ≡ bytes_from Role.Client (arriving time ds)
due_server time [] = refl
due_server time (d ∷ ds) = choose (can_come time d) d.sender refl (due_server time ds)
  where
    choose : (b : Bool) (s : Role) → d.sender ≡ s → due_to Role.Server time ds ≡ bytes_from Role.Client (arriving time ds)
        → (if b && is_same (partner_of d.sender) Role.Server then d.bytes ∷ due_to Role.Server time ds else due_to Role.Server time ds) ≡ bytes_from Role.Client (if b then d ∷ arriving time ds else arriving time ds)
    choose false s e f = f
    choose true Role.Server e f = rw e f
    choose true Role.Client e f = rw e (ap (λ (l : List (List ℕ)). d.bytes ∷ l) f)

-- ---- a round

-- an end as its round begins
pub record Begins (end : EndState) (l : LinkState) : Type 0 where
  pub now : reading_of end.clock ≡ l.clock + 10
  pub link : end.link ≡ settled (l.clock + 10) l

-- the round of two links that one of two ends is
pub record Follows (names : Names) (f : Flow) (p : Pair) (calls : List Event) : Type 0 where
  pub round : WorkRound p
  pub mirrors : Mirrors names (work_round calls f) (behind p round)
  pub client_on : Within (p.client.clock + 10) round.client_acts (settled (p.client.clock + 10) p.client) → Continues f.ends.client (work_round calls f).ends.client
  pub server_on : Within (p.server.clock + 10) round.server_acts (settled (p.server.clock + 10) p.server) → Continues f.ends.server (work_round calls f).ends.server
  -- how it begins, and what is done in it
  pub client_begins : Begins (later 10000 10000 10000 f.ends).client p.client
  pub server_begins : Begins (later 10000 10000 10000 f.ends).server p.server
  pub client_as : AllAct names.key (calls_in Role.Client calls) round.client_acts
  pub server_as : AllAct names.key (calls_in Role.Server calls) round.server_acts
  -- what is said in it
  pub new : List Sent
  pub sent : (work_round calls f).ends.sent ≡ f.ends.sent ++ new
  pub of_client : AreRead names.key (bytes_from Role.Client new) (behind p round).to_server

-- Two ends, and what comes to them in a round at work, of these datagrams: they may come in it as events.
pub record ComesAtWork (names : Names) (f : Flow) (due : List Sent) (p : Pair) (calls : List Event) : Type 0 where
  pub timely : Timely names f.ends
  pub client : f.ends.client.link ≡ p.client
  pub server : f.ends.server.link ≡ p.server
  pub to_client : AreRead names.key (bytes_from Role.Server (arriving (f.ends.time + 10000) due)) p.to_client
  pub to_server : AreRead names.key (bytes_from Role.Client (arriving (f.ends.time + 10000) due)) p.to_server
  pub may : MayRun names (Passes 10000 10000 10000 ∷ calls) f.ends
  pub only : Each IsCall calls
  pub client_work : IsWorkAt Role.Client (due_to Role.Client (f.ends.time + 10000) due) (calls_in Role.Client calls)
  pub server_work : IsWorkAt Role.Server (due_to Role.Server (f.ends.time + 10000) due) (calls_in Role.Server calls)

later_continues : (ends : Ends) → Continues ends.client (later 10000 10000 10000 ends).client × Continues ends.server (later 10000 10000 10000 ends).server
unfolding later end_later
later_continues ends = (record { connection = refl; more = []; given = sym (append-nil ends.client.given) }, record { connection = refl; more = []; given = sym (append-nil ends.server.given) })

pub follows_all : LawsBelow → (names : Names) → AreNames names → (f : Flow) (due : List Sent) (p : Pair) (calls : List Event) → ComesAtWork names f due p calls → Each LeavesOpen calls
    → HaveRoom calls (later 10000 10000 10000 f.ends) → Follows names f p calls
unfolding acted
follows_all laws names are f due p calls m opens room = record {
  round = round_now;
  mirrors = record {
    timely = d.timely;
    client = d.client ∙ client_did (λ (s : Step). s.link);
    server = d.server ∙ server_did (λ (s : Step). s.link);
    to_client = read_back laws names.key (server_step p round_now).pdus _ (subst (Each IsPdu) (server_did (λ (s : Step). s.pdus)) d.sends.client_pdus)
        (ap (bytes_from Role.Server) pending_is ∙ d.sends.of_server ∙ ap (λ (ps : List Pdu). spellings names.key ps) (server_did (λ (s : Step). s.pdus)));
    to_server = subst (λ (ds : List Sent). AreRead names.key (bytes_from Role.Client ds) (client_step p round_now).pdus) (sym pending_is) read_client;
  };
  client_on = λ in_it. continues_then f.ends.client passed.client (run calls passed).client (later_continues f.ends).0
      (d.client_on (subst (λ (n : ℕ). Within n d.client_acts passed.client.link) (sym client_now) (subst (λ (l : LinkState). Within nowc d.client_acts l) (sym settled_client) in_it)));
  server_on = λ in_it. continues_then f.ends.server passed.server (run calls passed).server (later_continues f.ends).1
      (d.server_on (subst (λ (n : ℕ). Within n d.server_acts passed.server.link) (sym server_now) (subst (λ (l : LinkState). Within nows d.server_acts l) (sym settled_server) in_it)));
  client_begins = record { now = client_now; link = settled_client };
  server_begins = record { now = server_now; link = settled_server };
  client_as = d.client_as;
  server_as = d.server_as;
  new = d.sends.more;
  sent = d.sends.sent ∙ ap (λ (s : List Sent). s ++ d.sends.more) (passed_on f.ends).4;
  of_client = read_client;
}
  where
    passed : Ends
    passed = later 10000 10000 10000 f.ends

    due_c : List (List ℕ)
    due_c = due_to Role.Client (f.ends.time + 10000) due

    due_s : List (List ℕ)
    due_s = due_to Role.Server (f.ends.time + 10000) due

    read_c : AreRead names.key due_c p.to_client
    read_c = subst (λ (bs : List (List ℕ)). AreRead names.key bs p.to_client) (sym (due_client (f.ends.time + 10000) due)) m.to_client

    read_s : AreRead names.key due_s p.to_server
    read_s = subst (λ (bs : List (List ℕ)). AreRead names.key bs p.to_server) (sym (due_server (f.ends.time + 10000) due)) m.to_server

    d : Done names passed (run calls passed) (calls_in Role.Client calls) (calls_in Role.Server calls)
    d = all_done laws names are calls passed p.to_client p.to_server (laws.every_event_keeps_time names (Passes 10000 10000 10000) f.ends are m.timely m.may.0) m.only
        (stays_open Role.Client calls opens) (stays_open Role.Server calls opens)
        (subst (λ (bs : List (List ℕ)). AreRead names.key bs p.to_client) (sym (comes_in Role.Client due_c (calls_in Role.Client calls) m.client_work)) read_c)
        (subst (λ (bs : List (List ℕ)). AreRead names.key bs p.to_server) (sym (comes_in Role.Server due_s (calls_in Role.Server calls) m.server_work)) read_s)
        m.may.1 room

    nowc : ℕ
    nowc = p.client.clock + 10

    nows : ℕ
    nows = p.server.clock + 10

    client_now : reading_of passed.client.clock ≡ nowc
    client_now = ap reading_of (passed_on f.ends).1 ∙ ten_later f.ends.client.clock p.client.clock (sym (ap (λ (l : LinkState). l.clock) m.client) ∙ m.timely.client.clock)

    server_now : reading_of passed.server.clock ≡ nows
    server_now = ap reading_of (passed_on f.ends).3 ∙ ten_later f.ends.server.clock p.server.clock (sym (ap (λ (l : LinkState). l.clock) m.server) ∙ m.timely.server.clock)

    settled_client : passed.client.link ≡ settled nowc p.client
    settled_client = (passed_on f.ends).0 ∙ ap (λ (n : ℕ). settled n f.ends.client.link) (sym (ap reading_of (passed_on f.ends).1) ∙ client_now) ∙ ap (settled nowc) m.client

    settled_server : passed.server.link ≡ settled nows p.server
    settled_server = (passed_on f.ends).2 ∙ ap (λ (n : ℕ). settled n f.ends.server.link) (sym (ap reading_of (passed_on f.ends).3) ∙ server_now) ∙ ap (settled nows) m.server

    round_now : WorkRound p
    round_now = record {
      client_acts = d.client_acts;
      server_acts = d.server_acts;
      client_work = work_of names.key Role.Client due_c (calls_in Role.Client calls) d.client_acts p.to_client m.client_work d.client_as read_c;
      server_work = work_of names.key Role.Server due_s (calls_in Role.Server calls) d.server_acts p.to_server m.server_work d.server_as read_s;
      client_room = subst (λ (l : LinkState). Roomy nowc d.client_acts l) settled_client (subst (λ (n : ℕ). Roomy n d.client_acts passed.client.link) client_now d.client_room);
      server_room = subst (λ (l : LinkState). Roomy nows d.server_acts l) settled_server (subst (λ (n : ℕ). Roomy n d.server_acts passed.server.link) server_now d.server_room);
    }

    client_did : {A : Type 0} (x : Step → A) → x (all_did (reading_of passed.client.clock) d.client_acts passed.client.link) ≡ x (client_step p round_now)
    client_did x = ap (λ (n : ℕ). x (all_did n d.client_acts passed.client.link)) client_now ∙ ap (λ (l : LinkState). x (all_did nowc d.client_acts l)) settled_client

    server_did : {A : Type 0} (x : Step → A) → x (all_did (reading_of passed.server.clock) d.server_acts passed.server.link) ≡ x (server_step p round_now)
    server_did x = ap (λ (n : ℕ). x (all_did n d.server_acts passed.server.link)) server_now ∙ ap (λ (l : LinkState). x (all_did nows d.server_acts l)) settled_server

    pending_is : arriving ((run calls passed).time + 10000) (drop (length f.ends.sent) (run calls passed).sent) ≡ d.sends.more
    pending_is = ap (λ (s : List Sent). arriving ((run calls passed).time + 10000) (drop (length f.ends.sent) s)) (d.sends.sent ∙ ap (λ (s : List Sent). s ++ d.sends.more) (passed_on f.ends).4)
        ∙ ap (arriving ((run calls passed).time + 10000)) (drop_append f.ends.sent d.sends.more)
        ∙ now_arrives (run calls passed).time d.sends.more (subst (λ (t : ℕ). Each (IsNow t) d.sends.more) (sym d.sends.time) d.sends.sent_now)

    read_client : AreRead names.key (bytes_from Role.Client d.sends.more) (client_step p round_now).pdus
    read_client = read_back laws names.key (client_step p round_now).pdus _ (subst (Each IsPdu) (client_did (λ (s : Step). s.pdus)) d.sends.server_pdus)
        (d.sends.of_client ∙ ap (λ (ps : List Pdu). spellings names.key ps) (client_did (λ (s : Step). s.pdus)))

pub follows : LawsBelow → (names : Names) → AreNames names → (f : Flow) (p : Pair) (calls : List Event) → Mirrors names f p → IsAtWork names f calls → Each LeavesOpen calls → HaveRoom calls (later 10000 10000 10000 f.ends) → Follows names f p calls
follows laws names are f p calls m w opens room = follows_all laws names are f (drop f.passed f.ends.sent) p calls (record {
  timely = m.timely;
  client = m.client;
  server = m.server;
  to_client = m.to_client;
  to_server = m.to_server;
  may = w.may;
  only = w.only;
  client_work = w.client;
  server_work = w.server;
}) opens room
