-- What comes to a server in a round at work was sent before the round.
use Rattle.simulator_recovery.proofs.Words.Basics.{◌≡◌, inl, inr, ℕ, ◌+◌, ◌≤◌, true, List, [], ◌∷◌, ◌++◌, Some, refl, sym, ap, subst, ◌∙◌, same_Some, zero, suc, Bool, false, not, ◌&&◌, nat_le, drop, if◌then◌else◌, leb-true}
use Rattle.simulator_recovery.proofs.Words.Links.{IsCall, Each, Call, Closes, EndState, Opens, Receives, Sends, Sent, Ticks, end_after, outcome, Calls, Elsewhere, Event, IsAmong, IsDelivered, Loses, MayCall, MayRun, Passes, Restarts, run, Timely, AreNames, Names, Ends, called, is_open, Role, Reason, HasRoom, HaveRoom, IsBeforeTick, IsBehindTick, IsWorkAt, all_coming, calls_in, due_to, happened, is_same, partner_of}
use Rattle.simulator_recovery.proofs.Words.Recovery.{LawsBelow}
use Rattle.simulator_recovery.proofs.Lemmas.RoutesGoing.RepliedThrough.{IsInThrough}

-- ---- what a server does in a round is what it would do if its client did nothing in that round: all that comes to it was sent before

-- A datagram in a list that can still be delivered at this time has these bytes.
pub record IsDue (sent : List Sent) (time : ℕ) (bytes : List ℕ) : Type 0 where
  pub datagram : Sent
  pub among : IsAmong datagram sent
  pub same : datagram.bytes ≡ bytes
  pub in_time : time ≤ datagram.at + 2000000

-- a server isn't called to open, and what comes to it is due
abbrev pub ComesDue : List Sent → ℕ → Event → Type 0
ComesDue sent time (Calls Role.Server (Receives bytes connection)) = IsDue sent time bytes
ComesDue sent time (Calls Role.Server Opens) = ⊥
ComesDue sent time _ = Unit {0}

-- the calls at the server alone; what comes was sent in this connection
abbrev pub alone : ℕ → List Event → List Event
alone connection [] = []
alone connection (Calls Role.Server (Receives bytes other) ∷ more) = Calls Role.Server (Receives bytes connection) ∷ alone connection more
alone connection (Calls Role.Server Ticks ∷ more) = Calls Role.Server Ticks ∷ alone connection more
alone connection (Calls Role.Server Opens ∷ more) = Calls Role.Server Opens ∷ alone connection more
alone connection (Calls Role.Server (Closes why) ∷ more) = Calls Role.Server (Closes why) ∷ alone connection more
alone connection (Calls Role.Server (Sends item) ∷ more) = Calls Role.Server (Sends item) ∷ alone connection more
alone connection (Calls Role.Client call ∷ more) = alone connection more
alone connection (Passes elapsed of_client of_server ∷ more) = alone connection more
alone connection (Loses bytes ∷ more) = alone connection more
alone connection (Restarts who clock first ∷ more) = alone connection more
alone connection (Elsewhere count ∷ more) = alone connection more

-- the same end, but for when it last left a connection
abbrev pub IsAs : EndState → EndState → Type 0
IsAs one other = (left : ℕ) × (other ≡ record one { left = left })

among_front : (datagram : Sent) (one other : List Sent) → IsAmong datagram one → IsAmong datagram (one ++ other)
among_front datagram [] other is = absurd is
among_front datagram (first ∷ one) other (inl same) = inl same
among_front datagram (first ∷ one) other (inr is) = inr (among_front datagram one other is)

-- a call leaves the same of the same end, whatever else was sent, and in the connection that it was in
module _ (end : EndState) (opened : is_open end.link.phase ≡ true) where
  abbrev as_other : ℕ → EndState
  as_other left = record end { left = left }

  abbrev Same : Call → Call → Type 0
  Same call again = (left one other : ℕ) → IsAs (end_after (outcome call one end) one end) (end_after (outcome again other (as_other left)) other (as_other left))

  abbrev Stays : Call → Type 0
  Stays call = (moment : ℕ) → (end_after (outcome call moment end) moment end).connection ≡ end.connection

  ticks_same : Same Ticks Ticks
  unfolding outcome end_after
  ticks_same left one other = ((end_after (outcome Ticks other (as_other left)) other (as_other left)).left, refl)

  closes_same : (why : Reason) → Same (Closes why) (Closes why)
  unfolding outcome end_after
  closes_same why left one other = ((end_after (outcome (Closes why) other (as_other left)) other (as_other left)).left, refl)

  sends_same : (item : List ℕ) → Same (Sends item) (Sends item)
  unfolding outcome end_after
  sends_same item left one other = ((end_after (outcome (Sends item) other (as_other left)) other (as_other left)).left, refl)

  receives_same : (bytes : List ℕ) (connection again : ℕ) → Same (Receives bytes connection) (Receives bytes again)
  unfolding outcome end_after
  receives_same bytes connection again left one other = ((end_after (outcome (Receives bytes again) other (as_other left)) other (as_other left)).left, rw opened refl)

  ticks_stays : Stays Ticks
  unfolding outcome end_after
  ticks_stays moment = refl

  closes_stays : (why : Reason) → Stays (Closes why)
  unfolding outcome end_after
  closes_stays why moment = refl

  sends_stays : (item : List ℕ) → Stays (Sends item)
  unfolding outcome end_after
  sends_stays item moment = refl

  pub receives_stays : (bytes : List ℕ) (connection : ℕ) → Stays (Receives bytes connection)
  unfolding outcome end_after
  receives_stays bytes connection moment = rw opened refl

-- What a server has come to by some events, and what it has come to by these calls alone.
pub record RunsAlone (names : Names) (single_events events : List Event) (ends single : Ends) : Type 0 where
  pub may : MayRun names single_events single
  pub server : IsAs (run events ends).server (run single_events single).server
  pub client : (run single_events single).client ≡ single.client
  pub time : (run single_events single).time ≡ single.time
  pub among : (datagram : Sent) → IsAmong datagram single.sent → IsAmong datagram (run single_events single).sent

-- a call at each
module _ (names : Names) (call again : Call) (ends single : Ends) where
  pub calls_alone : (single_events events : List Event) → MayCall names Role.Server again single → RunsAlone names single_events events (called Role.Server call ends) (called Role.Server again single)
      → RunsAlone names (Calls Role.Server again ∷ single_events) (Calls Role.Server call ∷ events) ends single
  unfolding called
  calls_alone single_events events may rest = record {
    may = (may, rest.may);
    server = rest.server;
    client = rest.client;
    time = rest.time;
    among = λ datagram is. rest.among datagram (among_front datagram single.sent _ is);
  }

  same_after : IsAs ends.server single.server → ((left one other : ℕ) → IsAs (end_after (outcome call one ends.server) one ends.server) (end_after (outcome again other (record ends.server { left = left })) other (record ends.server { left = left })))
      → IsAs (called Role.Server call ends).server (called Role.Server again single).server
  unfolding called
  same_after (left, is) each = subst (λ (x : EndState). IsAs (end_after (outcome call ends.moment ends.server) ends.moment ends.server) (end_after (outcome again single.moment x) single.moment x)) (sym is) (each left ends.moment single.moment)

pub stays_after : (again : Call) (single : Ends) (connection : ℕ) → single.server.connection ≡ Some connection → ((moment : ℕ) → (end_after (outcome again moment single.server) moment single.server).connection ≡ single.server.connection)
    → (called Role.Server again single).server.connection ≡ Some connection
unfolding called
stays_after again single connection at stays = stays single.moment ∙ at

same_time : (again : Call) (single : Ends) → (called Role.Server again single).time ≡ single.time
unfolding called
same_time again single = refl

grows : (again : Call) (single : Ends) (datagram : Sent) → IsAmong datagram single.sent → IsAmong datagram (called Role.Server again single).sent
unfolding called
grows again single datagram is = among_front datagram single.sent _ is

client_apart : (call : Call) (ends single : Ends) → IsAs ends.server single.server → IsAs (called Role.Client call ends).server single.server
unfolding called
client_apart call ends single is = is

module _ (laws : LawsBelow) (names : Names) (are : AreNames names) (connection : ℕ) (sent : List Sent) (time : ℕ) where
  -- what is so of a server alone
  pub record StandsAlone (ends single : Ends) : Type 0 where
    pub same : IsAs ends.server single.server
    pub at : single.server.connection ≡ Some connection
    pub time_is : single.time ≡ time
    pub timely : Timely names single
    pub there : (datagram : Sent) → IsAmong datagram sent → IsAmong datagram single.sent

  single_open : (ends single : Ends) → IsAs ends.server single.server → is_open ends.server.link.phase ≡ true → is_open single.server.link.phase ≡ true
  single_open ends single (left, is) opened = ap (λ (e : EndState). is_open e.link.phase) is ∙ opened

  stands_after : (call again : Call) (ends single : Ends) → StandsAlone ends single → MayCall names Role.Server again single → IsAs (called Role.Server call ends).server (called Role.Server again single).server
      → ((moment : ℕ) → (end_after (outcome again moment single.server) moment single.server).connection ≡ single.server.connection) → StandsAlone (called Role.Server call ends) (called Role.Server again single)
  stands_after call again ends single s may same stays = record {
    same = same;
    at = stays_after again single connection s.at stays;
    time_is = same_time again single ∙ s.time_is;
    timely = laws.every_event_keeps_time names (Calls Role.Server again) single are s.timely may;
    there = λ datagram is. grows again single datagram (s.there datagram is);
  }

  -- what is due may come to a server alone
  pub delivered_alone : (ends single : Ends) (bytes : List ℕ) → StandsAlone ends single → is_open ends.server.link.phase ≡ true → IsDue sent time bytes → (datagram : Sent) × IsDelivered single bytes connection datagram
  delivered_alone ends single bytes s opened due = (
    due.datagram,
    record {
      was_sent = s.there due.datagram due.among;
      bytes_same = due.same;
      connection_same = same_Some due.datagram.connection connection (sym (laws.own_connection names single Role.Server bytes due.datagram.connection due.datagram s.timely
          (record { was_sent = s.there due.datagram due.among; bytes_same = due.same; connection_same = refl; in_time = in_time }) (single_open ends single s.same opened)) ∙ s.at);
      in_time = in_time;
    },
  )
    where
      in_time : single.time ≤ due.datagram.at + 2000000
      in_time = subst (λ (t : ℕ). t ≤ due.datagram.at + 2000000) (sym s.time_is) due.in_time

  pub runs_alone : (events : List Event) (ends single : Ends) → Each IsCall events → Each (ComesDue sent time) events → MayRun names events ends → IsInThrough Role.Server connection events ends → StandsAlone ends single
      → RunsAlone names (alone connection events) events ends single
  runs_alone [] ends single calls due may through s = record { may = tt; server = s.same; client = refl; time = refl; among = λ datagram is. is }
  runs_alone (Calls Role.Client call ∷ more) ends single calls due may through s = by_rest
      (runs_alone more (called Role.Client call ends) single calls.1 due.1 may.1 through.1 (record { same = client_apart call ends single s.same; at = s.at; time_is = s.time_is; timely = s.timely; there = s.there }))
    where
      by_rest : RunsAlone names (alone connection more) more (called Role.Client call ends) single → RunsAlone names (alone connection more) (Calls Role.Client call ∷ more) ends single
      by_rest r = record { may = r.may; server = r.server; client = r.client; time = r.time; among = r.among }
  runs_alone (Elsewhere count ∷ more) ends single calls due may through s = by_rest
      (runs_alone more (record ends { moment = ends.moment + count }) single calls.1 due.1 may.1 through.1 (record { same = s.same; at = s.at; time_is = s.time_is; timely = s.timely; there = s.there }))
    where
      by_rest : RunsAlone names (alone connection more) more (record ends { moment = ends.moment + count }) single → RunsAlone names (alone connection more) (Elsewhere count ∷ more) ends single
      by_rest r = record { may = r.may; server = r.server; client = r.client; time = r.time; among = r.among }
  runs_alone (Passes elapsed of_client of_server ∷ more) ends single calls due may through s = absurd calls.0
  runs_alone (Loses bytes ∷ more) ends single calls due may through s = absurd calls.0
  runs_alone (Restarts who clock first ∷ more) ends single calls due may through s = absurd calls.0
  runs_alone (Calls Role.Server Opens ∷ more) ends single calls due may through s = absurd due.0
  runs_alone (Calls Role.Server Ticks ∷ more) ends single calls due may through s = calls_alone names Ticks Ticks ends single (alone connection more) more tt
      (runs_alone more (called Role.Server Ticks ends) (called Role.Server Ticks single) calls.1 due.1 may.1 through.1
      (stands_after Ticks Ticks ends single s tt (same_after names Ticks Ticks ends single s.same (ticks_same ends.server through.0.opened)) (ticks_stays single.server (single_open ends single s.same through.0.opened))))
  runs_alone (Calls Role.Server (Closes why) ∷ more) ends single calls due may through s = calls_alone names (Closes why) (Closes why) ends single (alone connection more) more tt
      (runs_alone more (called Role.Server (Closes why) ends) (called Role.Server (Closes why) single) calls.1 due.1 may.1 through.1
      (stands_after (Closes why) (Closes why) ends single s tt (same_after names (Closes why) (Closes why) ends single s.same (closes_same ends.server through.0.opened why)) (closes_stays single.server (single_open ends single s.same through.0.opened) why)))
  runs_alone (Calls Role.Server (Sends item) ∷ more) ends single calls due may through s = calls_alone names (Sends item) (Sends item) ends single (alone connection more) more may.0
      (runs_alone more (called Role.Server (Sends item) ends) (called Role.Server (Sends item) single) calls.1 due.1 may.1 through.1
      (stands_after (Sends item) (Sends item) ends single s may.0 (same_after names (Sends item) (Sends item) ends single s.same (sends_same ends.server through.0.opened item)) (sends_stays single.server (single_open ends single s.same through.0.opened) item)))
  runs_alone (Calls Role.Server (Receives bytes other) ∷ more) ends single calls due may through s = calls_alone names (Receives bytes other) (Receives bytes connection) ends single (alone connection more) more comes
      (runs_alone more (called Role.Server (Receives bytes other) ends) (called Role.Server (Receives bytes connection) single) calls.1 due.1 may.1 through.1
      (stands_after (Receives bytes other) (Receives bytes connection) ends single s comes (same_after names (Receives bytes other) (Receives bytes connection) ends single s.same (receives_same ends.server through.0.opened bytes other connection))
      (receives_stays single.server (single_open ends single s.same through.0.opened) bytes connection)))
    where
      comes : MayCall names Role.Server (Receives bytes connection) single
      comes = inl (delivered_alone ends single bytes s through.0.opened due.0)

-- ---- what comes to a server in a round at work was sent before the round

-- a call of a server by which nothing comes but what is due
abbrev IsFor : List Sent → ℕ → Call → Type 0
IsFor sent time Ticks = Unit {0}
IsFor sent time Opens = ⊥
IsFor sent time (Closes why) = Unit {0}
IsFor sent time (Sends item) = Unit {0}
IsFor sent time (Receives bytes connection) = IsDue sent time bytes

among_behind : (datagram : Sent) (n : ℕ) (list : List Sent) → IsAmong datagram (drop n list) → IsAmong datagram list
among_behind datagram zero list is = is
among_behind datagram (suc n) [] is = is
among_behind datagram (suc n) (first ∷ list) is = inr (among_behind datagram n list is)

module _ (sent : List Sent) (time : ℕ) where
  all_due : (list : List Sent) → ((datagram : Sent) → IsAmong datagram list → IsAmong datagram sent) → Each (IsDue sent time) (due_to Role.Server time list)
  all_due [] within = tt
  all_due (first ∷ list) within = choose (not first.is_lost) (nat_le time (first.at + 2000000)) refl (is_same (partner_of first.sender) Role.Server) (all_due list (λ datagram is. within datagram (inr is)))
    where
      choose : (lives early : Bool) → nat_le time (first.at + 2000000) ≡ early → (same : Bool) → Each (IsDue sent time) (due_to Role.Server time list)
          → Each (IsDue sent time) (if (lives && early) && same then first.bytes ∷ due_to Role.Server time list else due_to Role.Server time list)
      choose true true e true rest = (record { datagram = first; among = within first (inl refl); same = refl; in_time = leb-true _ _ e }, rest)
      choose true true e false rest = rest
      choose true false e same rest = rest
      choose false early e same rest = rest

  front_for : (calls : List Call) → Each IsBeforeTick calls → Each (IsDue sent time) (all_coming calls) → Each (IsFor sent time) calls
  front_for [] before due = tt
  front_for (Ticks ∷ more) before due = absurd before.0
  front_for (Opens ∷ more) before due = absurd before.0
  front_for (Closes why ∷ more) before due = (tt, front_for more before.1 due)
  front_for (Sends item ∷ more) before due = (tt, front_for more before.1 due)
  front_for (Receives bytes connection ∷ more) before due = (due.0, front_for more before.1 due.1)

  back_for : (calls : List Call) → Each IsBehindTick calls → Each (IsFor sent time) calls
  back_for [] behind = tt
  back_for (Ticks ∷ more) behind = absurd behind.0
  back_for (Opens ∷ more) behind = absurd behind.0
  back_for (Receives bytes connection ∷ more) behind = absurd behind.0
  back_for (Closes why ∷ more) behind = (tt, back_for more behind.1)
  back_for (Sends item ∷ more) behind = (tt, back_for more behind.1)

  both_for : (one other : List Call) → Each (IsFor sent time) one → Each (IsFor sent time) other → Each (IsFor sent time) (one ++ other)
  both_for [] other first second = second
  both_for (call ∷ one) other first second = (first.0, both_for one other first.1 second)

  -- as the events of the round
  events_for : (events : List Event) → Each IsCall events → Each (IsFor sent time) (calls_in Role.Server events) → Each (ComesDue sent time) events
  events_for [] calls each = tt
  events_for (Calls Role.Client call ∷ more) calls each = (tt, events_for more calls.1 each)
  events_for (Elsewhere count ∷ more) calls each = (tt, events_for more calls.1 each)
  events_for (Calls Role.Server Ticks ∷ more) calls each = (tt, events_for more calls.1 each.1)
  events_for (Calls Role.Server Opens ∷ more) calls each = absurd each.0
  events_for (Calls Role.Server (Closes why) ∷ more) calls each = (tt, events_for more calls.1 each.1)
  events_for (Calls Role.Server (Sends item) ∷ more) calls each = (tt, events_for more calls.1 each.1)
  events_for (Calls Role.Server (Receives bytes connection) ∷ more) calls each = (each.0, events_for more calls.1 each.1)
  events_for (Passes elapsed of_client of_server ∷ more) calls each = absurd calls.0
  events_for (Loses bytes ∷ more) calls each = absurd calls.0
  events_for (Restarts who clock first ∷ more) calls each = absurd calls.0

  pub round_due : (passed : ℕ) (events : List Event) → Each IsCall events → IsWorkAt Role.Server (due_to Role.Server time (drop passed sent)) (calls_in Role.Server events) → Each (ComesDue sent time) events
  round_due passed events calls work = events_for events calls (subst (Each (IsFor sent time)) (sym work.are)
      (both_for work.front (Ticks ∷ work.back) (front_for work.front work.before (subst (Each (IsDue sent time)) (sym work.comes) (all_due (drop passed sent) (λ datagram is. among_behind datagram passed sent is))))
      (tt, back_for work.back work.behind)))

-- ---- parts of a round

pub each_part : (P : Event → Type 0) (one other : List Event) → Each P (one ++ other) → Each P one × Each P other
each_part P [] other each = (tt, each)
each_part P (first ∷ one) other each = let more = each_part P one other each.1 in ((each.0, more.0), more.1)

pub room_here : (events : List Event) (ends : Ends) → HaveRoom events ends → HasRoom ends.client × HasRoom ends.server
room_here [] ends room = room
room_here (first ∷ others) ends room = (room.0, room.1)

pub room_behind : (one other : List Event) (ends : Ends) → HaveRoom (one ++ other) ends → HaveRoom other (run one ends)
room_behind [] other ends room = room
room_behind (first ∷ one) other ends room = room_behind one other (happened first ends) room.2
