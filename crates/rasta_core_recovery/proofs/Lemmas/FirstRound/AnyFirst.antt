-- A first round in which anything comes that was sent before: it is a round of two ends for which just that waits.
use Rattle.rasta_core_recovery.proofs.Words.Basics.{◌≡◌, ◌∙◌, ◌+◌, ◌-◌, ◌≤◌, inl, inr, true, List, [], ◌∷◌, ◌++◌, append_assoc, append-nil, length, drop, Some, Ok, refl, sym, ap, subst, arith}
use Rattle.rasta_core_recovery.proofs.Words.Links.{LinkState, is_open, spellings, reading, Role, Pdu, Each, Sent, Call, Ticks, Opens, Closes, Sends, Receives, outcome, end_after, handed_out, Ends, called, end_of, later, Event, Calls, Elsewhere, IsAmong, Loses, MayCall, MayRun, Passes, Restarts, run, Names, InFlight, Timely, IsSpelledIn, Ordered, alone, together, unbegun, Times, times_of}
use Rattle.rasta_core_recovery.proofs.Words.Recovery.{IsOf, NoneFalls, NothingFalls, Rises, Rising, Speaker, Stand, nothing_sent, stands, the_client, the_server, WereSent, Flow, can_come, HaveRoom, IsCall, work_round}
use Rattle.rasta_core_recovery.proofs.Lemmas.Rounds.Bridge.{drop_append}
use Rattle.rasta_core_recovery.proofs.Lemmas.Rounds.Facts.{each_both, each_map, each_read, in_newest, is_inside, young_client, young_server}
use Rattle.rasta_core_recovery.proofs.Lemmas.Falling.FallsLists.{rises_ends}
use Rattle.rasta_core_recovery.proofs.Lemmas.FirstRound.FirstAsked.{Asked, IsRequestOf}
use Rattle.rasta_core_recovery.proofs.Lemmas.FirstRound.FirstHears.{Below, IsBelow}
use Rattle.rasta_core_recovery.proofs.Lemmas.FirstRound.FirstRises.{IsSaidAt, keeps_of, said}
use Rattle.rasta_core_recovery.proofs.Lemmas.Rounds.Links.{Pair}
use Rattle.rasta_core_recovery.proofs.Lemmas.Rounds.Lists.{each_append}
use Rattle.rasta_core_recovery.proofs.Lemmas.Rounds.Mirror.{AreRead, Mirrors, arriving, bytes_from, pending}
use Rattle.rasta_core_recovery.proofs.Lemmas.ComingUp.Seen.{BothIn}
use Rattle.rasta_core_recovery.proofs.Lemmas.Rounds.Happen.{among_front}
use Rattle.rasta_core_recovery.proofs.Lemmas.Asking.AsksSaid.{among_back}
use Rattle.rasta_core_recovery.proofs.Lemmas.FirstRound.FirstDue.{of_each}

-- ---- what was sent

among_all : (P : Sent → Type 0) (sent due : List Sent) → Each P sent → WereSent sent due → Each P due
among_all P sent [] each were = tt
among_all P sent (d ∷ due) each were = (of_each P sent d each were.0, among_all P sent due each were.1)

pub among_due : (sent due : List Sent) → WereSent sent due → (d : Sent) → IsAmong d due → IsAmong d sent
among_due sent due were d is = of_each (λ (x : Sent). IsAmong x sent) due d were is

with_due : (P : Sent → Type 0) (sent due : List Sent) → Each P sent → WereSent sent due → Each P (sent ++ due)
with_due P sent due each were = each_append P sent due each (among_all P sent due each were)

-- what is among some and more is among others and as many more
among_more : (d : Sent) (one other more : List Sent) → (IsAmong d one → IsAmong d other) → IsAmong d (one ++ more) → IsAmong d (other ++ more)
among_more d [] other more turn is = among_back d other more is
among_more d (x ∷ one) other more turn (inl same) = among_front d other more (turn (inl same))
among_more d (x ∷ one) other more turn (inr is) = among_more d one other more (λ i. turn (inr i)) is

-- ---- two ends for which these wait

-- the same ends, of which these were sent
abbrev pub of_sent : List Sent → Ends → Ends
of_sent sent ends = record ends { sent = sent }

abbrev pub waiting_for : List Sent → Flow → Flow
waiting_for due f = record { ends = of_sent (f.ends.sent ++ due) f.ends; passed = length f.ends.sent }

module _ (names : Names) (f : Flow) (due : List Sent) (were : WereSent f.ends.sent due) where
  pub waits_timely : Timely names f.ends → Timely names (waiting_for due f).ends
  waits_timely is = record {
    of_client = is.of_client;
    of_server = is.of_server;
    newest = is.newest;
    client = is.client;
    server = is.server;
    ends_timed = is.ends_timed;
    datagrams = with_due (InFlight names (times_of f.ends is.of_client is.of_server is.newest)) f.ends.sent due is.datagrams were;
  }

  pub waits_ordered : Ordered names f.ends → Ordered names (waiting_for due f).ends
  waits_ordered (unbegun e) = unbegun e
  waits_ordered (alone a) = alone (record {
    connection = a.connection;
    client = a.client;
    of_client = a.of_client;
    not_of_server = a.not_of_server;
    early = a.early;
    plays = a.plays;
    given = a.given;
    taken = a.taken;
    flow = with_due (IsSpelledIn names Role.Client a.connection a.client.flow) f.ends.sent due a.flow were;
  })
  waits_ordered (together t) = together (record {
    connection = t.connection;
    client = t.client;
    server = t.server;
    of_client = t.of_client;
    of_server = t.of_server;
    order = t.order;
    client_plays = t.client_plays;
    server_plays = t.server_plays;
    client_given = t.client_given;
    client_taken = t.client_taken;
    server_given = t.server_given;
    server_taken = t.server_taken;
    client_few = t.client_few;
    server_few = t.server_few;
    client_flow = with_due (IsSpelledIn names Role.Client t.connection t.client.flow) f.ends.sent due t.client_flow were;
    server_flow = with_due (IsSpelledIn names Role.Server t.connection t.server.flow) f.ends.sent due t.server_flow were;
  })

  pub waits_asked : Asked names f.ends → Asked names (waiting_for due f).ends
  waits_asked asked asks = let was = asked asks in record {
    link = was.link;
    fits = was.fits;
    said = with_due (IsRequestOf names f.ends) f.ends.sent due was.said were;
  }

-- ---- what was sent before plays no part in calls

-- what a call sends
abbrev handed : Role → Call → Ends → List Sent
handed who call ends = handed_out ends.time who (end_after (outcome call ends.moment (end_of who ends)) ends.moment (end_of who ends)).connection
    (spellings (end_of who ends).link.identity.key (outcome call ends.moment (end_of who ends)).pdus)

called_on : (who : Role) (call : Call) (sent : List Sent) (ends : Ends) → called who call (of_sent sent ends) ≡ of_sent (sent ++ handed who call ends) (called who call ends)
unfolding called
called_on Role.Client call sent ends = refl
called_on Role.Server call sent ends = refl

called_adds : (who : Role) (call : Call) (ends : Ends) → (called who call ends).sent ≡ ends.sent ++ handed who call ends
unfolding called
called_adds Role.Client call ends = refl
called_adds Role.Server call ends = refl

-- what calls send
pub record Appends (calls : List Event) (ends : Ends) : Type 0 where
  pub more : List Sent
  pub same : (sent : List Sent) → run calls (of_sent sent ends) ≡ of_sent (sent ++ more) (run calls ends)

pub appends : (calls : List Event) → Each IsCall calls → (ends : Ends) → Appends calls ends
appends [] each ends = record { more = []; same = λ sent. ap (λ (s : List Sent). of_sent s ends) (sym (append-nil sent)) }
appends (Calls who call ∷ calls) each ends = let rest = appends calls each.1 (called who call ends) in record {
  more = handed who call ends ++ rest.more;
  same = λ sent. ap (run calls) (called_on who call sent ends) ∙ rest.same (sent ++ handed who call ends)
      ∙ ap (λ (s : List Sent). of_sent s (run calls (called who call ends))) (append_assoc sent (handed who call ends) rest.more);
}
appends (Elsewhere count ∷ calls) each ends = let rest = appends calls each.1 (record ends { moment = ends.moment + count }) in
    record { more = rest.more; same = rest.same }
appends (Passes elapsed of_client of_server ∷ calls) each ends = absurd each.0
appends (Loses bytes ∷ calls) each ends = absurd each.0
appends (Restarts who clock first ∷ calls) each ends = absurd each.0

-- they may be made, too, where more was sent
call_may : (names : Names) (who : Role) (call : Call) (ends : Ends) (sent : List Sent) → ((d : Sent) → IsAmong d ends.sent → IsAmong d sent) → MayCall names who call ends
    → MayCall names who call (of_sent sent ends)
call_may names who Ticks ends sent turn may = tt
call_may names who Opens ends sent turn may = tt
call_may names who (Closes why) ends sent turn may = tt
call_may names who (Sends item) ends sent turn may = may
call_may names who (Receives bytes connection) ends sent turn (inr other) = inr other
call_may names who (Receives bytes connection) ends sent turn (inl (d, is)) =
    inl (d, record { was_sent = turn d is.was_sent; bytes_same = is.bytes_same; connection_same = is.connection_same; in_time = is.in_time })

pub calls_may : (names : Names) (calls : List Event) → Each IsCall calls → (ends : Ends) (sent : List Sent) → ((d : Sent) → IsAmong d ends.sent → IsAmong d sent)
    → MayRun names calls ends
    → MayRun names calls (of_sent sent ends)
calls_may names [] each ends sent turn may = tt
calls_may names (Calls who call ∷ calls) each ends sent turn may = (
  call_may names who call ends sent turn may.0,
  subst (MayRun names calls) (sym (called_on who call sent ends)) (calls_may names calls each.1 (called who call ends) (sent ++ handed who call ends)
      (λ d is. among_more d ends.sent sent (handed who call ends) (turn d) (subst (IsAmong d) (called_adds who call ends) is)) may.1),
)
calls_may names (Elsewhere count ∷ calls) each ends sent turn may = (tt, calls_may names calls each.1 (record ends { moment = ends.moment + count }) sent turn may.1)
calls_may names (Passes elapsed of_client of_server ∷ calls) each ends sent turn may = absurd each.0
calls_may names (Loses bytes ∷ calls) each ends sent turn may = absurd each.0
calls_may names (Restarts who clock first ∷ calls) each ends sent turn may = absurd each.0

pub calls_room : (calls : List Event) → Each IsCall calls → (ends : Ends) (sent : List Sent) → HaveRoom calls ends → HaveRoom calls (of_sent sent ends)
calls_room [] each ends sent room = room
calls_room (Calls who call ∷ calls) each ends sent room = (
  room.0,
  room.1,
  subst (HaveRoom calls) (sym (called_on who call sent ends)) (calls_room calls each.1 (called who call ends) (sent ++ handed who call ends) room.2),
)
calls_room (Elsewhere count ∷ calls) each ends sent room = (room.0, room.1, calls_room calls each.1 (record ends { moment = ends.moment + count }) sent room.2)
calls_room (Passes elapsed of_client of_server ∷ calls) each ends sent room = absurd each.0
calls_room (Loses bytes ∷ calls) each ends sent room = absurd each.0
calls_room (Restarts who clock first ∷ calls) each ends sent room = absurd each.0

pub waits_later : (due : List Sent) (f : Flow) → later 10000 10000 10000 (waiting_for due f).ends ≡ of_sent (f.ends.sent ++ due) (later 10000 10000 10000 f.ends)
unfolding later
waits_later due f = refl

pub later_sent : (ends : Ends) → (later 10000 10000 10000 ends).sent ≡ ends.sent
unfolding later
later_sent ends = refl

sent_again : (ends : Ends) → of_sent ends.sent ends ≡ ends
sent_again ends = refl

-- ---- what a round leaves doesn't show what waited for it

module _ (names : Names) (f : Flow) (due : List Sent) (calls : List Event) (only : Each IsCall calls) where
  passed : Ends
  passed = later 10000 10000 10000 f.ends

  adds : Appends calls passed
  adds = appends calls only passed

  abbrev behind_it : Flow
  behind_it = work_round calls (waiting_for due f)

  there : behind_it.ends ≡ of_sent ((f.ends.sent ++ due) ++ adds.more) (run calls passed)
  unfolding passed
  there = ap (run calls) (waits_later due f) ∙ adds.same (f.ends.sent ++ due)

  here : (work_round calls f).ends ≡ of_sent (f.ends.sent ++ adds.more) (run calls passed)
  unfolding passed
  here = ap (run calls) (sym (sent_again passed)) ∙ adds.same passed.sent ∙ ap (λ (s : List Sent). of_sent (s ++ adds.more) (run calls passed)) (later_sent f.ends)

  same : (work_round calls f).ends ≡ of_sent (f.ends.sent ++ adds.more) behind_it.ends
  same = here ∙ sym (ap (of_sent (f.ends.sent ++ adds.more)) there)

  same_pending : pending (work_round calls f) ≡ pending behind_it
  same_pending =
      ap (λ (e : Ends). arriving (e.time + 10000) (drop (length f.ends.sent) e.sent)) same
      ∙ ap (arriving (behind_it.ends.time + 10000)) (drop_append f.ends.sent adds.more)
      ∙ sym (ap (λ (s : List Sent). arriving (behind_it.ends.time + 10000) (drop (length (f.ends.sent ++ due)) s)) (ap (λ (e : Ends). e.sent) there)
      ∙ ap (arriving (behind_it.ends.time + 10000)) (drop_append (f.ends.sent ++ due) adds.more))

  pub mirrors_same : Timely names (work_round calls f).ends → (q : Pair) → Mirrors names behind_it q → Mirrors names (work_round calls f) q
  mirrors_same timely q m = record {
    timely = timely;
    client = ap (λ (e : Ends). e.client.link) same ∙ m.client;
    server = ap (λ (e : Ends). e.server.link) same ∙ m.server;
    to_client = subst (λ (ds : List Sent). AreRead names.key (bytes_from Role.Server ds) q.to_client) (sym same_pending) m.to_client;
    to_server = subst (λ (ds : List Sent). AreRead names.key (bytes_from Role.Client ds) q.to_server) (sym same_pending) m.to_server;
  }

-- ---- what comes was said before

each_stand : (Q : Sent → Stand → Type 0) (low high : Stand) (ds : List Sent) → Rises Q low ds high → Each (λ (d : Sent). (at : Stand) × NoneFalls at high × Q d at) ds
each_stand Q low high [] rises = tt
each_stand Q low high (d ∷ ds) (at, up, q, more) = ((at, rises_ends Q at high ds more, q), each_stand Q at high ds more)

below_said : (l m : LinkState) (at : Stand) (p : Pdu) → at.sent ≤ m.sent → IsSaidAt l m at p → IsBelow m.own_first m.sent m.clock p
below_said l m at p most s = record {
  place = at.sent - 1;
  number = s.number;
  below = omega (arith, s.some, most);
  read_as = at.now;
  stamped = s.stamped;
  before = s.before;
  recent = s.recent;
}

module _ (names : Names) (f : Flow) (due : List Sent) (were : WereSent f.ends.sent due) (timely : Timely names f.ends) (ordered : Ordered names f.ends)
    (falls : NothingFalls names f.ends)
    (p : Pair) (m : Mirrors names (waiting_for due f) p) where
  abbrev times : Times
  times = times_of f.ends m.timely.of_client m.timely.of_server m.timely.newest

  waiting_ordered : Ordered names (waiting_for due f).ends
  waiting_ordered = waits_ordered names f due were ordered

  due_read : (who : Role) (ps : List Pdu) → AreRead names.key (bytes_from who (pending (waiting_for due f))) ps
      → AreRead names.key (bytes_from who (arriving (f.ends.time + 10000) due)) ps
  due_read who ps read = subst (λ (ds : List Sent). AreRead names.key (bytes_from who (arriving (f.ends.time + 10000) ds)) ps) (drop_append f.ends.sent due) read

  module _ (client_in : is_open f.ends.client.link.phase ≡ true) (server_in : is_open f.ends.server.link.phase ≡ true) (rising : Rising names f.ends) where
    flights : Each (InFlight names times) due
    flights = behind f.ends.sent m.timely.datagrams
      where
        behind : (xs : List Sent) → Each (InFlight names times) (xs ++ due) → Each (InFlight names times) due
        behind [] each = each
        behind (x ∷ xs) each = behind xs each.1

    client_due : Each (IsBelow f.ends.server.link.own_first f.ends.server.link.sent f.ends.server.link.clock) p.to_client
    client_due = each_read names.key (IsBelow f.ends.server.link.own_first f.ends.server.link.sent f.ends.server.link.clock) Role.Server (f.ends.time + 10000) due p.to_client
        (each_map _ _ one due (each_both (InFlight names times) Told due flights
        (among_all Told f.ends.sent due (each_stand (IsOf names w) nothing_sent (stands f.ends.server.link rising.server_kept) f.ends.sent rising.of_server) were)))
        (due_read Role.Server p.to_client m.to_client)
      where
        w : Speaker
        w = the_server f.ends rising.client_kept

        Told : Sent → Type 0
        Told d = (at : Stand) × NoneFalls at (stands f.ends.server.link rising.server_kept) × IsOf names w d at

        one : (d : Sent) → InFlight names times d × Told d → d.sender ≡ Role.Server → can_come (f.ends.time + 10000) d ≡ true → (pdu : Pdu)
            → reading names.key d.bytes ≡ Ok pdu
            → IsBelow f.ends.server.link.own_first f.ends.server.link.sent f.ends.server.link.clock pdu
        one d (flies, (at, up, told)) sender can pdu read =
            let newest = in_newest names (waiting_for due f) p m waiting_ordered d flies can
            in below_said f.ends.client.link f.ends.server.link at pdu up.0
            (said names w f.ends.client.link f.ends.server.link refl refl m.timely.server.clock m.timely.client.clock d.at at pdu newest.1 flies.known.sent_before
            (told sender (m.timely.ends_timed.server.in_newest (is_inside f.ends.server.link server_in) ∙ ap Some (sym newest.0)) (omega (arith, newest.1)) pdu read))

    server_due : Each (IsBelow f.ends.client.link.own_first f.ends.client.link.sent f.ends.client.link.clock) p.to_server
    server_due = each_read names.key (IsBelow f.ends.client.link.own_first f.ends.client.link.sent f.ends.client.link.clock) Role.Client (f.ends.time + 10000) due p.to_server
        (each_map _ _ one due (each_both (InFlight names times) Told due flights
        (among_all Told f.ends.sent due (each_stand (IsOf names w) nothing_sent (stands f.ends.client.link rising.client_kept) f.ends.sent rising.of_client) were)))
        (due_read Role.Client p.to_server m.to_server)
      where
        w : Speaker
        w = the_client f.ends rising.server_kept

        Told : Sent → Type 0
        Told d = (at : Stand) × NoneFalls at (stands f.ends.client.link rising.client_kept) × IsOf names w d at

        one : (d : Sent) → InFlight names times d × Told d → d.sender ≡ Role.Client → can_come (f.ends.time + 10000) d ≡ true → (pdu : Pdu)
            → reading names.key d.bytes ≡ Ok pdu
            → IsBelow f.ends.client.link.own_first f.ends.client.link.sent f.ends.client.link.clock pdu
        one d (flies, (at, up, told)) sender can pdu read =
            let newest = in_newest names (waiting_for due f) p m waiting_ordered d flies can
            in below_said f.ends.server.link f.ends.client.link at pdu up.0
            (said names w f.ends.server.link f.ends.client.link refl refl m.timely.client.clock m.timely.server.clock d.at at pdu newest.1 flies.known.sent_before
            (told sender (m.timely.ends_timed.client.in_newest (is_inside f.ends.client.link client_in) ∙ ap Some (sym newest.0)) (omega (arith, newest.1)) pdu read))

    below_by : (c s : LinkState) → f.ends.client.link ≡ c → f.ends.server.link ≡ s
        → Below (record { client = c; server = s; to_client = p.to_client; to_server = p.to_server })
    below_by c s e g =
        subst (λ (x : LinkState). Below (record { client = x; server = s; to_client = p.to_client; to_server = p.to_server })) e
        (subst (λ (y : LinkState). Below (record { client = f.ends.client.link; server = y; to_client = p.to_client; to_server = p.to_server })) g (record {
          client_kept = rising.client_kept;
          server_kept = rising.server_kept;
          client_keeps = λ joined. keeps_of f.ends.client.link f.ends.server.link f.ends.client.clock f.ends.server.clock rising.client_kept m.timely.client.clock m.timely.server.clock
              (young_client names (waiting_for due f) p m waiting_ordered client_in).young (rising.client_keeps joined);
          server_keeps = keeps_of f.ends.server.link f.ends.client.link f.ends.server.clock f.ends.client.clock rising.server_kept m.timely.server.clock m.timely.client.clock
              (young_server names (waiting_for due f) p m waiting_ordered server_in).young rising.server_keeps;
          to_client = client_due;
          to_server = server_due;
        }))

  pub below_first : BothIn p → Below p
  below_first both = below_by client_in server_in (falls (record { client = client_in; server = server_in })) p.client p.server m.client m.server
    where
      client_in : is_open f.ends.client.link.phase ≡ true
      client_in = ap (λ (l : LinkState). is_open l.phase) m.client ∙ both.client

      server_in : is_open f.ends.server.link.phase ≡ true
      server_in = ap (λ (l : LinkState). is_open l.phase) m.server ∙ both.server
