-- A good round in which a signal takes all that the interlocking has given it: the signal reports, and its link accepts the report.
use Rattle.simulator_recovery.proofs.Words.Basics.{◌≡◌, ◌⊎◌, inl, inr, ℕ, ◌+◌, ◌<◌, ◌≤◌, ◌==◌, nat_lt, Bool, true, false, if◌then◌else◌, List, [], ◌∷◌, ◌++◌, append_assoc, append-nil, length, map, Some, slice_get, refl, sym, ap, subst, ◌∙◌, arith, is_ok, nat_tests, same_Some}
use Rattle.simulator_recovery.proofs.Words.Links.{Accepts, with_reply, HaveRoom, IsCall, acceptance, answer_to_send, receiving, settled, Each, Call, EndState, Receives, Sends, Sent, end_after, outcome, reading_of, Calls, Event as LinkEvent, IsDelivered, MayCall, MayRun, run, Timely, CallsOn, Links, LinksEvent, happened_to, run_links, run_on, seen, sent_by, Names, Ordered, stops_at_greatest, Step, Ends, called, LinkState, confirmed_items, is_asking, is_open, is_up, calls_at, Role}
use Rattle.simulator_recovery.proofs.Words.Controllers.{as_call, HostSoFar, LinkCall, Receives as HostReceives, Sends as HostSends, given as given_in, Input, SignalState, signal_behaviour}
use Rattle.simulator_recovery.proofs.Words.Interlockings.{SitedTable}
use Rattle.simulator_recovery.proofs.Words.Stations.{Once, IsStation, Event, controller_after, step_of, names_at, ClockedControllerState, Played, after, host_events}
use Rattle.simulator_recovery.proofs.Words.Recovery.{all_events_tried, events_tried, GoOnWith, behind_what_comes, indication, LawsBelow}
use Rattle.simulator_spec.specs.rasta_core.Events as link_events
use Rattle.simulator_recovery.proofs.Lemmas.Rounds.Clocks.{IsCalm}
use Rattle.simulator_recovery.proofs.Lemmas.Rounds.LinkRounds.{after_each, events_both, links_both}
use Rattle.simulator_recovery.proofs.Lemmas.Links.Moments.{exact}
use Rattle.simulator_recovery.proofs.Lemmas.Talk.PointCounts.{coming}
use Rattle.simulator_recovery.proofs.Lemmas.Ground.HostCalls.{datagram_calls}
use Rattle.simulator_recovery.proofs.Lemmas.RoutesGoing.RepliedDue.{ComesDue, RunsAlone, StandsAlone, alone, delivered_alone, receives_stays, runs_alone, stays_after, each_part, room_behind, room_here}
use Rattle.simulator_recovery.proofs.Lemmas.RoutesGoing.RepliedCounts.{owed}
use Rattle.simulator_recovery.proofs.Lemmas.RoutesGoing.RepliedReceipt.{IsAtHome, entered_so}
use Rattle.simulator_recovery.proofs.Lemmas.RoutesGoing.RepliedSteps.{IsStepped, rests, steps}
use Rattle.simulator_recovery.proofs.Lemmas.RoutesGoing.RepliedThrough.{IsInThrough, may_front, run_both, run_timely, through_front}
use Rattle.simulator_recovery.proofs.Lemmas.RoutesGoing.RepliedWalk.{Controls, FoundAt, Heard, IsThrough, Leads, Stands, Tallies, are, controls, finds, heard, leads, on_both, settled_there, stands_then, step_counts, stepped_so, tallies, there, through_first}
use Rattle.simulator_recovery.proofs.Lemmas.RoutesGoing.RepliedWindow.{AreBoth, GaveLast, window_then}
use Rattle.simulator_recovery.proofs.Lemmas.Silence.Shown.{counted_taken}
use Rattle.simulator_recovery.proofs.Lemmas.Links.SignalReplies.{reports_at_once}
use Rattle.simulator_recovery.proofs.Lemmas.Silence.Spent.{settled_taken}

own_events : (link : ℕ) (calls : List Call) (network : Links) → run_on link (map (λ call. CallsOn link Role.Server call) calls) network ≡ calls_at Role.Server calls
own_events link [] network = refl
own_events link (first ∷ others) network = ap (λ (b : Bool). (if b then Calls Role.Server first ∷ [] else link_events.Elsewhere (length (sent_by Role.Server first (seen link network))) ∷ []) ++ run_on link (map (λ call. CallsOn link Role.Server call) others) (happened_to (CallsOn link Role.Server first) network)) same
    ∙ ap (λ (list : List LinkEvent). Calls Role.Server first ∷ list) (own_events link others (happened_to (CallsOn link Role.Server first) network))
  where
    same : (link == link) ≡ true
    same = grind (arith, nat_tests)

through_both : (who : Role) (connection : ℕ) (one other : List LinkEvent) (ends : Ends) → IsInThrough who connection (one ++ other) ends → IsInThrough who connection one ends × IsInThrough who connection other (run one ends)
through_both who connection one other ends is = through_front who connection one other ends is

-- ---- a round

module _ (laws : LawsBelow) (sited : SitedTable) (station : IsStation sited.site) (once : Once sited.site) (place : ℕ) (below : place < length sited.site.signals) (connection : ℕ) where
  abbrev names : Names
  names = names_at sited.site place

  -- The client sent the last item that waits of it after all that it has taken: that are so many items.
  pub record GivesLast (these : Links) (heard : ℕ) : Type 0 where
    pub asks : is_asking (seen place these).client.link ≡ false
    pub gave : GaveLast (names_at sited.site place) connection (seen place these).client.link (seen place these).sent
    pub heard_is : heard ≡ length (seen place these).client.taken

  -- After calls by which it takes something the controller holds for confirmed that its client has taken so many items.
  abbrev pub HoldsConfirmed : ℕ → List LinkEvent → Ends → Type 0
  HoldsConfirmed heard calls ends = (front rest : List LinkEvent) → calls ≡ front ++ rest → ends.server.link.taken < (run front ends).server.link.taken → heard ≤ confirmed_items (run front ends).server.link

  -- A round of a signal: its station after the time of the round, what happens in it, what was given before, and what the controller comes to
  -- know of what its client has taken.
  pub record IsRound (world : Played) (these : Links) (events : List Event) (number : ℕ) : Type 0 where
    pub stands_so : Stands laws sited station once place below connection world these
    pub calm : Each IsCalm events
    pub through : IsThrough laws sited station once place below connection (all_events_tried events world) these
    pub may : MayRun (names_at sited.site place) (run_on place (all_events_tried events world) these) (seen place these)
    pub only : Each IsCall (run_on place (all_events_tried events world) these)
    pub due : Each (ComesDue (seen place these).sent (seen place these).time) (run_on place (all_events_tried events world) these)
    pub room : HaveRoom (run_on place (all_events_tried events world) these) (seen place these)
    pub heard : ℕ
    pub knows : GivesLast these heard ⊎ HoldsConfirmed heard (run_on place (all_events_tried events world) these) (seen place these)
    pub number_is : number ≡ length (seen place these).client.given
    pub many : 2 ≤ length (these.ends place).server.taken
    pub fewer : (these.ends place).server.link.taken < number
    pub enough : number ≤ ((run_links (all_events_tried events world) these).ends place).server.link.taken
    pub controls_so : Controls laws sited station once place below connection world these
    pub bounded : controls_so.c.host.link.given + owed controls_so.c.host.object + number ≤ heard + 20 + controls_so.c.host.link.taken

  -- In these calls the controller gives an item after what comes, and accepts it.
  pub record Replies (number : ℕ) (calls : List LinkEvent) (ends : Ends) : Type 0 where
    pub front : List LinkEvent
    pub item : List ℕ
    pub rest : List LinkEvent
    pub are_so : calls ≡ with_reply front item rest
    pub accepts : Accepts (run front ends).server
    pub has_taken : number ≤ (run front ends).server.link.taken

  module _ (world : Played) (these : Links) (events : List Event) (number : ℕ) (r : IsRound world these events number) where
    f : FoundAt laws sited station once place below connection number events world these
    f = finds laws sited station once place below connection number events world these r.fewer r.enough

    abbrev front_events : List LinksEvent
    front_events = all_events_tried f.front world

    abbrev mid_world : Played
    mid_world = after_each f.front world

    abbrev mid : Links
    mid = run_links front_events these

    abbrev front_calls : List LinkEvent
    front_calls = run_on place front_events these

    abbrev rest_tried : List LinksEvent
    rest_tried = all_events_tried (f.one ∷ f.rest) mid_world

    tried_are : all_events_tried events world ≡ front_events ++ rest_tried
    tried_are = ap (λ (l : List Event). all_events_tried l world) f.are ∙ events_both f.front (f.one ∷ f.rest) world

    calls_are : run_on place (all_events_tried events world) these ≡ front_calls ++ run_on place rest_tried mid
    calls_are = ap (λ (l : List LinksEvent). run_on place l these) tried_are ∙ on_both place front_events rest_tried these

    mid_seen : seen place mid ≡ run front_calls (seen place these)
    mid_seen = laws.each_link_sees_its_events_run place front_events these

    split : (who : Role) → IsInThrough who connection (run_on place (all_events_tried events world) these) (seen place these) → IsInThrough who connection front_calls (seen place these) × IsInThrough who connection (run_on place rest_tried mid) (seen place mid)
    split who is =
        let parts = through_front who connection front_calls (run_on place rest_tried mid) (seen place these) (subst (λ (l : List LinkEvent). IsInThrough who connection l (seen place these)) calls_are is)
        in (parts.0, subst (IsInThrough who connection (run_on place rest_tried mid)) (sym mid_seen) parts.1)

    client_split : IsInThrough Role.Client connection front_calls (seen place these) × IsInThrough Role.Client connection (run_on place rest_tried mid) (seen place mid)
    client_split = split Role.Client r.through.0

    server_split : IsInThrough Role.Server connection front_calls (seen place these) × IsInThrough Role.Server connection (run_on place rest_tried mid) (seen place mid)
    server_split = split Role.Server r.through.1

    calm_parts : Each IsCalm f.front × Each IsCalm (f.one ∷ f.rest)
    calm_parts = both f.front (subst (Each IsCalm) f.are r.calm)
      where
        both : (one : List Event) → Each IsCalm (one ++ f.one ∷ f.rest) → Each IsCalm one × Each IsCalm (f.one ∷ f.rest)
        both [] each = (tt, each)
        both (first ∷ one) each = let more = both one each.1 in ((each.0, more.0), more.1)

    l : Leads laws sited station once place below connection f.front world these r.controls_so.c
    l = leads laws sited station once place below connection f.front world these r.stands_so r.controls_so calm_parts.0 (client_split.0, server_split.0) r.many

    abbrev s1 : Stands laws sited station once place below connection mid_world mid
    s1 = l.stands_so

    abbrev m1 : Controls laws sited station once place below connection mid_world mid
    m1 = l.controls_so

    abbrev c : ClockedControllerState SignalState
    c = m1.c

    halves : IsThrough laws sited station once place below connection (events_tried f.one mid_world) mid × IsThrough laws sited station once place below connection (all_events_tried f.rest (after mid_world f.one)) (run_links (events_tried f.one mid_world) mid)
    halves = through_first laws sited station once place below connection f.one f.rest mid_world mid (client_split.1, server_split.1)

    abbrev end_links : Links
    end_links = run_links (events_tried f.one mid_world) mid

    s2 : Stands laws sited station once place below connection (after mid_world f.one) end_links
    s2 = stands_then laws sited station once place below connection f.one mid_world mid s1 halves.0

    m2 : Controls laws sited station once place below connection (after mid_world f.one) end_links
    m2 = controls laws sited station once place below connection (after mid_world f.one) end_links s2

    -- what was taken before, and after it
    taken_before : c.host.link.taken < number
    taken_before = let fewer = f.fewer in let e = ap (λ (x : LinkState). x.taken) m1.link_is ∙ same_taken (reading_of c.clock) c.host.link in omega (arith, fewer, e)
      where
        same_taken : (now : ℕ) (x : LinkState) → (settled now x).taken ≡ x.taken
        same_taken now x = settled_taken now x

    one_links : run_links (all_events_tried (f.front ++ f.one ∷ []) world) these ≡ end_links
    one_links = ap (λ (x : List LinksEvent). run_links x these) (events_both f.front (f.one ∷ []) world) ∙ links_both front_events (events_tried f.one mid_world ++ []) these
        ∙ ap (λ (x : List LinksEvent). run_links x mid) (append-nil (events_tried f.one mid_world))

    taken_behind : number ≤ m2.c.host.link.taken
    taken_behind =
        let enough = f.enough
        in let e = ap (λ (x : Links). (x.ends place).server.link.taken) one_links
        in let k = ap (λ (x : LinkState). x.taken) m2.link_is ∙ settled_taken (reading_of m2.c.clock) m2.c.host.link
        in omega (arith, enough, e, k)

    opened : is_open (settled (reading_of c.clock) c.host.link).phase ≡ true
    opened = settled_there laws sited station once place below connection mid_world mid s1 m1

    many_then : 2 ≤ length (mid.ends place).server.taken
    many_then = let g = l.grows in let a = r.controls_so.taken_is in let b = m1.taken_is in let m = r.many in omega (arith, g, a, b, m)

    abbrev taken : ℕ
    taken = length (mid.ends place).server.taken

    abbrev now : ℕ
    now = reading_of c.clock

    abbrev link : LinkState
    link = settled (reading_of c.clock) c.host.link

    -- ---- the controller hears the last of what was given

    module _ (raw : List ℕ) (other : ℕ) (tail : List LinkEvent) (first_is : run_on place rest_tried mid ≡ Calls Role.Server (Receives raw other) ∷ tail) (h : Heard c taken m1.given_counts m1.counts_so (m1.completed many_then) opened raw)
        (some : (receiving now raw link).items ≡ [] → ⊥) (all_here : number ≤ (receiving now raw link).link.taken) where
      abbrev start : Ends
      start = seen place these

      abbrev heard_link : LinkState
      heard_link = (receiving now raw link).link

      abbrev last : LinkEvent
      last = Calls Role.Server (Receives raw other)

      whole_is : run_on place (all_events_tried events world) these ≡ front_calls ++ last ∷ tail
      whole_is = calls_are ∙ ap (λ (x : List LinkEvent). front_calls ++ x) first_is

      due_parts : Each (ComesDue start.sent start.time) front_calls × Each (ComesDue start.sent start.time) (last ∷ tail)
      due_parts = each_part (ComesDue start.sent start.time) front_calls (last ∷ tail) (subst (Each (ComesDue start.sent start.time)) whole_is r.due)

      may_parts : MayRun names front_calls start × MayRun names (last ∷ tail) (run front_calls start)
      may_parts = may_front names front_calls (last ∷ tail) start (subst (λ (x : List LinkEvent). MayRun names x start) whole_is r.may)

      room_there : HaveRoom (last ∷ tail) (run front_calls start)
      room_there = room_behind front_calls (last ∷ tail) start (subst (λ (x : List LinkEvent). HaveRoom x start) whole_is r.room)

      single_stands : StandsAlone laws names (are laws sited station once place below connection) connection start.sent start.time start start
      single_stands = record {
        same = (start.server.left, refl);
        at = r.stands_so.server.at;
        time_is = refl;
        timely = r.stands_so.has.timely.each place (there laws sited station once place below connection);
        there = λ datagram is. is;
      }

      ra : RunsAlone names (alone connection front_calls) front_calls start start
      ra = runs_alone laws names (are laws sited station once place below connection) connection start.sent start.time front_calls start start
          (each_part IsCall front_calls (last ∷ tail) (subst (Each IsCall) whole_is r.only)).0 due_parts.0 may_parts.0 server_split.0 single_stands

      abbrev single : Ends
      single = run (alone connection front_calls) start

      ran : Timely names single × Ordered names single
      ran = run_timely laws names (are laws sited station once place below connection) (alone connection front_calls) start ra.may
          (r.stands_so.has.timely.each place (there laws sited station once place below connection)) r.stands_so.ordered

      -- the server alone is as the signal's end
      server_is : {X : Type 0} (what : EndState → X) → ((left : ℕ) (e : EndState) → what (record e { left = left }) ≡ what e) → what single.server ≡ what (mid.ends place).server
      server_is what same = ap what ra.server.1 ∙ (same ra.server.0 (run front_calls start).server ∙ ap (λ (e : Ends). what e.server) (sym mid_seen))

      link_is : single.server.link ≡ link
      link_is = server_is (λ e. e.link) (λ left e. refl) ∙ m1.link_is

      clock_is : single.server.clock ≡ c.clock
      clock_is = server_is (λ e. e.clock) (λ left e. refl) ∙ m1.clock_is

      now_is : reading_of single.server.clock ≡ now
      now_is = ap reading_of clock_is

      server_at : single.server.connection ≡ Some connection
      server_at = server_is (λ e. e.connection) (λ left e. refl) ∙ s1.server.at

      client_is : single.client ≡ start.client
      client_is = ra.client

      delivered : (datagram : Sent) × IsDelivered single raw connection datagram
      delivered = delivered_alone laws names (are laws sited station once place below connection) connection start.sent start.time (run front_calls start) single raw
          (record { same = ra.server; at = server_at; time_is = ra.time; timely = ran.0; there = ra.among })
          (ap (λ (e : Ends). is_open e.server.link.phase) (sym mid_seen) ∙ s1.server.opened) due_parts.1.0

      abbrev behind_it : Ends
      behind_it = called Role.Server (Receives raw connection) single

      behind_link : behind_it.server.link ≡ (receiving (reading_of single.server.clock) raw single.server.link).link
      unfolding called outcome end_after
      behind_link = refl

      behind_clock : behind_it.server.clock ≡ single.server.clock
      unfolding called end_after
      behind_clock = refl

      behind_client : behind_it.client ≡ single.client
      unfolding called
      behind_client = refl

      heard_is : (receiving (reading_of single.server.clock) raw single.server.link).link ≡ heard_link
      heard_is = ap (λ (n : ℕ). (receiving n raw single.server.link).link) now_is ∙ ap (λ (x : LinkState). (receiving now raw x).link) link_is

      items_is : (receiving (reading_of single.server.clock) raw single.server.link).items ≡ (receiving now raw link).items
      items_is = ap (λ (n : ℕ). (receiving n raw single.server.link).items) now_is ∙ ap (λ (x : LinkState). (receiving now raw x).items) link_is

      may_come : MayCall names Role.Server (Receives raw connection) single
      may_come = inl delivered

      timely_behind : Timely names behind_it
      timely_behind = laws.every_event_keeps_time names (Calls Role.Server (Receives raw connection)) single (are laws sited station once place below connection) ran.0 may_come

      -- where the client gave its last item after all that it has taken
      module _ (given : GivesLast these r.heard) where
        both_single : AreBoth names connection single
        both_single = record {
          timely = ran.0;
          ordered = ran.1;
          client_at = ap (λ (e : EndState). e.connection) client_is ∙ r.stands_so.client.at;
          server_at = server_at;
          client_in = ap (λ (e : EndState). is_open e.link.phase) client_is ∙ r.stands_so.client.opened;
          server_in = ap (λ (x : LinkState). is_open x.phase) link_is ∙ opened;
          asks = ap (λ (e : EndState). is_asking e.link) client_is ∙ given.asks;
        }

        gave_single : GaveLast names connection single.client.link single.sent
        gave_single = subst (λ (e : EndState). GaveLast names connection e.link single.sent) (sym client_is) (record {
          others = given.gave.others;
          last = given.gave.last;
          waits = given.gave.waits;
          under = given.gave.under;
          datagram = given.gave.datagram;
          is_sent = ra.among given.gave.datagram given.gave.is_sent;
          sender = given.gave.sender;
          of = given.gave.of;
          pdu = given.gave.pdu;
          read = given.gave.read;
          number = given.gave.number;
          confirms = given.gave.confirms;
        })

        home : IsAtHome (reading_of single.server.clock) single.server.link
        home = record {
          opened = both_single.server_in;
          settled_is = laws.links_are_settled names single Role.Server ran.0;
          few = let few = (room_here (last ∷ tail) (run front_calls start) room_there).1 (ap (λ (e : Ends). is_open e.server.link.phase) (sym mid_seen) ∙ s1.server.opened)
              in let e = server_is (λ e. e.link.sent) (λ left e. refl) in let k = ap (λ (e : Ends). e.server.link.sent) mid_seen in omega (arith, few, e, k);
        }

        both_behind : AreBoth names connection behind_it
        both_behind = record {
          timely = timely_behind;
          ordered = laws.every_event_keeps_order_kept names (Calls Role.Server (Receives raw connection)) single (are laws sited station once place below connection) ran.0 ran.1 may_come;
          client_at = ap (λ (e : EndState). e.connection) behind_client ∙ both_single.client_at;
          server_at = stays_after (Receives raw connection) single connection server_at (receives_stays single.server both_single.server_in raw connection);
          client_in = ap (λ (e : EndState). is_open e.link.phase) behind_client ∙ both_single.client_in;
          server_in = ap (λ (x : LinkState). is_open x.phase) (behind_link ∙ heard_is) ∙ h.comes_open;
          asks = ap (λ (e : EndState). is_asking e.link) behind_client ∙ both_single.asks;
        }

        all_taken : length behind_it.client.given ≤ length behind_it.server.taken
        all_taken =
            let count = (laws.items_are_counted names behind_it both_behind.ordered connection both_behind.client_at both_behind.server_at).1
            in let t = counted_taken behind_it.server count both_behind.server_in
            in let e = ap (λ (x : LinkState). x.taken) (behind_link ∙ heard_is)
            in let g = ap (λ (x : EndState). length x.given) (behind_client ∙ client_is)
            in let n = r.number_is
            in omega (arith, t, e, g, n, all_here)

        few_wait : length behind_it.server.link.waiting + length single.client.taken ≤ length single.server.given
        few_wait = window_then names (are laws sited station once place below connection) connection single both_single gave_single raw delivered.0 delivered.1 home (λ none. some (sym items_is ∙ none))
            behind_it both_behind behind_client behind_link all_taken

        few_by_last : length heard_link.waiting + r.heard ≤ c.host.link.given
        few_by_last =
            let w = few_wait
            in let e = ap (λ (x : LinkState). length x.waiting) (behind_link ∙ heard_is)
            in let t = ap (λ (x : EndState). length x.taken) client_is
            in let g = server_is (λ e. length e.given) (λ left e. refl)
            in let is = m1.given_is
            in let heard_as = given.heard_is
            in omega (arith, w, e, t, g, is, heard_as)

      abbrev with_last : Ends
      with_last = called Role.Server (Receives raw other) (run front_calls start)

      with_last_link : with_last.server.link ≡ heard_link
      unfolding called outcome end_after
      with_last_link = ap (λ (e : Ends). (receiving (reading_of e.server.clock) raw e.server.link).link) (sym mid_seen)
          ∙ (ap (λ (n : ℕ). (receiving n raw (mid.ends place).server.link).link) (ap reading_of m1.clock_is) ∙ ap (λ (x : LinkState). (receiving now raw x).link) m1.link_is)

      with_last_clock : with_last.server.clock ≡ c.clock
      unfolding called end_after
      with_last_clock = ap (λ (e : Ends). e.server.clock) (sym mid_seen) ∙ m1.clock_is

      end_is : run (front_calls ++ last ∷ []) start ≡ with_last
      end_is = run_both front_calls (last ∷ []) start

      link_then : (run (front_calls ++ last ∷ []) start).server.link ≡ heard_link
      link_then = ap (λ (e : Ends). e.server.link) end_is ∙ with_last_link

      -- where what the controller takes confirms it
      few_by_taking : HoldsConfirmed r.heard (run_on place (all_events_tried events world) these) (seen place these) → length heard_link.waiting + r.heard ≤ c.host.link.given
      few_by_taking holds =
          let taken_is = ap (λ (x : LinkState). x.taken) link_then
          in let fewer = r.fewer
          in let confirmed = holds (front_calls ++ last ∷ []) tail (whole_is ∙ sym (append_assoc front_calls (last ∷ []) tail)) (omega (arith, fewer, all_here, taken_is))
          in let same = ap confirmed_items link_then
          in let given_now = h.counts.given_is
          in let given_was = m1.counts_so.given_is
          in let few_given = (laws.items_are_counted_few names (seen place mid) s1.ordered connection s1.client.at s1.server.at).1.given
          in let is = m1.given_is
          in let ex = exact m1.given_counts (omega (arith, given_was, few_given, is))
          in let waits = h.counts.waiting
          in omega (arith, confirmed, same, given_now, given_was, ex, waits)

      few_here : length heard_link.waiting + r.heard ≤ c.host.link.given
      few_here = choose r.knows
        where
          choose : GivesLast these r.heard ⊎ HoldsConfirmed r.heard (run_on place (all_events_tried events world) these) (seen place these) → length heard_link.waiting + r.heard ≤ c.host.link.given
          choose (inl given) = few_by_last given
          choose (inr holds) = few_by_taking holds

      has_room : length heard_link.waiting < 20
      has_room =
          let w = few_here
          in let few = l.gives_few
          in let b = r.bounded
          in let before = taken_before
          in omega (arith, w, few, b, before)

      heard_home : IsAtHome now heard_link
      heard_home = record {
        opened = h.comes_open;
        settled_is = subst (λ (n : ℕ). settled n heard_link ≡ heard_link) (ap reading_of (behind_clock ∙ clock_is))
            (subst (λ (x : LinkState). settled (reading_of behind_it.server.clock) x ≡ x) (behind_link ∙ heard_is) (laws.links_are_settled names behind_it Role.Server timely_behind));
        few = let few = (room_here tail with_last (room_there.2)).1 (ap (λ (x : LinkState). is_open x.phase) with_last_link ∙ h.comes_open) in let e = ap (λ (x : LinkState). x.sent) with_last_link in omega (arith, few, e);
      }

      up_is : is_up heard_link.phase ≡ true
      up_is = choose h.up
        where
          choose : ((receiving now raw link).items ≡ []) ⊎ (is_up heard_link.phase ≡ true) → is_up heard_link.phase ≡ true
          choose (inl none) = absurd (some none)
          choose (inr up) = up

      accepts_here : is_ok (answer_to_send (reading_of c.clock) (receiving (reading_of c.clock) raw (settled (reading_of c.clock) c.host.link)).link) ≡ true
      unfolding answer_to_send acceptance
      accepts_here = ap (λ (s : Step). is_ok (acceptance s.link)) (entered_so now heard_link heard_home) ∙ rw (up_is, room) refl
        where
          room : nat_lt (length heard_link.waiting) 20 ≡ true
          room = let few = has_room in grind (arith, nat_tests, few)

      -- an item after it
      replies_here : (item : List ℕ) (rest : List LinkEvent) → tail ≡ Calls Role.Server (Sends item) ∷ rest → Replies number (run_on place (all_events_tried events world) these) (seen place these)
      replies_here item rest tail_is = record {
        front = front_calls ++ last ∷ [];
        item = item;
        rest = rest;
        are_so = whole_is ∙ ap (λ (x : List LinkEvent). front_calls ++ last ∷ x) tail_is ∙ sym (append_assoc front_calls (last ∷ []) (Calls Role.Server (Sends item) ∷ rest));
        accepts = subst (λ (e : Ends). Accepts e.server) (sym end_is) (subst (λ (n : ℕ). is_ok (answer_to_send n with_last.server.link) ≡ true) (sym (ap reading_of with_last_clock)) (subst (λ (x : LinkState). is_ok (answer_to_send now x) ≡ true) (sym with_last_link) accepts_here));
        has_taken = subst (λ (e : Ends). number ≤ e.server.link.taken) (sym end_is) (subst (λ (x : LinkState). number ≤ x.taken) (sym with_last_link) all_here);
      }

    -- ---- the step in which it hears that

    tally_here : (input : Input) → is_open (step_of signal_behaviour input c).host.link.phase ≡ true → Tallies c taken m1.given_counts m1.counts_so (m1.completed many_then) opened input
    tally_here input = tallies c taken m1.given_counts m1.counts_so (m1.completed many_then) opened input

    -- one in which no item comes isn't it
    none_comes : (n : ℕ) → n ≡ 0 → stops_at_greatest (taken + n) < number
    none_comes n none = let b = taken_before in let t = m1.taken_is in let few = stops_below (taken + n) in omega (arith, b, t, none, few)
      where
        stops_below : (n : ℕ) → stops_at_greatest n ≤ n
        stops_below n = omega arith

    abbrev Goal : Type 0
    Goal = Replies number (run_on place (all_events_tried events world) these) (seen place these)

    at_step : (input : Input) (other moment : ℕ) → slice_get (after mid_world f.one).run.signals place ≡ Some (controller_after (step_of signal_behaviour input c) other moment c)
        → events_tried f.one mid_world ≡ host_events signal_behaviour input other place (Some c) → Goal
    unfolding controller_after given_in
    at_step input other moment e events_are = by_input input refl
      where
        Same : Input → Type 0
        Same i = controller_after (step_of signal_behaviour i c) other moment c ≡ m2.c

        same : Same input
        same = same_Some (controller_after (step_of signal_behaviour input c) other moment c) m2.c (sym e ∙ m2.stands_there)

        opened_then : (i : Input) → Same i → is_open (step_of signal_behaviour i c).host.link.phase ≡ true
        opened_then i is = ap (λ (x : ClockedControllerState SignalState). is_open x.host.link.phase) is ∙ m2.opened

        taken_then : (i : Input) → Same i → (step_of signal_behaviour i c).host.link.taken ≡ m2.c.host.link.taken
        taken_then i is = ap (λ (x : ClockedControllerState SignalState). x.host.link.taken) is

        not_this : (i : Input) → Same i → coming now i link ≡ 0 → ⊥
        not_this i is none = let t = taken_then i is in let y = (tally_here i (opened_then i is)).taken_is in let few = none_comes (coming now i link) none in let many = taken_behind in omega (arith, t, y, few, many)

        calls_of : (i : Input) → events_tried f.one mid_world ≡ host_events signal_behaviour i other place (Some c) → run_on place rest_tried mid
            ≡ calls_at Role.Server (map (as_call other) (step_of signal_behaviour i c).calls) ++ run_on place (all_events_tried f.rest (after mid_world f.one)) end_links
        calls_of i are_so = on_both place (events_tried f.one mid_world) (all_events_tried f.rest (after mid_world f.one)) mid
            ∙ ap (λ (x : List LinkEvent). x ++ run_on place (all_events_tried f.rest (after mid_world f.one)) end_links)
            (ap (λ (x : List LinksEvent). run_on place x mid) are_so ∙ own_events place (map (as_call other) (step_of signal_behaviour i c).calls) mid)

        by_input : (i : Input) → input ≡ i → Goal
        by_input Input.Tick is = absurd (not_this Input.Tick (subst Same is same) refl)
        by_input (Input.Sense contact) is = absurd (not_this (Input.Sense contact) (subst Same is same) refl)
        by_input (Input.Datagram bytes) is = by_report (reports_at_once now (Input.Datagram bytes) c.host told_some came_open accepts)
          where
            so : Same (Input.Datagram bytes)
            so = subst Same is same

            events_so : events_tried f.one mid_world ≡ host_events signal_behaviour (Input.Datagram bytes) other place (Some c)
            events_so = events_are ∙ ap (λ (i : Input). host_events signal_behaviour i other place (Some c)) is

            h : Heard c taken m1.given_counts m1.counts_so (m1.completed many_then) opened bytes.now
            h = heard c taken m1.given_counts m1.counts_so (m1.completed many_then) opened bytes (opened_then (Input.Datagram bytes) so)

            some : (receiving now bytes.now link).items ≡ [] → ⊥
            some none = not_this (Input.Datagram bytes) so (ap length none)

            all_here : number ≤ (receiving now bytes.now link).link.taken
            all_here = let t = taken_then (Input.Datagram bytes) so in let y = (tally_here (Input.Datagram bytes) (opened_then (Input.Datagram bytes) so)).taken_is in let z = h.counts.taken_is in let many = taken_behind in omega (arith, t, y, z, many)

            begun : behind_what_comes now (Input.Datagram bytes) c.host ≡ given_in signal_behaviour now (Input.Datagram bytes) (record c.host { link = link })
            begun = ap (given_in signal_behaviour now (Input.Datagram bytes)) (step_counts c taken m1.given_counts m1.counts_so (m1.completed many_then) opened (Input.Datagram bytes) (opened_then (Input.Datagram bytes) so)).begun

            told_some : (behind_what_comes now (Input.Datagram bytes) c.host).told ≡ [] → ⊥
            told_some none = some (h.hears.told (sym (ap (λ (p : HostSoFar SignalState). p.told) begun) ∙ none))

            link_there : (behind_what_comes now (Input.Datagram bytes) c.host).host.link ≡ (receiving now bytes.now link).link
            link_there = ap (λ (p : HostSoFar SignalState). p.host.link) begun ∙ h.hears.link

            came_open : is_open (behind_what_comes now (Input.Datagram bytes) c.host).host.link.phase ≡ true
            came_open = ap (λ (x : LinkState). is_open x.phase) link_there ∙ h.comes_open

            shape : (others : List LinkCall) × ((step_of signal_behaviour (Input.Datagram bytes) c).calls ≡ HostReceives bytes.now ∷ others)
            shape = let d = datagram_calls signal_behaviour now bytes c.host in (d.0, d.1.1)

            tail_of : List LinkCall → List LinkEvent
            tail_of others = calls_at Role.Server (map (as_call other) others) ++ run_on place (all_events_tried f.rest (after mid_world f.one)) end_links

            first_of : (others : List LinkCall) → (step_of signal_behaviour (Input.Datagram bytes) c).calls ≡ HostReceives bytes.now ∷ others → run_on place rest_tried mid ≡ Calls Role.Server (Receives bytes.now other) ∷ tail_of others
            first_of others are_so = calls_of (Input.Datagram bytes) events_so ∙ ap (λ (x : List LinkCall). calls_at Role.Server (map (as_call other) x) ++ run_on place (all_events_tried f.rest (after mid_world f.one)) end_links) are_so

            accepts : is_ok (answer_to_send now (behind_what_comes now (Input.Datagram bytes) c.host).host.link) ≡ true
            accepts = ap (λ (x : LinkState). is_ok (answer_to_send now x)) link_there ∙ accepts_here bytes.now other (tail_of shape.0) (first_of shape.0 shape.1) h some all_here

            by_report : GoOnWith (indication (behind_what_comes now (Input.Datagram bytes) c.host).host) (behind_what_comes now (Input.Datagram bytes) c.host).calls (step_of signal_behaviour (Input.Datagram bytes) c).calls → Goal
            by_report g = replies_here bytes.now other (tail_of others) (first_of others calls_so) h some all_here (indication (behind_what_comes now (Input.Datagram bytes) c.host).host) (tail_of g.rest) refl
              where
                others : List LinkCall
                others = HostSends (indication (behind_what_comes now (Input.Datagram bytes) c.host).host) ∷ g.rest

                calls_so : (step_of signal_behaviour (Input.Datagram bytes) c).calls ≡ HostReceives bytes.now ∷ others
                calls_so = g.are ∙ ap (λ (x : List LinkCall). x ++ others) (ap (λ (p : HostSoFar SignalState). p.calls) begun ∙ h.hears.calls)

    pub signal_replies : Replies number (run_on place (all_events_tried events world) these) (seen place these)
    signal_replies = by_step (stepped_so laws sited station once place below connection f.one mid_world mid s1 c calm_parts.1.0 m1.stands_there)
      where
        by_step : IsStepped place c (after mid_world f.one).run (events_tried f.one mid_world) → Goal
        by_step (rests e) = absurd (let same = ap (λ (x : ClockedControllerState SignalState). x.host.link.taken) (same_Some c m2.c (sym e ∙ m2.stands_there)) in let b = taken_before in let t = taken_behind in omega (arith, same, b, t))
        by_step (steps input other moment e events_are) = at_step input other moment e events_are
