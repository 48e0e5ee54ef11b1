-- What a point's controller is after good rounds: its reports come over, and a drive goes on till its report.
use Rattle.simulator_recovery.proofs.Words.Basics.{◌≡◌, ◌⊎◌, inl, inr, ℕ, suc, ◌∙◌, ◌+◌, ◌*◌, ◌-◌, ◌≤◌, ◌<◌, nat_le, true, false, List, [], ◌∷◌, ◌++◌, append_assoc, length, map, Some, slice_get, refl, sym, ap, subst, arith, nat_tests, length-append, same_Some}
use Rattle.simulator_recovery.proofs.Words.Links.{HandOver, settled, Each, reading_of, items_given, AreLinks, Links, OnLink, begun, of_link, run_links, seen, LinkState, is_open, is_up, Role}
use Rattle.simulator_recovery.proofs.Words.Controllers.{Message, PointPosition, Side, item_of, PointState, drive_end, own_report, Progress}
use Rattle.simulator_recovery.proofs.Words.Interlockings.{IsTableOf, SitedTable}
use Rattle.simulator_recovery.proofs.Words.Stations.{Site, Once, IsStation, Event, Flowing, position_of, round, round_of_time, AreLinksOf, ServerEnd, names_at, starts_at_zero, links, partners, point_link, ClockedControllerState, WorldState, Played, after, HasLinks, links_in, IsWhole, given_on, IsReached, IsTakenOf}
use Rattle.simulator_recovery.proofs.Words.Recovery.{HasHandedOver, IsUpOn, StaysBelowLimit, all_events_tried, behind_time, calls_of_round, event_of, links_behind, time_of_round, IsDriven, IsDrivenBehind, ReportsCome, reports_in, IsReadyOn, ready_rounds, HasTime, IsWork, LeavesFresh, all_tried, clocks_of, good_rounds, LawsBelow}
use Rattle.simulator_recovery.proofs.Lemmas.Ground.ClientItem.{partners_length}
use Rattle.simulator_recovery.proofs.Lemmas.Rounds.AtWork.{of_both}
use Rattle.simulator_recovery.proofs.Lemmas.Talk.ClientLinks.{up_open}
use Rattle.simulator_recovery.proofs.Lemmas.Links.ComeUp.{BehindRounds, Begun, begun_so, behind_rounds, rounds_open, rounds_stay}
use Rattle.simulator_recovery.proofs.Lemmas.Links.HandedOver.{hands_over, server_is}
use Rattle.simulator_recovery.proofs.Lemmas.Ground.LinkCounts.{settled_open}
use Rattle.simulator_recovery.proofs.Lemmas.Rounds.LinkRounds.{HasThese, all_followed, are_links, links_both, may_both, tried_followed}
use Rattle.simulator_recovery.proofs.Lemmas.Ground.EndCalls.{at_place}
use Rattle.simulator_recovery.proofs.Lemmas.Rounds.FlowsStay.{below_limit, each_split, given_both, longer_front, point_clock}
use Rattle.simulator_recovery.proofs.Lemmas.Points.MovesMoment.{PointAt, point_where_completed}
use Rattle.simulator_recovery.proofs.Lemmas.Points.MovesPaid.{IsFull, IsPaid}
use Rattle.simulator_recovery.proofs.Lemmas.Points.MovesReported.{Comes, Walked, drives_still, has_told, round_comes, timed_clock}
use Rattle.simulator_recovery.proofs.Lemmas.Points.MovesRound.{IsLeft, driven_there, left_behind, left_drives, left_paid}
use Rattle.simulator_recovery.proofs.Lemmas.Links.Ready.{IsUpBehind, Last, all_over, count_front, fewer_time, front_of, last_of, links_ready}
use Rattle.simulator_recovery.proofs.Lemmas.Points.RoomBehind.{HasRoomAt, HasRoomBehind}
use Rattle.simulator_recovery.proofs.Lemmas.Rounds.Rounds.{reached_on, rounds_reached, take_their_time}
use Rattle.simulator_recovery.proofs.Lemmas.Rounds.Sends.{leaves_fresh}
use Rattle.simulator_recovery.proofs.Lemmas.Lamps.StopComes.{last_round}
use Rattle.simulator_recovery.proofs.Lemmas.Links.UnderHosts.{HasCompleted, host_rounds, hosts_completed}
use Rattle.simulator_recovery.proofs.Lemmas.Windows.WindowsAlone.{below_two}

-- ---- the laws

-- two ways to say that a link is up tell the same
pub same_client : {link : ℕ} {world : WorldState} (one other : IsUpOn link world) → one.client ≡ other.client
same_client one other = same_Some one.client other.client (sym one.client_there ∙ other.client_there)

pub same_server : {link : ℕ} {world : WorldState} (one other : IsUpOn link world) → one.server ≡ other.server
same_server one other = same_Some one.server other.server (sym one.server_there ∙ other.server_there)

-- From one good round to the next.
pub record Passing (link : ℕ) (old new : WorldState) : Type 0 where
  pub over : HasHandedOver link old new
  pub connection : ℕ
  pub was_in : slice_get old.interlocking.connections link ≡ Some (Some connection)
  pub is_in : slice_get new.interlocking.connections link ≡ Some (Some connection)
  pub more : List OnLink
  pub sent : new.sent ≡ old.sent ++ more

not_yet : (ms n most : ℕ) → n + ms < most → nat_le most n ≡ false
not_yet ms n most less = grind (arith, nat_tests, less)

module _ (laws : LawsBelow) (between : List Event) (flowing : Flowing) (place : ℕ) (once : Once flowing.state.sited.site) (station : IsStation flowing.state.sited.site) (is_table : IsTableOf flowing.state.sited.site flowing.state.sited.table)
    (reached : IsReached flowing.state.sited.site flowing.state.sited.table flowing.state.run) (work : Each IsWork between) (few : place < length flowing.state.sited.site.points) where
  abbrev pub site : Site
  site = flowing.state.sited.site

  abbrev pub link : ℕ
  link = point_link site place

  abbrev pub next : Flowing
  next = all_tried between (round flowing)

  abbrev pub then_at : List (List Event) → Flowing
  then_at rounds = good_rounds rounds next

  abbrev pub world_at : List (List Event) → WorldState
  world_at rounds = (then_at rounds).state.run

  pub below : link < links site
  below = omega (arith, few)

  -- what is so of rounds
  pub record Are (rounds : List (List Event)) : Type 0 where
    pub works : Each (Each IsWork) rounds
    pub can : HasTime (suc (length rounds)) flowing.state.run
    pub room : StaysBelowLimit site link rounds next
    pub long : host_rounds ≤ suc (length rounds)

  pub front_are : (front rest : List (List Event)) → host_rounds ≤ suc (length front) → Are (front ++ rest) → Are front
  front_are front rest long a = record {
    works = (each_split (Each IsWork) front rest a.works).0;
    can = fewer_time (suc (length front)) (suc (length (front ++ rest))) (clocks_of flowing.state.run) (let n = length-append front rest in omega (arith, n)) a.can;
    room = λ before are. below_two link front rest next before (a.room before are);
    long = long;
  }

  module _ (rounds : List (List Event)) (a : Are rounds) where
    pub ready_at : ready_rounds ≤ suc (length rounds) → IsReadyOn site link (world_at rounds)
    ready_at long = links_ready laws between rounds flowing link once station is_table reached work a.works a.can below (omega (arith, long)) a.room

    pub completed_at : HasCompleted site link (world_at rounds)
    completed_at = let l = a.long in hosts_completed laws between rounds flowing link once station is_table reached work a.works a.can below (omega (arith, l)) a.room

    pub reached_at : IsReached site flowing.state.sited.table (world_at rounds)
    reached_at = reached_on laws (between ∷ rounds) flowing reached

    pub sited_at : (then_at rounds).state.sited ≡ flowing.state.sited
    sited_at = (rounds_reached laws flowing.state.sited (between ∷ rounds) flowing (record { same = refl; reached = reached })).same

    abbrev pub up_at : IsUpOn link (world_at rounds)
    up_at = completed_at.up

    pub point : PointAt site (world_at rounds) place up_at
    point = point_where_completed laws site flowing.state.sited.table station once is_table (world_at rounds) reached_at place few completed_at

    pub clock_at : (c : ClockedControllerState PointState) → slice_get (world_at rounds).points place ≡ Some c → c.clock ≤ 9000000000000000
    clock_at c e = point_clock (λ clock. clock ≤ 9000000000000000) (world_at rounds) place c e
        (subst (Each (λ clock. clock ≤ 9000000000000000)) (sym (take_their_time laws (between ∷ rounds) flowing once station reached (work, a.works) a.can))
        (below_limit (suc (length rounds)) (clocks_of flowing.state.run) a.can))

  -- from one round to the next
  pub passes : (front : List (List Event)) (last : List Event) → host_rounds ≤ suc (length front) → Are (front ++ last ∷ []) → Passing link (world_at front) (world_at (front ++ last ∷ []))
  passes front last long a = record {
    over = hands_over laws between front last flowing link once station is_table reached work a.works a.can below (omega (arith, long)) a.room;
    connection = over.connection;
    was_in = (s.behind.are.clients link id.0 id.1).connection_is ∙ ap Some over.old_client;
    is_in = (t.behind.are.clients link id.0 id.1).connection_is ∙ ap Some over.new_client;
    more = fresh.more;
    sent = ap (λ (f : Flowing). f.state.run.sent) (last_round front last next) ∙ fresh.sent;
  }
    where
      fresh : LeavesFresh (then_at front) (all_tried last (round (then_at front)))
      fresh = leaves_fresh last (then_at front) (each_split (Each IsWork) front (last ∷ []) a.works).1.0

      start : Begun laws flowing.state.sited station once is_table link below between flowing
      start = begun_so laws flowing.state.sited station once is_table link below between flowing refl reached work

      whole_can : HasTime (length (front ++ last ∷ [])) next.state.run
      whole_can = start.later_can (length (front ++ last ∷ [])) a.can

      b : BehindRounds laws flowing.state.sited station once is_table link below between flowing work start (front ++ last ∷ [])
      b = behind_rounds laws flowing.state.sited station once is_table link below between flowing work start (front ++ last ∷ []) a.works whole_can

      t : IsUpBehind laws flowing.state.sited station once is_table link below between flowing work start (front ++ last ∷ [])
      t = record {
        behind = b;
        opens = rounds_open link (front ++ last ∷ []) next start.before a.works (rounds_stay laws flowing.state.sited station once is_table link below (front ++ last ∷ []) next start.is);
        below = b.below a.room;
        long = let n = count_front front last in omega (arith, long, n);
      }

      s : IsUpBehind laws flowing.state.sited station once is_table link below between flowing work start front
      s = front_of laws flowing.state.sited station once is_table link below between flowing work start front last a.works whole_can t (omega (arith, long))

      over : HandOver (seen link s.behind.after) (seen link t.behind.after)
      over = all_over laws flowing.state.sited station once is_table link below between flowing work start front last s t

      id : (one : ℕ) × (slice_get (partners site) link ≡ Some one)
      id = at_place (partners site) link (subst (λ (n : ℕ). link < n) (sym (partners_length site)) below)

  -- ---- what a controller is after a round

  module _ (rounds : List (List Event)) (a : Are rounds) where
    abbrev here : PointAt site (world_at rounds) place (up_at rounds a)
    here = point rounds a

    -- the last round has left it so
    left_here : IsLeft here.controller
    left_here = by_last (last_of (length rounds - 1) rounds (let l = a.long in omega (arith, l)))
      where
        by_last : Last (length rounds - 1) rounds → IsLeft here.controller
        by_last l = left_behind l.last (then_at l.front) place works (subst (λ (s : SitedTable). place < length s.site.points) (sym same) few) here.controller
            (subst (λ (f : Flowing). slice_get f.state.run.points place ≡ Some here.controller) (ap then_at l.are ∙ last_round l.front l.last next) here.there)
          where
            works : Each IsWork l.last
            works = (each_split (Each IsWork) l.front (l.last ∷ []) (subst (Each (Each IsWork)) l.are a.works)).1.0

            same : (then_at l.front).state.sited ≡ flowing.state.sited
            same = (rounds_reached laws flowing.state.sited (between ∷ l.front) flowing (record { same = refl; reached = reached })).same

    up_here : is_up (settled (reading_of here.controller.clock) here.controller.host.link).phase ≡ true
    up_here = ap (λ (s : ServerEnd). is_up (settled (reading_of s.clock) s.link).phase) (sym here.server_same) ∙ (up_at rounds a).server_up

    pub inside_here : is_open (settled (reading_of here.controller.clock) here.controller.host.link).phase ≡ true
    inside_here = up_open _ up_here

    still_up : is_up here.controller.host.link.phase ≡ true
    still_up = sym (ap (λ (l : LinkState). is_up l.phase) (settled_open (reading_of here.controller.clock) here.controller.host.link inside_here).0) ∙ up_here

    -- with room in its window it owes no report
    pub paid_here : HasRoomAt place (then_at rounds).state → IsPaid here.controller.host.object.progress
    paid_here room = choose (left_paid laws.point_makes_a_step here.controller left_here here.completed)
      where
        choose : IsPaid here.controller.host.object.progress ⊎ IsFull here.controller.host.link → IsPaid here.controller.host.object.progress
        choose (inl paid) = paid
        choose (inr full) = let all = full still_up in let some = room here.controller here.there in absurd (omega (arith, all, some))

    -- a drive is found
    pub driven_here : (side : Side) (since : ℕ) → here.controller.host.object.progress ≡ Progress.Driving side since → IsDriven place side (then_at rounds).state
    driven_here side since e = driven_there place side (then_at rounds).state here.controller (subst (λ (s : SitedTable). place < length s.site.points) (sym (sited_at rounds a)) few) here.there
        (left_drives laws.point_makes_a_step here.controller left_here inside_here (clock_at rounds a here.controller here.there) side since e)

  -- ---- reports come over

  pub reports_come : (front : List (List Event)) (last : List Event) → host_rounds ≤ suc (length front) → Are front → Are (front ++ last ∷ []) → ReportsCome site place (world_at front) (world_at (front ++ last ∷ []))
  reports_come front last long f a = record {
    connection = pass.connection;
    was_in = pass.was_in;
    is_in = pass.is_in;
    has = q.has;
    client = client_in;
    more = all_of.0;
    taken = all_of.1;
    rest = taken_so.rest;
    sent = taken_so.beginning;
  }
    where
      rounds : List (List Event)
      rounds = front ++ last ∷ []

      p : PointAt site (world_at front) place (up_at front f)
      p = point front f

      q : PointAt site (world_at rounds) place (up_at rounds a)
      q = point rounds a

      pass : Passing link (world_at front) (world_at rounds)
      pass = passes front last long a

      p_is : p.one.connection ≡ pass.connection
      p_is = same_Some p.one.connection pass.connection (same_Some (Some p.one.connection) (Some pass.connection) (sym p.connections ∙ pass.was_in))

      q_is : q.one.connection ≡ pass.connection
      q_is = same_Some q.one.connection pass.connection (same_Some (Some q.one.connection) (Some pass.connection) (sym q.connections ∙ pass.is_in))

      client_in : ((links_in q.has).ends link).client.connection ≡ Some pass.connection
      client_in = q.one.client ∙ ap Some q_is

      before : List (List ℕ)
      before = reports_in site place pass.connection (world_at front)

      taken_then : List (List ℕ)
      taken_then = ((links_in q.has).ends link).client.taken

      since_then : List (List ℕ)
      since_then = items_given (names_at site link) Role.Server pass.connection (of_link link pass.more)

      taken_so : IsTakenOf (reports_in site place pass.connection (world_at rounds)) ((links_in q.has).ends link).client
      taken_so = (laws.items_are_read_off_the_datagrams site (world_at rounds) once station q.has link below Role.Server pass.connection (q.one.server ∙ ap Some q_is)).taken client_in

      longer : reports_in site place pass.connection (world_at rounds) ≡ before ++ since_then
      longer = ap (λ (list : List OnLink). items_given (names_at site link) Role.Server pass.connection (of_link link list)) pass.sent
          ∙ ap (items_given (names_at site link) Role.Server pass.connection) (of_both link (world_at front).sent pass.more)
          ∙ given_both (names_at site link) Role.Server pass.connection (of_link link (world_at front).sent) (of_link link pass.more)

      many : length before ≤ length taken_then
      many =
          let all = ap length (laws.items_are_read_off_the_datagrams site (world_at front) once station p.has link below Role.Server pass.connection (p.one.server ∙ ap Some p_is)).given
          in let gave = p.server_given
          in let took = q.client_taken
          in let over = pass.over.to_interlocking
          in let was = ap (λ (s : ServerEnd). s.link.given) (same_server pass.over.before (up_at front f))
          in let is = ap (λ (l : LinkState). l.taken) (same_client pass.over.behind (up_at rounds a))
          in omega (arith, all, gave, took, over, was, is)

      all_of : (more : List (List ℕ)) × (taken_then ≡ before ++ more)
      all_of = longer_front taken_then before taken_so.rest since_then (sym taken_so.beginning ∙ longer) many

  -- ---- a drive ends with its report

  named : AreLinks (links site) (names_at site)
  named = are_links laws flowing.state.sited station once

  whole_at : (rounds : List (List Event)) → Are rounds → IsWhole site (world_at rounds)
  whole_at rounds a =
      let r = reached_at rounds a
      in subst (IsWhole site) (sym r.after) (laws.stations_have_links_run site flowing.state.sited.table r.outset r.events station once r.lies r.can).whole

  pub these_at : (rounds : List (List Event)) (a : Are rounds) → HasThese flowing.state.sited (then_at rounds).state (links_in (point rounds a).has)
  these_at rounds a = record {
    same = sited_at rounds a;
    whole = whole_at rounds a;
    timely = laws.links_keep_time_run (links site) (names_at site) (point rounds a).has.events (begun (names_at site) starts_at_zero) named (laws.links_keep_time_starts (links site) (names_at site) starts_at_zero named) (point rounds a).has.may;
    are = (point rounds a).has.are;
  }

  -- the controller after the time of a round
  module _ (front : List (List Event)) (f : Are front) where
    abbrev timed_at : Played
    timed_at = after (then_at front).state (round_of_time (then_at front).state.sited.site)

    pub timed_found : (one : ClockedControllerState PointState) × (slice_get timed_at.run.points place ≡ Some one)
    timed_found =
        let many = (tried_followed laws flowing.state.sited station once (round_of_time (then_at front).state.sited.site) (then_at front).state (links_in (point front f).has) (these_at front f)).has.whole.points
        in at_place timed_at.run.points place (omega (arith, few, many))

  module _ (told : LawsBelow) (side : Side) (since connection : ℕ) where
    abbrev pub IsIn : List (List Event) → Type 0
    IsIn rounds = slice_get (world_at rounds).interlocking.connections link ≡ Some (Some connection)

    abbrev pub reported_at : List (List Event) → List (List ℕ)
    reported_at rounds = given_on site (world_at rounds) link Role.Server connection

    -- It drives on, and so many milliseconds later it isn't at the limit; it had given these items.
    pub record DrivesAt (rounds : List (List Event)) (a : Are rounds) (ms : ℕ) (before : List (List ℕ)) : Type 0 where
      pub inside : IsIn rounds
      pub is_driving : (point rounds a).controller.host.object.progress ≡ Progress.Driving side since
      pub early : reading_of (point rounds a).controller.clock + ms < drive_end since
      pub given : reported_at rounds ≡ before

    -- It has reported.
    pub record ReportedAt (rounds : List (List Event)) (before : List (List ℕ)) : Type 0 where
      pub inside : IsIn rounds
      pub c : ClockedControllerState PointState
      pub there : slice_get (world_at rounds).points place ≡ Some c
      pub answered : c.host.object.progress ≡ Progress.Answered
      pub given : reported_at rounds ≡ before ++ item_of c.host (own_report (Message.Point (PointPosition (position_of side)))) ∷ []

    -- a round
    module _ (front : List (List Event)) (last : List Event) (long : host_rounds ≤ suc (length front)) (f : Are front) (a : Are (front ++ last ∷ [])) (ms : ℕ) (before : List (List ℕ)) (was : DrivesAt front f (10 + ms) before)
        (room : HasRoomAt place (then_at (front ++ last ∷ [])).state) where
      abbrev rounds : List (List Event)
      rounds = front ++ last ∷ []

      abbrev old : Flowing
      old = then_at front

      abbrev then_old : Flowing
      then_old = all_tried last (round old)

      abbrev p : PointAt site (world_at front) place (up_at front f)
      p = point front f

      abbrev network : Links
      network = links_in p.has

      abbrev then_network : Links
      then_network = links_behind last old network

      last_is : then_at rounds ≡ then_old
      last_is = last_round front last next

      works_last : Each IsWork last
      works_last = (each_split (Each IsWork) front (last ∷ []) a.works).1.0

      pass : Passing link (world_at front) (world_at rounds)
      pass = passes front last long a

      inside_then : IsIn rounds
      inside_then = pass.is_in ∙ ap (λ (n : ℕ). Some (Some n)) (same_Some pass.connection connection (same_Some (Some pass.connection) (Some connection) (sym pass.was_in ∙ was.inside)))

      one_is : p.one.connection ≡ connection
      one_is = same_Some p.one.connection connection (same_Some (Some p.one.connection) (Some connection) (sym p.connections ∙ was.inside))

      abbrev found : (one : ClockedControllerState PointState) × (slice_get (timed_at front f).run.points place ≡ Some one)
      found = timed_found front f

      clock_on : found.0.clock ≤ p.controller.clock + 10000
      clock_on = timed_clock old place p.controller found.0 p.there found.1

      soon : (n m most : ℕ) → n ≤ m + 10000 → reading_of m + (10 + ms) < most → reading_of n + ms < most
      soon n m most later_on early = omega (arith, later_on, early)

      early_then : reading_of found.0.clock + ms < drive_end since
      early_then = soon found.0.clock p.controller.clock (drive_end since) clock_on was.early

      abbrev then_up : IsUpOn link then_old.state.run
      then_up = subst (λ (w : Flowing). IsUpOn link w.state.run) last_is (up_at rounds a)

      walked : Walked flowing.state.sited link place side since (reading_of found.0.clock) connection ((network.ends link).server.given) then_old.state then_network
      walked = round_comes told flowing.state.sited station once place few side since (reading_of found.0.clock) (not_yet ms (reading_of found.0.clock) (drive_end since) early_then) connection ((network.ends link).server.given) old network (these_at front f) p.controller p.there
          last works_last found.0 found.1 refl (record { client = p.one.client ∙ ap Some one_is; server = p.one.server ∙ ap Some one_is }) p.completed was.is_driving refl
          (λ has_then. (
            same_Some ((then_network.ends link).client.connection) (Some connection) (sym (has_then.are.clients link id.0 id.1).connection_is ∙ subst (λ (w : Flowing). slice_get w.state.run.interlocking.connections link ≡ Some (Some connection)) last_is inside_then),
            ap (λ (l : LinkState). is_open l.phase) (server_is site link below then_old.state.run then_network has_then.are then_up) ∙ up_open (settled (reading_of then_up.server.clock) then_up.server.link).phase then_up.server_up,
          ))
          (λ c there arrived. subst IsPaid (ap (λ (x : ClockedControllerState PointState). x.host.object.progress)
          (same_Some (point rounds a).controller c (sym (point rounds a).there ∙ subst (λ (w : Flowing). slice_get w.state.run.points place ≡ Some c) (sym last_is) there)) ∙ arrived) (paid_here rounds a room))
        where
          id : (one : ℕ) × (slice_get (partners site) link ≡ Some one)
          id = at_place (partners site) link (subst (λ (n : ℕ). link < n) (sym (partners_length site)) below)

      -- the links after the round are those since the station's beginning
      tried : List Event
      tried = round_of_time old.state.sited.site ∷ (map event_of (behind_time old) ++ last)

      net_same : run_links (p.has.events ++ all_events_tried tried old.state) (begun (names_at site) starts_at_zero) ≡ then_network
      unfolding tried
      net_same = links_both p.has.events (all_events_tried tried old.state) (begun (names_at site) starts_at_zero) ∙ links_both (time_of_round old) (calls_of_round last old) network

      has_then : HasLinks site then_old.state.run
      has_then = record {
        events = p.has.events ++ all_events_tried tried old.state;
        may = may_both (links site) (names_at site) p.has.events (all_events_tried tried old.state) (begun (names_at site) starts_at_zero) p.has.may
            (all_followed laws flowing.state.sited station once tried old.state network (these_at front f)).may;
        are = subst (AreLinksOf site then_old.state.run) (sym net_same) walked.has.are;
      }

      given_before : (network.ends link).server.given ≡ before
      given_before = (laws.items_are_read_off_the_datagrams site (world_at front) once station p.has link below Role.Server connection (p.one.server ∙ ap Some one_is)).given ∙ was.given

      given_then : (then_network.ends link).server.given ≡ reported_at rounds
      unfolding has_then
      given_then = ap (λ (n : Links). (n.ends link).server.given) (sym net_same)
          ∙ (laws.items_are_read_off_the_datagrams site then_old.state.run once station has_then link below Role.Server connection (ap (λ (n : Links). (n.ends link).server.connection) net_same ∙ walked.inside)).given
          ∙ ap (λ (w : Flowing). given_on site w.state.run link Role.Server connection) (sym last_is)

      there_then : slice_get (world_at rounds).points place ≡ Some walked.c
      there_then = subst (λ (w : Flowing). slice_get w.state.run.points place ≡ Some walked.c) (sym last_is) walked.there

      same_then : (point rounds a).controller ≡ walked.c
      same_then = same_Some (point rounds a).controller walked.c (sym (point rounds a).there ∙ there_then)

      next_at : DrivesAt rounds a ms before ⊎ ReportedAt rounds before
      next_at = choose walked.comes
        where
          choose : Comes side since ((network.ends link).server.given) ((then_network.ends link).server.given) walked.c.host → DrivesAt rounds a ms before ⊎ ReportedAt rounds before
          choose (drives_still e same) = inl (record {
            inside = inside_then;
            is_driving = ap (λ (x : ClockedControllerState PointState). x.host.object.progress) same_then ∙ e;
            early = subst (λ (n : ℕ). n + ms < drive_end since) (sym (ap (λ (x : ClockedControllerState PointState). reading_of x.clock) same_then ∙ walked.clock)) early_then;
            given = sym given_then ∙ same ∙ given_before;
          })
          choose (has_told e same) = inr (record {
            inside = inside_then;
            c = walked.c;
            there = there_then;
            answered = e;
            given = sym given_then ∙ same ∙ ap (λ (list : List (List ℕ)). list ++ item_of walked.c.host (own_report (Message.Point (PointPosition (position_of side)))) ∷ []) given_before;
          })

    -- by one of these rounds it has reported
    pub record ReportedBy (front rest : List (List Event)) (before : List (List ℕ)) : Type 0 where
      pub done : List (List Event)
      pub others : List (List Event)
      pub parts : rest ≡ done ++ others
      pub reported : ReportedAt (front ++ done) before

    -- until then it is driven
    pub drive_goes_on : (rest front : List (List Event)) → host_rounds ≤ suc (length front) → (f : Are front) → Are (front ++ rest) → (before : List (List ℕ)) → DrivesAt front f (10 * length rest) before → HasRoomBehind place rest (then_at front)
        → ReportedBy front rest before ⊎ IsDrivenBehind place side rest (then_at front)
    drive_goes_on [] front long f a before was room = inr tt
    drive_goes_on (one ∷ rest) front long f a before was room = choose
        (next_at front one long f on_are (10 * length rest) before (record { inside = was.inside; is_driving = was.is_driving; early = let n = was.early in omega (arith, n); given = was.given }) (subst (λ (g : Flowing). HasRoomAt place g.state) (sym last_so) room.0))
        (λ then_drives. drive_goes_on rest on longer on_are whole before then_drives (subst (HasRoomBehind place rest) (sym last_so) room.1))
      where
        on : List (List Event)
        on = front ++ one ∷ []

        longer : host_rounds ≤ suc (length on)
        longer = let n = count_front front one in omega (arith, long, n)

        whole : Are (on ++ rest)
        whole = subst Are (sym (append_assoc front (one ∷ []) rest)) a

        on_are : Are on
        on_are = front_are on rest longer whole

        last_so : then_at on ≡ all_tried one (round (then_at front))
        last_so = last_round front one next

        choose : DrivesAt on on_are (10 * length rest) before ⊎ ReportedAt on before → (DrivesAt on on_are (10 * length rest) before → ReportedBy on rest before ⊎ IsDrivenBehind place side rest (then_at on))
            → ReportedBy front (one ∷ rest) before ⊎ IsDrivenBehind place side (one ∷ rest) (then_at front)
        choose (inr reported) later_on = inl (record { done = one ∷ []; others = rest; parts = refl; reported = reported })
        choose (inl drives) later_on = then_so (later_on drives)
          where
            then_so : ReportedBy on rest before ⊎ IsDrivenBehind place side rest (then_at on) → ReportedBy front (one ∷ rest) before ⊎ IsDrivenBehind place side (one ∷ rest) (then_at front)
            then_so (inl by) = inl (record {
              done = one ∷ by.done;
              others = by.others;
              parts = ap (λ (list : List (List Event)). one ∷ list) by.parts;
              reported = subst (λ (list : List (List Event)). ReportedAt list before) (append_assoc front (one ∷ []) by.done) by.reported;
            })
            then_so (inr driven) = inr (subst (λ (g : Flowing). IsDriven place side g.state) last_so (driven_here on on_are side since drives.is_driving), subst (IsDrivenBehind place side rest) last_so driven)
