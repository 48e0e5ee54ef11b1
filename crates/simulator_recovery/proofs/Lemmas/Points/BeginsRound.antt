-- A point whose controller has answered all moves after a good round: what its reports of the next round tell.
use Rattle.simulator_recovery.proofs.Words.Basics.{◌≡◌, ℕ, suc, ◌∙◌, ◌-◌, ◌≤◌, ◌<◌, nat_le, false, List, [], ◌∷◌, ◌++◌, length, map, Option, Some, None, slice_get, refl, sym, ap, subst, arith, nat_tests, same_Some}
use Rattle.simulator_recovery.proofs.Words.Links.{settled, Each, reading_of, Links, begun, run_links, LinkState, is_open, Role}
use Rattle.simulator_recovery.proofs.Words.Controllers.{moves_in, Side, commands_of, PointState, drive_end, driven, Progress}
use Rattle.simulator_recovery.proofs.Words.Interlockings.{IsTableOf, SitedTable}
use Rattle.simulator_recovery.proofs.Words.Stations.{Site, Once, IsStation, Event, FoundDriven, Flowing, round, round_of_time, AreLinksOf, ServerEnd, names_at, server_ends, starts_at_zero, links, partners, point_link, ClockedControllerState, WorldState, after, driven as found_driven, HasLinks, links_in, given_on, IsReached, IsTakenOf}
use Rattle.simulator_recovery.proofs.Words.Recovery.{IsUpOn, all_events_tried, behind_time, calls_of_round, event_of, links_behind, time_of_round, reports_in, IsWork, all_tried, good_rounds, LawsBelow}
use Rattle.simulator_recovery.proofs.Lemmas.Ground.ClientItem.{partners_length}
use Rattle.simulator_recovery.proofs.Lemmas.Points.BeginsStep.{Stands, report_of}
use Rattle.simulator_recovery.proofs.Lemmas.Points.BeginsWalk.{Reported, round_reports}
use Rattle.simulator_recovery.proofs.Lemmas.Talk.ClientLinks.{up_open}
use Rattle.simulator_recovery.proofs.Lemmas.Points.DrivenPoints.{noted_so}
use Rattle.simulator_recovery.proofs.Lemmas.Links.HandedOver.{server_is}
use Rattle.simulator_recovery.proofs.Lemmas.Rounds.LinkRounds.{all_followed, links_both, may_both}
use Rattle.simulator_recovery.proofs.Lemmas.Ground.EndCalls.{at_place}
use Rattle.simulator_recovery.proofs.Lemmas.Points.MovesBehind.{Are, Passing, clock_at, passes, point, these_at, timed_found, up_at}
use Rattle.simulator_recovery.proofs.Lemmas.Rounds.FlowsStay.{drives_kept, each_split, kept_on, same_front}
use Rattle.simulator_recovery.proofs.Lemmas.Points.MovesMoment.{PointAt}
use Rattle.simulator_recovery.proofs.Lemmas.Points.MovesReported.{timed_clock}
use Rattle.simulator_recovery.proofs.Lemmas.Points.MovesRound.{found_there}
use Rattle.simulator_recovery.proofs.Lemmas.Links.Ready.{Last, last_of}
use Rattle.simulator_recovery.proofs.Lemmas.Rounds.Rounds.{IsAt, rounds_reached}
use Rattle.simulator_recovery.proofs.Lemmas.Silence.Shown.{counted_taken}
use Rattle.simulator_recovery.proofs.Lemmas.Silence.Spent.{settled_taken}
use Rattle.simulator_recovery.proofs.Lemmas.Lamps.StopComes.{last_round}
use Rattle.simulator_recovery.proofs.Lemmas.Links.UnderHosts.{host_rounds}

-- a drive that begins isn't at its limit
begins_early : (n : ℕ) → n ≤ 9100000000000000 → nat_le (drive_end n) n ≡ false
begins_early n small = grind (arith, nat_tests, small)

module _ (laws : LawsBelow) (stay : LawsBelow) (between : List Event) (flowing : Flowing) (place : ℕ) (once : Once flowing.state.sited.site) (station : IsStation flowing.state.sited.site)
    (is_table : IsTableOf flowing.state.sited.site flowing.state.sited.table) (reached : IsReached flowing.state.sited.site flowing.state.sited.table flowing.state.run)
    (work : Each IsWork between) (few : place < length flowing.state.sited.site.points)
    (notes : length flowing.state.sited.site.points ≤ length flowing.drives) where
  abbrev site : Site
  site = flowing.state.sited.site

  abbrev link : ℕ
  link = point_link site place

  abbrev next : Flowing
  next = all_tried between (round flowing)

  abbrev then_at : List (List Event) → Flowing
  then_at rounds = good_rounds rounds next

  abbrev world_at : List (List Event) → WorldState
  world_at rounds = (then_at rounds).state.run

  abbrev OfRounds : List (List Event) → Type 0
  OfRounds rounds = Are laws between flowing place once station is_table reached work few rounds

  abbrev up_of : (rounds : List (List Event)) → OfRounds rounds → IsUpOn link (world_at rounds)
  up_of rounds a = up_at laws between flowing place once station is_table reached work few rounds a

  abbrev point_of : (rounds : List (List Event)) (a : OfRounds rounds) → PointAt site (world_at rounds) place (up_of rounds a)
  point_of rounds a = point laws between flowing place once station is_table reached work few rounds a

  below_links : link < links site
  below_links = omega (arith, few)

  -- what a controller has taken, and what it has reported
  abbrev pub took_at : (rounds : List (List Event)) → OfRounds rounds → List (List ℕ)
  took_at rounds a = ((links_in (point_of rounds a).has).ends link).server.taken

  module _ (front : List (List Event)) (last : List Event) (long : host_rounds ≤ suc (length front)) (f : OfRounds front) (a : OfRounds (front ++ last ∷ []))
      (idle : (point_of front f).controller.host.object.progress ≡ Progress.Answered) where
    abbrev rounds : List (List Event)
    rounds = front ++ last ∷ []

    abbrev old : Flowing
    old = then_at front

    abbrev then_old : Flowing
    then_old = all_tried last (round old)

    abbrev p : PointAt site (world_at front) place (up_of front f)
    p = point_of front f

    abbrev q : PointAt site (world_at rounds) place (up_of rounds a)
    q = point_of rounds a

    abbrev network : Links
    network = links_in p.has

    abbrev then_network : Links
    then_network = links_behind last old network

    last_is : then_at rounds ≡ then_old
    last_is = last_round front last next

    works_last : Each IsWork last
    works_last = (each_split (Each IsWork) front (last ∷ []) a.works).1.0

    pass : Passing link (world_at front) (world_at rounds)
    pass = passes laws between flowing place once station is_table reached work few front last long a

    abbrev connection : ℕ
    connection = p.one.connection

    passes_in : pass.connection ≡ connection
    passes_in = same_Some pass.connection connection (same_Some (Some pass.connection) (Some connection) (sym pass.was_in ∙ p.connections))

    inside_then : slice_get (world_at rounds).interlocking.connections link ≡ Some (Some connection)
    inside_then = pass.is_in ∙ ap (λ (n : ℕ). Some (Some n)) passes_in

    -- ---- it isn't found driven

    at_front : (list : List (List Event)) → IsAt flowing.state.sited (then_at list).state
    at_front list = rounds_reached laws flowing.state.sited (between ∷ list) flowing (record { same = refl; reached = reached })

    undriven : slice_get old.drives place ≡ Some None
    undriven = by_last (last_of (length front - 1) front (omega (arith, long)))
      where
        few_at : (list : List (List Event)) → place < length (then_at list).state.sited.site.points
        few_at list = subst (λ (s : SitedTable). place < length s.site.points) (sym (at_front list).same) few

        none_found : found_driven old.state (record { 0 = place }) ≡ None
        none_found = found_there place old.state p.controller (few_at front) p.there ∙ ap (driven (reading_of p.controller.clock) p.controller.host.object.until) idle

        by_last : Last (length front - 1) front → slice_get old.drives place ≡ Some None
        by_last l = subst (λ (g : Flowing). slice_get g.drives place ≡ Some None) (sym front_is)
            (noted_so place None l.last (then_at l.front) noted.0 works noted.1 (subst (λ (g : Flowing). found_driven g.state (record { 0 = place }) ≡ None) front_is none_found))
          where
            works : Each IsWork l.last
            works = (each_split (Each IsWork) l.front (l.last ∷ []) (subst (Each (Each IsWork)) l.are f.works)).1.0

            front_is : old ≡ all_tried l.last (round (then_at l.front))
            front_is = ap then_at l.are ∙ last_round l.front l.last next

            noted : (drive : Option FoundDriven) × (slice_get (then_at l.front).drives place ≡ Some drive)
            noted = let kept = drives_kept l.front next ∙ kept_on between flowing in at_place (then_at l.front).drives place (omega (arith, few, notes, kept))

    -- ---- its clock after the time of the round

    abbrev found : (one : ClockedControllerState PointState) × (slice_get (after old.state (round_of_time old.state.sited.site)).run.points place ≡ Some one)
    found = timed_found laws between flowing place once station is_table reached work few front f

    abbrev now : ℕ
    now = reading_of found.0.clock

    fresh : nat_le (drive_end now) now ≡ false
    fresh =
        let small = clock_at laws between flowing place once station is_table reached work few front f p.controller p.there
        in let on = timed_clock old place p.controller found.0 p.there found.1
        in begins_early now (less found.0.clock (omega (arith, small, on)))
      where
        less : (n : ℕ) → n ≤ 9000000000010000 → reading_of n ≤ 9100000000000000
        less n most = omega (arith, most)

    -- ---- its links after the round

    then_up : IsUpOn link then_old.state.run
    then_up = subst (λ (w : Flowing). IsUpOn link w.state.run) last_is (up_of rounds a)

    abbrev before : List (List ℕ)
    before = (network.ends link).server.given

    abbrev first : List Side
    first = moves_in (commands_of (network.ends link).server.taken)

    reported : Reported laws laws.point_step_tells_what_was_taken flowing.state.sited station once place few now fresh connection before first then_old.state then_network
    reported = round_reports laws laws.point_step_tells_what_was_taken flowing.state.sited station once place few now fresh connection before first old network
        (these_at laws between flowing place once station is_table reached work few front f) p.controller p.there
        last works_last undriven found.0 found.1 refl (record { client = p.one.client; server = p.one.server }) p.completed idle refl refl
        (λ has_then. (
          same_Some ((then_network.ends link).client.connection) (Some connection) (sym (has_then.are.clients link id.0 id.1).connection_is
              ∙ subst (λ (w : Flowing). slice_get w.state.run.interlocking.connections link ≡ Some (Some connection)) last_is inside_then),
          ap (λ (l : LinkState). is_open l.phase) (server_is site link below_links then_old.state.run then_network has_then.are then_up)
              ∙ up_open (settled (reading_of then_up.server.clock) then_up.server.link).phase then_up.server_up,
        ))
      where
        id : (one : ℕ) × (slice_get (partners site) link ≡ Some one)
        id = at_place (partners site) link (subst (λ (n : ℕ). link < n) (sym (partners_length site)) below_links)

    abbrev tried : List Event
    tried = round_of_time old.state.sited.site ∷ (map event_of (behind_time old) ++ last)

    net_same : run_links (p.has.events ++ all_events_tried tried old.state) (begun (names_at site) starts_at_zero) ≡ then_network
    net_same = links_both p.has.events (all_events_tried tried old.state) (begun (names_at site) starts_at_zero) ∙ links_both (time_of_round old) (calls_of_round last old) network

    has_then : HasLinks site then_old.state.run
    has_then = record {
      events = p.has.events ++ all_events_tried tried old.state;
      may = may_both (links site) (names_at site) p.has.events (all_events_tried tried old.state) (begun (names_at site) starts_at_zero) p.has.may
          (all_followed laws flowing.state.sited station once tried old.state network (these_at laws between flowing place once station is_table reached work few front f)).may;
      are = subst (AreLinksOf site then_old.state.run) (sym net_same) reported.has.are;
    }

    server_in : ((links_in has_then).ends link).server.connection ≡ Some connection
    unfolding has_then
    server_in = ap (λ (n : Links). (n.ends link).server.connection) net_same ∙ reported.inside

    client_in : ((links_in has_then).ends link).client.connection ≡ Some connection
    client_in =
        let id = at_place (partners site) link (subst (λ (n : ℕ). link < n) (sym (partners_length site)) below_links)
        in same_Some ((links_in has_then).ends link).client.connection (Some connection)
        (sym (has_then.are.clients link id.0 id.1).connection_is ∙ subst (λ (w : Flowing). slice_get w.state.run.interlocking.connections link ≡ Some (Some connection)) last_is inside_then)

    -- as the datagrams tell them
    abbrev reports_at : List (List Event) → List (List ℕ)
    reports_at list = reports_in site place connection (world_at list)

    given_before : before ≡ reports_at front
    given_before = (laws.items_are_read_off_the_datagrams site (world_at front) once station p.has link below_links Role.Server connection p.one.server).given

    given_then : (then_network.ends link).server.given ≡ reports_at rounds
    unfolding has_then
    given_then = ap (λ (n : Links). (n.ends link).server.given) (sym net_same)
        ∙ (laws.items_are_read_off_the_datagrams site then_old.state.run once station has_then link below_links Role.Server connection server_in).given
        ∙ ap (λ (w : Flowing). given_on site w.state.run link Role.Server connection) (sym last_is)

    q_is : q.one.connection ≡ connection
    q_is = same_Some q.one.connection connection (same_Some (Some q.one.connection) (Some connection) (sym q.connections ∙ inside_then))

    -- the items that it has taken are those of the other links
    taken_same : (then_network.ends link).server.taken ≡ took_at rounds a
    unfolding has_then
    taken_same = ap (λ (n : Links). (n.ends link).server.taken) (sym net_same)
        ∙ same_front ((links_in has_then).ends link).server.taken (took_at rounds a) one.rest other.rest (sym one.beginning
        ∙ ap (λ (w : Flowing). given_on site w.state.run link Role.Client connection) (sym last_is) ∙ other.beginning) as_many
      where
        one : IsTakenOf (given_on site then_old.state.run link Role.Client connection) ((links_in has_then).ends link).server
        one = (laws.items_are_read_off_the_datagrams site then_old.state.run once station has_then link below_links Role.Client connection client_in).taken server_in

        other : IsTakenOf (given_on site (world_at rounds) link Role.Client connection) ((links_in q.has).ends link).server
        other = (laws.items_are_read_off_the_datagrams site (world_at rounds) once station q.has link below_links Role.Client connection (q.one.client ∙ ap Some q_is)).taken (q.one.server ∙ ap Some q_is)

        server_then : ((links_in has_then).ends link).server.link ≡ settled (reading_of then_up.server.clock) then_up.server.link
        server_then = server_is site link below_links then_old.state.run (links_in has_then) has_then.are then_up

        counted_then : length ((links_in has_then).ends link).server.taken ≡ then_up.server.link.taken
        counted_then = sym (counted_taken ((links_in has_then).ends link).server one.counted (ap (λ (l : LinkState). is_open l.phase) server_then
            ∙ up_open (settled (reading_of then_up.server.clock) then_up.server.link).phase then_up.server_up))
            ∙ ap (λ (l : LinkState). l.taken) server_then ∙ settled_taken (reading_of then_up.server.clock) then_up.server.link

        ups_same : (x y : Flowing) → x ≡ y → (one : IsUpOn link x.state.run) (two : IsUpOn link y.state.run) → one.server.link.taken ≡ two.server.link.taken
        ups_same x y same one two = ap (λ (s : ServerEnd). s.link.taken)
            (same_Some one.server two.server (sym one.server_there ∙ ap (λ (w : Flowing). slice_get (server_ends w.state.run) link) same ∙ two.server_there))

        as_many : length ((links_in has_then).ends link).server.taken ≡ length (took_at rounds a)
        as_many = counted_then ∙ ups_same then_old (then_at rounds) (sym last_is) then_up (up_of rounds a) ∙ q.server_taken

    same_controller : q.controller ≡ reported.c
    same_controller = same_Some q.controller reported.c (sym q.there ∙ subst (λ (w : Flowing). slice_get w.state.run.points place ≡ Some reported.c) (sym last_is) reported.there)

    -- The reports of the round are those of moves that were taken in it, each with its side; and these wait.
    pub record ReportsEach : Type 0 where
      pub paid : List Side
      pub rest : List Side
      pub given : reports_at rounds ≡ reports_at front ++ map (report_of q.controller.host) paid
      pub taken : moves_in (commands_of (took_at rounds a)) ≡ moves_in (commands_of (took_at front f)) ++ (paid ++ rest)
      pub stands : Stands now rest q.controller.host
      pub one : q.one.connection ≡ connection

    pub reports_each : ReportsEach
    reports_each = record {
      paid = reported.paid;
      rest = reported.rest;
      given = sym given_then ∙ reported.given ∙ ap (λ (list : List (List ℕ)). list ++ map (report_of reported.c.host) reported.paid) given_before
          ∙ ap (λ (c : ClockedControllerState PointState). reports_at front ++ map (report_of c.host) reported.paid) (sym same_controller);
      taken = ap (λ (list : List (List ℕ)). moves_in (commands_of list)) (sym taken_same) ∙ reported.taken;
      stands = subst (λ (c : ClockedControllerState PointState). Stands now reported.rest c.host) (sym same_controller) reported.stands;
      one = q_is;
    }
