-- A point whose move is out for a set route, event by event, until its report has come.
use Rattle.simulator_recovery.proofs.Words.Basics.{◌≡◌, inl, inr, ℕ, suc, ◌<◌, ◌∙◌, true, false, List, [], ◌∷◌, ◌++◌, append-nil, append_assoc, length, None, Some, slice_get, refl, sym, ap, subst, arith, Contains, length-append, same_Some}
use Rattle.simulator_recovery.proofs.Words.Links.{settled, AreTimely, reading_of, AreLinks, Links, LinksEvent, begun, run_links, LinkState, is_up}
use Rattle.simulator_recovery.proofs.Words.Controllers.{Protocol, Side}
use Rattle.simulator_recovery.proofs.Words.Interlockings.{IsTableOf, PeerState, is_available, is_outside, Stage, AllClear, IsHeldAt, Known, KnownPointState, Need, Row, SitedTable, Table}
use Rattle.simulator_recovery.proofs.Words.Stations.{Site, Point as PointEntry, Once, IsStation, Event, happens, AreLinksOf, names_at, starts_at_zero, links, point_link, refusal, WorldState, FollowsBy, events_of, HasLinks, links_in, IsReached}
use Rattle.simulator_recovery.proofs.Words.Recovery.{side_told, peer_for, KeepsSetting, AreLinksUp, IsOnCourse, LawsBelow}
use Rattle.simulator_recovery.proofs.Lemmas.Ground.SectionsEvents.{CanBe}
use Rattle.simulator_recovery.proofs.Lemmas.Talk.ClientLinks.{up_open}
use Rattle.simulator_recovery.proofs.Lemmas.RoutesComing.HeldNeeds.{held_known}
use Rattle.simulator_recovery.proofs.Lemmas.Points.HeldStation.{Outcome, ReportOnce, comes, event_outcome, waits}
use Rattle.simulator_recovery.proofs.Lemmas.Points.KnownAlways.{Knowing, knowing_on}
use Rattle.simulator_recovery.proofs.Lemmas.Ground.LinkCounts.{settled_open}
use Rattle.simulator_recovery.proofs.Lemmas.Rounds.LinkRounds.{links_both, may_both}
use Rattle.simulator_recovery.proofs.Lemmas.Ground.EndCalls.{at_place}
use Rattle.simulator_recovery.proofs.Lemmas.RoutesComing.RoutesCome.{IsOnWay, WayGoesOn, happens_way}
use Rattle.simulator_recovery.proofs.Lemmas.RoutesComing.RoutesGround.{settled_inside}
use Rattle.simulator_recovery.proofs.Lemmas.Points.SidesRoutes.{holds_point}
use Rattle.simulator_recovery.proofs.Lemmas.Talk.StationTalk.{took}

-- The client of a point awaits a report, and has taken so many items. Or it has taken one more at least; and where the first so many and one
-- tell this side, the point is known at it.
pub data Fate (peer : PeerState) (side : Side) (count : ℕ) (known : KnownPointState) (taken : List (List ℕ)) : Type 0 where
  still_out : known.client.stage ≡ Stage.AwaitsReport → length taken ≡ count → Fate peer side count known taken
  has_come : (front rest : List (List ℕ)) → taken ≡ front ++ rest → length front ≡ suc count → (side_told peer front ≡ Some side
      → (is_available known.client.stage ≡ true) × (known.side ≡ Some side)) → Fate peer side count known taken

module _ (laws : LawsBelow) (course : LawsBelow) (ready_laws : LawsBelow) (sited : SitedTable) (station : IsStation sited.site) (once : Once sited.site)
    (is_table : IsTableOf sited.site sited.table) (number : ℕ) (row : Row)
    (row_there : slice_get sited.table.rows number ≡ Some row) (need : Need) (within : Contains row.needs need) (few : need.point < length sited.site.points) (count : ℕ) where
  abbrev site : Site
  site = sited.site

  abbrev table : Table
  table = sited.table

  abbrev link : ℕ
  link = point_link site need.point

  abbrev pub entry : (one : PointEntry) × (slice_get site.points need.point ≡ Some one)
  entry = at_place site.points need.point few

  -- whom its client speaks with
  abbrev pub peer : PeerState
  peer = peer_for Protocol.Point site entry.0.name (entry.0.name ∷ [])

  -- the links of the station, and how far the report has come there
  pub record Followed (world : WorldState) : Type 0 where
    pub has : HasLinks site world
    pub knowing : Knowing laws site table station once is_table world (links_in has)
    pub known : KnownPointState
    pub there : slice_get world.interlocking.ixl.known_points need.point ≡ Some known
    pub fate : Fate peer need.side count known (took (links_in has) link)

  named : AreLinks (links site) (names_at site)
  named = laws.layouts_name_their_links site station once

  -- a route on its course holds the point
  held_by : (world : WorldState) → IsOnCourse world.interlocking.ixl number row → IsHeldAt table world.interlocking.ixl need.point need.side
  held_by world (inl is) = holds_point site table is_table world.interlocking.ixl number row need row_there within (is.0, is.1, inl is.2)
  held_by world (inr (is, known)) = holds_point site table is_table world.interlocking.ixl number row need row_there within (is.0, is.1, inr is.2)

  module _ (one : Event) (world : WorldState) (reached : IsReached site table world) (none : refusal site one world ≡ None) (keeps : KeepsSetting site number one)
      (is : IsOnWay course ready_laws sited station once is_table number row row_there world)
      (up : AreLinksUp row (happens site table one world)) (clear : AllClear table (happens site table one world).interlocking.ixl row.sections) (follows : Followed world) where
    abbrev behind : WorldState
    behind = happens site table one world

    abbrev network : Links
    network = links_in follows.has

    abbrev events : List LinksEvent
    events = events_of site table one world

    timely : AreTimely (links site) (names_at site) network
    timely = laws.links_keep_time_run (links site) (names_at site) follows.has.events (begun (names_at site) starts_at_zero) named (laws.links_keep_time_starts (links site)
        (names_at site) starts_at_zero named) follows.has.may

    by : FollowsBy site events behind network
    by = laws.events_are_those_of_the_links_exactly site table one world network named follows.knowing.stands.whole timely follows.has.are none

    can : CanBe site table one world network
    can = record { named = named; whole = follows.knowing.stands.whole; timely = timely; are = follows.has.are; may = none; follows = by }

    same_network : run_links (follows.has.events ++ events) (begun (names_at site) starts_at_zero) ≡ run_links events network
    same_network = links_both follows.has.events events (begun (names_at site) starts_at_zero)

    abbrev then_has : HasLinks site behind
    then_has = record {
      events = follows.has.events ++ events;
      may = may_both (links site) (names_at site) follows.has.events events (begun (names_at site) starts_at_zero) follows.has.may by.may;
      are = subst (AreLinksOf site behind) (sym same_network) by.are;
    }

    then_knowing : Knowing laws site table station once is_table behind (run_links events network)
    then_knowing = knowing_on laws site table station once is_table one world network can follows.knowing

    held : IsHeldAt table behind.interlocking.ixl need.point need.side
    held = held_by behind (happens_way course ready_laws sited station once is_table number row row_there one world reached keeps is up clear).course

    -- the point before the event, and after it
    abbrev was : KnownPointState
    was = follows.known

    was_up : is_up (settled (reading_of world.interlocking.clock) was.client.link).phase ≡ true
    was_up = let u = is.up.points need within in ap (λ (k : KnownPointState). is_up (settled (reading_of world.interlocking.clock) k.client.link).phase) (same_Some was u.0 (sym follows.there ∙ u.1)) ∙ u.2

    was_inside : is_outside was.client.stage ≡ false
    was_inside = settled_inside (reading_of world.interlocking.clock) was.client (follows.knowing.stands.talking.stands.clients.points need.point was follows.there).stands.outside was_up

    abbrev known : KnownPointState
    known = (up.points need within).0

    there : slice_get behind.interlocking.ixl.known_points need.point ≡ Some known
    there = (up.points need within).1

    inside : is_outside known.client.stage ≡ false
    inside = settled_inside (reading_of behind.interlocking.clock) known.client (then_knowing.stands.talking.stands.clients.points need.point known there).stands.outside (up.points need within).2

    up_now : is_up known.client.link.phase ≡ true
    up_now = let u = (up.points need within).2 in ap (λ (l : LinkState). is_up l.phase) (sym (settled_open (reading_of behind.interlocking.clock) known.client.link (up_open _ u)).0) ∙ u

    abbrev had : List (List ℕ)
    had = took network link

    abbrev taken : List (List ℕ)
    taken = took (run_links events network) link

    outcome : Outcome need.side was had known taken
    outcome = event_outcome laws laws course.move_is_given_where_due course.request_is_accepted_where_admissible site table is_table need.point need.side was was_inside
        laws.deliveries_may_come_links one world network can had (record {
          talking = record { stands = follows.knowing.stands.talking.stands.clients; speaks = follows.knowing.stands.talking.matching.clients; talk = follows.knowing.stands.talking.talk };
          reached = reached;
          there = follows.there;
          up = was_up;
          had_is = refl;
        }) held known there inside

    -- what is told makes the point known
    at_side : side_told peer taken ≡ Some need.side → known.side ≡ Some need.side
    at_side told = (then_knowing.knows need.point known there).last up_now
        ∙ (ap (λ (p : PeerState). side_told p taken) (then_knowing.stands.talking.matching.clients.points need.point known there entry.0 entry.1) ∙ told)

    -- and it stays so
    stays : (is_available was.client.stage ≡ true) × (was.side ≡ Some need.side) → (is_available known.client.stage ≡ true) × (known.side ≡ Some need.side)
    stays so =
        let then_known : Known behind.interlocking.ixl need.point need.side = held_known course.move_is_given_where_due course.request_is_accepted_where_admissible site table one world need.point need.side is_table reached (was, follows.there, so)
        (is.up.points need within) held (known, there, inside)
        in subst (λ (k : KnownPointState). (is_available k.client.stage ≡ true) × (k.side ≡ Some need.side)) (same_Some then_known.0 known (sym then_known.1 ∙ there)) then_known.2

    by_fate : Fate peer need.side count was had → Fate peer need.side count known taken
    by_fate (still_out awaits many) = by_report (outcome.awaited awaits)
      where
        by_report : ReportOnce need.side known outcome.more → Fate peer need.side count known taken
        by_report (waits still no_more) = still_out still (ap length (outcome.are ∙ (ap (λ (more : List (List ℕ)). had ++ more) no_more ∙ append-nil had)) ∙ many)
        by_report (comes one_more so) = has_come taken [] (sym (append-nil taken))
            (let all = ap length outcome.are in let parts = length-append had outcome.more in omega (arith, all, parts, one_more, many))
            (λ told. (so (at_side told), at_side told))
    by_fate (has_come front rest are long so) = has_come front (rest ++ outcome.more) (outcome.are ∙ (ap (λ (list : List (List ℕ)). list ++ outcome.more) are
        ∙ append_assoc front rest outcome.more)) long (λ told. stays (so told))

    followed : Followed behind
    followed = record {
      has = then_has;
      knowing = subst (Knowing laws site table station once is_table behind) (sym same_network) then_knowing;
      known = known;
      there = there;
      fate = subst (λ (n : Links). Fate peer need.side count known (took n link)) (sym same_network) (by_fate follows.fate);
    }

  pub followed_on : WayGoesOn course ready_laws sited station once is_table number row row_there Followed
  followed_on = record { on = followed }
