-- A point whose move is out, event by event, until its report has come, where each route that waits for it wants it at one side.
use Rattle.simulator_recovery.proofs.Words.Basics.{◌≡◌, ℕ, ◌<◌, ◌∙◌, true, false, List, [], ◌∷◌, ◌++◌, append-nil, append_assoc, length, None, Some, slice_get, refl, sym, ap, subst, arith, Contains, false≢true, length-append, same_Some}
use Rattle.simulator_recovery.proofs.Words.Links.{settled, AreTimely, Receives, reading_of, AreLinks, Links, LinksEvent, MayCallOn, begun, run_links, is_up}
use Rattle.simulator_recovery.proofs.Words.Controllers.{Protocol, Side}
use Rattle.simulator_recovery.proofs.Words.Interlockings.{IsTableOf, PeerState, is_available, is_outside, new_client, Known, is_waiting, IxlState, KnownPointState, Commands, Input, Need, Row, Table, Command}
use Rattle.simulator_recovery.proofs.Words.Stations.{Site, Point as PointEntry, Once, IsStation, Event, Deliver, NodeId, Beginning, new_ixl, new_known_point_of, happens, interlocking_stepped, interlocking_step, AreLinksOf, names_at, starts_at_zero, connection_of, copy_of, links, point_link, refusal, WorldState, FollowsBy, events_of, interlocking_events, HasLinks, links_in, IsReached}
use Rattle.simulator_recovery.proofs.Words.Recovery.{side_told, peer_for, IsUpAtClock, known_in_step, LawsBelow, MoveLaw, RequestLaw}
use Rattle.simulator_recovery.proofs.Lemmas.Ground.SectionsEvents.{CanBe, CanStep, fine_kept}
use Rattle.simulator_recovery.proofs.Lemmas.Ground.IxlAlways.{event_then}
use Rattle.simulator_recovery.proofs.Lemmas.RoutesComing.DueKnown.{KnownInside, known_heard, known_inside, PointStands, available_inside}
use Rattle.simulator_recovery.proofs.Lemmas.RoutesComing.HeldRoutes.{Fate, has_come, still_out}
use Rattle.simulator_recovery.proofs.Lemmas.Points.HeldStation.{GivenAt, Outcome, ReportOnce, comes, outcome_where, waits}
use Rattle.simulator_recovery.proofs.Lemmas.Ground.IxlClients.{mapped_at}
use Rattle.simulator_recovery.proofs.Lemmas.Points.KnownAlways.{Knowing, knowing_on}
use Rattle.simulator_recovery.proofs.Lemmas.Rounds.LinkRounds.{links_both, may_both}
use Rattle.simulator_recovery.proofs.Lemmas.Ground.EndCalls.{at_place}
use Rattle.simulator_recovery.proofs.Lemmas.Points.QuietRules.{NoneDue, as_heard, before_moves, points_heard}
use Rattle.simulator_recovery.proofs.Lemmas.Points.QuietSections.{up_still}
use Rattle.simulator_recovery.proofs.Lemmas.Points.QuietBase.{AsksNothing, OnlyWait, none_anew, none_asked, waits_behind, waits_there}
use Rattle.simulator_recovery.proofs.Lemmas.RoutesComing.RoutesGround.{settled_inside}
use Rattle.simulator_recovery.proofs.Lemmas.Talk.StationTalk.{SameLists, took}

-- A route, if it waits for the point, wants it at this side.
abbrev pub WantsSide : Table → ℕ → Side → ℕ → Type 0
WantsSide table point side number = (row : Row) (need : Need) → slice_get table.rows number ≡ Some row → Contains row.needs need → point ≡ need.point → need.side ≡ side

-- ---- a step

module _ (move : MoveLaw) (request : RequestLaw) (site : Site) (table : Table) (is_table : IsTableOf site table) (point : ℕ) (side : Side) where
  abbrev Wanted : IxlState → Type 0
  Wanted ixl = OnlyWait (WantsSide table point side) ixl.routes

  module _ (input : Input) (world : WorldState) (reached : IsReached site table world) (none_comes : (command : Command) → input ≡ Commands command → ⊥) (wanted : Wanted world.interlocking.ixl)
      (heard : KnownInside point side (known_in_step site table input world)) where
    abbrev start : IxlState
    start = before_moves move request site table is_table world reached input point

    none_due : NoneDue table point start
    none_due number row route need row_there there within here due = due.elsewhere (known, due.available.1, (due.available.2, so.1 ∙ ap (λ (s : Side). Some s) (sym side_is)))
      where
        known : KnownPointState
        known = due.available.0

        side_is : need.side ≡ side
        side_is = waits_there move request site table is_table point ⊥ input world reached none_comes (WantsSide table point side) wanted number route there (ap is_waiting due.waits) due.goes_on row need row_there within here

        so : (is_available known.client.stage ≡ true) × (known.side ≡ Some side)
        so = heard known (ap (slice_get (known_in_step site table input world).known_points) here
            ∙ (ap (λ (points : List KnownPointState). slice_get points need.point) (sym (points_heard move request site table is_table world reached input point)) ∙ due.available.1))
            (available_inside known.client.stage due.available.2)

    pub still_known : KnownInside point side (interlocking_stepped site table input world).interlocking.ixl
    still_known known there inside = (ap is_available left.2.stage ∙ so.0, left.2.side ∙ so.1)
      where
        left : (was : KnownPointState) × (slice_get (known_in_step site table input world).known_points point ≡ Some was) × PointStands was known
        left = as_heard move request site table is_table world reached input point none_due known there inside

        so : (is_available left.0.client.stage ≡ true) × (left.0.side ≡ Some side)
        so = heard left.0 left.1 (ap is_outside (sym left.2.stage) ∙ inside)

  -- ---- an event

  pub wanted_on : (one : Event) (world : WorldState) → IsReached site table world → AsksNothing one → Wanted world.interlocking.ixl → Wanted (happens site table one world).interlocking.ixl
  wanted_on one world reached asks wanted = event_then site table Wanted world wanted one
      (λ input e. waits_behind move request site table is_table point ⊥ input world reached (none_asked site one input asks e) (WantsSide table point side) wanted) (λ begins anew. absurd (none_anew site one asks anew))

  pub known_on : (one : Event) (world : WorldState) → IsReached site table world → AsksNothing one → Wanted world.interlocking.ixl → Known world.interlocking.ixl point side → IsUpAtClock world point
      → KnownInside point side (happens site table one world).interlocking.ixl
  known_on one world reached asks wanted is up = event_then site table (KnownInside point side) world (known_inside point side world.interlocking.ixl is) one
      (λ input e. still_known input world reached (none_asked site one input asks e) wanted (known_heard site table input world point side (λ moved to same here none. none_asked site one input asks e (Command.Move moved to) same) reached is up)) (λ begins anew. absurd (none_anew site one asks anew))

  -- what an event leaves of a point whose move is out
  module _ (clients : LawsBelow) (talk : LawsBelow) (was : KnownPointState) (within : is_outside was.client.stage ≡ false) where
    abbrev at : ℕ
    at = point_link site point

    abbrev GivenHere : List (List ℕ) → WorldState → Links → Type 0
    GivenHere = GivenAt clients talk move request site table is_table point side was within

    abbrev Given : List (List ℕ) → WorldState → Links → Type 0
    Given had world network = GivenHere had world network × Wanted world.interlocking.ixl

    abbrev Follows : List (List ℕ) → IxlState → Links → Type 0
    Follows had known_ixl network = (known : KnownPointState) → slice_get known_ixl.known_points point ≡ Some known → is_outside known.client.stage ≡ false → Outcome side was had known (took network at)

    same_follows : (had : List (List ℕ)) (known_ixl : IxlState) (old new : Links) → SameLists old new → Follows had known_ixl old → Follows had known_ixl new
    same_follows had known_ixl old new same follows known e inside = subst (Outcome side was had known) (sym (same.taken at)) (follows known e inside)

    new_follows : (had : List (List ℕ)) (begins : Beginning) (network : Links) → Follows had (new_ixl site table begins) network
    unfolding new_ixl new_client
    new_follows had begins network known e inside = let made = mapped_at (new_known_point_of site begins) site.points point known e in
        absurd (false≢true (sym inside ∙ ap (λ (k : KnownPointState). is_outside k.client.stage) made.2))

    -- by a step
    step_so : (had : List (List ℕ)) (input : Input) (connection : ℕ) (one : Event) (world : WorldState) (network : Links) → CanStep site table input connection one world network → AsksNothing one
        → Given had world network → Follows had world.interlocking.ixl network
        → Follows had (interlocking_step site table input world.interlocking).ixl (run_links (interlocking_events site table input connection world.interlocking) network)
    unfolding interlocking_stepped
    step_so had input connection one world network step asks given before known e inside = outcome_where clients talk move request site table is_table point side was within input connection one world network step had
        given.0 known e inside (λ heard. (still_known input world given.0.reached (none_asked site one input asks step.brings) given.1 heard known e inside).0)

    pub outcome_on : ((at_site : Site) (node : NodeId) (bytes : List ℕ) (one : WorldState) (links : Links) → AreLinksOf at_site one links → refusal at_site (Deliver node bytes) one ≡ None
        → (link : ℕ) → MayCallOn (names_at at_site link) (Receives bytes (connection_of (copy_of bytes one))) links)
        → (happening : Event) (world : WorldState) (network : Links) → CanBe site table happening world network → AsksNothing happening → (had : List (List ℕ)) → Given had world network
        → Follows had (happens site table happening world).interlocking.ixl (run_links (events_of site table happening world) network)
    outcome_on may_come happening world network can asks had is = fine_kept talk may_come site table AsksNothing (Given had) (Follows had) (same_follows had) (step_so had)
        (λ begins w one n whole lists given before. new_follows had begins n) happening world network can asks is first
      where
        first : Follows had world.interlocking.ixl network
        first known e inside = record {
          more = [];
          are = is.0.had_is ∙ sym (append-nil had);
          awaited = λ awaits. waits (ap (λ (k : KnownPointState). k.client.stage) (same_Some known was (sym e ∙ is.0.there)) ∙ awaits) refl;
        }

-- ---- until its report has come

module _ (laws : LawsBelow) (move : MoveLaw) (request : RequestLaw) (site : Site) (table : Table) (station : IsStation site) (once : Once site) (is_table : IsTableOf site table)
    (point : ℕ) (side : Side) (few : point < length site.points) (count : ℕ) where
  abbrev link : ℕ
  link = point_link site point

  abbrev pub entry : (one : PointEntry) × (slice_get site.points point ≡ Some one)
  entry = at_place site.points point few

  -- whom its client speaks with
  abbrev pub peer : PeerState
  peer = peer_for Protocol.Point site entry.0.name (entry.0.name ∷ [])

  -- the links of the station, how far the report has come there, and the routes that wait for the point
  pub record Awaited (world : WorldState) : Type 0 where
    pub has : HasLinks site world
    pub knowing : Knowing laws site table station once is_table world (links_in has)
    pub known : KnownPointState
    pub there : slice_get world.interlocking.ixl.known_points point ≡ Some known
    pub fate : Fate peer side count known (took (links_in has) link)
    pub wanted : OnlyWait (WantsSide table point side) world.interlocking.ixl.routes

  named : AreLinks (links site) (names_at site)
  named = laws.layouts_name_their_links site station once

  module _ (one : Event) (world : WorldState) (reached : IsReached site table world) (none : refusal site one world ≡ None) (asks : AsksNothing one) (up : IsUpAtClock world point)
      (then_up : IsUpAtClock (happens site table one world) point) (follows : Awaited world) where
    abbrev behind : WorldState
    behind = happens site table one world

    abbrev network : Links
    network = links_in follows.has

    abbrev events : List LinksEvent
    events = events_of site table one world

    timely : AreTimely (links site) (names_at site) network
    timely = laws.links_keep_time_run (links site) (names_at site) follows.has.events (begun (names_at site) starts_at_zero) named (laws.links_keep_time_starts (links site)
        (names_at site) starts_at_zero named) follows.has.may

    by : FollowsBy site events behind network
    by = laws.events_are_those_of_the_links_exactly site table one world network named follows.knowing.stands.whole timely follows.has.are none

    can : CanBe site table one world network
    can = record { named = named; whole = follows.knowing.stands.whole; timely = timely; are = follows.has.are; may = none; follows = by }

    same_network : run_links (follows.has.events ++ events) (begun (names_at site) starts_at_zero) ≡ run_links events network
    same_network = links_both follows.has.events events (begun (names_at site) starts_at_zero)

    abbrev then_has : HasLinks site behind
    then_has = record {
      events = follows.has.events ++ events;
      may = may_both (links site) (names_at site) follows.has.events events (begun (names_at site) starts_at_zero) follows.has.may by.may;
      are = subst (AreLinksOf site behind) (sym same_network) by.are;
    }

    then_knowing : Knowing laws site table station once is_table behind (run_links events network)
    then_knowing = knowing_on laws site table station once is_table one world network can follows.knowing

    -- the point before the event, and after it
    abbrev was : KnownPointState
    was = follows.known

    was_up : is_up (settled (reading_of world.interlocking.clock) was.client.link).phase ≡ true
    was_up = ap (λ (k : KnownPointState). is_up (settled (reading_of world.interlocking.clock) k.client.link).phase) (same_Some was up.0 (sym follows.there ∙ up.1)) ∙ up.2

    was_inside : is_outside was.client.stage ≡ false
    was_inside = settled_inside (reading_of world.interlocking.clock) was.client (follows.knowing.stands.talking.stands.clients.points point was follows.there).stands.outside was_up

    abbrev known : KnownPointState
    known = then_up.0

    there : slice_get behind.interlocking.ixl.known_points point ≡ Some known
    there = then_up.1

    inside : is_outside known.client.stage ≡ false
    inside = settled_inside (reading_of behind.interlocking.clock) known.client (then_knowing.stands.talking.stands.clients.points point known there).stands.outside then_up.2

    abbrev had : List (List ℕ)
    had = took network link

    abbrev taken : List (List ℕ)
    taken = took (run_links events network) link

    outcome : Outcome side was had known taken
    outcome = outcome_on move request site table is_table point side laws laws was was_inside laws.deliveries_may_come_links one world network can asks had (
      record {
        talking = record { stands = follows.knowing.stands.talking.stands.clients; speaks = follows.knowing.stands.talking.matching.clients; talk = follows.knowing.stands.talking.talk };
        reached = reached;
        there = follows.there;
        up = was_up;
        had_is = refl;
      },
      follows.wanted,
    ) known there inside

    -- what is told makes the point known
    at_side : side_told peer taken ≡ Some side → known.side ≡ Some side
    at_side told = (then_knowing.knows point known there).last (up_still (reading_of behind.interlocking.clock) known.client.link then_up.2)
        ∙ (ap (λ (p : PeerState). side_told p taken) (then_knowing.stands.talking.matching.clients.points point known there entry.0 entry.1) ∙ told)

    -- and it stays so
    stays : (is_available was.client.stage ≡ true) × (was.side ≡ Some side) → (is_available known.client.stage ≡ true) × (known.side ≡ Some side)
    stays so = known_on move request site table is_table point side one world reached asks follows.wanted (was, follows.there, so) up known there inside

    by_fate : Fate peer side count was had → Fate peer side count known taken
    by_fate (still_out awaits many) = by_report (outcome.awaited awaits)
      where
        by_report : ReportOnce side known outcome.more → Fate peer side count known taken
        by_report (waits still no_more) = still_out still (ap length (outcome.are ∙ (ap (λ (more : List (List ℕ)). had ++ more) no_more ∙ append-nil had)) ∙ many)
        by_report (comes one_more so) = has_come taken [] (sym (append-nil taken))
            (let all = ap length outcome.are in let parts = length-append had outcome.more in omega (arith, all, parts, one_more, many))
            (λ told. (so (at_side told), at_side told))
    by_fate (has_come front rest are long so) = has_come front (rest ++ outcome.more) (outcome.are ∙ (ap (λ (list : List (List ℕ)). list ++ outcome.more) are
        ∙ append_assoc front rest outcome.more)) long (λ told. stays (so told))

    pub awaited_on : Awaited behind
    awaited_on = record {
      has = then_has;
      knowing = subst (Knowing laws site table station once is_table behind) (sym same_network) then_knowing;
      known = known;
      there = there;
      fate = subst (λ (n : Links). Fate peer side count known (took n link)) (sym same_network) (by_fate follows.fate);
      wanted = wanted_on move request site table is_table point side one world reached asks follows.wanted;
    }
