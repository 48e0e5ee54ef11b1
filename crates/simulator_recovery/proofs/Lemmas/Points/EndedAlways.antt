-- A point that a route holds with authority stands at its side, and its moves are answered: after every list of events of a station.
use Rattle.simulator_recovery.proofs.Words.Basics.{◌≡◌, ◌⊎◌, inl, inr, ℕ, ◌<◌, ◌≤◌, ◌+◌, true, List, [], length, map, Option, Some, None, slice_get, refl, sym, ap, subst, ◌∙◌, arith, Contains, false≢true, same_Some, slice_get_within}
use Rattle.simulator_recovery.proofs.Words.Links.{Links, begun, run_links}
use Rattle.simulator_recovery.proofs.Words.Controllers.{Position, Side, PointState}
use Rattle.simulator_recovery.proofs.Words.Interlockings.{IsTableOf, At, IsRouteOf, RouteState, Need, Row, Table, freed_sections, is_set, was_authorised, Phase}
use Rattle.simulator_recovery.proofs.Words.Stations.{Site, Once, IsStation, Event, IsOutsetOf, Outset, at_zero, world_at, happens, ServerEnd, end_of_server, names_at, starts_at_zero, links, partners, point_link, driven_at, driven_by, ClockedControllerState, WorldState, events_of, links_in, IsReached, IsNetworkOf}
use Rattle.simulator_recovery.proofs.Words.Machine.{IsPointSound, last_of, Point, moves_given, reports_made, side_seen, position_seen}
use Rattle.simulator_recovery.proofs.Words.Recovery.{HoldsWithAuthority, LawsBelow}
use Rattle.simulator_recovery.proofs.Lemmas.Ground.ClientItem.{partners_length}
use Rattle.simulator_recovery.proofs.Lemmas.Ground.SectionsEvents.{CanBe, HasHeld, always_held}
use Rattle.simulator_recovery.proofs.Lemmas.Talk.AlwaysExpected.{AreTalking, talking_first, talking_on}
use Rattle.simulator_recovery.proofs.Lemmas.Ground.AtLink.{mapped, of_second}
use Rattle.simulator_recovery.proofs.Lemmas.Points.EndedClient.{AddsNoMove}
use Rattle.simulator_recovery.proofs.Lemmas.Points.EndedLinks.{HasAnswered, answered_on, moves_at, moves_same, reports_at, reports_same}
use Rattle.simulator_recovery.proofs.Lemmas.Points.EndedStep.{EndedAt, ended_before, event_none, new_ended}
use Rattle.simulator_recovery.proofs.Lemmas.Points.EndedWorld.{lies_still, one_stays}
use Rattle.simulator_recovery.proofs.Lemmas.Points.FieldPointsAlways.{driven_there}
use Rattle.simulator_recovery.proofs.Lemmas.Points.FieldPointsMachine.{Answers, undriven}
use Rattle.simulator_recovery.proofs.Lemmas.Points.FieldPointsSeen.{AnswersIn, RestsIn, answers_in, authority_rests}
use Rattle.simulator_recovery.proofs.Lemmas.Ground.EndCalls.{at_place, map_length}
use Rattle.simulator_recovery.proofs.Lemmas.RoutesComing.NothingDueStops.{holds_each}
use Rattle.simulator_recovery.proofs.Lemmas.Points.UnheldPhases.{HoldsNone, none_or}

module _ (laws : LawsBelow) (site : Site) (table : Table) (station : IsStation site) (once : Once site) (is_table : IsTableOf site table) (k : ℕ) (row : Row)
    (row_there : slice_get table.rows k ≡ Some row) (need : Need) (within : Contains row.needs need) (few : need.point < length site.points) where
  abbrev talked : LawsBelow
  talked = laws

  abbrev link : ℕ
  link = point_link site need.point

  below : link < links site
  below = let f = few in omega (arith, f)

  id : (id : ℕ) × (slice_get (partners site) link ≡ Some id)
  id = at_place (partners site) link (subst (λ (n : ℕ). link < n) (sym (partners_length site)) below)

  some : 0 < need.until
  some = holds_each site table is_table k row need row_there within

  abbrev Ended : WorldState → Type 0
  Ended world = EndedAt site table k row row_there need within world.interlocking.ixl

  -- the point lies at its side, and its moves are answered on these links
  record RestsOn (world : WorldState) (network : Links) : Type 0 where
    lies : At world.positions need.point (λ position. position_seen position ≡ Some (side_seen need.side))
    answered : HasAnswered link (side_seen need.side) network

  -- ---- as the machine sees it

  module _ (world : WorldState) (network : Links) (net : IsNetworkOf site world network) (reached : IsReached site table world) where
    abbrev seen_in : AnswersIn site table world
    seen_in = answers_in laws site table once station is_table world reached

    abbrev point : Point
    point = seen_in.machine.points need.point

    abbrev RestsThere : Type 0
    RestsThere = RestsIn laws site table once station is_table world reached need.point need.side

    controller : (c : ClockedControllerState PointState) × (slice_get world.points need.point ≡ Some c)
    controller = let f = few in let many = net.whole.points in at_place world.points need.point (omega (arith, f, many))

    sound : IsPointSound point
    sound = seen_in.represented.invariant.points need.point

    moves_so : moves_given point ≡ length (moves_at link network)
    moves_so = (seen_in.represented.points.each need.point controller.0 controller.1).given
        ∙ ap length (moves_same site world seen_in.represented.network network seen_in.represented.linked net link below)

    reports_so : reports_made point ≡ reports_at link network
    reports_so = (seen_in.represented.points.each need.point controller.0 controller.1).made
        ∙ reports_same site world seen_in.represented.network network seen_in.represented.linked net link below

    most : length (reports_at link network) ≤ length (moves_at link network) + 1
    most = let all = sound.given in let reports = ap length reports_so in let moves = moves_so in omega (arith, all, reports, moves)

    to_network : Answers (side_seen need.side) point → HasAnswered link (side_seen need.side) network
    to_network (inl none) = inl (sym moves_so ∙ none)
    to_network (inr (all, last)) = inr (sym (ap length reports_so) ∙ (all ∙ ap (λ (n : ℕ). n + 1) moves_so), sym (ap (last_of None) reports_so) ∙ last)

    to_machine : HasAnswered link (side_seen need.side) network → Answers (side_seen need.side) point
    to_machine (inl none) = inl (moves_so ∙ none)
    to_machine (inr (all, last)) = inr (ap length reports_so ∙ (all ∙ ap (λ (n : ℕ). n + 1) (sym moves_so)), ap (last_of None) reports_so ∙ last)

    lies_so : (position : Position) → slice_get world.positions need.point ≡ Some position → point.position ≡ position_seen position
    lies_so position there = (seen_in.represented.points.each need.point controller.0 controller.1).position
        ∙ ap position_seen (seen_in.represented.points.sensed need.point controller.0 position controller.1 there)

    rests_on : RestsThere → RestsOn world network
    rests_on rests = record {
      lies = (lies.0, lies.1, sym (lies_so lies.0 lies.1) ∙ rests.stands);
      answered = to_network rests.answers;
    }
      where
        lies : (position : Position) × (slice_get world.positions need.point ≡ Some position)
        lies = let f = few in let many = seen_in.represented.points.count in at_place world.positions need.point (omega (arith, f, many))

    rests_there : RestsOn world network → RestsThere
    rests_there rests = record {
      stands = lies_so rests.lies.0 rests.lies.1 ∙ rests.lies.2;
      answers = to_machine rests.answered;
    }

    still : RestsOn world network → driven_at need.point world.points ≡ None
    still rests = driven_there world.points need.point controller.0 controller.1 ∙ by_drive (driven_by controller.0) refl
      where
        by_drive : (drive : Option Side) → driven_by controller.0 ≡ drive → driven_by controller.0 ≡ None
        by_drive None e = e
        by_drive (Some to) e = absurd (false≢true (sym (undriven (side_seen need.side) point sound (seen_in.took need.point) (to_machine rests.answered))
            ∙ (laws.represented_worlds_are_seen site table world seen_in.machine station is_table seen_in.represented).driven need.point controller.0 to controller.1 e))

  -- ---- an event

  record Resting (world : WorldState) (network : Links) : Type 0 where
    net : IsNetworkOf site world network
    reached : IsReached site table world
    talking : AreTalking talked site table station once is_table world network
    ended : Ended world → RestsOn world network

  module _ (happening : Event) (world : WorldState) (network : Links) (can : CanBe site table happening world network) (before : Resting world network) where
    abbrev behind : WorldState
    behind = happens site table happening world

    abbrev next : Links
    next = run_links (events_of site table happening world) network

    net_then : IsNetworkOf site behind next
    net_then = laws.networks_follow_their_worlds site table happening world network station once before.net can.may

    reached_then : IsReached site table behind
    reached_then = laws.reached_worlds_are_safe_on site table happening world before.reached can.may

    route : (route : RouteState) × (slice_get world.interlocking.ixl.routes k ≡ Some route)
    route =
        let many = (seen_in world network before.net before.reached).represented.station.routes
        in let inside = slice_get_within table.rows k row row_there
        in at_place world.interlocking.ixl.routes k (omega (arith, many, inside))

    rested : Ended behind → RestsOn world network
    rested ended = choose (none_or need.until some route.0.phase)
      where
        by_phase : (p : Phase) → route.0.phase ≡ p → was_authorised p ≡ true → freed_sections p < need.until → RestsOn world network
        by_phase Phase.Free e authority awaits = absurd (false≢true authority)
        by_phase Phase.Waiting e authority awaits = absurd (false≢true authority)
        by_phase Phase.Proceeding e authority awaits = rests_on world network before.net before.reached
            (authority_rests laws site table once station is_table world before.reached k row route.0 need (row_there, route.1) within (inl e))
        by_phase Phase.Withdrawn e authority awaits = rests_on world network before.net before.reached
            (authority_rests laws site table once station is_table world before.reached k row route.0 need (row_there, route.1) within (inr e))
        by_phase (Phase.Ended clock done) e authority awaits = before.ended (route.0, route.1, record { clock = clock; done = done; ended = e; awaits = awaits })

        choose : HoldsNone need.until route.0.phase ⊎ ((was_authorised route.0.phase ≡ true) × (is_set route.0.phase ≡ true) × (freed_sections route.0.phase < need.until)) → RestsOn world network
        choose (inl none) = absurd (ended_before site table k row row_there need within happening world (route.0, route.1, none) ended)
        choose (inr holds) = by_phase route.0.phase refl holds.0 holds.2

    -- one end of the link is in the connection in which it was
    one_end : ((next.ends link).client.connection ≡ (network.ends link).client.connection) ⊎ ((next.ends link).server.connection ≡ (network.ends link).server.connection)
    one_end = choose (one_stays site table world happening)
      where
        there : (c : ClockedControllerState PointState) × (slice_get world.points need.point ≡ Some c)
        there = controller world network before.net before.reached

        end_there : (w : WorldState) (n : Links) → IsNetworkOf site w n → slice_get w.points need.point ≡ Some there.0 → (n.ends link).server.connection ≡ there.0.connection
        end_there w n is e =
            let s = is.are.servers link id.0 id.1
            in let found = of_second (map end_of_server w.signals) (map end_of_server w.points) _ (length site.signals) need.point (end_of_server there.0)
            (map_length end_of_server w.signals ∙ is.whole.signals) (mapped end_of_server w.points need.point there.0 e)
            in s.connection_is ∙ ap (λ (kept : ServerEnd). kept.connection) (same_Some s.kept (end_of_server there.0) (sym s.there ∙ found))

        choose : (behind.interlocking.connections ≡ world.interlocking.connections) ⊎ (behind.points ≡ world.points)
            → ((next.ends link).client.connection ≡ (network.ends link).client.connection) ⊎ ((next.ends link).server.connection ≡ (network.ends link).server.connection)
        choose (inl same) = inl (same_Some _ _ (sym (net_then.are.clients link id.0 id.1).connection_is
            ∙ (ap (λ (connections : List (Option ℕ)). slice_get connections link) same ∙ (before.net.are.clients link id.0 id.1).connection_is)))
        choose (inr same) = inr (end_there behind next net_then (ap (λ (points : List (ClockedControllerState PointState)). slice_get points need.point) same ∙ there.1)
            ∙ sym (end_there world network before.net there.1))

    no_move : Ended behind → AddsNoMove (network.ends link).client.given (next.ends link).client.given
    no_move ended =
        let f = few
        in let many = net_then.whole.clients.known_points
        in let known = at_place behind.interlocking.ixl.known_points need.point (omega (arith, f, many))
        in event_none site table k row row_there need within laws.move_is_given_where_due (holds_each site table is_table) talked laws.written_telegram_is_read is_table few talked.deliveries_may_come_links happening world network can
        (record {
          talking = record { stands = before.talking.stands.clients; speaks = before.talking.matching.clients; talk = before.talking.talk };
          there = (route.0, route.1, tt);
          gave_is = refl;
        }) known.0 known.1 ended

    ended_on : Ended behind → RestsOn behind next
    ended_on ended = record {
      lies = (rests.lies.0, lies_still site table world need.point (still world network before.net before.reached rests) happening can.may ∙ rests.lies.1, rests.lies.2);
      answered = answered_on laws site link below (side_seen need.side) (events_of site table happening world) world behind network before.net net_then (no_move ended) one_end
          (most behind next net_then reached_then) rests.answered;
    }
      where
        rests : RestsOn world network
        rests = rested ended

    resting_on : Resting behind next
    resting_on = record {
      net = net_then;
      reached = reached_then;
      talking = talking_on talked site table station once is_table happening world network can before.talking;
      ended = ended_on;
    }

  -- ---- every list of events

  resting_first : (outset : Outset) → IsOutsetOf site outset → Resting (world_at site table outset) (begun (names_at site) starts_at_zero)
  unfolding world_at
  resting_first outset lies = record {
    net = record {
      are = talked.a_station_begins_its_links site table outset lies;
      lawful = laws.lawful_worlds_stay_lawful_starts (links site) (names_at site) starts_at_zero (talked.layouts_name_their_links site station once);
      whole = (talked.stations_have_links_first site table outset station lies).whole;
    };
    reached = record { outset = outset; events = []; lies = lies; can = tt; after = refl };
    talking = talking_first talked site table station once is_table outset;
    ended = λ ended. absurd (new_ended site table k row row_there need within at_zero ended);
  }

  pub held_rests : (world : WorldState) (reached : IsReached site table world) (route : RouteState) → IsRouteOf table world.interlocking.ixl k row route → HoldsWithAuthority need route
      → RestsIn laws site table once station is_table world reached need.point need.side
  held_rests world reached route is holds = by_phase route.phase refl holds.0 holds.1
    where
      held : HasHeld talked site table station once Resting resting_first resting_on world
      held = always_held talked site table station once Resting resting_first resting_on world reached

      by_phase : (p : Phase) → route.phase ≡ p → was_authorised p ≡ true → freed_sections p < need.until
          → RestsIn laws site table once station is_table world reached need.point need.side
      by_phase Phase.Free e authority awaits = absurd (false≢true authority)
      by_phase Phase.Waiting e authority awaits = absurd (false≢true authority)
      by_phase Phase.Proceeding e authority awaits = authority_rests laws site table once station is_table world reached k row route need is within (inl e)
      by_phase Phase.Withdrawn e authority awaits = authority_rests laws site table once station is_table world reached k row route need is within (inr e)
      by_phase (Phase.Ended clock done) e authority awaits = rests_there world (links_in held.has) held.holds.net reached
          (held.holds.ended (route, is.1, record { clock = clock; done = done; ended = e; awaits = awaits }))
