-- A move that is out goes to the side at which set routes hold its point, after every list of events.
use Rattle.simulator_recovery.proofs.Words.Basics.{◌≡◌, ◌⊎◌, inl, inr, ℕ, ◌<◌, ◌∙◌, Bool, true, false, List, [], ◌∷◌, ◌++◌, length, Some, slice_get, if◌then◌else◌, refl, sym, ap, subst, arith, Contains, false≢true, same_Some, slice_get_within, None}
use Rattle.simulator_recovery.proofs.Words.Links.{settled, AreTimely, reading_of, AreLinks, Links, MayRunLinks, begun as begun_links, run_links, LinkState, is_up, all_made}
use Rattle.simulator_recovery.proofs.Words.Controllers.{Side}
use Rattle.simulator_recovery.proofs.Words.Interlockings.{IsTableOf, ClientState, is_available, is_ready, new_client, LinkCall, clocked, fallen, Move, Stage, IsAvailable, IsHeldAt, count, is_move_due, moving, moving_one, IxlState, KnownPointState, all_clocked, clocked_known_point, stepped, Point, StepSoFar, begun_with, empty_outbox, Need, Row, Table, Command, given, refusal, RouteState}
use Rattle.simulator_recovery.proofs.Words.Stations.{Site, Once, IsStation, Event, Beginning, Outset, IsOutsetOf, at_zero, new_ixl, new_known_point_of, world_at, happens, interlocking_stepped, interlocking_step, AreLinksOf, names_at, starts_at_zero, key_of, links, point_link, WorldState, events_of, interlocking_events, MayComeWith, IsWhole, IsReached}
use Rattle.simulator_recovery.proofs.Words.Machine.{given_after}
use Rattle.simulator_recovery.proofs.Words.Recovery.{commanded, ClientStandsAt, EachClient, SpeaksAt, HaveMovesWhereHeld, IsLast, MovesGoWhereHeld, LawsBelow, MoveLaw, RequestLaw}
use Rattle.simulator_spec.specs.ixl_spec.Step as ixl
use Rattle.simulator_spec.specs.layout.declared.ids.PointId.{PointId}
use Rattle.simulator_recovery.proofs.Lemmas.Ground.MovedAtOnce.{held_unmoved, move_leaves_routes}
use Rattle.simulator_recovery.proofs.Lemmas.Ground.SectionsEvents.{CanBe, HasHeld, always_held, event_kept}
use Rattle.simulator_recovery.proofs.Lemmas.Talk.AlwaysExpected.{AreTalking, talking_first, talking_on}
use Rattle.simulator_recovery.proofs.Lemmas.Talk.ClientLinks.{clocked_peer}
use Rattle.simulator_recovery.proofs.Lemmas.RoutesComing.DueGiven.{agreed, waits_there}
use Rattle.simulator_recovery.proofs.Lemmas.RoutesComing.HeldNeeds.{Holder, at_moves, heard_in, holder, in_order_of, routes_apart}
use Rattle.simulator_recovery.proofs.Lemmas.RoutesComing.DueRoutes.{PointsApart}
use Rattle.simulator_recovery.proofs.Lemmas.Ground.DueShapes.{along_within, over_keeps, route_keeps, where_keeps}
use Rattle.simulator_recovery.proofs.Lemmas.Ground.IxlClients.{mapped_at, point_client}
use Rattle.simulator_recovery.proofs.Lemmas.Ground.IxlSoFar.{at_node}
use Rattle.simulator_recovery.proofs.Lemmas.RoutesComing.NothingDueMoves.{move_leaves}
use Rattle.simulator_recovery.proofs.Lemmas.RoutesComing.NothingDueStops.{HoldsEach, holds_each}
use Rattle.simulator_recovery.proofs.Lemmas.Points.SidesStep.{stands, Gone, On, behind_moves_on, given_on, move_on, so_far, until_moves_on}
use Rattle.simulator_recovery.proofs.Lemmas.Points.SidesRoutes.{given_back, until_moves}
use Rattle.simulator_recovery.proofs.Lemmas.Talk.StationTalk.{SameLists, TalkOf, before, clocked_link, gave, gave_behind_step}

-- ---- at the clock of a step

clocked_awaits : (now : ℕ) (client : ClientState) → (clocked now client).stage ≡ Stage.AwaitsReport → client.stage ≡ Stage.AwaitsReport
unfolding clocked
clocked_awaits now client e = (stands (record client { link = settled now client.link }) e).awaits

clocked_busy : (now : ℕ) (client : ClientState) → client.stage ≡ Stage.AwaitsReport → is_available (clocked now client).stage ≡ true → ⊥
unfolding clocked fallen
clocked_busy now client awaits = choose (is_up (settled now client.link).phase)
  where
    at : ClientState
    at = record client { link = settled now client.link }

    choose : (b : Bool) → is_available (if b then at else record at { stage = Stage.Outside }).stage ≡ true → ⊥
    choose true e = false≢true (ap is_available (sym awaits) ∙ e)
    choose false e = false≢true e

-- ---- a step

module _ (laws : LawsBelow) (move : MoveLaw) (request : RequestLaw) (site : Site) (table : Table) (is_table : IsTableOf site table) (input : ixl.Input) (connection : ℕ) (world : WorldState) (network : Links)
    (named : AreLinks (links site) (names_at site)) (whole : IsWhole site world) (timely : AreTimely (links site) (names_at site) network) (are : AreLinksOf site world network) (comes : MayComeWith site input connection network)
    (may : MayRunLinks (links site) (names_at site) (interlocking_events site table input connection world.interlocking) network) (stand : EachClient (ClientStandsAt site) world.interlocking.ixl) (speaks : EachClient (SpeaksAt site) world.interlocking.ixl)
    (talk : TalkOf site world.interlocking.ixl network) (reached : IsReached site table world) (go : MovesGoWhereHeld site table world.interlocking.ixl network) where
  abbrev now : ℕ
  now = reading_of world.interlocking.clock

  abbrev clocked_part : StepSoFar
  clocked_part = begun_with (all_clocked now world.interlocking.ixl) empty_outbox

  abbrev done : StepSoFar
  done = interlocking_step site table input world.interlocking

  module _ (point : ℕ) (side : Side) (held : IsHeldAt table done.ixl point side) where
    abbrev link : LinkState
    link = (network.ends (point_link site point)).client.link

    abbrev Onward : StepSoFar → Type 0
    Onward = On site now connection point side world.interlocking.ixl.known_points link (gave network (point_link site point))

    abbrev GoneSo : ClientState → List LinkCall → Type 0
    GoneSo = Gone site now connection point side world.interlocking.ixl.known_points link (gave network (point_link site point))

    clocked_on : Onward clocked_part
    unfolding all_clocked at_node all_made given_after
    clocked_on known e = subst (λ (k : KnownPointState). GoneSo k.client []) (sym found.2) (subst (λ (c : ClientState). GoneSo c []) (sym (point_client _ _ _)) gone)
      where
        found : (x : KnownPointState) × (slice_get world.interlocking.ixl.known_points point ≡ Some x) × (known ≡ clocked_known_point now x)
        found = mapped_at (clocked_known_point now) world.interlocking.ixl.known_points point known e

        gone : GoneSo (clocked now found.0.client) []
        gone = record {
          old = found.0;
          there = found.1;
          link_is = clocked_link now found.0.client ∙ ((before laws site table is_table input connection world network named whole timely are comes may stand speaks talk).points point found.0 found.1).link_is;
          peer_is = clocked_peer now found.0.client;
          way = λ awaits. inl (clocked_awaits now found.0.client awaits, refl);
        }

    abbrev start : StepSoFar
    start = at_moves move request site table is_table world reached input point side

    abbrev apart : PointsApart table start.ixl.routes
    apart = routes_apart move request site table is_table world reached input point side

    abbrev holds : HoldsEach table
    holds = holds_each site table is_table

    is_held : Holder move now table holds (in_order_of site table is_table) start.ixl.routes apart point side
    unfolding interlocking_stepped
    is_held = holder move request site table is_table world reached input point side held

    -- a set route holds the point, and held it before: so no command moves it
    unmoved : (place : PointId) (to : Side) → input ≡ ixl.Commands (Command.Move place to) → refusal now table (Command.Move place to) clocked_part.ixl ≡ None → place.0 ≡ point → ⊥
    unmoved place to is none same =
        let was = until_moves request now table point side (heard_in site table input world) (is_held.number, is_held.row, is_held.route, (is_held.row_there, is_held.there), is_held.held)
        in let need = was.4.1.0
        in held_unmoved now table clocked_part.ixl was.0 was.1 was.2 need was.3.0 (ap (λ (routes : List RouteState). slice_get routes was.0) (sym (move_leaves_routes now table (key_of site) place to input clocked_part is)) ∙ was.3.1)
        was.4.1.1 was.4.0 was.4.1.4 place to (same ∙ sym was.4.1.2) none

    start_on : Onward start
    start_on = until_moves_on site now connection point side world.interlocking.ixl.known_points link (gave network (point_link site point)) table (heard_in site table input world)
        (given_on site now connection point side world.interlocking.ixl.known_points link (gave network (point_link site point)) table (key_of site) input clocked_part
        (λ place to part is none on. move_on site now connection point side world.interlocking.ixl.known_points link (gave network (point_link site point)) place.0 to part
        (λ known same. absurd (unmoved place to is none (sym same))) on) clocked_on)

    -- ---- the fifth rule

    abbrev Moving : StepSoFar → Type 0
    Moving part = (part.ixl.routes ≡ start.ixl.routes) × Onward part

    one_moves : (number : ℕ) (need : Need) (row : Row) (part : StepSoFar) → Contains row.needs need → slice_get table.rows number ≡ Some row → Moving part → Moving (moving_one now table number need part)
    unfolding moving_one
    one_moves number need row part within row_there is = route_keeps Moving table number _ part (λ other one there here. where_keeps Moving (is_move_due table part.ixl number one need) part _ (λ due. (
      (move_leaves now need.point need.side part).routes ∙ is.0,
      move_on site now connection point side world.interlocking.ixl.known_points link (gave network (point_link site point)) need.point need.side part
          (λ known same. agreed move now table holds (in_order_of site table is_table) start.ixl.routes apart point side is_held known number need row one part within row_there here (waits_there table part.ixl number one need due) same is.0) is.1,
    )) is) is

    moving_moves : (number : ℕ) (part : StepSoFar) → Moving part → Moving (moving now table number part)
    unfolding moving
    moving_moves number part is = route_keeps Moving table number _ part (λ row one there here. along_within Moving (moving_one now table number) row.needs (λ need within q so. one_moves number need row q within there so) part is) is

    done_on : Onward done
    unfolding stepped moving
    done_on = behind_moves_on site now connection point side world.interlocking.ixl.known_points link (gave network (point_link site point)) table input _
        (over_keeps Moving (moving now table) moving_moves (count table) start (refl, start_on)).1

    -- ---- what is held was held

    held_before : (old : KnownPointState) → slice_get world.interlocking.ixl.known_points point ≡ Some old → old.client.stage ≡ Stage.AwaitsReport → IsHeldAt table world.interlocking.ixl point side
    unfolding all_clocked
    held_before old there awaits = given_back request now table point side clocked_part busy (key_of site) input
        (until_moves request now table point side (heard_in site table input world) (is_held.number, is_held.row, is_held.route, (is_held.row_there, is_held.there), is_held.held))
      where
        busy : IsAvailable clocked_part.ixl point → ⊥
        busy available =
            let found = mapped_at (clocked_known_point now) world.interlocking.ixl.known_points point available.0 available.1
            in let same : found.0 ≡ old = same_Some found.0 old (sym found.1 ∙ there)
            in clocked_busy now found.0.client (ap (λ (k : KnownPointState). k.client.stage) same ∙ awaits)
            (ap (λ (c : ClientState). is_available c.stage) (sym (ap (λ (k : KnownPointState). k.client) found.2 ∙ point_client _ _ _)) ∙ available.2)

    goes_so : (known : KnownPointState) → slice_get done.ixl.known_points point ≡ Some known → known.client.stage ≡ Stage.AwaitsReport
        → IsLast (commanded known.client.peer (Move side)) (gave (run_links (interlocking_events site table input connection world.interlocking) network) (point_link site point))
    goes_so known e awaits = choose (g.way awaits)
      where
        g : GoneSo known.client (at_node (Point point) done.calls)
        g = done_on known e

        within : point < length site.points
        within = let w = slice_get_within world.interlocking.ixl.known_points point g.old g.there in let many = whole.clients.known_points in omega (arith, w, many)

        given_is : gave (run_links (interlocking_events site table input connection world.interlocking) network) (point_link site point)
            ≡ so_far site now connection point side world.interlocking.ixl.known_points link (gave network (point_link site point)) (at_node (Point point) done.calls)
        given_is = gave_behind_step laws site table is_table input connection world network named whole timely are comes may stand speaks talk (Point point) within

        last_is : (list : List (List ℕ)) → IsLast (commanded g.old.client.peer (Move side)) list → gave (run_links (interlocking_events site table input connection world.interlocking) network) (point_link site point) ≡ list
            → IsLast (commanded known.client.peer (Move side)) (gave (run_links (interlocking_events site table input connection world.interlocking) network) (point_link site point))
        last_is list last same = record { front = last.front; are = same ∙ last.are ∙ ap (λ p. last.front ++ commanded p (Move side) ∷ []) (sym g.peer_is) }

        choose : ((g.old.client.stage ≡ Stage.AwaitsReport) × (so_far site now connection point side world.interlocking.ixl.known_points link (gave network (point_link site point)) (at_node (Point point) done.calls) ≡ gave network (point_link site point)))
            ⊎ IsLast (commanded g.old.client.peer (Move side)) (so_far site now connection point side world.interlocking.ixl.known_points link (gave network (point_link site point)) (at_node (Point point) done.calls))
            → IsLast (commanded known.client.peer (Move side)) (gave (run_links (interlocking_events site table input connection world.interlocking) network) (point_link site point))
        choose (inl (awaited, same)) = last_is (gave network (point_link site point)) (go point side g.old g.there awaited (held_before g.old g.there awaited)) (given_is ∙ same)
        choose (inr last) = last_is _ last given_is

  pub step_goes : MovesGoWhereHeld site table done.ixl (run_links (interlocking_events site table input connection world.interlocking) network)
  step_goes point side known e awaits held = goes_so point side held known e awaits

-- ---- every event, and every list of them

module _ (laws : LawsBelow) (site : Site) (table : Table) (station : IsStation site) (once : Once site) (is_table : IsTableOf site table) where
  -- what is known of a station before an event
  record Known (world : WorldState) (network : Links) : Type 0 where
    reached : IsReached site table world
    talking : AreTalking laws site table station once is_table world network

  record Going (world : WorldState) (network : Links) : Type 0 where
    known : Known world network
    go : MovesGoWhereHeld site table world.interlocking.ixl network

  same_go : (known : IxlState) (old new : Links) → SameLists old new → MovesGoWhereHeld site table known old → MovesGoWhereHeld site table known new
  same_go known old new same go point side one there awaits held = subst (IsLast (commanded one.client.peer (Move side))) (sym (same.given (point_link site point))) (go point side one there awaits held)

  -- an interlocking that was just made awaits nothing
  new_go : (begins : Beginning) (new : Links) → MovesGoWhereHeld site table (new_ixl site table begins) new
  unfolding new_ixl new_client
  new_go begins new point side one there awaits held =
      let made = mapped_at (new_known_point_of site begins) site.points point one there in absurd (false≢true (ap is_ready (sym (ap (λ (k : KnownPointState). k.client.stage) made.2) ∙ awaits)))

  going_on : (happening : Event) (world : WorldState) (network : Links) → CanBe site table happening world network → Going world network → Going (happens site table happening world) (run_links (events_of site table happening world) network)
  going_on happening world network can going = record {
    known = record {
      reached = laws.reached_worlds_are_safe_on site table happening world going.known.reached can.may;
      talking = talking_on laws site table station once is_table happening world network can going.known.talking;
    };
    go = event_kept laws laws.deliveries_may_come_links site table Known (MovesGoWhereHeld site table) same_go
        (λ input connection one old links_of now_can known go. step_goes laws laws.move_is_given_where_due laws.request_is_accepted_where_admissible site table is_table input connection old links_of now_can.can.named now_can.can.whole now_can.can.timely now_can.can.are now_can.comes
        now_can.may known.talking.stands.clients known.talking.matching.clients known.talking.talk known.reached go)
        (λ begins old one new whole lists known go. new_go begins new) happening world network can going.known going.go;
  }

  first_going : (outset : Outset) → IsOutsetOf site outset → Going (world_at site table outset) (begun_links (names_at site) starts_at_zero)
  unfolding world_at
  first_going outset lies = record {
    known = record {
      reached = record { outset = outset; events = []; lies = lies; can = tt; after = refl };
      talking = talking_first laws site table station once is_table outset;
    };
    go = new_go at_zero (begun_links (names_at site) starts_at_zero);
  }

  pub moves_go : (world : WorldState) → IsReached site table world → HaveMovesWhereHeld site table world
  moves_go world reached = record { has = held.has; go = held.holds.go }
    where
      held : HasHeld laws site table station once Going first_going going_on world
      held = always_held laws site table station once Going first_going going_on world reached
