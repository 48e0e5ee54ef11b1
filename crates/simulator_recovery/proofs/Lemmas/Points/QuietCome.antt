-- The report of a move that is out comes, and no other move is given with it, where each route that waits for the point wants it at the side that is told.
use Rattle.simulator_recovery.proofs.Words.Basics.{◌≡◌, inl, ℕ, ◌<◌, ◌∙◌, Bool, true, false, List, [], ◌∷◌, ◌++◌, append_assoc, length, Some, slice_get, refl, sym, ap, subst, arith, length-append, same_Some}
use Rattle.simulator_recovery.proofs.Words.Links.{Each}
use Rattle.simulator_recovery.proofs.Words.Controllers.{Message, PointPosition, Side, item_of, own_report}
use Rattle.simulator_recovery.proofs.Words.Interlockings.{IsTableOf, PeerState, HoldsPoint, IsHeldAt, IxlState, KnownPointState, KnownSignalState, SitedTable, Table}
use Rattle.simulator_recovery.proofs.Words.Stations.{Site, Point as PointEntry, Once, IsStation, Event, Flowing, position_of, point_link, WorldState, IsStanding, links_in, IsPeer, IsWhole, IsReached, IsTakenOf}
use Rattle.simulator_recovery.proofs.Words.Recovery.{IsOccupancy, NoneWaitsFor, TakesReport, side_told, reports_in, IsOccupancyElsewhere, IsReadyOn, IsClientUp, Throughout, good_rounds, AwaitsMove, LawsBelow, RequestLaw}
use Rattle.simulator_recovery.proofs.Lemmas.Ground.AtLink.{mapped, of_second}
use Rattle.simulator_recovery.proofs.Lemmas.Ground.ControllersOnLinks.{lists_of}
use Rattle.simulator_recovery.proofs.Lemmas.RoutesComing.DueGiven.{waiting_is}
use Rattle.simulator_recovery.proofs.Lemmas.RoutesComing.HeldNeeds.{agree, in_order_of}
use Rattle.simulator_recovery.proofs.Lemmas.RoutesComing.DueRoutes.{always_apart}
use Rattle.simulator_recovery.proofs.Lemmas.RoutesComing.HeldRoutes.{Fate, has_come, still_out}
use Rattle.simulator_recovery.proofs.Lemmas.Points.KnownAlways.{knowing_held}
use Rattle.simulator_recovery.proofs.Lemmas.Points.KnownReports.{count_in, report_tells, took_in}
use Rattle.simulator_recovery.proofs.Lemmas.Ground.EndCalls.{map_length}
use Rattle.simulator_recovery.proofs.Lemmas.Rounds.FlowsStay.{same_front}
use Rattle.simulator_recovery.proofs.Lemmas.Points.QuietOut.{Awaited, WantsSide, awaited_on, entry, peer}
use Rattle.simulator_recovery.proofs.Lemmas.Points.QuietRounds.{available_not, ready_up}
use Rattle.simulator_recovery.proofs.Lemmas.Points.QuietBase.{AsksNothing, OnlyWait}
use Rattle.simulator_recovery.proofs.Lemmas.Points.QuietRest.{rounds_on, EachKeeps}
use Rattle.simulator_recovery.proofs.Lemmas.Rounds.Rounds.{IsAt}
use Rattle.simulator_recovery.proofs.Lemmas.RoutesComing.RoutesCome.{point_up}
use Rattle.simulator_recovery.proofs.Lemmas.Sections.SectionsInTime.{HoldsOfRounds}
use Rattle.simulator_recovery.proofs.Lemmas.Points.SidesRoutes.{holds_point}
use Rattle.simulator_recovery.proofs.Lemmas.Talk.StationTalk.{took}

-- where set routes hold a point, each that waits for it wants it at their side
pub wanted_where_held : RequestLaw → (site : Site) (table : Table) → IsTableOf site table → (world : WorldState) → IsReached site table world → (point : ℕ) (side : Side)
    → IsHeldAt table world.interlocking.ixl point side → OnlyWait (WantsSide table point side) world.interlocking.ixl.routes
wanted_where_held request site table is_table world reached point side held number route there waits goes_on row need row_there within here =
    agree table (in_order_of site table is_table) world.interlocking.ixl.routes (always_apart request site table world reached) own.0 held.0 own.1 held.1 own.2 held.2 need.point need.side side
    own.3.0 held.3.0 own.3.1 held.3.1 own.4 (subst (λ (p : ℕ). HoldsPoint held.1 held.2.phase p side) here held.4)
  where
    own : IsHeldAt table world.interlocking.ixl need.point need.side
    own = holds_point site table is_table world.interlocking.ixl number row need row_there within (route, there, inl (waiting_is route.phase waits, goes_on))

-- where none holds it, none waits for it but cancelled ones
pub none_waits_unheld : (site : Site) (table : Table) → IsTableOf site table → (ixl : IxlState) (point : ℕ) → ((side : Side) → IsHeldAt table ixl point side → ⊥) → NoneWaitsFor table ixl point
none_waits_unheld site table is_table ixl point unheld number row route need is within same waits = choose route.cancelled refl
  where
    choose : (b : Bool) → route.cancelled ≡ b → route.cancelled ≡ true
    choose true e = e
    choose false e = absurd (unheld need.side (subst (λ (p : ℕ). IsHeldAt table ixl p need.side) same
        (holds_point site table is_table ixl number row need is.0 within (route, is.1, inl (waiting_is route.phase waits, e)))))

-- a section that is occupied or left elsewhere is one that is occupied or left
pub elsewhere_occupancy : (section : ℕ) (one : Event) → IsOccupancyElsewhere section one → IsOccupancy one
elsewhere_occupancy section (Event.Occupy other occupancy) is = tt
elsewhere_occupancy section (Event.Request command) is = absurd is
elsewhere_occupancy section (Event.Tick node) is = absurd is
elsewhere_occupancy section (Event.Time elapsed clocks) is = absurd is
elsewhere_occupancy section (Event.Deliver node bytes) is = absurd is
elsewhere_occupancy section (Event.Lose bytes) is = absurd is
elsewhere_occupancy section (Event.Reach point position) is = absurd is
elsewhere_occupancy section (Event.Restart node clock first) is = absurd is

module _ (laws : LawsBelow) (sited : SitedTable) (station : IsStation sited.site) (once : Once sited.site) (is_table : IsTableOf sited.site sited.table) (point : ℕ) (side : Side)
    (few : point < length sited.site.points)
    (start : Flowing) (at : IsAt sited start.state) (held : IsHeldAt sited.table start.state.run.interlocking.ixl point side) (awaits : AwaitsMove point start.state.run)
    (front : List (List Event)) (asks : Each (Each AsksNothing) front) (ups : Throughout (λ w. IsClientUp (point_link sited.site point) w.run) front start)
    (ready : IsReadyOn sited.site (point_link sited.site point) start.state.run) (then_at : IsAt sited (good_rounds front start).state)
    (then_ready : IsReadyOn sited.site (point_link sited.site point) (good_rounds front start).state.run)
    (takes : TakesReport sited.site point side start.state.run (good_rounds front start).state.run) where
  abbrev site : Site
  site = sited.site

  abbrev table : Table
  table = sited.table

  abbrev link : ℕ
  link = point_link site point

  abbrev new : WorldState
  new = (good_rounds front start).state.run

  abbrev had : List (List ℕ)
  had = took (links_in takes.was) link

  abbrev count : ℕ
  count = length had

  abbrev item : List ℕ
  item = item_of takes.controller.host (own_report (Message.Point (PointPosition (position_of side))))

  abbrev AwaitedIn : WorldState → Type 0
  AwaitedIn = Awaited laws laws.move_is_given_where_due laws.request_is_accepted_where_admissible site table station once is_table point side few count

  abbrev of_client : PeerState
  of_client = peer laws laws.move_is_given_where_due laws.request_is_accepted_where_admissible site table station once is_table point side few count

  abbrev own_entry : (one : PointEntry) × (slice_get site.points point ≡ Some one)
  own_entry = entry laws laws.move_is_given_where_due laws.request_is_accepted_where_admissible site table station once is_table point side few count

  whole_at : (world : WorldState) → IsReached site table world → IsWhole site world
  whole_at world reached = (subst (IsStanding site) (sym reached.after) (laws.stations_have_links_run site table reached.outset reached.events station once reached.lies reached.can)).whole

  -- ---- from the first moment to the last

  first : AwaitedIn start.state.run
  first =
      let h = knowing_held laws site table station once is_table start.state.run at.reached
      in record {
        has = h.has;
        knowing = h.holds;
        known = awaits.0;
        there = awaits.1;
        fate = still_out awaits.2 (sym (count_in laws site station once start.state.run point few ready.up takes.connection takes.was_in h.has)
            ∙ count_in laws site station once start.state.run point few ready.up takes.connection takes.was_in takes.was);
        wanted = wanted_where_held laws.request_is_accepted_where_admissible site table is_table start.state.run at.reached point side held;
      }

  each_goes_on : EachKeeps sited AsksNothing (IsClientUp link) AwaitedIn
  each_goes_on = record {
    on = λ one world reached then_reached none asked up then_up so. awaited_on laws laws.move_is_given_where_due laws.request_is_accepted_where_admissible site table station once is_table point side few count one world reached
        none asked (point_up site world (whole_at world reached) point few up) (point_up site _ (whole_at _ then_reached) point few then_up) so;
  }

  asks_in_rounds : HoldsOfRounds AsksNothing
  asks_in_rounds = record { times = λ s. tt; comes = λ node bytes. tt; ticks = λ node. tt; reaches = λ place position. tt }

  ends : AwaitedIn new
  ends = rounds_on laws sited AsksNothing asks_in_rounds (IsClientUp link) AwaitedIn each_goes_on front start at asks (ready_up site link start.state.run ready) first ups

  -- ---- what was taken by then, on whatever links

  taken_is : took (links_in ends.has) link ≡ (had ++ item ∷ []) ++ takes.more
  taken_is = same_front (took (links_in ends.has) link) (took (links_in takes.has) link) here.rest there.rest (sym here.beginning ∙ there.beginning)
      (sym (count_in laws site station once new point few then_ready.up takes.connection takes.is_in ends.has)
      ∙ count_in laws site station once new point few then_ready.up takes.connection takes.is_in takes.has)
      ∙ (takes.taken ∙ sym (append_assoc had (item ∷ []) takes.more))
    where
      here : IsTakenOf (reports_in site point takes.connection new) ((links_in ends.has).ends link).client
      here = took_in laws site station once new point few then_ready.up takes.connection takes.is_in ends.has

      there : IsTakenOf (reports_in site point takes.connection new) ((links_in takes.has).ends link).client
      there = took_in laws site station once new point few then_ready.up takes.connection takes.is_in takes.has

  peer_is : ends.known.client.peer ≡ of_client
  peer_is = ends.knowing.stands.talking.matching.clients.points point ends.known ends.there own_entry.0 own_entry.1

  is_peer : IsPeer ends.known.client.peer
  is_peer = ends.knowing.stands.whole.clients.peers link ends.known.client (of_second _ _ _ (length site.signals) point ends.known.client
      (map_length (λ (k : KnownSignalState). k.client) new.interlocking.ixl.known_signals ∙ ends.knowing.stands.whole.clients.known_signals)
      (mapped (λ (k : KnownPointState). k.client) new.interlocking.ixl.known_points point ends.known ends.there))

  told : side_told of_client (had ++ item ∷ []) ≡ Some side
  told = ap (λ (q : PeerState). side_told q (had ++ item ∷ [])) (sym peer_is)
      ∙ report_tells laws.written_telegram_is_read site own_entry.0.name ends.known.client.peer is_peer peer_is takes.controller.host (lists_of ((links_in ends.has).ends link).server)
      (ends.knowing.stands.telling.of_points point takes.controller takes.there own_entry.0 own_entry.1) side had

  -- then no move is out
  pub none_out : AwaitsMove point new → ⊥
  none_out out = by_fate ends.fate
    where
      same : ends.known ≡ out.0
      same = same_Some ends.known out.0 (sym ends.there ∙ out.1)

      by_fate : Fate of_client side count ends.known (took (links_in ends.has) link) → ⊥
      by_fate (still_out still_awaits still_many) =
          let all = ap length taken_is
          in let a = length-append (had ++ item ∷ []) takes.more
          in let b = length-append had (item ∷ [])
          in omega (arith, all, a, b, still_many)
      by_fate (has_come come rest are come_long so) =
          let b = length-append had (item ∷ [])
          in let come_is = same_front come (had ++ item ∷ []) rest takes.more (sym are ∙ taken_is) (omega (arith, come_long, b))
          in available_not ends.known (so (ap (side_told of_client) come_is ∙ told)).0 (ap (λ (k : KnownPointState). k.client.stage) same ∙ out.2)
