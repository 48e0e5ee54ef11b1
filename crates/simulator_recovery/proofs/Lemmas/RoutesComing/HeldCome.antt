-- A point of a set route comes to be known at the side at which the route requires it, once the report of its move has come.
use Rattle.simulator_recovery.proofs.Words.Basics.{◌≡◌, ℕ, suc, ◌<◌, ◌≤◌, ◌∙◌, List, [], ◌∷◌, ◌++◌, append_assoc, length, Some, slice_get, refl, sym, ap, subst, arith, Contains, length-append}
use Rattle.simulator_recovery.proofs.Words.Links.{Each}
use Rattle.simulator_recovery.proofs.Words.Controllers.{Message, PointPosition, item_of, own_report}
use Rattle.simulator_recovery.proofs.Words.Interlockings.{IsTableOf, PeerState, Known, KnownPointState, KnownSignalState, Need, Row, SitedTable}
use Rattle.simulator_recovery.proofs.Words.Stations.{Site, Point as PointEntry, Once, IsStation, Event, Flowing, position_of, round, links, point_link, WorldState, links_in, IsPeer, IsReached, IsTakenOf}
use Rattle.simulator_recovery.proofs.Words.Recovery.{TakesReport, TakesReportBehind, side_told, reports_in, KeepsSetting, IsReadyOn, ready_rounds, AreBelowLimit, IsKnownWithin, StaysSet, HasTime, IsWork, all_tried, good_rounds, AwaitsMove, LawsBelow}
use Rattle.simulator_recovery.proofs.Lemmas.Ground.AtLink.{mapped, of_second}
use Rattle.simulator_recovery.proofs.Lemmas.Ground.ControllersOnLinks.{lists_of}
use Rattle.simulator_recovery.proofs.Lemmas.RoutesComing.HeldNeeds.{needs_there}
use Rattle.simulator_recovery.proofs.Lemmas.RoutesComing.HeldRounds.{below_front, fewer, set_front}
use Rattle.simulator_recovery.proofs.Lemmas.RoutesComing.HeldRoutes.{Fate, Followed, followed_on, has_come, peer, still_out}
use Rattle.simulator_recovery.proofs.Lemmas.Points.KnownAlways.{knowing_held}
use Rattle.simulator_recovery.proofs.Lemmas.Points.KnownReports.{count_in, report_tells, took_in}
use Rattle.simulator_recovery.proofs.Lemmas.Ground.EndCalls.{at_place, each_both, map_length}
use Rattle.simulator_recovery.proofs.Lemmas.Points.MovesAnswered.{rounds_both}
use Rattle.simulator_recovery.proofs.Lemmas.Rounds.FlowsStay.{each_split, same_front}
use Rattle.simulator_recovery.proofs.Lemmas.Links.Ready.{links_ready}
use Rattle.simulator_recovery.proofs.Lemmas.Rounds.Rounds.{reached_on, rounds_reached}
use Rattle.simulator_recovery.proofs.Lemmas.RoutesComing.RoutesCome.{goes_behind}
use Rattle.simulator_recovery.proofs.Lemmas.Talk.StationTalk.{took}
use Rattle.simulator_recovery.proofs.Lemmas.Windows.WindowsAlone.{below_two}

module _ (laws : LawsBelow) (between : List Event) (later_rounds more : List (List Event)) (flowing : Flowing) (number : ℕ) (row : Row) (need : Need) (once : Once flowing.state.sited.site)
    (station : IsStation flowing.state.sited.site) (is_table : IsTableOf flowing.state.sited.site flowing.state.sited.table)
    (reached : IsReached flowing.state.sited.site flowing.state.sited.table flowing.state.run) (work : Each IsWork between)
    (works : Each (Each IsWork) (later_rounds ++ more)) (can : HasTime (suc (length (later_rounds ++ more))) flowing.state.run) (long : ready_rounds ≤ suc (length later_rounds))
    (row_there : slice_get flowing.state.sited.table.rows number ≡ Some row) (within : Contains row.needs need) (below : AreBelowLimit flowing.state.sited.site row (later_rounds ++ more)
    (all_tried between (round flowing)))
    (set : StaysSet number row more (good_rounds (between ∷ later_rounds) flowing)) (awaits : AwaitsMove need.point (good_rounds (between ∷ later_rounds) flowing).state.run)
    (behind : TakesReportBehind flowing.state.sited.site need.point need.side more (good_rounds (between ∷ later_rounds) flowing)) where
  abbrev sited : SitedTable
  sited = flowing.state.sited

  abbrev site : Site
  site = sited.site

  abbrev link : ℕ
  link = point_link site need.point

  abbrev next : Flowing
  next = all_tried between (round flowing)

  abbrev start : Flowing
  start = good_rounds later_rounds next

  -- the rounds up to the one in which the report is taken
  abbrev front : List (List Event)
  front = behind.front

  abbrev new : Flowing
  new = good_rounds front start

  abbrev takes : TakesReport site need.point need.side start.state.run new.state.run
  takes = behind.takes

  all_few : (other : Need) → Contains row.needs other → other.point < length site.points
  all_few other at = needs_there site sited.table station is_table number row row_there other at

  few : need.point < length site.points
  few = all_few need within

  below_links : link < links site
  below_links = omega (arith, few)

  -- ---- what is so of these rounds

  same_rounds : later_rounds ++ more ≡ (later_rounds ++ front) ++ behind.rest
  same_rounds = ap (λ (list : List (List Event)). later_rounds ++ list) behind.parts ∙ sym (append_assoc later_rounds front behind.rest)

  front_below : AreBelowLimit site row (later_rounds ++ front) next
  front_below = below_front site row (later_rounds ++ front) behind.rest next (subst (λ (list : List (List Event)). AreBelowLimit site row list next) same_rounds below)

  front_can : HasTime (suc (length (later_rounds ++ front))) flowing.state.run
  front_can = fewer (later_rounds ++ front) behind.rest flowing.state.run (subst (λ (list : List (List Event)). HasTime (suc (length list)) flowing.state.run) same_rounds can)

  front_set : StaysSet number row front start
  front_set = set_front number row front behind.rest start (subst (λ (list : List (List Event)). StaysSet number row list start) behind.parts set)

  first_works : Each (Each IsWork) later_rounds
  first_works = (each_split (Each IsWork) later_rounds more works).0

  front_works : Each (Each IsWork) front
  front_works = (each_split (Each IsWork) front behind.rest (subst (Each (Each IsWork)) behind.parts (each_split (Each IsWork) later_rounds more works).1)).0

  start_sited : start.state.sited ≡ sited
  start_sited = (rounds_reached laws sited (between ∷ later_rounds) flowing (record { same = refl; reached = reached })).same

  front_kept : Each (Each (KeepsSetting site number)) front
  front_kept = subst (λ (s : SitedTable). Each (Each (KeepsSetting s.site number)) front) start_sited front_set.kept

  reached_behind : (list : List (List Event)) → IsReached site sited.table (good_rounds list start).state.run
  reached_behind list = subst (λ (f : Flowing). IsReached site sited.table f.state.run) (rounds_both later_rounds list next)
      (reached_on laws (between ∷ (later_rounds ++ list)) flowing reached)

  start_ready : IsReadyOn site link start.state.run
  start_ready = links_ready laws between later_rounds flowing link once station is_table reached work first_works
      (fewer later_rounds front flowing.state.run front_can) below_links long
      (λ before are. below_two link later_rounds front next before (front_below.points need within before are))

  new_ready : IsReadyOn site link new.state.run
  new_ready = subst (λ (f : Flowing). IsReadyOn site link f.state.run) (rounds_both later_rounds front next)
      (links_ready laws between (later_rounds ++ front) flowing link once station is_table reached work
      (each_both (Each IsWork) later_rounds front first_works front_works) front_can below_links
      (let all = length-append later_rounds front in omega (arith, all, long)) (front_below.points need within))

  -- ---- the point at the first moment, and at the last

  -- what was taken at the first
  abbrev had : List (List ℕ)
  had = took (links_in takes.was) link

  abbrev count : ℕ
  count = length had

  abbrev item : List ℕ
  item = item_of takes.controller.host (own_report (Message.Point (PointPosition (position_of need.side))))

  abbrev FollowedAt : WorldState → Type 0
  FollowedAt = Followed laws laws laws sited station once is_table number row row_there need within few count

  abbrev of_client : PeerState
  of_client = peer laws laws laws sited station once is_table number row row_there need within few count

  first : FollowedAt start.state.run
  first =
      let h = knowing_held laws site sited.table station once is_table start.state.run (reached_behind [])
      in record {
        has = h.has;
        knowing = h.holds;
        known = awaits.0;
        there = awaits.1;
        fate = still_out awaits.2 (sym (count_in laws site station once start.state.run need.point few start_ready.up takes.connection takes.was_in h.has)
            ∙ count_in laws site station once start.state.run need.point few start_ready.up takes.connection takes.was_in takes.was);
      }

  ends : FollowedAt new.state.run
  ends = (goes_behind laws between flowing number row once station is_table reached work
      row_there later_rounds front first_works front_works front_can long front_below front_kept all_few FollowedAt
      (followed_on laws laws laws sited station once is_table number row row_there need within few count) front_set.stays_clear front_set.course first).1

  -- what was taken by then, on whatever links
  taken_is : took (links_in ends.has) link ≡ (had ++ item ∷ []) ++ takes.more
  taken_is = same_front (took (links_in ends.has) link) (took (links_in takes.has) link) here.rest there.rest (sym here.beginning ∙ there.beginning)
      (sym (count_in laws site station once new.state.run need.point few new_ready.up takes.connection takes.is_in ends.has)
      ∙ count_in laws site station once new.state.run need.point few new_ready.up takes.connection takes.is_in takes.has)
      ∙ (takes.taken ∙ sym (append_assoc had (item ∷ []) takes.more))
    where
      here : IsTakenOf (reports_in site need.point takes.connection new.state.run) ((links_in ends.has).ends link).client
      here = took_in laws site station once new.state.run need.point few new_ready.up takes.connection takes.is_in ends.has

      there : IsTakenOf (reports_in site need.point takes.connection new.state.run) ((links_in takes.has).ends link).client
      there = took_in laws site station once new.state.run need.point few new_ready.up takes.connection takes.is_in takes.has

  -- its report tells this side
  abbrev entry : (one : PointEntry) × (slice_get site.points need.point ≡ Some one)
  entry = at_place site.points need.point few

  peer_is : ends.known.client.peer ≡ of_client
  peer_is = ends.knowing.stands.talking.matching.clients.points need.point ends.known ends.there entry.0 entry.1

  is_peer : IsPeer ends.known.client.peer
  is_peer = ends.knowing.stands.whole.clients.peers link ends.known.client (of_second _ _ _ (length site.signals) need.point ends.known.client
      (map_length (λ (k : KnownSignalState). k.client) new.state.run.interlocking.ixl.known_signals ∙ ends.knowing.stands.whole.clients.known_signals)
      (mapped (λ (k : KnownPointState). k.client) new.state.run.interlocking.ixl.known_points need.point ends.known ends.there))

  told : side_told of_client (had ++ item ∷ []) ≡ Some need.side
  told = ap (λ (q : PeerState). side_told q (had ++ item ∷ [])) (sym peer_is)
      ∙ report_tells laws.written_telegram_is_read site entry.0.name ends.known.client.peer is_peer peer_is takes.controller.host (lists_of ((links_in ends.has).ends link).server)
      (ends.knowing.stands.telling.of_points need.point takes.controller takes.there entry.0 entry.1) need.side had

  by_fate : Fate of_client need.side count ends.known (took (links_in ends.has) link) → Known new.state.run.interlocking.ixl need.point need.side
  by_fate (still_out still_awaits still_many) =
      let all = ap length taken_is
      in let a = length-append (had ++ item ∷ []) takes.more
      in let b = length-append had (item ∷ [])
      in absurd (omega (arith, all, a, b, still_many))
  by_fate (has_come come rest are come_long so) =
      let b = length-append had (item ∷ [])
      in let same = same_front come (had ++ item ∷ []) rest takes.more (sym are ∙ taken_is) (omega (arith, come_long, b))
      in (ends.known, ends.there, so (ap (side_told of_client) same ∙ told))

  pub awaited_comes : IsKnownWithin need more start
  awaited_comes = record { front = front; rest = behind.rest; parts = behind.parts; known = by_fate ends.fate }
