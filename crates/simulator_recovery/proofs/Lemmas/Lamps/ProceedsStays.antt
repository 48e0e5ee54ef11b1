-- The aspect of a route that goes on proceeding stays at its lamp, round by round, whatever requests and occupancies come between the rounds.
use Rattle.simulator_recovery.proofs.Words.Basics.{◌≡◌, ℕ, suc, ◌+◌, ◌≤◌, List, [], ◌∷◌, ◌++◌, append_assoc, append-nil, length, map, Option, Some, None, slice_get, refl, sym, ap, subst, ◌∙◌, arith, length-append}
use Rattle.simulator_recovery.proofs.Words.Links.{Each, Links, LinksEvent, run_links}
use Rattle.simulator_recovery.proofs.Words.Controllers.{Aspect, Occupancy, SignalState}
use Rattle.simulator_recovery.proofs.Words.Interlockings.{IsTableOf, At, Row, SitedTable, Table}
use Rattle.simulator_recovery.proofs.Words.Stations.{Site, Once, IsStation, Event, Flowing, round, round_of_time, detector_stepped, happens, interlocking_stepped, sensed_by, shown_by, ClockedControllerState, WorldState, Played, after, IsReached}
use Rattle.simulator_recovery.proofs.Words.Recovery.{HaveRoomOn, StayBelowOn, StaysBelowLimit, all_events_tried, behind_time, calls_of_round, event_of, link_rounds, links_behind, time_of_round, HasTime, IsWork, all_tried, clocks_of, good_rounds, RouteProceeds, ProceedsAt, ProceedsThrough, Shows, ShowsThrough, LawsBelow}
use Rattle.simulator_recovery.proofs.Lemmas.Rounds.LinkRounds.{after_each, events_both}
use Rattle.simulator_recovery.proofs.Lemmas.Ground.EndCalls.{each_both}
use Rattle.simulator_recovery.proofs.Lemmas.Lamps.ProceedsRounds.{route_shows}
use Rattle.simulator_recovery.proofs.Lemmas.Links.Ready.{count_front, fewer_time}
use Rattle.simulator_recovery.proofs.Lemmas.Rounds.Rounds.{IsAt, round_reached, rounds_reached, tried_keeps}
use Rattle.simulator_recovery.proofs.Lemmas.Lamps.StopComes.{last_round}
use Rattle.simulator_recovery.proofs.Lemmas.Windows.WindowsAlone.{below_two, room_front}

-- ---- fewer calls stay below the limit, too

-- the calls of a round alone come before those of what is tried after it
calls_begin : (last : List Event) (flowing : Flowing) → calls_of_round last flowing
    ≡ calls_of_round [] flowing ++ all_events_tried last (after_each (map event_of (behind_time flowing)) (after flowing.state (round_of_time flowing.state.sited.site)))
calls_begin last flowing = events_both tried last timed ∙ ap (λ (l : List LinksEvent). l ++ all_events_tried last (after_each tried timed)) (sym (ap (λ (l : List Event). all_events_tried l timed) (append-nil tried)))
  where
    tried : List Event
    tried = map event_of (behind_time flowing)

    timed : Played
    timed = after flowing.state (round_of_time flowing.state.sited.site)

below_alone : (link : ℕ) (later_rounds : List (List Event)) (last : List Event) (flowing : Flowing) (before : Links) → StayBelowOn link (later_rounds ++ last ∷ []) flowing before → StayBelowOn link (later_rounds ++ [] ∷ []) flowing before
below_alone link [] last flowing before below =
    (room_front link (calls_of_round [] flowing) _ (run_links (time_of_round flowing) before) (subst (λ (l : List LinksEvent). HaveRoomOn link l (run_links (time_of_round flowing) before)) (calls_begin last flowing) below.0), tt)
below_alone link (first ∷ later_rounds) last flowing before below = (below.0, below_alone link later_rounds last (all_tried first (round flowing)) (links_behind first flowing before) below.1)

-- ---- requests and occupancies leave the lamps

sensed_signals : (site : Site) (occupancy : Occupancy) (reporter : Option (ℕ × ℕ)) (world : WorldState) → (sensed_by site occupancy reporter world).signals ≡ world.signals
unfolding detector_stepped
sensed_signals site occupancy None world = refl
sensed_signals site occupancy (Some reporter) world = refl

signals_same : (site : Site) (table : Table) (one : Event) (world : WorldState) → IsWork one → (happens site table one world).signals ≡ world.signals
unfolding happens interlocking_stepped
signals_same site table (Event.Request command) world work = refl
signals_same site table (Event.Occupy section occupancy) world work = sensed_signals site occupancy (slice_get table.reporters section.0) _
signals_same site table (Event.Tick node) world work = absurd work
signals_same site table (Event.Time elapsed clocks) world work = absurd work
signals_same site table (Event.Deliver node bytes) world work = absurd work
signals_same site table (Event.Lose bytes) world work = absurd work
signals_same site table (Event.Reach point position) world work = absurd work
signals_same site table (Event.Restart node clock first) world work = absurd work

tried_signals : (world : Played) (one : Event) → IsWork one → (after world one).run.signals ≡ world.run.signals
tried_signals world one work = tried_keeps (λ (w : Played). w.run.signals ≡ world.run.signals) world one refl (λ none. signals_same world.sited.site world.sited.table one world.run work)

work_signals : (between : List Event) (flowing : Flowing) → Each IsWork between → (all_tried between flowing).state.run.signals ≡ flowing.state.run.signals
work_signals [] flowing works = refl
work_signals (first ∷ others) flowing works = work_signals others (record flowing { state = after flowing.state first }) works.1 ∙ tried_signals flowing.state first works.0

shows_still : (signal : ℕ) (aspect : Aspect) (between : List Event) (flowing : Flowing) → Each IsWork between → Shows signal aspect flowing.state.run → Shows signal aspect (all_tried between flowing).state.run
shows_still signal aspect between flowing works shows = subst (λ (list : List (ClockedControllerState SignalState)). At list signal (λ controller. shown_by controller ≡ aspect)) (sym (work_signals between flowing works)) shows

-- ---- round by round

module _ (laws : LawsBelow) (between : List Event) (flowing : Flowing) (number : ℕ) (row : Row) (once : Once flowing.state.sited.site) (station : IsStation flowing.state.sited.site)
    (is_table : IsTableOf flowing.state.sited.site flowing.state.sited.table) (reached : IsReached flowing.state.sited.site flowing.state.sited.table flowing.state.run) (work : Each IsWork between) where
  abbrev behind : List (List Event) → Flowing
  behind rounds = good_rounds (between ∷ rounds) flowing

  at_behind : (rounds : List (List Event)) → IsAt flowing.state.sited (behind rounds).state
  at_behind rounds = rounds_reached laws flowing.state.sited (between ∷ rounds) flowing (record { same = refl; reached = reached })

  -- by the table of the first moment
  proceeds_here : (later_flowing : Flowing) → IsAt flowing.state.sited later_flowing.state → ProceedsAt number row later_flowing → RouteProceeds flowing.state.sited.table later_flowing.state.run.interlocking.ixl number row
  proceeds_here later_flowing at = subst (λ (s : SitedTable). RouteProceeds s.table later_flowing.state.run.interlocking.ixl number row) at.same

  -- after one more round, and what comes after it
  shows_behind : (later_rounds : List (List Event)) (last : List Event) → Each (Each IsWork) later_rounds → Each IsWork last → HasTime (suc (length (later_rounds ++ last ∷ []))) flowing.state.run → link_rounds ≤ suc (length later_rounds)
      → StaysBelowLimit flowing.state.sited.site row.entry (later_rounds ++ last ∷ []) (all_tried between (round flowing))
      → ProceedsAt number row (behind later_rounds) → ProceedsAt number row (round (behind later_rounds))
      → Shows row.entry row.aspect (all_tried last (round (behind later_rounds))).state.run
  shows_behind later_rounds last works last_works can long below was is =
      shows_still row.entry row.aspect last (round (behind later_rounds)) last_works (subst (λ (f : Flowing). Shows row.entry row.aspect f.state.run) one_more
      (route_shows laws between later_rounds flowing number row once station is_table reached work works time long
      (λ links_before are. below_alone row.entry later_rounds last (all_tried between (round flowing)) links_before (below links_before are))
      (proceeds_here (behind later_rounds) (at_behind later_rounds) was)
      (subst (λ (f : Flowing). RouteProceeds flowing.state.sited.table f.state.run.interlocking.ixl number row) (sym one_more) (proceeds_here (round (behind later_rounds)) (round_reached laws flowing.state.sited (behind later_rounds) (at_behind later_rounds)) is))))
    where
      one_more : behind (later_rounds ++ [] ∷ []) ≡ round (behind later_rounds)
      one_more = last_round (between ∷ later_rounds) [] flowing

      time : HasTime (suc (1 + length later_rounds)) flowing.state.run
      time = let count = count_front later_rounds last in subst (λ (n : ℕ). HasTime n flowing.state.run) (omega (arith, count)) can

  stays_through : (later_rounds more : List (List Event)) → Each (Each IsWork) later_rounds → Each (Each IsWork) more → HasTime (suc (length (later_rounds ++ more))) flowing.state.run → link_rounds ≤ suc (length later_rounds)
      → StaysBelowLimit flowing.state.sited.site row.entry (later_rounds ++ more) (all_tried between (round flowing)) → ProceedsThrough number row more (behind later_rounds)
      → ShowsThrough row.entry row.aspect more (behind later_rounds)
  stays_through later_rounds [] works more_works can long below proceeds = tt
  stays_through later_rounds (first ∷ more) works more_works can long below proceeds = (
    shows_behind later_rounds first works more_works.0 (fewer_time (suc (length (later_rounds ++ first ∷ []))) (suc (length (later_rounds ++ first ∷ more))) (clocks_of flowing.state.run) fewer can) long
        (λ links_before are. below_two row.entry (later_rounds ++ first ∷ []) more (all_tried between (round flowing)) links_before
        (subst (λ (l : List (List Event)). StayBelowOn row.entry l (all_tried between (round flowing)) links_before) (sym joined) (below links_before are))) proceeds.0 proceeds.1,
    subst (ShowsThrough row.entry row.aspect more) next_is (stays_through (later_rounds ++ first ∷ []) more (each_both (Each IsWork) later_rounds (first ∷ []) works (more_works.0, tt)) more_works.1
        (subst (λ (l : List (List Event)). HasTime (suc (length l)) flowing.state.run) (sym joined) can) (let count = count_front later_rounds first in omega (arith, count, long))
        (subst (λ (l : List (List Event)). StaysBelowLimit flowing.state.sited.site row.entry l (all_tried between (round flowing))) (sym joined) below) (subst (ProceedsThrough number row more) (sym next_is) proceeds.2)),
  )
    where
      joined : (later_rounds ++ first ∷ []) ++ more ≡ later_rounds ++ first ∷ more
      joined = append_assoc later_rounds (first ∷ []) more

      next_is : behind (later_rounds ++ first ∷ []) ≡ all_tried first (round (behind later_rounds))
      next_is = last_round (between ∷ later_rounds) first flowing

      fewer : suc (length (later_rounds ++ first ∷ [])) ≤ suc (length (later_rounds ++ first ∷ more))
      fewer = let count = count_front later_rounds first in let all = length-append later_rounds (first ∷ more) in omega (arith, count, all)

pub stays_shown : LawsBelow → (between : List Event) (later_rounds more : List (List Event)) (flowing : Flowing) (number : ℕ) (row : Row) → Once flowing.state.sited.site → IsStation flowing.state.sited.site
    → IsTableOf flowing.state.sited.site flowing.state.sited.table → IsReached flowing.state.sited.site flowing.state.sited.table flowing.state.run → Each IsWork between → Each (Each IsWork) later_rounds → Each (Each IsWork) more
    → HasTime (suc (length (later_rounds ++ more))) flowing.state.run → link_rounds ≤ suc (length later_rounds) → StaysBelowLimit flowing.state.sited.site row.entry (later_rounds ++ more) (all_tried between (round flowing))
    → ProceedsThrough number row more (good_rounds (between ∷ later_rounds) flowing) → ShowsThrough row.entry row.aspect more (good_rounds (between ∷ later_rounds) flowing)
stays_shown laws between later_rounds more flowing number row once station is_table reached work works more_works can long below proceeds =
    stays_through laws between flowing number row once station is_table reached work later_rounds more works more_works can long below proceeds
