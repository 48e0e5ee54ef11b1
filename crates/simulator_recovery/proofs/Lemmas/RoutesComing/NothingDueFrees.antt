-- No cancelled route waits that may be freed: it is free in the step in which it lets itself be freed.
use Rattle.simulator_recovery.proofs.Words.Basics.{◌≡◌, ◌≢◌, ◌⊎◌, inl, inr, ℕ, suc, ◌+◌, ◌-◌, ◌^◌, min, ◌<◌, ◌≤◌, ◌==◌, ◌&&◌, Bool, true, false, List, Option, Some, None, slice_get, refl, sym, ap, subst, ◌∙◌, arith, false≢true, nat_tests, none-some, same_Some}
use Rattle.simulator_recovery.proofs.Words.Links.{quiet_until, reading_of, LinkState}
use Rattle.simulator_recovery.proofs.Words.Interlockings.{is_outside, AllClear, FreeByCancel, IsReleaseOver, IsRouteOf, KnownStop, LetsGo, authorised, count, ended, freed, freed_by_cancel, freed_by_passage, freeing_by_cancel, frees_cancelled, is_move_due, is_proceed_due, is_waiting, moved, moving, moving_one, proceeding, ruled, IxlState, KnownDetectorState, KnownSignalState, RouteState, changed, Input, all_clocked, given, stepped, ticked, watching, StepSoFar, begun_with, empty_outbox, giving_aspect, giving_move, over, with_route, Need, Row, Table, is_set, Phase}
use Rattle.simulator_recovery.proofs.Words.Stations.{Site, Beginning, new_ixl, new_route_of, interlocking_stepped, key_of, WorldState, IsReached}
use Rattle.simulator_recovery.proofs.Words.Recovery.{ClientStandsAt, EachClient, FreeLaw}
use Rattle.simulator_recovery.proofs.Lemmas.Lamps.ConfirmedStops.{new_stands, standing_then, stepped_stands}
use Rattle.simulator_recovery.proofs.Lemmas.Ground.DueShapes.{along_keeps, each_over, no_route, over_keeps, route_keeps, where_keeps}
use Rattle.simulator_recovery.proofs.Lemmas.RoutesComing.DueKnown.{BringsNothing, all_clear_before, clients_stepped, known_stop_before, ticks_bring_nothing, up_inside}
use Rattle.simulator_recovery.proofs.Lemmas.Ground.IxlAlways.{always_whole}
use Rattle.simulator_recovery.proofs.Lemmas.Ground.IxlClients.{changed_at, mapped_at}
use Rattle.simulator_recovery.proofs.Lemmas.RoutesComing.NothingDueMoves.{move_leaves}
use Rattle.simulator_recovery.proofs.Lemmas.RoutesComing.NothingDueProceeds.{AspectLeaves, aspect_leaves}
use Rattle.simulator_recovery.proofs.Lemmas.Ground.SignalParts.{both_rules, is_waiting_there, proceeding_held, until_moved, watched_held}
use Rattle.simulator_recovery.proofs.Lemmas.Silence.Spent.{within_some}
use Rattle.simulator_recovery.proofs.Lemmas.Talk.Standing.{new_clients}
use Rattle.simulator_recovery.proofs.Lemmas.Lamps.StopsGiven.{AnyCommand, StopsStand, changed_elsewhere, changed_here, differs, is_equal, stand_keep, waiting_set}

-- that the fourth rule frees where it may
abbrev NoFree : ℕ → Table → ℕ → IxlState → Type 0
NoFree now table number ixl = (row : Row) (route : RouteState) → IsRouteOf table ixl number row route → FreeByCancel now table ixl row route → ⊥

-- a route that may be freed waits, or its authority has ended
not_in : {now : ℕ} {table : Table} {ixl : IxlState} {row : Row} (route : RouteState) → (route.phase ≡ Phase.Waiting → ⊥) → ((clock done : ℕ) → route.phase ≡ Phase.Ended clock done → ⊥) → FreeByCancel now table ixl row route → ⊥
not_in route never_waits never_ended (cancelled, inl (waits, stop)) = never_waits waits
not_in route never_waits never_ended (cancelled, inr (clock, done, is, lets)) = never_ended clock done is

-- it may be freed where the detectors and its signal are the same, or where it has none to wait for
free_still : (now : ℕ) (table : Table) (old new : IxlState) (row : Row) (route : RouteState) → new.detectors ≡ old.detectors → (route.phase ≡ Phase.Waiting → KnownStop now new row.entry → KnownStop now old row.entry)
    → FreeByCancel now table new row route → FreeByCancel now table old row route
free_still now table old new row route detectors stops (cancelled, inl (waits, stop)) = (cancelled, inl (waits, stops waits stop))
free_still now table old new row route detectors stops (cancelled, inr (clock, done, is, inl lets)) = (
  cancelled,
  inr (clock, done, is, inl (record { unseen = lets.unseen; clear = subst (λ (ds : List KnownDetectorState). AllClear table (record new { detectors = ds }) row.sections) detectors lets.clear; approach = lets.approach })),
)
free_still now table old new row route detectors stops (cancelled, inr (clock, done, is, inr over)) = (cancelled, inr (clock, done, is, inr over))

module _ (now : ℕ) (table : Table) where
  -- ---- the fourth rule

  module _ (law : FreeLaw) where
    none_there : (number : ℕ) (part : StepSoFar) → slice_get part.ixl.routes number ≡ None → freeing_by_cancel now table number part ≡ part
    unfolding freeing_by_cancel
    none_there number part none = no_route table number _ part none

    own_turn : (number : ℕ) (part : StepSoFar) → NoFree now table number (freeing_by_cancel now table number part).ixl
    own_turn number part row route is due = by_found (slice_get part.ixl.routes number) refl
      where
        at_number : StepSoFar → Option RouteState
        at_number q = slice_get q.ixl.routes number

        freed_then : (was : RouteState) → slice_get part.ixl.routes number ≡ Some was → freeing_by_cancel now table number part ≡ with_route number freed part → ⊥
        freed_then was e given =
            let is_freed : route ≡ freed was = same_Some route (freed was) (sym is.1 ∙ (ap at_number given ∙ changed_here freed number part.ixl.routes was e))
            in not_in route (λ waits. cc (sym waits ∙ ap (λ (r : RouteState). r.phase) is_freed)) (λ clock done ends. cc (sym ends ∙ ap (λ (r : RouteState). r.phase) is_freed)) due

        by_found : (found : Option RouteState) → slice_get part.ixl.routes number ≡ found → ⊥
        by_found None e = none-some route (sym (ap at_number (none_there number part e) ∙ e) ∙ is.1)
        by_found (Some was) e =
            let does = law now table number part row was (is.0, e)
            in let same : freeing_by_cancel now table number part ≡ part = does.otherwise (λ was_due. freed_then was e (does.due was_due))
            in let still : route ≡ was = same_Some route was (sym is.1 ∙ (ap at_number same ∙ e))
            in freed_then was e (does.due (subst (λ (r : RouteState). FreeByCancel now table part.ixl row r) still (subst (λ (q : StepSoFar). FreeByCancel now table q.ixl row route) same due)))

  another_turn : (k number : ℕ) (part : StepSoFar) → k ≢ number → NoFree now table k part.ixl → NoFree now table k (freeing_by_cancel now table number part).ixl
  unfolding freeing_by_cancel
  another_turn k number part differ is = route_keeps Q table number _ part (λ row route there here. where_keeps Q (route.cancelled && frees_cancelled now table part.ixl row route route.phase) part _ (λ due. elsewhere) is) is
    where
      Q : StepSoFar → Type 0
      Q q = NoFree now table k q.ixl

      elsewhere : NoFree now table k (with_route number freed part).ixl
      elsewhere row route there due = is row route (there.0, sym (changed_elsewhere freed number k part.ixl.routes differ) ∙ there.1) (free_still now table part.ixl (with_route number freed part).ixl row route refl (λ waits stop. stop) due)

  -- ---- the fifth rule and the last

  moving_free : (k number : ℕ) (part : StepSoFar) → NoFree now table k part.ixl → NoFree now table k (moving now table number part).ixl
  unfolding moving moving_one
  moving_free k number part is = route_keeps Q table number _ part (λ row one there here. along_keeps Q (moving_one now table number)
      (λ need q none. route_keeps Q table number _ q (λ other route other_there route_here. where_keeps Q (is_move_due table q.ixl number route need) q _ (λ due. moved_free need q none) none) none) row.needs part is) is
    where
      Q : StepSoFar → Type 0
      Q q = NoFree now table k q.ixl

      moved_free : (need : Need) (q : StepSoFar) → Q q → Q (giving_move now need.point need.side q)
      moved_free need q none row route there due =
          let leaves = move_leaves now need.point need.side q
          in none row route (there.0, ap (λ (routes : List RouteState). slice_get routes k) (sym leaves.routes) ∙ there.1)
          (free_still now table q.ixl (giving_move now need.point need.side q).ixl row route leaves.detectors (λ waits stop. (stop.0, ap (λ (signals : List KnownSignalState). slice_get signals row.entry) (sym leaves.signals) ∙ stop.1, stop.2)) due)

  proceeding_free : (k number : ℕ) (part : StepSoFar) → StopsStand table part.ixl.routes part.ixl.known_signals → NoFree now table k part.ixl → NoFree now table k (proceeding now table number part).ixl
  unfolding proceeding
  proceeding_free k number part stand is = route_keeps Q table number _ part (λ row route there here. where_keeps Q (is_proceed_due now table part.ixl row route) part _ (λ due. given_so row route there here (is_waiting_there now table part.ixl row route due)) is) is
    where
      Q : StepSoFar → Type 0
      Q q = NoFree now table k q.ixl

      given_so : (row : Row) (route : RouteState) → slice_get table.rows number ≡ Some row → slice_get part.ixl.routes number ≡ Some route → is_waiting route.phase ≡ true → Q (giving_aspect now row.entry row.aspect (with_route number (authorised table part.ixl row) part))
      given_so row route there here waits other later other_is due = choose (changed_at (authorised table part.ixl row) number part.ixl.routes k later (sym (ap (λ (routes : List RouteState). slice_get routes k) leaves.routes) ∙ other_is.1))
        where
          given_it : StepSoFar
          given_it = giving_aspect now row.entry row.aspect (with_route number (authorised table part.ixl row) part)

          leaves : AspectLeaves row.entry (with_route number (authorised table part.ixl row) part).ixl given_it.ixl
          leaves = aspect_leaves now row.entry row.aspect (with_route number (authorised table part.ixl row) part)

          -- another route that waits begins at another signal
          elsewhere : slice_get part.ixl.routes k ≡ Some later → later.phase ≡ Phase.Waiting → other.entry ≢ row.entry
          elsewhere e later_waits same =
              let one : k ≡ number = stand.apart k number other row later route (record { row_there = other_is.0; there = e }) (record { row_there = there; there = here }) same (ap is_set later_waits) (waiting_set route.phase waits)
              in own one
            where
              own : k ≡ number → ⊥
              own g = cc (sym later_waits ∙ ap (λ (r : RouteState). r.phase) (same_Some later (authorised table part.ixl row route) (sym other_is.1 ∙ (ap (λ (routes : List RouteState). slice_get routes k) leaves.routes
                  ∙ (ap (slice_get (changed (authorised table part.ixl row) number part.ixl.routes)) g ∙ changed_here (authorised table part.ixl row) number part.ixl.routes route here)))))

          choose : ((k ≡ number) × (was : RouteState) × (slice_get part.ixl.routes number ≡ Some was) × (later ≡ authorised table part.ixl row was)) ⊎ (slice_get part.ixl.routes k ≡ Some later) → ⊥
          choose (inl (same, was, e, so)) = not_in later (λ w. cc (sym w ∙ ap (λ (r : RouteState). r.phase) so)) (λ clock done ends. cc (sym ends ∙ ap (λ (r : RouteState). r.phase) so)) due
          choose (inr e) = is other later (other_is.0, e) (free_still now table part.ixl given_it.ixl other later leaves.detectors
              (λ later_waits stop. (stop.0, sym (leaves.signals other.entry (elsewhere e later_waits)) ∙ stop.1, stop.2)) due)

  -- ---- the rules from the fourth on

  abbrev Behind : ℕ → StepSoFar → Type 0
  Behind n part = (number : ℕ) → number < n → NoFree now table number part.ixl

  one_more : FreeLaw → (n : ℕ) (part : StepSoFar) → Behind n part → Behind (suc n) (freeing_by_cancel now table n part)
  one_more law n part is number few = decide (number == n) refl
    where
      decide : (b : Bool) → (number == n) ≡ b → NoFree now table number (freeing_by_cancel now table n part).ixl
      decide true e = subst (λ (m : ℕ). NoFree now table m (freeing_by_cancel now table n part).ixl) (sym (is_equal number n e)) (own_turn law n part)
      decide false e = another_turn number n part (differs number n e) (is number fewer)
        where
          fewer : number < n
          fewer = grind (arith, nat_tests, e, few)

  record StandsFree (number : ℕ) (q : StepSoFar) : Type 0 where
    stand : StopsStand table q.ixl.routes q.ixl.known_signals
    none : NoFree now table number q.ixl

  none_behind : FreeLaw → (part : StepSoFar) → StopsStand table (ended now table part).ixl.routes (ended now table part).ixl.known_signals → (number : ℕ) → NoFree now table number (ruled now table part).ixl
  none_behind law part stand number row route is due = (over_keeps Last (proceeding now table) (λ m q last. record { stand = proceeding_held now table (StopsStand table) (stand_keep now table).rules m q last.stand; none = proceeding_free number m q last.stand last.none })
      (count table) (moved now table part) (record { stand = moved_stand; none = moved_none })).none row route is due
    where
      Last : StepSoFar → Type 0
      Last q = StandsFree number q

      moved_stand : StopsStand table (moved now table part).ixl.routes (moved now table part).ixl.known_signals
      moved_stand = until_moved now table (StopsStand table) (stand_keep now table).rules part stand

      moved_none : NoFree now table number (moved now table part).ixl
      moved_none = over_keeps (λ (q : StepSoFar). NoFree now table number q.ixl) (moving now table) (moving_free number) (count table) (freed_by_cancel now table part)
          (each_over Behind (freeing_by_cancel now table) (one_more law) (count table) (freed_by_passage now table part) (λ k few. absurd (omega (arith, few))) number (within_some table.rows number row is.0))

-- ---- whatever the clock reads

quiet_late : (link : LinkState) → quiet_until link ≤ 0 → ⊥
unfolding quiet_until
quiet_late link quiet = omega (arith, quiet)

-- stop is known by what the controller has taken
surely_stop : (site : Site) (old new : IxlState) → BringsNothing old new → EachClient (ClientStandsAt site) new → (now signal : ℕ) → KnownStop 0 new signal → KnownStop now old signal
surely_stop site old new brings stand now signal (known, there, inr (down, quiet)) = absurd (quiet_late known.client.link quiet)
surely_stop site old new brings stand now signal (known, there, inl (up, taken)) =
    let was = brings.signals signal known there
    in let inside : is_outside known.client.stage ≡ false = up_inside known.client (stand.signals signal known there).stands.outside up
    in (was.was, was.there, known_stop_before now 0 was.was known (was.stands inside) up (inl (up, taken)))

free_before : (site : Site) (table : Table) (old new : IxlState) → BringsNothing old new → EachClient (ClientStandsAt site) new → (now : ℕ) (row : Row) (route : RouteState) → FreeByCancel 0 table new row route → FreeByCancel now table old row route
free_before site table old new brings stand now row route (cancelled, inl (waits, stop)) = (cancelled, inl (waits, surely_stop site old new brings stand now row.entry stop))
free_before site table old new brings stand now row route (cancelled, inr (clock, done, is, inr over)) =
    let late : min (over.0 + 120000) (2 ^ 64 - 1) ≤ 0 = over.2
    in absurd (omega (arith, late))
free_before site table old new brings stand now row route (cancelled, inr (clock, done, is, inl lets)) = (
  cancelled,
  inr (clock, done, is, inl (record { unseen = lets.unseen; clear = all_clear_before table old new brings row.sections lets.clear; approach = inl (unapproached lets.approach) })),
)
  where
    unapproached : (route.approached ≡ false) ⊎ (min (clock + 120000) (2 ^ 64 - 1) ≤ 0) → route.approached ≡ false
    unapproached (inl never) = never
    unapproached (inr late) = absurd (omega (arith, late))

-- ---- each step, and every list of events

record NoneWaits (site : Site) (table : Table) (ixl : IxlState) : Type 0 where
  stand : StopsStand table ixl.routes ixl.known_signals
  clients : EachClient (ClientStandsAt site) ixl
  none : (number : ℕ) → NoFree 0 table number ixl

-- after the rules of a step nothing may be freed at its clock
module _ (law : FreeLaw) (site : Site) (table : Table) (input : Input) (world : WorldState) (stands : StopsStand table world.interlocking.ixl.routes world.interlocking.ixl.known_signals) where
  abbrev at_clock : ℕ
  at_clock = reading_of world.interlocking.clock

  begins : StepSoFar
  begins = begun_with world.interlocking.ixl empty_outbox

  seen : StepSoFar
  seen = over (watching table) (count table) (given at_clock table (key_of site) input (record begins { ixl = all_clocked at_clock begins.ixl }))

  abbrev rules : StepSoFar
  rules = ruled at_clock table seen

  brings : BringsNothing rules.ixl (ticked at_clock input rules).ixl
  brings = ticks_bring_nothing at_clock input rules

  rules_free : (number : ℕ) (row : Row) (route : RouteState) → IsRouteOf table (ticked at_clock input rules).ixl number row route → FreeByCancel at_clock table rules.ixl row route → ⊥
  unfolding begins seen
  rules_free number row route is due = none_behind at_clock table law seen stand number row route (is.0, ap (λ (routes : List RouteState). slice_get routes number) (sym brings.routes) ∙ is.1) due
    where
      stand : StopsStand table (ended at_clock table seen).ixl.routes (ended at_clock table seen).ixl.known_signals
      stand = both_rules at_clock table AnyCommand (StopsStand table) (stand_keep at_clock table) seen (watched_held at_clock table AnyCommand (StopsStand table) (stand_keep at_clock table) (key_of site) input begins (λ command e. tt) stands)

  step_free : EachClient (ClientStandsAt site) world.interlocking.ixl → (number : ℕ) → NoFree 0 table number (interlocking_stepped site table input world).interlocking.ixl
  unfolding interlocking_stepped stepped begins seen
  step_free clients number row route is due = rules_free number row route is (free_before site table rules.ixl _ brings (clients_stepped site table input world clients) at_clock row route due)

  -- of a route whose authority has ended
  step_lets_go : (number : ℕ) (row : Row) (route : RouteState) (clock done : ℕ) → IsRouteOf table (interlocking_stepped site table input world).interlocking.ixl number row route → route.cancelled ≡ true → route.phase ≡ Phase.Ended clock done
      → LetsGo at_clock table (interlocking_stepped site table input world).interlocking.ixl row route clock ⊎ IsReleaseOver at_clock route → ⊥
  unfolding interlocking_stepped stepped begins seen
  step_lets_go number row route clock done is cancelled ends (inl lets) = rules_free number row route is (
    cancelled,
    inr (clock, done, ends, inl (record { unseen = lets.unseen; clear = all_clear_before table rules.ixl _ brings row.sections lets.clear; approach = lets.approach })),
  )
  step_lets_go number row route clock done is cancelled ends (inr over) = rules_free number row route is (cancelled, inr (clock, done, ends, inr over))

step_waits : FreeLaw → (site : Site) (table : Table) (input : Input) (world : WorldState) → NoneWaits site table world.interlocking.ixl → NoneWaits site table (interlocking_stepped site table input world).interlocking.ixl
step_waits law site table input world is = record { stand = stepped_stands site table input world is.stand; clients = clients_stepped site table input world is.clients; none = step_free law site table input world is.stand is.clients }

new_waits : (site : Site) (table : Table) (begins : Beginning) → NoneWaits site table (new_ixl site table begins)
unfolding new_ixl
new_waits site table begins = record {
  stand = new_stands site table begins;
  clients = new_clients site table begins;
  none = λ number row route is due. let found = mapped_at new_route_of table.rows number route is.1 in false≢true (ap (λ (r : RouteState). r.cancelled) (sym found.2) ∙ due.0);
}

pub nothing_waits_to_be_freed : FreeLaw → (site : Site) (table : Table) (world : WorldState) (number : ℕ) (row : Row) (route : RouteState) → IsReached site table world → IsRouteOf table world.interlocking.ixl number row route
    → ((reading : ℕ) → FreeByCancel reading table world.interlocking.ixl row route) → ⊥
nothing_waits_to_be_freed law site table world number row route reached is due = (always_whole site table (NoneWaits site table) (new_waits site table) (step_waits law site table) world reached).none number row route is (due 0)

pub nothing_ended_waits : FreeLaw → (site : Site) (table : Table) (input : Input) (world : WorldState) (number : ℕ) (row : Row) (route : RouteState) (clock done : ℕ) → IsReached site table world
    → IsRouteOf table (interlocking_stepped site table input world).interlocking.ixl number row route → route.cancelled ≡ true → route.phase ≡ Phase.Ended clock done
    → LetsGo (reading_of world.interlocking.clock) table (interlocking_stepped site table input world).interlocking.ixl row route clock ⊎ IsReleaseOver (reading_of world.interlocking.clock) route → ⊥
nothing_ended_waits law site table input world number row route clock done reached = step_lets_go law site table input world (standing_then site table world reached) number row route clock done
