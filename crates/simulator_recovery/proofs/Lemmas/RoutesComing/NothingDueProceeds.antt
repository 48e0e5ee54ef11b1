-- No route waits that may proceed: its aspect is given in the step in which all is known that it wants.
use Rattle.simulator_recovery.proofs.Words.Basics.{◌≡◌, ◌≢◌, ℕ, suc, ◌<◌, ◌==◌, Bool, true, false, List, Option, Some, None, slice_get, refl, sym, ap, subst, ◌∙◌, arith, nat_tests, none-some, same_Some}
use Rattle.simulator_recovery.proofs.Words.Links.{reading_of}
use Rattle.simulator_recovery.proofs.Words.Controllers.{Aspect}
use Rattle.simulator_recovery.proofs.Words.Interlockings.{AllClear, AllKnown, IsRouteOf, ProceedDue, authorised, count, ended, is_proceed_due, moved, proceeding, ruled, IxlState, KnownDetectorState, KnownPointState, RouteState, Input, all_clocked, given, stepped, ticked, watching, StepSoFar, begun_with, empty_outbox, giving_aspect, over, with_route, Row, Table, is_set}
use Rattle.simulator_recovery.proofs.Words.Stations.{Site, Beginning, new_ixl, new_route_of, interlocking_stepped, key_of, WorldState, IsReached}
use Rattle.simulator_recovery.proofs.Words.Recovery.{ClientStandsAt, EachClient, ProceedLaw}
use Rattle.simulator_recovery.proofs.Lemmas.Lamps.ConfirmedStops.{new_stands, stepped_stands}
use Rattle.simulator_recovery.proofs.Lemmas.Ground.DueShapes.{each_over, no_route, one_keeps, route_keeps, where_keeps}
use Rattle.simulator_recovery.proofs.Lemmas.RoutesComing.DueKnown.{BringsNothing, all_clear_before, all_known_before, clients_stepped, ready_before, stop_before, ticks_bring_nothing}
use Rattle.simulator_recovery.proofs.Lemmas.Ground.IxlAlways.{always_whole}
use Rattle.simulator_recovery.proofs.Lemmas.Ground.IxlClients.{mapped_at}
use Rattle.simulator_recovery.proofs.Lemmas.Ground.SignalParts.{both_rules, is_waiting_there, proceeding_held, until_moved, watched_held}
use Rattle.simulator_recovery.proofs.Lemmas.Silence.Spent.{within_some}
use Rattle.simulator_recovery.proofs.Lemmas.Talk.Standing.{new_clients}
use Rattle.simulator_recovery.proofs.Lemmas.Lamps.StopsGiven.{AnyCommand, StopsStand, changed_elsewhere, changed_here, differs, is_equal, stand_keep, waiting_set}

-- ---- an aspect that is given changes one signal

pub record AspectLeaves (signal : ℕ) (old new : IxlState) : Type 0 where
  pub routes : new.routes ≡ old.routes
  pub points : new.known_points ≡ old.known_points
  pub detectors : new.detectors ≡ old.detectors
  pub closed : new.closed ≡ old.closed
  pub signals : (k : ℕ) → k ≢ signal → slice_get new.known_signals k ≡ slice_get old.known_signals k

pub aspect_leaves : (now signal : ℕ) (aspect : Aspect) (part : StepSoFar) → AspectLeaves signal part.ixl (giving_aspect now signal aspect part).ixl
unfolding giving_aspect
aspect_leaves now signal aspect part = one_keeps (λ (q : StepSoFar). AspectLeaves signal part.ixl q.ixl) (slice_get part.ixl.known_signals signal) _ part
    (λ known e. record { routes = refl; points = refl; detectors = refl; closed = refl; signals = λ k differ. changed_elsewhere _ signal k part.ixl.known_signals differ })
    (record { routes = refl; points = refl; detectors = refl; closed = refl; signals = λ k differ. refl })

-- a route's turn gives nothing of its own to another route
proceed_before : (now : ℕ) (table : Table) (old new : IxlState) (row : Row) (route : RouteState) → new.known_points ≡ old.known_points → new.detectors ≡ old.detectors → slice_get new.known_signals row.entry ≡ slice_get old.known_signals row.entry
    → ProceedDue now table new row route → ProceedDue now table old row route
proceed_before now table old new row route points detectors signal due = record {
  waits = due.waits;
  goes_on = due.goes_on;
  points = subst (λ (ps : List KnownPointState). AllKnown (record new { known_points = ps }) row.needs) points due.points;
  clear = subst (λ (ds : List KnownDetectorState). AllClear table (record new { detectors = ds }) row.sections) detectors due.clear;
  ready = (due.ready.0, sym signal ∙ due.ready.1, due.ready.2);
  at_stop = (due.at_stop.0, sym signal ∙ due.at_stop.1, due.at_stop.2);
}

-- ---- the last rule

abbrev pub NoProceed : ℕ → Table → ℕ → IxlState → Type 0
NoProceed now table number ixl = (row : Row) (route : RouteState) → IsRouteOf table ixl number row route → ProceedDue now table ixl row route → ⊥

-- that the rule gives proceed where it is due
module _ (law : ProceedLaw) (now : ℕ) (table : Table) where
  none_there : (number : ℕ) (part : StepSoFar) → slice_get part.ixl.routes number ≡ None → proceeding now table number part ≡ part
  unfolding proceeding
  none_there number part none = no_route table number _ part none

  own_turn : (number : ℕ) (part : StepSoFar) → NoProceed now table number (proceeding now table number part).ixl
  own_turn number part row route is due = by_found (slice_get part.ixl.routes number) refl
    where
      at_number : StepSoFar → Option RouteState
      at_number q = slice_get q.ixl.routes number

      -- where it was due the route proceeds now
      given_then : (was : RouteState) → slice_get part.ixl.routes number ≡ Some was
          → proceeding now table number part ≡ giving_aspect now row.entry row.aspect (with_route number (authorised table part.ixl row) part) → ⊥
      given_then was e given = cc (sym due.waits ∙ ap (λ (r : RouteState). r.phase) (same_Some route (authorised table part.ixl row was) (sym is.1 ∙ (ap at_number given
          ∙ (ap (λ (routes : List RouteState). slice_get routes number) (aspect_leaves now row.entry row.aspect (with_route number (authorised table part.ixl row) part)).routes
          ∙ changed_here (authorised table part.ixl row) number part.ixl.routes was e)))))

      by_found : (found : Option RouteState) → slice_get part.ixl.routes number ≡ found → ⊥
      by_found None e = none-some route (sym (ap at_number (none_there number part e) ∙ e) ∙ is.1)
      by_found (Some was) e =
          let does = law now table number part row was (is.0, e)
          in let same : proceeding now table number part ≡ part = does.otherwise (λ was_due. given_then was e (does.due was_due))
          in let still : route ≡ was = same_Some route was (sym is.1 ∙ (ap at_number same ∙ e))
          in given_then was e (does.due (subst (λ (r : RouteState). ProceedDue now table part.ixl row r) still (subst (λ (q : StepSoFar). ProceedDue now table q.ixl row route) same due)))

  another_turn : (k number : ℕ) (part : StepSoFar) → k ≢ number → StopsStand table part.ixl.routes part.ixl.known_signals → NoProceed now table k part.ixl → NoProceed now table k (proceeding now table number part).ixl
  unfolding proceeding
  another_turn k number part differ stand is = route_keeps Q table number _ part (λ row route there here. where_keeps Q (is_proceed_due now table part.ixl row route) part _ (λ due. elsewhere row route there here due) is) is
    where
      Q : StepSoFar → Type 0
      Q q = NoProceed now table k q.ixl

      elsewhere : (row : Row) (route : RouteState) → slice_get table.rows number ≡ Some row → slice_get part.ixl.routes number ≡ Some route → is_proceed_due now table part.ixl row route ≡ true
          → NoProceed now table k (giving_aspect now row.entry row.aspect (with_route number (authorised table part.ixl row) part)).ixl
      elsewhere row route there here due other later other_is other_due =
          let leaves = aspect_leaves now row.entry row.aspect (with_route number (authorised table part.ixl row) part)
          in let before : slice_get part.ixl.routes k ≡ Some later = sym (changed_elsewhere (authorised table part.ixl row) number k part.ixl.routes differ) ∙ (sym (ap (λ (routes : List RouteState). slice_get routes k) leaves.routes) ∙ other_is.1)
          in let apart : other.entry ≢ row.entry = λ same. differ (stand.apart k number other row later route (record { row_there = other_is.0; there = before }) (record { row_there = there; there = here }) same
          (ap is_set other_due.waits) (waiting_set route.phase (is_waiting_there now table part.ixl row route due)))
          in is other later (other_is.0, before) (proceed_before now table part.ixl _ other later leaves.points leaves.detectors (leaves.signals other.entry apart) other_due)

  -- after the turns of so many routes
  record Behind (n : ℕ) (part : StepSoFar) : Type 0 where
    stand : StopsStand table part.ixl.routes part.ixl.known_signals
    none : (number : ℕ) → number < n → NoProceed now table number part.ixl

  one_more : (n : ℕ) (part : StepSoFar) → Behind n part → Behind (suc n) (proceeding now table n part)
  one_more n part is = record {
    stand = proceeding_held now table (StopsStand table) (stand_keep now table).rules n part is.stand;
    none = λ number few. decide number few (number == n) refl;
  }
    where
      decide : (number : ℕ) → number < suc n → (b : Bool) → (number == n) ≡ b → NoProceed now table number (proceeding now table n part).ixl
      decide number few true e = subst (λ (m : ℕ). NoProceed now table m (proceeding now table n part).ixl) (sym (is_equal number n e)) (own_turn n part)
      decide number few false e = another_turn number n part (differs number n e) is.stand (is.none number fewer)
        where
          fewer : number < n
          fewer = grind (arith, nat_tests, e, few)

  none_behind : (part : StepSoFar) → StopsStand table (moved now table part).ixl.routes (moved now table part).ixl.known_signals → (number : ℕ) → NoProceed now table number (ruled now table part).ixl
  none_behind part stand number row route is due =
      (each_over Behind (proceeding now table) one_more (count table) (moved now table part) (record { stand = stand; none = λ k few. absurd (omega (arith, few)) })).none number (within_some table.rows number row is.0) row route is due

-- ---- each step, and every list of events

-- Set routes stand apart, and none waits that may proceed, whatever the clock reads.
record NoneWaits (site : Site) (table : Table) (ixl : IxlState) : Type 0 where
  stand : StopsStand table ixl.routes ixl.known_signals
  clients : EachClient (ClientStandsAt site) ixl
  none : (reading number : ℕ) → NoProceed reading table number ixl

due_before : (site : Site) (table : Table) (old new : IxlState) (now reading : ℕ) (row : Row) (route : RouteState) → BringsNothing old new → EachClient (ClientStandsAt site) new → ProceedDue reading table new row route → ProceedDue now table old row route
due_before site table old new now reading row route brings clients due = record {
  waits = due.waits;
  goes_on = due.goes_on;
  points = all_known_before table old new brings row.needs due.points;
  clear = all_clear_before table old new brings row.sections due.clear;
  ready = ready_before table old new brings row.entry due.ready;
  at_stop = stop_before site old new brings clients now reading row.entry due.ready due.at_stop;
}

step_none : ProceedLaw → (site : Site) (table : Table) (input : Input) (world : WorldState) → NoneWaits site table world.interlocking.ixl → (reading number : ℕ) → NoProceed reading table number (interlocking_stepped site table input world).interlocking.ixl
unfolding interlocking_stepped stepped
step_none law site table input world is reading number row route is_route due =
    none_behind law now table seen (until_moved now table (StopsStand table) (stand_keep now table).rules seen stand) number row route
    (is_route.0, ap (λ (routes : List RouteState). slice_get routes number) (sym brings.routes) ∙ is_route.1)
    (due_before site table (ruled now table seen).ixl _ now reading row route brings (clients_stepped site table input world is.clients) due)
  where
    now : ℕ
    now = reading_of world.interlocking.clock

    begins : StepSoFar
    begins = begun_with world.interlocking.ixl empty_outbox

    seen : StepSoFar
    seen = over (watching table) (count table) (given now table (key_of site) input (record begins { ixl = all_clocked now begins.ixl }))

    stand : StopsStand table (ended now table seen).ixl.routes (ended now table seen).ixl.known_signals
    stand = both_rules now table AnyCommand (StopsStand table) (stand_keep now table) seen (watched_held now table AnyCommand (StopsStand table) (stand_keep now table) (key_of site) input begins (λ command e. tt) is.stand)

    brings : BringsNothing (ruled now table seen).ixl (ticked now input (ruled now table seen)).ixl
    brings = ticks_bring_nothing now input (ruled now table seen)

step_waits : ProceedLaw → (site : Site) (table : Table) (input : Input) (world : WorldState) → NoneWaits site table world.interlocking.ixl → NoneWaits site table (interlocking_stepped site table input world).interlocking.ixl
step_waits law site table input world is = record {
  stand = stepped_stands site table input world is.stand;
  clients = clients_stepped site table input world is.clients;
  none = step_none law site table input world is;
}

new_waits : (site : Site) (table : Table) (begins : Beginning) → NoneWaits site table (new_ixl site table begins)
unfolding new_ixl
new_waits site table begins = record {
  stand = new_stands site table begins;
  clients = new_clients site table begins;
  none = λ reading number row route is due. let found = mapped_at new_route_of table.rows number route is.1 in cc (sym (ap (λ (r : RouteState). r.phase) found.2) ∙ due.waits);
}

pub nothing_proceeds : ProceedLaw → (site : Site) (table : Table) (world : WorldState) (reading number : ℕ) (row : Row) (route : RouteState) → IsReached site table world → IsRouteOf table world.interlocking.ixl number row route
    → ProceedDue reading table world.interlocking.ixl row route → ⊥
nothing_proceeds law site table world reading number row route reached is due = (always_whole site table (NoneWaits site table) (new_waits site table) (step_waits law site table) world reached).none reading number row route is due
