-- A route that is released is cancelled while it is set, and its authority has ended; and what was noted of its release stays so until it is
-- set anew.
use Rattle.simulator_recovery.proofs.Words.Basics.{◌≡◌, ℕ, ◌≤◌, Bool, true, false, List, [], Option, Some, None, slice_get, option_or, refl, sym, ap, subst, ◌∙◌, arith, false≢true, same_Some}
use Rattle.simulator_recovery.proofs.Words.Links.{reading_of}
use Rattle.simulator_recovery.proofs.Words.Interlockings.{IxlState, RouteState, Command, Commands, Input, Phase, Refusal, StepSoFar, Table, all_clocked, begun_with, commanded_by, empty_outbox, given, is_ended, is_proceeding, is_set, is_waiting, is_withdrawn, moved_at_once, obeyed, refusal, released_at, stepped}
use Rattle.simulator_recovery.proofs.Words.Stations.{Site, RouteId, Beginning, Event, new_ixl, new_route_of, interlocking_stepped, key_of, WorldState, IsReached}
use Rattle.simulator_recovery.proofs.Words.Recovery.{SetsNot}
use Rattle.simulator_recovery.proofs.Lemmas.Ground.IxlClients.{mapped_at}
use Rattle.simulator_recovery.proofs.Lemmas.Lamps.Cancelled.{OfRoute, clocked_routes}
use Rattle.simulator_recovery.proofs.Lemmas.Lamps.StopsGiven.{changed_here}
use Rattle.simulator_recovery.proofs.Lemmas.RoutesGoing.ReadingsAlways.{always_read}
use Rattle.simulator_recovery.proofs.Lemmas.RoutesGoing.RouteTurns.{TurnsKeep, behind_input_held, step_held}
use Rattle.simulator_recovery.proofs.Lemmas.RoutesGoing.WithdrawnSteps.{Apart}

-- ---- while it is set it is cancelled, and its authority has ended

-- A route was released at this reading at the latest, if it is released; and then it is cancelled while it is set, and its authority has ended.
abbrev pub ReleasedBy : ℕ → RouteState → Type 0
ReleasedBy now route = (clock : ℕ) → route.released ≡ Some clock → (clock ≤ now) × (is_set route.phase ≡ true → (route.cancelled ≡ true) × (is_ended route.phase ≡ true))

-- phases of a set route whose authority hasn't ended
unended : (is_so : Phase → Bool) → is_so Phase.Free ≡ false → ((clock done : ℕ) → is_so (Phase.Ended clock done) ≡ false) → (p : Phase) → is_so p ≡ true → (is_set p ≡ true) × (is_ended p ≡ false)
unended is_so free ended Phase.Free e = absurd (false≢true (sym free ∙ e))
unended is_so free ended Phase.Waiting e = (refl, refl)
unended is_so free ended Phase.Proceeding e = (refl, refl)
unended is_so free ended Phase.Withdrawn e = (refl, refl)
unended is_so free ended (Phase.Ended clock done) e = absurd (false≢true (sym (ended clock done) ∙ e))

-- so one whose authority hasn't ended isn't released
unreleased : (now : ℕ) (route : RouteState) → (is_set route.phase ≡ true) × (is_ended route.phase ≡ false) → ReleasedBy now route → (clock : ℕ) → route.released ≡ Some clock → ⊥
unreleased now route still by clock noted = false≢true (sym still.1 ∙ ((by clock noted).1 still.0).1)

-- any command may come
abbrev AnyOne : Command → Type 0
AnyOne command = Unit {0}

noted_by : (now clock : ℕ) (before : Option ℕ) → ((old : ℕ) → before ≡ Some old → old ≤ now) → option_or before (Some now) ≡ Some clock → clock ≤ now
noted_by now clock None by e = let same = same_Some now clock e in omega (arith, same)
noted_by now clock (Some old) by e = by clock e

pub released_keeps : (now number : ℕ) → TurnsKeep now number AnyOne (ReleasedBy now)
released_keeps now number = record {
  withdrawn = λ route proceeds by clock noted. absurd (unreleased now route (unended is_proceeding refl (λ at done. refl) route.phase proceeds) by clock noted);
  ended = λ route withdrawn by clock noted. absurd (unreleased now route (unended is_withdrawn refl (λ at done. refl) route.phase withdrawn) by clock noted);
  passes = λ route at done is by clock noted. let before = by clock noted in (before.0, λ set. ((before.1 (ap is_set is)).0, refl));
  freed = λ route by clock noted. ((by clock noted).0, λ set. absurd (false≢true set));
  authorised = λ table ixl row route waits by clock noted. absurd (unreleased now route (unended is_waiting refl (λ at done. refl) route.phase waits) by clock noted);
  watched = λ route approached by. by;
  looked = λ route passage by. by;
  sets = λ asked route obeys same by clock noted. absurd (cc noted);
  cancelled = λ route by clock noted. let before = by clock noted in (before.0, λ set. (refl, (before.1 set).1));
  released = λ route cancelled ended by clock noted. (noted_by now clock route.released (λ old e. (by old e).0) noted, λ set. (cancelled, ended));
}

abbrev pub ReleasedIn : ℕ → IxlState → Type 0
ReleasedIn now ixl = (number : ℕ) (route : RouteState) → slice_get ixl.routes number ≡ Some route → ReleasedBy now route

new_released : (site : Site) (table : Table) (begins : Beginning) (now : ℕ) → ReleasedIn now (new_ixl site table begins)
unfolding new_ixl
new_released site table begins now number route e clock noted = let found = mapped_at new_route_of table.rows number route e in absurd (cc (sym noted ∙ ap (λ (r : RouteState). r.released) found.2))

module _ (site : Site) (table : Table) where
  pub steps_released : (input : Input) (world : WorldState) → ReleasedIn (reading_of world.interlocking.clock) world.interlocking.ixl → ReleasedIn (reading_of world.interlocking.clock) (interlocking_stepped site table input world).interlocking.ixl
  unfolding interlocking_stepped
  steps_released input world is number = step_held (reading_of world.interlocking.clock) table number AnyOne (ReleasedBy (reading_of world.interlocking.clock)) (released_keeps (reading_of world.interlocking.clock) number) (key_of site) input
      (begun_with world.interlocking.ixl empty_outbox) (λ command e none. tt) (is number)

  pub releases_passed : (world : WorldState) → IsReached site table world → ReleasedIn (reading_of world.interlocking.clock) world.interlocking.ixl
  releases_passed = always_read site table ReleasedIn (λ now more ixl less is number route e clock noted. let by = is number route e clock noted in (let at = by.0 in omega (arith, at, less), by.1)) (new_released site table) steps_released

-- ---- what was noted of its release

-- it was released at this clock
abbrev pub IsReleasedAt : ℕ → RouteState → Type 0
IsReleasedAt clock route = route.released ≡ Some clock

noted_keeps : (now number clock : ℕ) → TurnsKeep now number (λ command. SetsNot number (Event.Request command)) (IsReleasedAt clock)
noted_keeps now number clock = record {
  withdrawn = λ route proceeds noted. noted;
  ended = λ route withdrawn noted. noted;
  passes = λ route at done is noted. noted;
  freed = λ route noted. noted;
  authorised = λ table ixl row route waits noted. noted;
  watched = λ route approached noted. noted;
  looked = λ route passage noted. noted;
  sets = λ asked route obeys same noted. absurd (obeys (sym same));
  cancelled = λ route noted. noted;
  released = λ route cancelled ended noted. ap (λ (before : Option ℕ). option_or before (Some now)) noted;
}

-- in a step in which the route isn't set anew
pub stepped_noted : (site : Site) (table : Table) (number clock : ℕ) (input : Input) (world : WorldState) → Apart table number input world → OfRoute number (IsReleasedAt clock) world.interlocking.ixl.routes []
    → OfRoute number (IsReleasedAt clock) (interlocking_stepped site table input world).interlocking.ixl.routes []
unfolding interlocking_stepped
stepped_noted site table number clock input world apart is = step_held (reading_of world.interlocking.clock) table number (λ command. SetsNot number (Event.Request command)) (IsReleasedAt clock)
    (noted_keeps (reading_of world.interlocking.clock) number clock) (key_of site) input (begun_with world.interlocking.ixl empty_outbox) apart is

-- ---- a release that is accepted

released_there : (now : ℕ) (ixl : IxlState) (route : RouteId) (one : RouteState) → slice_get ixl.routes route.0 ≡ Some one → slice_get (obeyed now (Command.Release route) ixl).routes route.0 ≡ Some (released_at now one)
unfolding obeyed
released_there now ixl route one there = changed_here (released_at now) route.0 ixl.routes one there

-- its clock is noted, unless one was noted before
pub release_noted : (site : Site) (table : Table) (world : WorldState) (route : RouteId) (one : RouteState) (clock : ℕ) → refusal (reading_of world.interlocking.clock) table (Command.Release route) (all_clocked (reading_of world.interlocking.clock) world.interlocking.ixl) ≡ None
    → slice_get world.interlocking.ixl.routes route.0 ≡ Some one → IsReleasedAt clock (released_at (reading_of world.interlocking.clock) one) → OfRoute route.0 (IsReleasedAt clock) (interlocking_stepped site table (Commands (Command.Release route)) world).interlocking.ixl.routes []
unfolding interlocking_stepped stepped given moved_at_once
release_noted site table world route one clock none there noted =
    behind_input_held now table route.0 (λ command. SetsNot route.0 (Event.Request command)) (IsReleasedAt clock) (noted_keeps now route.0 clock) (Commands (Command.Release route)) (heard_by (refusal now table (Command.Release route) clocked.ixl)) heard_so
  where
    now : ℕ
    now = reading_of world.interlocking.clock

    clocked : StepSoFar
    clocked = record (begun_with world.interlocking.ixl empty_outbox) { ixl = all_clocked now world.interlocking.ixl }

    heard_by : Option Refusal → StepSoFar
    heard_by cause = moved_at_once now cause (Command.Release route) (record clocked { ixl = commanded_by now cause (Command.Release route) clocked.ixl })

    heard_so : OfRoute route.0 (IsReleasedAt clock) (heard_by (refusal now table (Command.Release route) clocked.ixl)).ixl.routes []
    heard_so = subst (λ (cause : Option Refusal). OfRoute route.0 (IsReleasedAt clock) (heard_by cause).ixl.routes []) (sym none) (λ later e.
        let same = same_Some (released_at now one) later (sym (released_there now clocked.ixl route one (ap (λ (routes : List RouteState). slice_get routes route.0) (clocked_routes now world.interlocking.ixl) ∙ there)) ∙ e)
        in subst (IsReleasedAt clock) same noted)
