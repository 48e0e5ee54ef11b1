-- A route that is withdrawn and has seen a train in each section goes on so over rounds in which it isn't set anew, until it is free.
use Rattle.simulator_recovery.proofs.Words.Basics.{◌≡◌, ◌⊎◌, inl, inr, ℕ, Bool, true, false, List, [], ◌∷◌, ◌++◌, Option, Some, None, slice_get, refl, sym, ap, subst, ◌∙◌, false≢true, none-some, same_Some}
use Rattle.simulator_recovery.proofs.Words.Links.{Each}
use Rattle.simulator_recovery.proofs.Words.Interlockings.{IsRouteOf, is_proceeding, is_waiting, IxlState, RouteState, Input, Row, SitedTable, Table, is_set, was_authorised, Phase}
use Rattle.simulator_recovery.proofs.Words.Stations.{Site, Event, Flowing, interlocking_stepped, WorldState, IsReached}
use Rattle.simulator_recovery.proofs.Words.Recovery.{IsSeen, IsWork, good_rounds, IsNotSetAnew, LawsBelow}
use Rattle.simulator_recovery.proofs.Lemmas.RoutesGoing.BetweenSignals.{rounds_keep}
use Rattle.simulator_recovery.proofs.Lemmas.Lamps.Cancelled.{OfRoute, RouteKeeps}
use Rattle.simulator_recovery.proofs.Lemmas.Lamps.GivenNoMore.{over_rests}
use Rattle.simulator_recovery.proofs.Lemmas.Points.MovesAnswered.{rounds_both}
use Rattle.simulator_recovery.proofs.Lemmas.RoutesGoing.PassageStays.{authorised_set, stepped_stays}
use Rattle.simulator_recovery.proofs.Lemmas.Rounds.Rounds.{IsAt, rounds_reached}
use Rattle.simulator_recovery.proofs.Lemmas.Ground.SignalParts.{IsQuiet}
use Rattle.simulator_recovery.proofs.Lemmas.Lamps.StopsGiven.{proceeding_set, waiting_set}
use Rattle.simulator_recovery.proofs.Lemmas.Windows.WindowsSpoken.{each_two}
use Rattle.simulator_recovery.proofs.Lemmas.RoutesGoing.WithdrawnSteps.{Apart, stepped_apart}

-- ---- a route that doesn't wait, and doesn't proceed

abbrev pub IsGone : RouteState → Type 0
IsGone route = (is_waiting route.phase ≡ false) × (is_proceeding route.phase ≡ false)

gone_quiet : (old new : RouteState) → IsQuiet old new → IsGone old → IsGone new
gone_quiet old new (inl (same, kept)) is = (ap is_waiting same ∙ is.0, ap is_proceeding same ∙ is.1)
gone_quiet old new (inr (over, undone, set, kept)) is = over_rests new.phase over

gone_keeps : RouteKeeps IsGone
gone_keeps = record {
  quiet = gone_quiet;
  withdrawn = λ route is proceeds. absurd (false≢true (sym is.1 ∙ proceeds));
  waits_not = λ route is waits not_so. false≢true (sym is.0 ∙ waits);
}

-- ---- a free route

abbrev IsFree : RouteState → Type 0
IsFree route = is_set route.phase ≡ false

free_quiet : (old new : RouteState) → IsQuiet old new → IsFree old → IsFree new
free_quiet old new (inl (same, kept)) is = ap is_set same ∙ is
free_quiet old new (inr (over, undone, set, kept)) is = absurd (false≢true (sym is ∙ set))

free_keeps : RouteKeeps IsFree
free_keeps = record {
  quiet = free_quiet;
  withdrawn = λ route is proceeds. absurd (false≢true (sym is ∙ proceeding_set route.phase proceeds));
  waits_not = λ route is waits not_so. false≢true (sym is ∙ waiting_set route.phase waits);
}

gone_free : (p : Phase) → is_waiting p ≡ false → was_authorised p ≡ false → is_set p ≡ false
gone_free Phase.Free gone unauthorised = refl
gone_free Phase.Waiting gone unauthorised = absurd (false≢true (sym gone))
gone_free Phase.Proceeding gone unauthorised = absurd (false≢true (sym unauthorised))
gone_free Phase.Withdrawn gone unauthorised = absurd (false≢true (sym unauthorised))
gone_free (Phase.Ended clock done) gone unauthorised = absurd (false≢true (sym unauthorised))

-- ---- no route

none_keeps : RouteKeeps (λ route. ⊥)
none_keeps = record { quiet = λ old new quiet is. is; withdrawn = λ route is proceeds. is; waits_not = λ route is waits not_so. is }

-- ---- what a step keeps that doesn't set it anew

-- it is so, and saw each of its sections occupied, as long as it is set
abbrev pub StaysSeen : Row → RouteState → Type 0
StaysSeen row route = IsGone route × (was_authorised route.phase ≡ true → IsSeen row route)

pub step_seen : (site : Site) (table : Table) (number : ℕ) (row : Row) (input : Input) (world : WorldState) → Apart table number input world → OfRoute number (StaysSeen row) world.interlocking.ixl.routes []
    → OfRoute number (StaysSeen row) (interlocking_stepped site table input world).interlocking.ixl.routes []
step_seen site table number row input world apart has later here =
    (stepped_apart IsGone gone_keeps site table number input world apart (λ was there. (has was there).0) later here, seen (slice_get world.interlocking.ixl.routes number) refl)
  where
    seen : (found : Option RouteState) → slice_get world.interlocking.ixl.routes number ≡ found → was_authorised later.phase ≡ true → IsSeen row later
    seen None e authorised = absurd (stepped_apart (λ route. ⊥) none_keeps site table number input world apart (λ was there. none-some was (sym e ∙ there)) later here)
    seen (Some was) e authorised = by_test (was_authorised was.phase) refl
      where
        by_test : (b : Bool) → was_authorised was.phase ≡ b → IsSeen row later
        by_test true f = λ place within. (stepped_stays number place site table input world was e f ((has was e).1 f place within) later here).1 authorised
        by_test false f = absurd (false≢true (sym free ∙ authorised_set later.phase authorised))
          where
            free : is_set later.phase ≡ false
            free = stepped_apart IsFree free_keeps site table number input world apart (λ one there. subst IsFree (same_Some was one (sym e ∙ there)) (gone_free was.phase (has was e).0.0 f)) later here

-- ---- after them it is free

-- it isn't withdrawn then, and isn't set where its authority has ended and it saw each section
pub record Leaves (table : Table) (ixl : IxlState) (number : ℕ) (row : Row) : Type 0 where
  pub unwithdrawn : (route : RouteState) → IsRouteOf table ixl number row route → route.phase ≡ Phase.Withdrawn → ⊥
  pub unended : (route : RouteState) (clock done : ℕ) → IsRouteOf table ixl number row route → IsSeen row route → route.phase ≡ Phase.Ended clock done → ⊥

leaves_free : (table : Table) (ixl : IxlState) (number : ℕ) (row : Row) (state : RouteState)
    → Leaves table ixl number row → IsRouteOf table ixl number row state → StaysSeen row state → is_set state.phase ≡ false
leaves_free table ixl number row state leaves is (gone, seen) = by_phase state.phase refl
  where
    by_phase : (p : Phase) → state.phase ≡ p → is_set state.phase ≡ false
    by_phase Phase.Free e = ap is_set e
    by_phase Phase.Waiting e = absurd (false≢true (sym gone.0 ∙ ap is_waiting e))
    by_phase Phase.Proceeding e = absurd (false≢true (sym gone.1 ∙ ap is_proceeding e))
    by_phase Phase.Withdrawn e = absurd (leaves.unwithdrawn state is e)
    by_phase (Phase.Ended clock done) e = absurd (leaves.unended state clock done is (seen (ap was_authorised e)) e)

-- a route that is withdrawn doesn't wait, and doesn't proceed
withdrawn_gone : (p : Phase) → p ≡ Phase.Withdrawn → (is_waiting p ≡ false) × (is_proceeding p ≡ false)
withdrawn_gone p e = (ap is_waiting e, ap is_proceeding e)

module _ (reach : LawsBelow) (between : List Event) (later_rounds more : List (List Event)) (flowing : Flowing) (number : ℕ) (row : Row) (route state : RouteState)
    (reached : IsReached flowing.state.sited.site flowing.state.sited.table flowing.state.run) (works : Each (Each IsWork) (later_rounds ++ more)) (apart : IsNotSetAnew number more (good_rounds (between ∷ later_rounds) flowing))
    (is : IsRouteOf flowing.state.sited.table (good_rounds (between ∷ later_rounds) flowing).state.run.interlocking.ixl number row route)
    (withdrawn : route.phase ≡ Phase.Withdrawn) (is_then : slice_get (good_rounds (between ∷ (later_rounds ++ more)) flowing).state.run.interlocking.ixl.routes number ≡ Some state) where
  abbrev sited : SitedTable
  sited = flowing.state.sited

  abbrev here : Flowing
  here = good_rounds (between ∷ later_rounds) flowing

  at : IsAt sited here.state
  at = rounds_reached reach sited (between ∷ later_rounds) flowing (record { same = refl; reached = reached })

  -- what steps keep of the route is kept till then
  kept : (F : RouteState → Type 0) → ((input : Input) (world : WorldState) → Apart sited.table number input world → OfRoute number F world.interlocking.ixl.routes []
      → OfRoute number F (interlocking_stepped sited.site sited.table input world).interlocking.ixl.routes []) → F route → F state
  kept F step so = subst (λ (f : Flowing). OfRoute number F f.state.run.interlocking.ixl.routes []) (sym (rounds_both (between ∷ later_rounds) more flowing))
      (rounds_keep reach sited number (λ (ixl : IxlState). OfRoute number F ixl.routes []) step more here (each_two (Each IsWork) later_rounds more works).1 apart at (λ one there. subst F (same_Some route one (sym is.1 ∙ there)) so)) state is_then

  stays_seen : IsSeen row route ⊎ IsSeen row state → StaysSeen row state
  stays_seen (inl before) = kept (StaysSeen row) (step_seen sited.site sited.table number row) (withdrawn_gone route.phase withdrawn, λ authorised. before)
  stays_seen (inr by_then) = (kept IsGone (stepped_apart IsGone gone_keeps sited.site sited.table number) (withdrawn_gone route.phase withdrawn), λ authorised. by_then)

  pub free_behind : Leaves sited.table (good_rounds (between ∷ (later_rounds ++ more)) flowing).state.run.interlocking.ixl number row
      → IsSeen row route ⊎ IsSeen row state → is_set state.phase ≡ false
  free_behind leaves seen = leaves_free sited.table _ number row state leaves (is.0, is_then) (stays_seen seen)
