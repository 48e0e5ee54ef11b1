-- So long after its release a route is free, whether a train came or not.
use Rattle.simulator_recovery.proofs.Words.Basics.{◌≡◌, inr, ℕ, ◌+◌, ◌*◌, ◌≤◌, Bool, true, false, List, [], length, Option, Some, None, slice_get, option_or, refl, sym, ap, subst, ◌∙◌, arith, false≢true, same_Some}
use Rattle.simulator_recovery.proofs.Words.Links.{Each, reading_of}
use Rattle.simulator_recovery.proofs.Words.Interlockings.{IsReleaseOver, IsRouteOf, IxlState, RouteState, Command, Commands, Input, Phase, Row, SitedTable, Table, all_clocked, is_ended, is_set, refusal, release_refusal, released_at, reply}
use Rattle.simulator_recovery.proofs.Words.Stations.{Site, RouteId, Once, IsStation, Event, Answer, Flowing, answered, happens, interlocking_stepped, WorldState, Played, IsReached}
use Rattle.simulator_recovery.proofs.Words.Recovery.{AcceptsRelease, FreeLaw, HasTime, IsFlow, IsNotSetAnew, IsWork, LawsBelow, approach_time_rounds, behind_release, good_rounds}
use Rattle.simulator_recovery.proofs.Lemmas.Lamps.Cancelled.{OfRoute, clocked_routes, not_refused}
use Rattle.simulator_recovery.proofs.Lemmas.Lamps.StopComes.{request_happens}
use Rattle.simulator_recovery.proofs.Lemmas.Rounds.Clocks.{calm_still}
use Rattle.simulator_recovery.proofs.Lemmas.Rounds.Rounds.{IsAt, rounds_reached, tried_happens, tried_reached}
use Rattle.simulator_recovery.proofs.Lemmas.RoutesComing.NothingDueFrees.{nothing_ended_waits}
use Rattle.simulator_recovery.proofs.Lemmas.RoutesGoing.BetweenSignals.{rounds_keep}
use Rattle.simulator_recovery.proofs.Lemmas.RoutesGoing.ReleasedClocks.{IsReleasedAt, ReleasedBy, release_noted, released_keeps, releases_passed, stepped_noted, steps_released}
use Rattle.simulator_recovery.proofs.Lemmas.RoutesGoing.RoundsFree.{approach_over, rounds_free}
use Rattle.simulator_recovery.proofs.Lemmas.RoutesGoing.RouteTurns.{release_finds}

is_over : (p : Phase) → is_ended p ≡ true → (clock : ℕ) × (done : ℕ) × (p ≡ Phase.Ended clock done)
is_over Phase.Free e = absurd (false≢true e)
is_over Phase.Waiting e = absurd (false≢true e)
is_over Phase.Proceeding e = absurd (false≢true e)
is_over Phase.Withdrawn e = absurd (false≢true e)
is_over (Phase.Ended clock done) e = (clock, done, refl)

-- ---- after a step no set route waits whose release is over

pub nothing_released_waits : FreeLaw → (site : Site) (table : Table) (input : Input) (world : WorldState) (number : ℕ) (row : Row) (route : RouteState) → IsReached site table world
    → IsRouteOf table (interlocking_stepped site table input world).interlocking.ixl number row route → is_set route.phase ≡ true → IsReleaseOver (reading_of world.interlocking.clock) route → ⊥
nothing_released_waits law site table input world number row route reached of set over =
    let by : (route.cancelled ≡ true) × (is_ended route.phase ≡ true) = (steps_released site table input world (releases_passed site table world reached) number route of.1 over.0 over.1).1 set
    in let ended = is_over route.phase by.1
    in nothing_ended_waits law site table input world number row route ended.0 ended.1 reached of by.0 ended.2 (inr over)

-- ---- so many good rounds after a moment at which a route is released

module _ (frees : FreeLaw) (laws : LawsBelow) (more : List (List Event)) (start : Flowing) (number clock : ℕ) (row : Row) (once : Once start.state.sited.site) (station : IsStation start.state.sited.site)
    (reached : IsReached start.state.sited.site start.state.sited.table start.state.run) (works : Each (Each IsWork) more) (apart : IsNotSetAnew number more start) (can : HasTime (length more) start.state.run)
    (there : slice_get start.state.sited.table.rows number ≡ Some row) (far : approach_time_rounds ≤ length more) (by : clock ≤ reading_of start.state.run.interlocking.clock)
    (noted : OfRoute number (IsReleasedAt clock) start.state.run.interlocking.ixl.routes []) where
  abbrev sited : SitedTable
  sited = start.state.sited

  abbrev end : Flowing
  end = good_rounds more start

  at_end : IsAt sited end.state
  at_end = rounds_reached laws sited more start (record { same = refl; reached = reached })

  still_noted : OfRoute number (IsReleasedAt clock) end.state.run.interlocking.ixl.routes []
  still_noted = rounds_keep laws sited number (λ (ixl : IxlState). OfRoute number (IsReleasedAt clock) ixl.routes []) (stepped_noted sited.site sited.table number clock) more start works apart (record { same = refl; reached = reached }) noted

  pub free_behind : (state : RouteState) → slice_get (good_rounds more start).state.run.interlocking.ixl.routes number ≡ Some state → is_set state.phase ≡ false
  free_behind state is = by_set (is_set state.phase) refl
    where
      released : IsReleasedAt clock state
      released = still_noted state is

      waits : (state.cancelled ≡ true) × (is_ended state.phase ≡ true) → ⊥
      waits so =
          let ended = is_over state.phase so.1
          in rounds_free frees laws more start reached works number row state ended.0 ended.1 (there, is) so.0 ended.2 (inr (clock, released, approach_over laws more start once station reached works can far clock by)) (omega (arith, far))

      by_set : (b : Bool) → is_set state.phase ≡ b → is_set state.phase ≡ false
      by_set false e = e
      by_set true e = absurd (waits ((releases_passed sited.site sited.table end.state.run at_end.reached number state is clock released).1 e))

pub released_free_later : FreeLaw → LawsBelow → (more : List (List Event)) (flowing : Flowing) (number : ℕ) (row : Row) (route : RouteState) (clock : ℕ) → IsFlow flowing → Each (Each IsWork) more → IsNotSetAnew number more flowing → HasTime (length more) flowing.state.run
    → approach_time_rounds ≤ length more → IsRouteOf flowing.state.sited.table flowing.state.run.interlocking.ixl number row route → route.released ≡ Some clock
    → (state : RouteState) → slice_get (good_rounds more flowing).state.run.interlocking.ixl.routes number ≡ Some state → is_set state.phase ≡ false
released_free_later frees laws more flowing number row route clock flow works apart can far of noted = free_behind frees laws more flowing number clock row flow.once flow.station flow.reached works apart can of.0 far
    (releases_passed flowing.state.sited.site flowing.state.sited.table flowing.state.run flow.reached number route of.1 clock noted).0
    (λ one there. subst (IsReleasedAt clock) (same_Some route one (sym of.1 ∙ there)) noted)

-- ---- after a release that is accepted

accepted_so : (site : Site) (table : Table) (world : WorldState) (route : RouteId) → answered site table (Event.Request (Command.Release route)) world ≡ Answer.Accepted
    → refusal (reading_of world.interlocking.clock) table (Command.Release route) (all_clocked (reading_of world.interlocking.clock) world.interlocking.ixl) ≡ None
unfolding answered reply
accepted_so site table world route accepted = not_refused (refusal (reading_of world.interlocking.clock) table (Command.Release route) (all_clocked (reading_of world.interlocking.clock) world.interlocking.ixl)) accepted

unkept_so : (now : ℕ) (ixl : IxlState) (found : Option RouteState) → found ≡ None → release_refusal now ixl found ≡ None → ⊥
unkept_so now ixl None e none = absurd (cc none)
unkept_so now ixl (Some route) e none = absurd (cc e)

-- a route that isn't kept isn't released
never_unkept : (now : ℕ) (table : Table) (route : RouteId) (ixl : IxlState) → refusal now table (Command.Release route) ixl ≡ None → slice_get ixl.routes route.0 ≡ None → ⊥
unfolding refusal
never_unkept now table route ixl none e = unkept_so now ixl (slice_get ixl.routes route.0) e none

-- the first clock of its release, which isn't later than now
noted_then : (now : ℕ) (route : RouteState) → ReleasedBy now route → route.cancelled ≡ true → is_ended route.phase ≡ true → (clock : ℕ) × (clock ≤ now) × IsReleasedAt clock (released_at now route)
noted_then now route by cancelled ended = by_note (option_or route.released (Some now)) refl
  where
    is_some : (found : Option ℕ) → option_or found (Some now) ≡ None → ⊥
    is_some None e = absurd (cc e)
    is_some (Some old) e = absurd (cc e)

    by_note : (found : Option ℕ) → (released_at now route).released ≡ found → (clock : ℕ) × (clock ≤ now) × IsReleasedAt clock (released_at now route)
    by_note None e = absurd (is_some route.released e)
    by_note (Some clock) e = (clock, ((released_keeps now 0).released route cancelled ended by clock e).0, e)

module _ (frees : FreeLaw) (laws : LawsBelow) (more : List (List Event)) (flowing : Flowing) (route : RouteId) (row : Row) (flow : IsFlow flowing) (works : Each (Each IsWork) more) (apart : IsNotSetAnew route.0 more (behind_release route flowing))
    (can : HasTime (length more) flowing.state.run) (far : approach_time_rounds ≤ length more) (there : slice_get flowing.state.sited.table.rows route.0 ≡ Some row) (accepted : AcceptsRelease route flowing.state) where
  abbrev asked : Event
  asked = Event.Request (Command.Release route)

  abbrev before : WorldState
  before = flowing.state.run

  abbrev now : ℕ
  now = reading_of before.interlocking.clock

  abbrev site : Site
  site = flowing.state.sited.site

  abbrev table : Table
  table = flowing.state.sited.table

  abbrev behind : Flowing
  behind = behind_release route flowing

  at_behind : IsAt flowing.state.sited behind.state
  at_behind = tried_reached laws flowing.state.sited flowing.state asked (record { same = refl; reached = flow.reached })

  happened : behind.state.run ≡ happens site table asked before
  happened = ap (λ (w : Played). w.run) (tried_happens flowing.state asked (request_happens site before (Command.Release route)))

  stepped : happens site table asked before ≡ interlocking_stepped site table (Commands (Command.Release route)) before
  unfolding happens
  stepped = refl

  none : refusal now table (Command.Release route) (all_clocked now before.interlocking.ixl) ≡ None
  none = accepted_so site table before route accepted

  -- the clocks are as they were
  can_behind : HasTime (length more) behind.state.run
  can_behind = subst (λ (w : WorldState). HasTime (length more) w) (sym happened)
      (subst (Each (λ (clock : ℕ). clock + 10000 * length more ≤ 9000000000000000)) (sym (calm_still site table asked before tt).clocks) can)

  clock_behind : reading_of behind.state.run.interlocking.clock ≡ now
  clock_behind = ap reading_of (ap (λ (w : WorldState). w.interlocking.clock) happened ∙ (calm_still site table asked before tt).clock)

  module _ (one : RouteState) (kept : slice_get before.interlocking.ixl.routes route.0 ≡ Some one) where
    found : (one.cancelled ≡ true) × (is_ended one.phase ≡ true)
    found = release_finds now table route (all_clocked now before.interlocking.ixl) one none (ap (λ (routes : List RouteState). slice_get routes route.0) (clocked_routes now before.interlocking.ixl) ∙ kept)

    noted : (clock : ℕ) × (clock ≤ now) × IsReleasedAt clock (released_at now one)
    noted = noted_then now one (releases_passed site table before flow.reached route.0 one kept) found.0 found.1

    noted_behind : OfRoute route.0 (IsReleasedAt noted.0) behind.state.run.interlocking.ixl.routes []
    noted_behind = subst (λ (w : WorldState). OfRoute route.0 (IsReleasedAt noted.0) w.interlocking.ixl.routes []) (sym (happened ∙ stepped)) (release_noted site table before route one noted.0 none kept noted.2)

    free_then : (state : RouteState) → slice_get (good_rounds more behind).state.run.interlocking.ixl.routes route.0 ≡ Some state → is_set state.phase ≡ false
    free_then = free_behind frees laws more behind route.0 noted.0 row (subst (λ (s : SitedTable). Once s.site) (sym at_behind.same) flow.once) (subst (λ (s : SitedTable). IsStation s.site) (sym at_behind.same) flow.station)
        (subst (λ (s : SitedTable). IsReached s.site s.table behind.state.run) (sym at_behind.same) at_behind.reached) works apart can_behind (subst (λ (s : SitedTable). slice_get s.table.rows route.0 ≡ Some row) (sym at_behind.same) there) far
        (subst (λ (reading : ℕ). noted.0 ≤ reading) (sym clock_behind) noted.1) noted_behind

  pub free_behind_release : (state : RouteState) → slice_get (good_rounds more (behind_release route flowing)).state.run.interlocking.ixl.routes route.0 ≡ Some state → is_set state.phase ≡ false
  free_behind_release = by_route (slice_get before.interlocking.ixl.routes route.0) refl
    where
      by_route : (kept : Option RouteState) → slice_get before.interlocking.ixl.routes route.0 ≡ kept → (state : RouteState) → slice_get (good_rounds more behind).state.run.interlocking.ixl.routes route.0 ≡ Some state → is_set state.phase ≡ false
      by_route None e = absurd (never_unkept now table route (all_clocked now before.interlocking.ixl) none (ap (λ (routes : List RouteState). slice_get routes route.0) (clocked_routes now before.interlocking.ixl) ∙ e))
      by_route (Some one) e = free_then one e
