-- What a route has seen of its sections it goes on to have seen, as long as it stays set.
use Rattle.simulator_recovery.proofs.Words.Basics.{◌≡◌, ◌⊎◌, inl, inr, ℕ, true, List, Option, Some, None, slice_get, refl, sym, ap, subst, ◌∙◌, contains, false≢true, same_Some}
use Rattle.simulator_recovery.proofs.Words.Links.{reading_of, reading, Key}
use Rattle.simulator_recovery.proofs.Words.Interlockings.{commanded_by, obeyed, refusal, released_at, request_refusal, set_anew, count, IxlState, RouteState, Commands, Datagram, Input, Tick, addressed, all_clocked, given, stepped, watching, StepSoFar, begun_with, empty_outbox, Row, Table, is_set, was_authorised, Command, Refusal, Phase, giving_move}
use Rattle.simulator_recovery.proofs.Words.Stations.{Site, RouteId, Event, Beginning, new_ixl, new_route_of, happens, interlocking_stepped, key_of, WorldState}
use Rattle.simulator_recovery.proofs.Lemmas.Ground.IxlAlways.{event_then}
use Rattle.simulator_recovery.proofs.Lemmas.RoutesComing.DueRoutes.{GoOnward, GoesOnward, heard_at, ruled_held, same_phase, watching_held}
use Rattle.simulator_recovery.proofs.Lemmas.Ground.DueShapes.{over_keeps, one_keeps}
use Rattle.simulator_recovery.proofs.Lemmas.RoutesComing.DueKnown.{ticks_bring_nothing}
use Rattle.simulator_recovery.proofs.Lemmas.Ground.IxlClients.{changed_at, mapped_at}
use Rattle.simulator_recovery.proofs.Lemmas.Lamps.StopsGiven.{request_unset}
use Rattle.simulator_recovery.proofs.Lemmas.Ground.MovedAtOnce.{moved_keeps}

pub authorised_set : (p : Phase) → was_authorised p ≡ true → is_set p ≡ true
authorised_set Phase.Free e = absurd (false≢true e)
authorised_set Phase.Waiting e = absurd (false≢true e)
authorised_set Phase.Proceeding e = refl
authorised_set Phase.Withdrawn e = refl
authorised_set (Phase.Ended clock done) e = refl

-- of one route, and one place of its path
module _ (k place : ℕ) where
  -- the route is free; or it was given authority, and saw the section there occupied
  abbrev HasSeen : RouteState → Type 0
  HasSeen route = (is_set route.phase ≡ true → was_authorised route.phase ≡ true) × (was_authorised route.phase ≡ true → contains route.passage.seen place ≡ true)

  abbrev Stays : List RouteState → Type 0
  Stays routes = (route : RouteState) → slice_get routes k ≡ Some route → HasSeen route

  onward : GoOnward Stays
  onward number change routes goes stays route here = choose (changed_at change number routes k route here)
    where
      choose : ((k ≡ number) × (was : RouteState) × (slice_get routes number ≡ Some was) × (route ≡ change was)) ⊎ (slice_get routes k ≡ Some route) → HasSeen route
      choose (inr e) = stays route e
      choose (inl (same, was, e, is)) = subst HasSeen (sym is) (
        λ set. go.authorised (had.0 (go.set set)) set,
        λ authorised. let before = had.0 (go.set (authorised_set (change was).phase authorised)) in go.seen place before (had.1 before),
      )
        where
          had : HasSeen was
          had = stays was (ap (slice_get routes) same ∙ e)

          go : GoesOnward was (change was)
          go = goes was e

  -- a request of a route that is set is refused
  module _ (now : ℕ) (table : Table) (ixl : IxlState) (one : RouteState) (at : slice_get ixl.routes k ≡ Some one) (authorised : was_authorised one.phase ≡ true) (seen : contains one.passage.seen place ≡ true) where
    at_first : Stays ixl.routes
    at_first route here = let same : one ≡ route = same_Some one route (sym at ∙ here) in subst HasSeen same (λ set. authorised, λ was. seen)

    not_set_anew : (route : RouteId) → refusal now table (Command.Request route) ixl ≡ None → k ≡ route.0 → ⊥
    unfolding refusal
    not_set_anew route none same = by_row (slice_get table.rows route.0) asked
      where
        asked : request_refusal now table ixl route.0 (slice_get table.rows route.0) (Some one) ≡ None
        asked = ap (request_refusal now table ixl route.0 (slice_get table.rows route.0)) (sym (ap (slice_get ixl.routes) (sym same) ∙ at)) ∙ none

        by_row : (found : Option Row) → request_refusal now table ixl route.0 found (Some one) ≡ None → ⊥
        by_row None e = cc e
        by_row (Some row) e = false≢true (sym (request_unset now table ixl route.0 row one e) ∙ authorised_set one.phase authorised)

    obeyed_stays : (command : Command) → refusal now table command ixl ≡ None → Stays (obeyed now command ixl).routes
    unfolding obeyed
    obeyed_stays (Command.Request route) none later here = choose (changed_at set_anew route.0 ixl.routes k later here)
      where
        choose : ((k ≡ route.0) × (was : RouteState) × (slice_get ixl.routes route.0 ≡ Some was) × (later ≡ set_anew was)) ⊎ (slice_get ixl.routes k ≡ Some later) → HasSeen later
        choose (inl (same, was, e, is)) = absurd (not_set_anew route none same)
        choose (inr e) = at_first later e
    obeyed_stays (Command.Cancel route) none later here = onward route.0 (λ old. record old { cancelled = true }) ixl.routes (λ was there. same_phase was _ refl refl) at_first later here
    obeyed_stays Command.Resume none later here = at_first later here
    obeyed_stays (Command.Release route) none later here = onward route.0 (released_at now) ixl.routes (λ was there. same_phase was _ refl refl) at_first later here
    obeyed_stays (Command.Move point side) none later here = at_first later here
    obeyed_stays (Command.Close named) none later here = at_first later here
    obeyed_stays (Command.Open named) none later here = at_first later here

    commanded_stays : (cause : Option Refusal) (command : Command) → refusal now table command ixl ≡ cause → Stays (commanded_by now cause command ixl).routes
    commanded_stays None command none = obeyed_stays command none
    commanded_stays (Some cause) command refused = at_first

  given_stays : (now : ℕ) (table : Table) (key : Key) (input : Input) (part : StepSoFar) (one : RouteState) → slice_get part.ixl.routes k ≡ Some one → was_authorised one.phase ≡ true → contains one.passage.seen place ≡ true
      → Stays (given now table key input part).ixl.routes
  unfolding given giving_move
  given_stays now table key Tick part one at authorised seen = at_first now table part.ixl one at authorised seen
  given_stays now table key (Datagram bytes) part one at authorised seen = heard_at now table Stays onward bytes (addressed (reading key bytes) part.ixl) part (at_first now table part.ixl one at authorised seen)
  given_stays now table key (Commands command) part one at authorised seen =
      moved_keeps (λ q. Stays q.ixl.routes) now table (λ point side q available all. one_keeps (λ q. Stays q.ixl.routes) (slice_get q.ixl.known_points point) _ q (λ known e. all) all)
      (refusal now table command part.ixl) command part refl (commanded_stays now table part.ixl one at authorised seen (refusal now table command part.ixl) command refl)

  step_stays : (now : ℕ) (table : Table) (key : Key) (input : Input) (part : StepSoFar) (one : RouteState) → slice_get part.ixl.routes k ≡ Some one → was_authorised one.phase ≡ true → contains one.passage.seen place ≡ true
      → Stays (stepped now table key input part).ixl.routes
  unfolding stepped all_clocked
  step_stays now table key input part one at authorised seen = subst Stays (sym (ticks_bring_nothing now input _).routes)
      (ruled_held now table Stays onward _
      (over_keeps (λ (q : StepSoFar). Stays q.ixl.routes) (watching table) (watching_held now table Stays onward) (count table) _ (given_stays now table key input (record part { ixl = all_clocked now part.ixl }) one at authorised seen)))

  new_stays : (site : Site) (table : Table) (begins : Beginning) → Stays (new_ixl site table begins).routes
  unfolding new_ixl
  new_stays site table begins route here =
      let found = mapped_at new_route_of table.rows k route here
      in subst HasSeen (sym found.2) (λ set. absurd (false≢true set), λ was. absurd (false≢true was))

  pub stepped_stays : (site : Site) (table : Table) (input : Input) (world : WorldState) (one : RouteState) → slice_get world.interlocking.ixl.routes k ≡ Some one → was_authorised one.phase ≡ true → contains one.passage.seen place ≡ true
      → Stays (interlocking_stepped site table input world).interlocking.ixl.routes
  unfolding interlocking_stepped
  stepped_stays site table input world one = step_stays (reading_of world.interlocking.clock) table (key_of site) input (begun_with world.interlocking.ixl empty_outbox) one

pub seen_stays : (site : Site) (table : Table) (event : Event) (world : WorldState) (number place : ℕ) (route later : RouteState) → slice_get world.interlocking.ixl.routes number ≡ Some route → was_authorised route.phase ≡ true
    → contains route.passage.seen place ≡ true → slice_get (happens site table event world).interlocking.ixl.routes number ≡ Some later → was_authorised later.phase ≡ true → contains later.passage.seen place ≡ true
seen_stays site table event world number place route later at authorised seen here = (stays later here).1
  where
    stays : (one : RouteState) → slice_get (happens site table event world).interlocking.ixl.routes number ≡ Some one → HasSeen number place one
    stays = event_then site table (λ ixl. Stays number place ixl.routes) world (at_first number place 0 table world.interlocking.ixl route at authorised seen) event
        (λ input e. stepped_stays number place site table input world route at authorised seen) (λ begins anew. new_stays number place site table begins)
