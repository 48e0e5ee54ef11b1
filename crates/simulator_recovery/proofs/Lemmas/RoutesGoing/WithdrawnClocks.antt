-- After every list of events the interlocking's clock is at least where it was as the authority of a route ended.
use Rattle.simulator_recovery.proofs.Words.Basics.{◌≡◌, ℕ, suc, ◌≤◌, Some, slice_get, sym, ap, ◌∙◌, arith}
use Rattle.simulator_recovery.proofs.Words.Links.{reading_of}
use Rattle.simulator_recovery.proofs.Words.Interlockings.{IxlState, RouteState, Command, Input, Phase, Table, begun_with, empty_outbox}
use Rattle.simulator_recovery.proofs.Words.Stations.{Site, Beginning, new_ixl, new_route_of, interlocking_stepped, key_of, WorldState, IsReached}
use Rattle.simulator_recovery.proofs.Lemmas.Ground.IxlClients.{mapped_at}
use Rattle.simulator_recovery.proofs.Lemmas.RoutesGoing.ReadingsAlways.{always_read}
use Rattle.simulator_recovery.proofs.Lemmas.RoutesGoing.RouteTurns.{TurnsKeep, step_held}

-- The authority of a route ended at this reading at the latest, if it has ended.
abbrev pub EndedBy : ℕ → RouteState → Type 0
EndedBy now route = (clock done : ℕ) → route.phase ≡ Phase.Ended clock done → clock ≤ now

same_clock : (one other done more : ℕ) → Phase.Ended one done ≡ Phase.Ended other more → one ≡ other
same_clock one other done more e = cc e

-- any command may come
abbrev AnyOne : Command → Type 0
AnyOne command = Unit {0}

ended_keeps : (now number : ℕ) → TurnsKeep now number AnyOne (EndedBy now)
ended_keeps now number = record {
  withdrawn = λ route proceeds by clock done e. absurd (cc e);
  ended = λ route withdrawn by clock done e. let same = same_clock now clock 0 done e in omega (arith, same);
  passes = λ route was done is by clock more e. let same = same_clock was clock (suc done) more e in let before = by was done is in omega (arith, same, before);
  freed = λ route by clock done e. absurd (cc e);
  authorised = λ table ixl row route waits by clock done e. absurd (cc e);
  watched = λ route approached by. by;
  looked = λ route passage by. by;
  sets = λ asked route obeys same by clock done e. absurd (cc e);
  cancelled = λ route by. by;
  released = λ route cancelled ended by. by;
}

-- each route's authority has ended at this reading at the latest, where it has ended
abbrev EndedIn : ℕ → IxlState → Type 0
EndedIn now ixl = (number : ℕ) (route : RouteState) → slice_get ixl.routes number ≡ Some route → EndedBy now route

new_ended : (site : Site) (table : Table) (begins : Beginning) (now : ℕ) → EndedIn now (new_ixl site table begins)
unfolding new_ixl
new_ended site table begins now number route e clock done ends = let found = mapped_at new_route_of table.rows number route e in absurd (cc (sym ends ∙ ap (λ (r : RouteState). r.phase) found.2))

module _ (site : Site) (table : Table) where
  steps_ended : (input : Input) (world : WorldState) → EndedIn (reading_of world.interlocking.clock) world.interlocking.ixl → EndedIn (reading_of world.interlocking.clock) (interlocking_stepped site table input world).interlocking.ixl
  unfolding interlocking_stepped
  steps_ended input world is number = step_held (reading_of world.interlocking.clock) table number AnyOne (EndedBy (reading_of world.interlocking.clock)) (ended_keeps (reading_of world.interlocking.clock) number) (key_of site) input
      (begun_with world.interlocking.ixl empty_outbox) (λ command e none. tt) (is number)

  pub endings_passed : (world : WorldState) → IsReached site table world → EndedIn (reading_of world.interlocking.clock) world.interlocking.ixl
  endings_passed = always_read site table EndedIn (λ now more ixl less is number route e clock done ends. let by = is number route e clock done ends in omega (arith, by, less)) (new_ended site table) steps_ended
