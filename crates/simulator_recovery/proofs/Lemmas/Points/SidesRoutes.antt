-- A point that isn't available, and that a set route holds at a side after the input and the first rules of a step, was held there before.
use Rattle.simulator_recovery.proofs.Words.Basics.{◌≡◌, ◌⊎◌, inl, inr, ℕ, ◌<◌, true, List, Option, Some, None, slice_get, refl, sym, ap, subst, ◌∙◌, Contains, same_Some}
use Rattle.simulator_recovery.proofs.Words.Links.{reading, Key}
use Rattle.simulator_recovery.proofs.Words.Controllers.{Side}
use Rattle.simulator_recovery.proofs.Words.Interlockings.{IsTableOf, commanded_by, obeyed, refusal, released_at, set_anew, Admissible, At, HoldsPoint, IsAvailable, IsHeldAt, count, ended, freed_by_cancel, freed_by_passage, freeing_by_cancel, freeing_by_passage, IxlState, RouteState, Commands, Datagram, Input, Tick, addressed, given, watching, StepSoFar, over, Need, Row, Table, freed_sections, is_set, Command, Refusal, Phase, giving_move}
use Rattle.simulator_recovery.proofs.Words.Stations.{Site, RouteId}
use Rattle.simulator_recovery.proofs.Words.Recovery.{HasAspect, Waits, RequestLaw}
use Rattle.simulator_recovery.proofs.Lemmas.RoutesComing.DueRoutes.{GoOnward, before, cancel_held, heard_at, passage_held, same_phase, two_rules, watching_held}
use Rattle.simulator_recovery.proofs.Lemmas.Ground.DueShapes.{over_keeps, one_keeps}
use Rattle.simulator_recovery.proofs.Lemmas.Ground.IxlClients.{changed_at}
use Rattle.simulator_recovery.proofs.Lemmas.RoutesComing.NothingDueStops.{holds_each}
use Rattle.simulator_recovery.proofs.Lemmas.Ground.MovedAtOnce.{moved_keeps}

module _ (law : RequestLaw) (now : ℕ) (table : Table) (point : ℕ) (side : Side) where
  -- a set route of these holds the point at the side
  abbrev pub HeldIn : List RouteState → Type 0
  HeldIn routes = (number : ℕ) × (row : Row) × (route : RouteState) × ((slice_get table.rows number ≡ Some row) × (slice_get routes number ≡ Some route)) × HoldsPoint row route.phase point side

  module _ (Base : Type 0) where
    abbrev Back : List RouteState → Type 0
    Back routes = HeldIn routes → Base

    onward : GoOnward Back
    onward number change routes goes back held =
        let was = before law now table number change routes goes held.0 held.1 held.2 held.3.0 held.3.1
        in back (held.0, held.1, was.was, (held.3.0, was.there), was.held point side held.4)

  pub until_moves : (part : StepSoFar) → HeldIn (freed_by_cancel now table (over (watching table) (count table) part)).ixl.routes → HeldIn part.ixl.routes
  until_moves part = over_keeps Q (freeing_by_cancel now table) (cancel_held now table B (onward Base)) (count table) (freed_by_passage now table seen)
      (over_keeps Q (freeing_by_passage table) (passage_held now table B (onward Base)) (count table) (ended now table seen)
      (two_rules now table B (onward Base) seen (over_keeps Q (watching table) (watching_held now table B (onward Base)) (count table) part (λ held. held))))
    where
      Base : Type 0
      Base = HeldIn part.ixl.routes

      B : List RouteState → Type 0
      B = Back Base

      Q : StepSoFar → Type 0
      Q q = B q.ixl.routes

      seen : StepSoFar
      seen = over (watching table) (count table) part

  module _ (part : StepSoFar) (busy : IsAvailable part.ixl point → ⊥) where
    requested : (route : RouteId) → refusal now table (Command.Request route) part.ixl ≡ None → HeldIn (obeyed now (Command.Request route) part.ixl).routes → HeldIn part.ixl.routes
    unfolding obeyed
    requested route none held = choose (changed_at set_anew route.0 part.ixl.routes held.0 held.2 held.3.1)
      where
        need : Need
        need = held.4.1.0

        admissible : Admissible now table part.ixl route.0
        admissible = (law now table part.ixl route).0 none

        by_point : IsAvailable part.ixl need.point ⊎ IsHeldAt table part.ixl need.point need.side → HeldIn part.ixl.routes
        by_point (inl available) = absurd (busy (subst (IsAvailable part.ixl) held.4.1.2 available))
        by_point (inr was) = subst (IsHeldAt table part.ixl point) held.4.1.3 (subst (λ (p : ℕ). IsHeldAt table part.ixl p need.side) held.4.1.2 was)

        choose : ((held.0 ≡ route.0) × (was : RouteState) × (slice_get part.ixl.routes route.0 ≡ Some was) × (held.2 ≡ set_anew was)) ⊎ (slice_get part.ixl.routes held.0 ≡ Some held.2) → HeldIn part.ixl.routes
        choose (inl (same, was, there, is)) =
            let same_row : admissible.row ≡ held.1 = same_Some admissible.row held.1 (sym admissible.known.0 ∙ (ap (slice_get table.rows) (sym same) ∙ held.3.0))
            in by_point (admissible.points need (subst (λ (r : Row). Contains r.needs need) (sym same_row) held.4.1.1))
        choose (inr here) = (held.0, held.1, held.2, (held.3.0, here), held.4)

    obeyed_back : (command : Command) → refusal now table command part.ixl ≡ None → HeldIn (obeyed now command part.ixl).routes → HeldIn part.ixl.routes
    unfolding obeyed
    obeyed_back (Command.Request route) none held = requested route none held
    obeyed_back (Command.Cancel route) none held = onward (HeldIn part.ixl.routes) route.0 (λ old. record old { cancelled = true }) part.ixl.routes (λ one here. same_phase one _ refl refl) (λ still. still) held
    obeyed_back Command.Resume none held = held
    obeyed_back (Command.Release route) none held = onward (HeldIn part.ixl.routes) route.0 (released_at now) part.ixl.routes (λ one here. same_phase one _ refl refl) (λ still. still) held
    obeyed_back (Command.Move point side) none held = held
    obeyed_back (Command.Close named) none held = held
    obeyed_back (Command.Open named) none held = held

    commanded_back : (cause : Option Refusal) (command : Command) → refusal now table command part.ixl ≡ cause → HeldIn (commanded_by now cause command part.ixl).routes → HeldIn part.ixl.routes
    commanded_back None command none held = obeyed_back command none held
    commanded_back (Some cause) command refused held = held

    pub given_back : (key : Key) (input : Input) → HeldIn (given now table key input part).ixl.routes → HeldIn part.ixl.routes
    unfolding given giving_move
    given_back key Tick held = held
    given_back key (Datagram bytes) held = heard_at now table (Back (HeldIn part.ixl.routes)) (onward (HeldIn part.ixl.routes)) bytes (addressed (reading key bytes) part.ixl) part (λ still. still) held
    given_back key (Commands command) held =
        moved_keeps (λ q. HeldIn q.ixl.routes → HeldIn part.ixl.routes) now table
        (λ point side q available back. one_keeps (λ q. HeldIn q.ixl.routes → HeldIn part.ixl.routes) (slice_get q.ixl.known_points point) _ q (λ known e. back) back)
        (refusal now table command part.ixl) command part refl (commanded_back (refusal now table command part.ixl) command refl) held

-- ---- a route that waits, or has its aspect

pub holds_point : (site : Site) (table : Table) → IsTableOf site table → (ixl : IxlState) (number : ℕ) (row : Row) (need : Need) → slice_get table.rows number ≡ Some row → Contains row.needs need
    → At ixl.routes number (λ one. Waits one ⊎ HasAspect one) → IsHeldAt table ixl need.point need.side
holds_point site table is_table ixl number row need there within set = (number, row, set.0, (there, set.1), by_phase set.2)
  where
    holds : (p : Phase) → is_set p ≡ true → freed_sections p ≡ 0 → HoldsPoint row p need.point need.side
    holds p is none = (is, (need, within, refl, refl, subst (λ (n : ℕ). n < need.until) (sym none) (holds_each site table is_table number row need there within)))

    by_phase : Waits set.0 ⊎ HasAspect set.0 → HoldsPoint row set.0.phase need.point need.side
    by_phase (inl waits) = holds set.0.phase (ap is_set waits.0) (ap freed_sections waits.0)
    by_phase (inr has) = holds set.0.phase (ap is_set has.0) (ap freed_sections has.0)
