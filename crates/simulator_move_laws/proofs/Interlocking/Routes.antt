-- What a part of a step at the routes leaves: no link is called, and the machine's routes follow.
use Rattle.std.proofs.Common.{◌≡◌, ℕ, zero, suc, Bool, true, false, List, [], ◌∷◌, refl, sym, ap, subst, ◌∙◌}
use Rattle.std.specs.Prelude.{length, Option, Some, None, slice_get}
use Rattle.ixl_spec.specs.StepSoFar.{StepSoFar, along, at_route, over, with_one, with_route}
use Rattle.ixl_spec.specs.Table.{Row, Table as Rows}
use Rattle.ixl_spec.specs.State.{IxlState, RouteState, changed}
use Rattle.ixl_spec.specs.Step.{Input}
use Rattle.simulator_machine.specs.Lists.{is_same, changed_at}
use Rattle.simulator_machine.specs.Machine.{Machine, with_route as route_set}
use Rattle.simulator_machine.specs.Table.{Table}
use Rattle.simulator_machine.specs.Chains.{MovesTo}
use Rattle.simulator_move_laws.specs.Nodes.{phase_seen, route_seen}
use Rattle.simulator_move_laws.specs.Sees.{Given}
use Rattle.simulator_move_laws.specs.MachineSoFar.{During, Leads}
use Rattle.simulator_move_laws.proofs.Interlocking.Changes.{at_here, at_other, changed_elsewhere, changed_here, same_is}

length_changed : (number : ℕ) (change : RouteState → RouteState) (list : List RouteState) → length (changed change number list) ≡ length list
length_changed number change [] = refl
length_changed zero change (first ∷ others) = refl
length_changed (suc number) change (first ∷ others) = ap suc (length_changed number change others)

module _ (now : ℕ) (input : Input) (table : Table) (ixl : IxlState) (given : Given) (machine : Machine)
    (onward : (old between new : Machine) → MovesTo table old between → MovesTo table between new → MovesTo table old new) where
  abbrev On : StepSoFar → Type 0
  On part = Leads now input table ixl given machine part

  -- a route is changed, and the machine's route with it
  pub route_on : (number : ℕ) (change : RouteState → RouteState) (part : StepSoFar) (new : Machine) (route : RouteState) → During now input table ixl given machine part new → slice_get part.ixl.routes number ≡ Some route →
      MovesTo table new (route_set number (phase_seen (change route).phase) new) → During now input table ixl given machine (with_route number change part) (route_set number (phase_seen (change route).phase) new)
  route_on number change part new route during is may = record {
    signals = during.signals;
    points = during.points;
    routes = each;
    count = length_changed number change part.ixl.routes ∙ during.count;
    created = during.created;
    holding = during.holding;
    frozen = during.frozen;
    moves = onward machine new (route_set number (phase_seen (change route).phase) new) during.moves may;
  } where
    each : (n : ℕ) → changed_at number (phase_seen (change route).phase) new.routes n ≡ route_seen (slice_get (changed change number part.ixl.routes) n)
    each n = cases (is_same n number) refl where
      cases : (b : Bool) → is_same n number ≡ b → changed_at number (phase_seen (change route).phase) new.routes n ≡ route_seen (slice_get (changed change number part.ixl.routes) n)
      cases true e = subst (λ k. changed_at number (phase_seen (change route).phase) new.routes k ≡ route_seen (slice_get (changed change number part.ixl.routes) k)) (sym (same_is n number e))
          (at_here number (phase_seen (change route).phase) new.routes ∙ sym (ap route_seen (changed_here change number part.ixl.routes route is)))
      cases false e = at_other number (phase_seen (change route).phase) new.routes n e ∙ during.routes n ∙ sym (ap route_seen (changed_elsewhere change number part.ixl.routes n e))

  -- a change that the machine doesn't see
  pub route_same : (number : ℕ) (change : RouteState → RouteState) (part : StepSoFar) → ((route : RouteState) → slice_get part.ixl.routes number ≡ Some route → phase_seen (change route).phase ≡ phase_seen route.phase) →
      On part → On (with_route number change part)
  route_same number change part same (new, during) = (
    new,
    record {
      signals = during.signals;
      points = during.points;
      routes = λ n. during.routes n ∙ each n;
      count = length_changed number change part.ixl.routes ∙ during.count;
      created = during.created;
      holding = during.holding;
      frozen = during.frozen;
      moves = during.moves;
    },
  ) where
    each_in : (place : ℕ) (list : List RouteState) → ((route : RouteState) → slice_get list place ≡ Some route → phase_seen (change route).phase ≡ phase_seen route.phase) →
        (n : ℕ) → route_seen (slice_get list n) ≡ route_seen (slice_get (changed change place list) n)
    each_in place [] same n = refl
    each_in zero (first ∷ others) same zero = sym (same first refl)
    each_in zero (first ∷ others) same (suc n) = refl
    each_in (suc place) (first ∷ others) same zero = refl
    each_in (suc place) (first ∷ others) same (suc n) = each_in place others same n

    each : (n : ℕ) → route_seen (slice_get part.ixl.routes n) ≡ route_seen (slice_get (changed change number part.ixl.routes) n)
    each n = each_in number part.ixl.routes same n

-- ---- what each keeps is kept by all

pub over_kept : (Keeps : StepSoFar → Type 0) (does : ℕ → StepSoFar → StepSoFar) → ((number : ℕ) (part : StepSoFar) → Keeps part → Keeps (does number part)) → (count : ℕ) (part : StepSoFar) → Keeps part → Keeps (over does count part)
over_kept Keeps does each zero part is = is
over_kept Keeps does each (suc number) part is = each number (over does number part) (over_kept Keeps does each number part is)

pub along_kept : {A : Type 0} (Keeps : StepSoFar → Type 0) (does : A → StepSoFar → StepSoFar) → ((one : A) (part : StepSoFar) → Keeps part → Keeps (does one part)) → (list : List A) (part : StepSoFar) → Keeps part → Keeps (along does list part)
along_kept Keeps does each [] part is = is
along_kept Keeps does each (first ∷ others) part is = along_kept Keeps does each others (does first part) (each first part is)

-- a rule at one route
pub at_kept : (Keeps : StepSoFar → Type 0) (rows : Rows) (number : ℕ) (does : Row → RouteState → StepSoFar → StepSoFar) (part : StepSoFar) →
    ((row : Row) (route : RouteState) → slice_get rows.rows number ≡ Some row → slice_get part.ixl.routes number ≡ Some route → Keeps (does row route part)) → Keeps part → Keeps (at_route rows number does part)
unfolding at_route
at_kept Keeps rows number does part each is = cases (slice_get rows.rows number) refl (slice_get part.ixl.routes number) refl where
  cases : (row : Option Row) → slice_get rows.rows number ≡ row → (route : Option RouteState) → slice_get part.ixl.routes number ≡ route →
      Keeps (with_one (slice_get rows.rows number) (λ row part. with_one (slice_get part.ixl.routes number) (does row) part) part)
  cases None missing route e = rw missing is
  cases (Some row) has None missing = rw has (rw missing is)
  cases (Some row) has (Some route) e = rw has (rw e (each row route has e))
