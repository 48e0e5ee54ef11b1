-- The interlocking is made anew.
use Rattle.std.proofs.Common.{inl, inr, ◌≡◌, ◌⊎◌, ℕ, ◌+◌, ◌≤◌, ◌<◌, true, if◌then◌else◌, List, length, refl, sym, ap, ◌∙◌, arith}
use Rattle.std.specs.Prelude.{get_or, min, Option, Some, None, slice_get}
use Rattle.std.proofs.lemmas.Bool.{lt-ltb}
use Rattle.std.proofs.lemmas.Option.{slice_get_cases, slice_get_within}
use Rattle.ixl_spec.specs.rasta_core.Parameters.{greatest}
use Rattle.ixl_spec.specs.State.{IxlState, KnownSignalState, RouteState}
use Rattle.ixl_spec.specs.View.{is_holding}
use Rattle.ixl_spec.specs.declared.phase.Phase.{Phase as RoutePhase}
use Rattle.ixl_spec.specs.declared.phase.Phase.TheVariants as phase
use Rattle.simulator_machine.specs.Link.{Gone}
use Rattle.simulator_machine.specs.Machine.{Machine, is_held, made_anew}
use Rattle.simulator_machine.specs.Moves.{Restarts}
use Rattle.simulator_machine.specs.Route.{has_authority}
use Rattle.simulator_machine.specs.Table.{Table}
use Rattle.simulator_move_laws.specs.Made.{IsJustMade}
use Rattle.simulator_move_laws.specs.Nodes.{phase_seen, route_seen}
use Rattle.simulator_move_laws.specs.Onward.{IsMadeAnew, has_authority_there, held_routes}
use Rattle.simulator_move_laws.specs.Sees.{Given, Sees, SeesSignal}
use Rattle.simulator_move_laws.proofs.Interlocking.Made.{made_sees}
use Rattle.simulator_move_laws.proofs.Interlocking.RulesKept.{one_move}

pub holds_at_first : (now : ℕ) (ixl : IxlState) → ixl.created ≡ now → now < greatest → is_holding now ixl ≡ true
holds_at_first now ixl created clock = lt-ltb now (min (ixl.created + 6000) greatest) (omega (arith, created, clock))

authority_seen : (route : Option RouteState) → has_authority (route_seen route) ≡ has_authority_there route
authority_seen None = refl
authority_seen (Some route) = by_phase route.phase where
  by_phase : (p : RoutePhase) → has_authority (phase_seen p) ≡ has_authority_there (Some (record route { phase = p }))
  by_phase phase.Free = refl
  by_phase phase.Waiting = refl
  by_phase phase.Proceeding = refl
  by_phase phase.Withdrawn = refl
  by_phase (phase.Ended clock freed) = refl

pub held_seen : (now : ℕ) (ixl : IxlState) (given : Given) (machine : Machine) → Sees now ixl given machine → (number : ℕ) → is_held machine number ≡ held_routes now ixl machine.frozen number
held_seen now ixl given machine sees number = ap (λ b. if b then machine.frozen number else has_authority (machine.routes number)) sees.holding
    ∙ ap (λ b. if is_holding now ixl then machine.frozen number else b) (ap has_authority (sees.routes number) ∙ authority_seen (slice_get ixl.routes number))

none_either : {A : Type 0} (one other : List A) (place : ℕ) → length one ≡ length other → slice_get one place ≡ None → slice_get other place ≡ None
none_either {A = A} one other place same none = cases (slice_get other place) refl where
  cases : (x : Option A) → slice_get other place ≡ x → slice_get other place ≡ None
  cases None is = is
  cases (Some there) is = absurd (within (slice_get_cases one place).1 (slice_get_within other place there is)) where
    within : ((x : A) × (place < length one) × (slice_get one place ≡ Some x) × (get_or one place x ≡ x)) ⊎ ((length one ≤ place) × (slice_get one place ≡ None)) → place < length other → ⊥
    within (inl found) less = some_none (sym found.2 ∙ none) where
      some_none : {x : A} → Some x ≡ None → ⊥
      some_none e = cc (e)
    within (inr past) less = omega (arith, past.0, same, less)

module _ (now later : ℕ) (table : Table) (old anew : IxlState) (given anew_given : Given) (machine : Machine) (sees : Sees now old given machine)
    (made : IsJustMade anew) (created : anew.created ≡ later) (clock : later < greatest) (same : length anew.known_signals ≡ length old.known_signals) where
  gone : (place : ℕ) (known_signal : Option KnownSignalState) → SeesSignal now old known_signal (given.signals place) (machine.signals place) → known_signal ≡ None → (machine.signals place).link.server ≡ Gone
  gone place None seen none = seen
  gone place (Some known_signal) seen none = absurd (cc (none))

  pub is_made_anew : IsMadeAnew now later table old anew anew_given machine (made_anew machine)
  is_made_anew = record {
    keeps = record {
      moves = one_move table machine Restarts tt;
      signals = λ place. record { server = refl; done = refl };
      points = λ place. record { server = refl; taken = refl; reports = refl; driven = refl; position = refl };
      aspects = λ place. refl;
      given = λ place. refl;
    };
    frozen = held_seen now old given machine sees;
    sees = made_sees later anew (holds_at_first later anew created clock) anew_given (made_anew machine) made
        (record {
          signals = λ place. refl;
          points = λ place. refl;
          routes = λ number. refl;
          holding = refl;
          unknown = λ place none. gone place (slice_get old.known_signals place) (sees.signals place) (none_either anew.known_signals old.known_signals place same none);
        });
  }
