-- The ticks are their turns, and so are the parts of a step after its input.
use Rattle.std.proofs.Common.{◌≡◌, ℕ, [], ◌∷◌, ◌++◌, length, refl, sym, subst}
use Rattle.ixl_state.specs.rasta_pdu.declared.key.Key.{Key}
use Rattle.ixl_state.specs.ixl_spec.StepSoFar.{Detector, Node, Point, Signal, StepSoFar, over}
use Rattle.ixl_state.specs.ixl_spec.Rules.{count, ruled}
use Rattle.ixl_state.specs.ixl_spec.State.{IxlState}
use Rattle.ixl_state.specs.ixl_spec.Step.{Commands, Datagram, Input, Tick, all_clocked, detector_ticking, given, known_point_ticking, known_signal_ticking, ticked, watching}
use Rattle.ixl_state.specs.ixl_spec.Table.{Table}
use Rattle.ixl_laws.specs.WholeStep.{Beat, Fits, beaten, for_each, turns_of_input, turns_of_rules}
use Rattle.ixl_laws.proofs.Turns.{Taken, Walks, over_walks, walks_joined, walks_nowhere, walks_once}
use Rattle.ixl_laws.proofs.WholeCounts.{SameCounts, counts_ruled}
use Rattle.ixl_laws.proofs.WholeInput.{beaten_fits, clocked_fits, given_fits}
use Rattle.ixl_laws.proofs.WholeRules.{RuleLaws, rules_walk}

module _ (now : ℕ) (table : Table) where
  beat_walks : (node : Node) (part : StepSoFar) → Walks now table (Beat node ∷ []) part (beaten now node part)
  beat_walks node part = walks_once now table (Beat node) part (beaten now node part) (λ fits. (refl, beaten_fits table now node part fits))

  ticks_walk : (first : IxlState) (input : Input) (part : StepSoFar) → SameCounts first part.ixl → Walks now table (turns_of_input input first) part (ticked now input part)
  unfolding ticked
  ticks_walk first (Datagram bytes) part counts = walks_nowhere now table part
  ticks_walk first (Commands command) part counts = walks_nowhere now table part
  ticks_walk first Tick part counts = walks_joined now table _ _ part signals (over (detector_ticking now) (length part.ixl.detectors) points)
      (subst (λ n. Walks now table (for_each (λ place one. Beat (Signal place) ∷ []) 0 first.known_signals) part (over (known_signal_ticking now) n part)) (sym counts.known_signals)
      (over_walks now table (known_signal_ticking now) (λ place one. Beat (Signal place) ∷ []) first.known_signals (λ place one some there. beat_walks (Signal place) some) part))
      (walks_joined now table _ _ signals points (over (detector_ticking now) (length part.ixl.detectors) points)
      (subst (λ n. Walks now table (for_each (λ place one. Beat (Point place) ∷ []) 0 first.known_points) signals (over (known_point_ticking now) n signals)) (sym counts.known_points)
      (over_walks now table (known_point_ticking now) (λ place one. Beat (Point place) ∷ []) first.known_points (λ place one some there. beat_walks (Point place) some) signals))
      (subst (λ n. Walks now table (for_each (λ place one. Beat (Detector place) ∷ []) 0 first.detectors) points (over (detector_ticking now) n points)) (sym counts.detectors)
      (over_walks now table (detector_ticking now) (λ place one. Beat (Detector place) ∷ []) first.detectors (λ place one some there. beat_walks (Detector place) some) points)))
    where
      signals : StepSoFar
      signals = over (known_signal_ticking now) (length part.ixl.known_signals) part

      points : StepSoFar
      points = over (known_point_ticking now) (length part.ixl.known_points) signals

  -- all that a step does after its input
  pub step_walks : (laws : RuleLaws now table) (key : Key) (input : Input) (first : IxlState) (part : StepSoFar) → part.ixl ≡ all_clocked now first → Fits table first →
      Taken now table (turns_of_rules table.rows ++ turns_of_input input first) (given now table key input part)
      (ticked now input (ruled now table (over (watching table) (count table) (given now table key input part))))
  step_walks laws key input first part begins fits =
      walks_joined now table (turns_of_rules table.rows) (turns_of_input input first) heard rules (ticked now input rules)
      (rules_walk now table laws heard) (ticks_walk first input rules (counts_ruled first now table key input part begins))
      (given_fits table now key input part (subst (Fits table) (sym begins) (clocked_fits table now first fits)))
    where
      heard : StepSoFar
      heard = given now table key input part

      rules : StepSoFar
      rules = ruled now table (over (watching table) (count table) heard)
