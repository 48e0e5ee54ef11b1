-- A point that comes to its turn is required by the route for which it comes.
use Rattle.std.proofs.Common.{◌≡◌, ℕ, zero, suc, ◌+◌, List, [], ◌∷◌, ◌++◌, map, arith, refl, ap, sym, ◌∙◌, subst}
use Rattle.std.specs.Prelude.{Some, slice_get}
use Rattle.std.specs.List.{Contains}
use Rattle.ixl_state.specs.ixl_spec.State.{IxlState}
use Rattle.ixl_state.specs.ixl_spec.Step.{Commands, Datagram, Input, Tick}
use Rattle.ixl_state.specs.ixl_spec.StepSoFar.{Detector, Point, Signal}
use Rattle.ixl_state.specs.ixl_spec.Table.{Need, Row}
use Rattle.ixl_laws.specs.WholeStep.{Beat, EndAuthority, FreeCancelled, FreeSection, MovePoint, Passed, Proceed, Turn, TurnTaken, Watch, Withdraw, for_each, turns_of_input, turns_of_rules}
use Rattle.ixl_laws.proofs.PickedByTest.{none_is, some_same}

module _ (rows : List Row) where
  -- a turn for a point comes of its row
  abbrev IsNeeded : Turn → Type 0
  IsNeeded (MovePoint number need) = (row : Row) × (slice_get rows number ≡ Some row) × Contains row.needs need
  IsNeeded (Watch number) = Unit {0}
  IsNeeded (Withdraw number) = Unit {0}
  IsNeeded (EndAuthority number) = Unit {0}
  IsNeeded (FreeSection number) = Unit {0}
  IsNeeded (Passed number) = Unit {0}
  IsNeeded (FreeCancelled number) = Unit {0}
  IsNeeded (Proceed number) = Unit {0}
  IsNeeded (Beat node) = Unit {0}

  abbrev AreNeeded : List Turn → Type 0
  AreNeeded turns = (place : ℕ) (turn : Turn) → slice_get turns place ≡ Some turn → IsNeeded turn

  none_needed : AreNeeded []
  none_needed place turn is = absurd (none_is is)

  one_needed : (first : Turn) (others : List Turn) → IsNeeded first → AreNeeded others → AreNeeded (first ∷ others)
  one_needed first others needed later zero turn is = subst IsNeeded (some_same is) needed
  one_needed first others needed later (suc place) turn is = later place turn is

  both_needed : (some more : List Turn) → AreNeeded some → AreNeeded more → AreNeeded (some ++ more)
  both_needed [] more one other place turn is = other place turn is
  both_needed (first ∷ others) more one other zero turn is = one 0 turn is
  both_needed (first ∷ others) more one other (suc place) turn is = both_needed others more (λ further that at. one (suc further) that at) other place turn is

  each_needed : {A : Type 0} (turns : ℕ → A → List Turn) (from : ℕ) (list : List A) → ((place : ℕ) (one : A) → slice_get list place ≡ Some one → AreNeeded (turns (from + place) one)) → AreNeeded (for_each turns from list)
  each_needed turns from [] each = none_needed
  each_needed turns from (first ∷ others) each =
      let here : from + 0 ≡ from = omega arith
      in both_needed (turns from first) (for_each turns (suc from) others) (subst (λ n. AreNeeded (turns n first)) here (each 0 first refl))
      (each_needed turns (suc from) others (λ place one is. let later : from + suc place ≡ suc from + place = omega arith in subst (λ n. AreNeeded (turns n one)) later (each (suc place) one is)))

  -- of some other kind
  all_needed : {A : Type 0} (turn : A → Turn) (list : List A) → ((one : A) → IsNeeded (turn one)) → AreNeeded (map turn list)
  all_needed turn [] each = none_needed
  all_needed turn (first ∷ others) each = one_needed (turn first) (map turn others) (each first) (all_needed turn others each)

  -- the points of one row
  points_needed : (number : ℕ) (row : Row) → slice_get rows number ≡ Some row → (needs : List Need) → ((need : Need) → Contains needs need → Contains row.needs need) → AreNeeded (map (MovePoint number) needs)
  points_needed number row is [] within = none_needed
  points_needed number row is (first ∷ others) within = one_needed (MovePoint number first) (map (MovePoint number) others) (row, is, within first (0, omega arith, refl))
      (points_needed number row is others (λ need has. within need (suc has.0, omega (arith, has.1), has.2)))

  rules_needed : AreNeeded (turns_of_rules rows)
  rules_needed =
      both_needed (for_each (λ number row. Watch number ∷ []) 0 rows) _ (each_needed (λ number row. Watch number ∷ []) 0 rows (λ place row is. one_needed (Watch (0 + place)) [] tt none_needed))
      (both_needed (for_each (λ number row. Withdraw number ∷ []) 0 rows) _ (each_needed (λ number row. Withdraw number ∷ []) 0 rows (λ place row is. one_needed (Withdraw (0 + place)) [] tt none_needed))
      (both_needed (for_each (λ number row. EndAuthority number ∷ []) 0 rows) _ (each_needed (λ number row. EndAuthority number ∷ []) 0 rows (λ place row is. one_needed (EndAuthority (0 + place)) [] tt none_needed))
      (both_needed (for_each (λ number row. map (λ section. FreeSection number) row.sections ++ Passed number ∷ []) 0 rows) _
      (each_needed (λ number row. map (λ section. FreeSection number) row.sections ++ Passed number ∷ []) 0 rows (λ place row is.
      both_needed (map (λ section. FreeSection (0 + place)) row.sections) (Passed (0 + place) ∷ []) (all_needed (λ section. FreeSection (0 + place)) row.sections (λ section. tt)) (one_needed (Passed (0 + place)) [] tt none_needed)))
      (both_needed (for_each (λ number row. FreeCancelled number ∷ []) 0 rows) _ (each_needed (λ number row. FreeCancelled number ∷ []) 0 rows (λ place row is. one_needed (FreeCancelled (0 + place)) [] tt none_needed))
      (both_needed (for_each (λ number row. map (MovePoint number) row.needs) 0 rows) _ (each_needed (λ number row. map (MovePoint number) row.needs) 0 rows (λ place row is.
      let same : place ≡ 0 + place = omega arith in subst (λ n. AreNeeded (map (MovePoint n) row.needs)) same (points_needed place row is row.needs (λ need has. has))))
      (each_needed (λ number row. Proceed number ∷ []) 0 rows (λ place row is. one_needed (Proceed (0 + place)) [] tt none_needed)))))))

  input_needed : (input : Input) (ixl : IxlState) → AreNeeded (turns_of_input input ixl)
  input_needed Tick ixl =
      both_needed (for_each (λ place one. Beat (Signal place) ∷ []) 0 ixl.known_signals) _ (each_needed (λ place one. Beat (Signal place) ∷ []) 0 ixl.known_signals (λ place one is. one_needed (Beat (Signal (0 + place))) [] tt none_needed))
      (both_needed (for_each (λ place one. Beat (Point place) ∷ []) 0 ixl.known_points) _ (each_needed (λ place one. Beat (Point place) ∷ []) 0 ixl.known_points (λ place one is. one_needed (Beat (Point (0 + place))) [] tt none_needed))
      (each_needed (λ place one. Beat (Detector place) ∷ []) 0 ixl.detectors (λ place one is. one_needed (Beat (Detector (0 + place))) [] tt none_needed)))
  input_needed (Datagram bytes) ixl = none_needed
  input_needed (Commands command) ixl = none_needed

  mapped : {A B : Type 0} (f : A → B) (list : List A) (place : ℕ) (one : A) → slice_get list place ≡ Some one → slice_get (map f list) place ≡ Some (f one)
  mapped f [] place one is = absurd (none_is is)
  mapped f (first ∷ others) zero one is = ap (λ o. Some (f o)) (some_same is)
  mapped f (first ∷ others) (suc place) one is = mapped f others place one is

  pub turn_needed : (input : Input) (ixl : IxlState) (turns : List TurnTaken) → map (λ (taken : TurnTaken). taken.turn) turns ≡ turns_of_rules rows ++ turns_of_input input ixl →
      (place : ℕ) (taken : TurnTaken) (number : ℕ) (need : Need) → slice_get turns place ≡ Some taken → taken.turn ≡ MovePoint number need →
      (row : Row) × (slice_get rows number ≡ Some row) × Contains row.needs need
  turn_needed input ixl turns are place taken number need at turn =
      both_needed (turns_of_rules rows) (turns_of_input input ixl) rules_needed (input_needed input ixl) place (MovePoint number need)
      (ap (λ list. slice_get list place) (sym are) ∙ mapped (λ (taken : TurnTaken). taken.turn) turns place taken at ∙ ap Some turn)
