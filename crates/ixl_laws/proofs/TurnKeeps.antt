-- What every turn keeps is kept from one turn of a step to another. Whether something is due needn't be decided: it is
-- shown that what is kept isn't lost.
use Rattle.std.proofs.Common.{◌≡◌, ℕ, zero, suc, ◌<◌, List, [], ◌∷◌, arith, sym, subst}
use Rattle.std.specs.Prelude.{Some, slice_get}
use Rattle.ixl_state.specs.ixl_spec.Due.{DoesWhere}
use Rattle.ixl_state.specs.ixl_spec.StepSoFar.{StepSoFar}
use Rattle.ixl_state.specs.ixl_spec.Table.{Table}
use Rattle.ixl_laws.specs.WholeStep.{DoesItsTurn, Follow, Turn, TurnTaken}
use Rattle.ixl_laws.proofs.PickedByTest.{none_is, some_same}

-- it isn't false that this holds
abbrev pub Stays : Type 0 → Type 0
Stays holds = (holds → ⊥) → ⊥

pub where_stays : {Due : Type 0} (Holds : StepSoFar → Type 0) (before done after : StepSoFar) → DoesWhere Due before done after → Holds before → (Due → Holds done) → Stays (Holds after)
where_stays Holds before done after does is also lost = lost (subst Holds (sym (does.otherwise (λ due. lost (subst Holds (sym (does.due due)) (also due))))) is)

module _ (now : ℕ) (table : Table) where
  -- the turn at a place does what is due
  pub turn_at : (turns : List TurnTaken) (begin end : StepSoFar) → Follow now table begin turns end → (place : ℕ) (one : TurnTaken) → slice_get turns place ≡ Some one → DoesItsTurn now table one.turn one.before one.after
  turn_at [] begin end follow place one is = absurd (none_is is)
  turn_at (first ∷ others) begin end follow zero one is = subst (λ (t : TurnTaken). DoesItsTurn now table t.turn t.before t.after) (some_same is) follow.1
  turn_at (first ∷ others) begin end follow (suc place) one is = turn_at others first.after end follow.2 place one is

  module _ (Holds : StepSoFar → Type 0) (kept : (turn : Turn) (before after : StepSoFar) → DoesItsTurn now table turn before after → Holds before → Stays (Holds after)) where
    -- to the end
    pub through : (turns : List TurnTaken) (begin end : StepSoFar) → Follow now table begin turns end → Holds begin → Stays (Holds end)
    through [] begin end follow is lost = lost (subst Holds (sym follow) is)
    through (first ∷ others) begin end follow is lost =
        kept first.turn first.before first.after follow.1 (subst Holds (sym follow.0) is) (λ further. through others first.after end follow.2 further lost)

    -- up to a turn
    pub up_to : (turns : List TurnTaken) (begin end : StepSoFar) → Follow now table begin turns end → (place : ℕ) (one : TurnTaken) → slice_get turns place ≡ Some one → Holds begin → Stays (Holds one.before)
    up_to [] begin end follow place one at is lost = absurd (none_is at)
    up_to (first ∷ others) begin end follow zero one at is lost = lost (subst (λ (t : TurnTaken). Holds t.before) (some_same at) (subst Holds (sym follow.0) is))
    up_to (first ∷ others) begin end follow (suc place) one at is lost =
        kept first.turn first.before first.after follow.1 (subst Holds (sym follow.0) is) (λ further. up_to others first.after end follow.2 place one at further lost)

    -- from a turn on
    pub from_turn : (turns : List TurnTaken) (begin end : StepSoFar) → Follow now table begin turns end → (place : ℕ) (one : TurnTaken) → slice_get turns place ≡ Some one → Holds one.after → Stays (Holds end)
    from_turn [] begin end follow place one at is lost = absurd (none_is at)
    from_turn (first ∷ others) begin end follow zero one at is lost = through others first.after end follow.2 (subst (λ (t : TurnTaken). Holds t.after) (sym (some_same at)) is) lost
    from_turn (first ∷ others) begin end follow (suc place) one at is lost = from_turn others first.after end follow.2 place one at is lost

    -- from one turn to another
    pub between : (turns : List TurnTaken) (begin end : StepSoFar) → Follow now table begin turns end → (earlier later : ℕ) (one another : TurnTaken) → earlier < later →
        slice_get turns earlier ≡ Some one → slice_get turns later ≡ Some another → Holds one.after → Stays (Holds another.before)
    between [] begin end follow earlier later one another less at then is lost = absurd (none_is at)
    between (first ∷ others) begin end follow zero zero one another less at then is lost = absurd (omega (arith, less))
    between (first ∷ others) begin end follow zero (suc later) one another less at then is lost =
        up_to others first.after end follow.2 later another then (subst (λ (t : TurnTaken). Holds t.after) (sym (some_same at)) is) lost
    between (first ∷ others) begin end follow (suc earlier) zero one another less at then is lost = absurd (omega (arith, less))
    between (first ∷ others) begin end follow (suc earlier) (suc later) one another less at then is lost =
        let fewer : earlier < later = omega (arith, less) in between others first.after end follow.2 earlier later one another fewer at then is lost
