-- What each change that a rule can make keeps is kept by all rules.
use Rattle.std.proofs.Common.{◌≡◌, ℕ, zero, suc, Bool, true, List, [], ◌∷◌, length, refl}
use Rattle.std.specs.Prelude.{◌&&◌, ◌||◌, Option, Some, None, slice_get}
use Rattle.ixl_state.specs.sci_telegram.declared.message.Aspect.{Aspect}
use Rattle.ixl_state.specs.sci_telegram.declared.message.Side.{Side}
use Rattle.ixl_state.specs.ixl_spec.StepSoFar.{StepSoFar, along, at_route, giving_aspect, giving_move, over, with_one, with_route}
use Rattle.ixl_state.specs.ixl_spec.Rules.{authorised, count, ending_authority, freeing_by_cancel, freeing_by_passage, freeing_next, frees_cancelled, frees_next, is_move_due, is_proceed_due, is_proceeding, is_stop_due, is_withdrawn, moving, moving_one, proceeding, repeated, ruled, stopped, withdrawing}
use Rattle.ixl_state.specs.ixl_spec.State.{IxlState, RouteState}
use Rattle.ixl_state.specs.ixl_spec.Step.{looking, looking_by, watching}
use Rattle.ixl_state.specs.ixl_spec.Table.{Need, Row, Table}
use Rattle.ixl_state.specs.ixl_spec.View.{is_at_known_stop, is_point_available, is_signal_ready, was_authorised}
use Rattle.ixl_laws.proofs.PickedByTest.{both, either, picked}

-- a move is given only where the point is available
due_available : (table : Table) (ixl : IxlState) (number : ℕ) (route : RouteState) (need : Need) → is_move_due table ixl number route need ≡ true → is_point_available ixl need.point ≡ true
due_available table ixl number route need due = (both _ _ (both _ _ (both _ _ (both _ _ (both _ _ (both _ _ due).0).0).0).0).0).1

-- this stays so whatever becomes of a route
abbrev pub IsKeptByRoutes : (StepSoFar → Type 0) → Type 0
IsKeptByRoutes Holds = (number : ℕ) (change : RouteState → RouteState) (part : StepSoFar) → Holds part → Holds (with_route number change part)

-- and whatever is given to a signal, and to a point that is available
pub record IsKeptByChanges (now : ℕ) (Holds : StepSoFar → Type 0) : Type 0 where
  pub route : IsKeptByRoutes Holds
  pub aspect : (signal : ℕ) (aspect : Aspect) (part : StepSoFar) → Holds part → Holds (giving_aspect now signal aspect part)
  pub move : (point : ℕ) (side : Side) (part : StepSoFar) → is_point_available part.ixl point ≡ true → Holds part → Holds (giving_move now point side part)

module _ (Holds : StepSoFar → Type 0) where
  pub with_one_or_none : {A : Type 0} (one : Option A) (does : A → StepSoFar → StepSoFar) (part : StepSoFar) → ((a : A) → one ≡ Some a → Holds (does a part)) → (one ≡ None → Holds part) → Holds (with_one one does part)
  with_one_or_none None does part each is = is refl
  with_one_or_none (Some a) does part each is = each a refl

  pub with_one_holds : {A : Type 0} (one : Option A) (does : A → StepSoFar → StepSoFar) (part : StepSoFar) → ((a : A) → one ≡ Some a → Holds (does a part)) → Holds part → Holds (with_one one does part)
  with_one_holds one does part each is = with_one_or_none one does part each (λ none. is)

  pub over_holds : (does : ℕ → StepSoFar → StepSoFar) → ((number : ℕ) (part : StepSoFar) → Holds part → Holds (does number part)) → (n : ℕ) (part : StepSoFar) → Holds part → Holds (over does n part)
  over_holds does each zero part is = is
  over_holds does each (suc n) part is = each n (over does n part) (over_holds does each n part is)

  pub along_holds : {A : Type 0} (does : A → StepSoFar → StepSoFar) → ((a : A) (part : StepSoFar) → Holds part → Holds (does a part)) → (list : List A) (part : StepSoFar) → Holds part → Holds (along does list part)
  along_holds does each [] part is = is
  along_holds does each (first ∷ others) part is = along_holds does each others (does first part) (each first part is)

  pub repeated_holds : (does : StepSoFar → StepSoFar) → ((part : StepSoFar) → Holds part → Holds (does part)) → (n : ℕ) (part : StepSoFar) → Holds part → Holds (repeated n does part)
  repeated_holds does each zero part is = is
  repeated_holds does each (suc n) part is = repeated_holds does each n (does part) (each part is)

  pub at_route_holds : (table : Table) (number : ℕ) (does : Row → RouteState → StepSoFar → StepSoFar) (part : StepSoFar) → ((row : Row) (route : RouteState) → Holds (does row route part)) → Holds part → Holds (at_route table number does part)
  unfolding at_route
  at_route_holds table number does part each is =
      with_one_holds (slice_get table.rows number) _ part (λ row there. with_one_holds (slice_get part.ixl.routes number) (does row) part (λ route also. each row route) is) is

  -- ---- what is seen

  module _ (kept : IsKeptByRoutes Holds) (table : Table) where
    pub watching_holds : (number : ℕ) (part : StepSoFar) → Holds part → Holds (watching table number part)
    unfolding watching
    watching_holds number part is = at_route_holds table number _ part (λ row route. either Holds (is_proceeding route.phase || is_withdrawn route.phase) _ _ (kept number _ part is) is) is

    pub seen_holds : (part : StepSoFar) → Holds part → Holds (over (watching table) (count table) part)
    seen_holds part is = over_holds (watching table) watching_holds (count table) part is

    looking_by_holds : (section : ℕ) (occupied : Bool) (number : ℕ) (part : StepSoFar) → Holds part → Holds (looking_by section occupied table number part)
    unfolding looking_by
    looking_by_holds section occupied number part is = at_route_holds table number _ part (λ row route. either Holds (was_authorised route.phase) _ _ (kept number _ part is) is) is

    pub looking_holds : (look : ℕ × Bool) (part : StepSoFar) → Holds part → Holds (looking table look part)
    looking_holds look part is = over_holds (looking_by look.0 look.1 table) (looking_by_holds look.0 look.1) (count table) part is

    -- ---- the rules that change a route alone

    pub ending_holds : (now number : ℕ) (part : StepSoFar) → Holds part → Holds (ending_authority now table number part)
    unfolding ending_authority
    ending_holds now number part is = at_route_holds table number _ part (λ row route.
        either Holds (is_withdrawn route.phase && is_at_known_stop now part.ixl row.entry) _ _ (kept number _ part is) is) is

    next_holds : (number : ℕ) (part : StepSoFar) → Holds part → Holds (freeing_next table number part)
    unfolding freeing_next
    next_holds number part is = at_route_holds table number _ part (λ row route. either Holds (frees_next table part.ixl row route route.phase) _ _ (kept number _ part is) is) is

    pub passage_holds : (number : ℕ) (part : StepSoFar) → Holds part → Holds (freeing_by_passage table number part)
    unfolding freeing_by_passage
    passage_holds number part is = at_route_holds table number _ part (λ row route. repeated_holds (freeing_next table number) (next_holds number) (length row.sections) part is) is

    pub cancel_holds : (now number : ℕ) (part : StepSoFar) → Holds part → Holds (freeing_by_cancel now table number part)
    unfolding freeing_by_cancel
    cancel_holds now number part is = at_route_holds table number _ part (λ row route.
        either Holds (route.cancelled && frees_cancelled now table part.ixl row route route.phase) _ _ (kept number _ part is) is) is

    -- authority ends, and sections and routes are freed
    pub freed_holds : (now : ℕ) (part : StepSoFar) → Holds part →
        Holds (over (freeing_by_cancel now table) (count table) (over (freeing_by_passage table) (count table) (over (ending_authority now table) (count table) part)))
    freed_holds now part is =
        over_holds (freeing_by_cancel now table) (cancel_holds now) (count table) _
        (over_holds (freeing_by_passage table) passage_holds (count table) _
        (over_holds (ending_authority now table) (ending_holds now) (count table) part is))

  -- ---- all rules

  module _ (now : ℕ) (kept : IsKeptByChanges now Holds) (table : Table) where
    pub withdrawing_holds : (number : ℕ) (part : StepSoFar) → Holds part → Holds (withdrawing now table number part)
    unfolding withdrawing
    withdrawing_holds number part is = at_route_holds table number _ part (λ row route.
        either Holds (is_stop_due table part.ixl row route) _ _ (stop row (with_route number _ part) (kept.route number _ part is)) is) is
      where
        stop : (row : Row) (part : StepSoFar) → Holds part → Holds (stopped now row part)
        stop row part is = either Holds (is_signal_ready part.ixl row.entry) _ _ (kept.aspect row.entry _ part is) is

    pub moving_one_holds : (number : ℕ) (need : Need) (part : StepSoFar) → Holds part → Holds (moving_one now table number need part)
    unfolding moving_one
    moving_one_holds number need part is = at_route_holds table number _ part (λ row route.
        picked Holds (is_move_due table part.ixl number route need) _ _
        (λ due. kept.move need.point need.side part (due_available table part.ixl number route need due) is) (λ none. is)) is

    pub moving_holds : (number : ℕ) (part : StepSoFar) → Holds part → Holds (moving now table number part)
    unfolding moving
    moving_holds number part is = at_route_holds table number _ part (λ row route. along_holds (moving_one now table number) (moving_one_holds number) row.needs part is) is

    pub proceeding_holds : (number : ℕ) (part : StepSoFar) → Holds part → Holds (proceeding now table number part)
    unfolding proceeding
    proceeding_holds number part is = at_route_holds table number _ part (λ row route.
        either Holds (is_proceed_due now table part.ixl row route) _ _ (kept.aspect row.entry row.aspect (with_route number (authorised table part.ixl row) part) (kept.route number _ part is)) is) is

    pub ruled_holds : (part : StepSoFar) → Holds part → Holds (ruled now table part)
    ruled_holds part is =
        over_holds (proceeding now table) proceeding_holds (count table) _
        (over_holds (moving now table) moving_holds (count table) _
        (freed_holds kept.route table now _ (over_holds (withdrawing now table) withdrawing_holds (count table) part is)))
