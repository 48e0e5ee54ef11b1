-- The six rules are their turns.
use Rattle.std.proofs.Common.{◌≡◌, ℕ, Bool, true, false, if◌then◌else◌, List, [], ◌∷◌, ◌++◌, length, refl, sym, subst}
use Rattle.std.specs.Prelude.{◌||◌, map, Some, slice_get}
use Rattle.std.proofs.lemmas.Bool.{false≢true}
use Rattle.ixl_state.specs.ixl_spec.Due.{DoesWhere, FreeByCancel, IsRouteOf, MoveDue, ProceedDue, StopDue}
use Rattle.ixl_state.specs.ixl_spec.EndDue.{EndDue, SomeFreeable}
use Rattle.ixl_state.specs.ixl_spec.StepSoFar.{StepSoFar, giving_aspect, giving_move, over, with_route}
use Rattle.ixl_state.specs.ixl_spec.Rules.{authorised, come_to, count, ending_authority, freed, freeing_by_cancel, freeing_by_passage, freeing_next, is_proceeding, is_withdrawn, moving, moving_one, one_freed, proceeding, ruled, stopped, withdrawing}
use Rattle.ixl_state.specs.ixl_spec.State.{RouteState}
use Rattle.ixl_state.specs.ixl_spec.Step.{watching}
use Rattle.ixl_state.specs.ixl_spec.Table.{Need, Row, Table}
use Rattle.ixl_state.specs.ixl_spec.View.{has_authority}
use Rattle.ixl_state.specs.ixl_spec.declared.phase.Phase.{Phase}
use Rattle.ixl_state.specs.ixl_spec.declared.phase.Phase.TheVariants as phase
use Rattle.ixl_laws.specs.WholeStep.{DoesItsTurn, EndAuthority, Fits, FreeCancelled, FreeSection, MovePoint, Passed, Proceed, Turn, Watch, Withdraw, approach_seen, turns_of_rules}
use Rattle.ixl_laws.proofs.Turns.{Taken, Walks, along_walks, over_walks, repeated_walks, walks_joined, walks_once}
use Rattle.ixl_laws.proofs.WholeFits.{at_route_is, cancel_fits, ending_fits, moving_fits, next_fits, proceeding_fits, route_of, watching_fits, withdrawing_fits}

-- what is so of each rule at one route
pub record RuleLaws (now : ℕ) (table : Table) : Type 0 where
  pub stop : (number : ℕ) (part : StepSoFar) (row : Row) (route : RouteState) → IsRouteOf table part.ixl number row route →
      DoesWhere (StopDue table part.ixl row route) part (stopped now row (with_route number (come_to phase.Withdrawn) part)) (withdrawing now table number part)
  pub ends : (number : ℕ) (part : StepSoFar) (row : Row) (route : RouteState) → IsRouteOf table part.ixl number row route →
      DoesWhere (EndDue now part.ixl row route) part (with_route number (come_to (phase.Ended now 0)) part) (ending_authority now table number part)
  pub section : (number : ℕ) (part : StepSoFar) (row : Row) (route : RouteState) → IsRouteOf table part.ixl number row route → route.passage.sections ≡ length row.sections →
      DoesWhere (SomeFreeable table part.ixl row route) part (with_route number (one_freed row route.phase) part) (freeing_next table number part)
  pub nothing_more : (number : ℕ) (part : StepSoFar) (row : Row) (route after : RouteState) → IsRouteOf table part.ixl number row route → IsRouteOf table (freeing_by_passage table number part).ixl number row after →
      after.passage.sections ≡ length row.sections → SomeFreeable table (freeing_by_passage table number part).ixl row after → ⊥
  pub cancel : (number : ℕ) (part : StepSoFar) (row : Row) (route : RouteState) → IsRouteOf table part.ixl number row route →
      DoesWhere (FreeByCancel now table part.ixl row route) part (with_route number freed part) (freeing_by_cancel now table number part)
  pub move : (number : ℕ) (need : Need) (part : StepSoFar) (row : Row) (route : RouteState) → IsRouteOf table part.ixl number row route →
      DoesWhere (MoveDue table part.ixl number route need) part (giving_move now need.point need.side part) (moving_one now table number need part)
  pub proceed : (number : ℕ) (part : StepSoFar) (row : Row) (route : RouteState) → IsRouteOf table part.ixl number row route →
      DoesWhere (ProceedDue now table part.ixl row route) part (giving_aspect now row.entry row.aspect (with_route number (authorised table part.ixl row) part)) (proceeding now table number part)

where_test : (b : Bool) (done part : StepSoFar) → DoesWhere (b ≡ true) part done (if b then done else part)
where_test true done part = record { due = λ is. refl; otherwise = λ no. absurd (no refl) }
where_test false done part = record { due = λ is. absurd (false≢true is); otherwise = λ no. refl }

authority_is : (p : Phase) → (is_proceeding p || is_withdrawn p) ≡ has_authority p
authority_is phase.Free = refl
authority_is phase.Waiting = refl
authority_is phase.Proceeding = refl
authority_is phase.Withdrawn = refl
authority_is (phase.Ended clock done) = refl

watches : (table : Table) (number : ℕ) (part : StepSoFar) (row : Row) (route : RouteState) → IsRouteOf table part.ixl number row route →
    DoesWhere (has_authority route.phase ≡ true) part (with_route number (approach_seen table part.ixl row) part) (watching table number part)
unfolding watching
watches table number part row route is =
    subst (DoesWhere (has_authority route.phase ≡ true) part (with_route number (approach_seen table part.ixl row) part)) (sym (at_route_is table number _ part row route is))
    (subst (λ b. DoesWhere (has_authority route.phase ≡ true) part (with_route number (approach_seen table part.ixl row) part) (if b then with_route number (approach_seen table part.ixl row) part else part)) (sym (authority_is route.phase))
    (where_test (has_authority route.phase) (with_route number (approach_seen table part.ixl row) part) part))

module _ (now : ℕ) (table : Table) (laws : RuleLaws now table) (number : ℕ) where
  module _ (row : Row) (there : slice_get table.rows number ≡ Some row) where
    -- the route, as it is kept
    kept : (part : StepSoFar) → Fits table part.ixl → (route : RouteState) × IsRouteOf table part.ixl number row route
    kept part fits = let route = route_of table part.ixl number row fits there in (route.0, (there, route.1))

    pub watch_walks : (part : StepSoFar) → Walks now table (Watch number ∷ []) part (watching table number part)
    watch_walks part = walks_once now table (Watch number) part (watching table number part) (λ fits. does fits (kept part fits)) where
      does : Fits table part.ixl → (route : RouteState) × IsRouteOf table part.ixl number row route → DoesItsTurn now table (Watch number) part (watching table number part) × Fits table (watching table number part).ixl
      does fits (route, is) = ((row, route, is, watches table number part row route is), watching_fits now table number part row route is fits)

    pub withdraw_walks : (part : StepSoFar) → Walks now table (Withdraw number ∷ []) part (withdrawing now table number part)
    withdraw_walks part = walks_once now table (Withdraw number) part (withdrawing now table number part) (λ fits. does fits (kept part fits)) where
      does : Fits table part.ixl → (route : RouteState) × IsRouteOf table part.ixl number row route → DoesItsTurn now table (Withdraw number) part (withdrawing now table number part) × Fits table (withdrawing now table number part).ixl
      does fits (route, is) = ((row, route, is, laws.stop number part row route is), withdrawing_fits now table number part row route is fits)

    pub end_walks : (part : StepSoFar) → Walks now table (EndAuthority number ∷ []) part (ending_authority now table number part)
    end_walks part = walks_once now table (EndAuthority number) part (ending_authority now table number part) (λ fits. does fits (kept part fits)) where
      does : Fits table part.ixl → (route : RouteState) × IsRouteOf table part.ixl number row route → DoesItsTurn now table (EndAuthority number) part (ending_authority now table number part) × Fits table (ending_authority now table number part).ixl
      does fits (route, is) = ((row, route, is, laws.ends number part row route is), ending_fits now table number part row route is fits)

    pub section_walks : (part : StepSoFar) → Walks now table (FreeSection number ∷ []) part (freeing_next table number part)
    section_walks part = walks_once now table (FreeSection number) part (freeing_next table number part) (λ fits. does fits (kept part fits)) where
      does : Fits table part.ixl → (route : RouteState) × IsRouteOf table part.ixl number row route → DoesItsTurn now table (FreeSection number) part (freeing_next table number part) × Fits table (freeing_next table number part).ixl
      does fits (route, is) = ((row, route, is, laws.section number part row route is (fits.passages number row route is)), next_fits now table number part row route is fits)

    pub cancel_walks : (part : StepSoFar) → Walks now table (FreeCancelled number ∷ []) part (freeing_by_cancel now table number part)
    cancel_walks part = walks_once now table (FreeCancelled number) part (freeing_by_cancel now table number part) (λ fits. does fits (kept part fits)) where
      does : Fits table part.ixl → (route : RouteState) × IsRouteOf table part.ixl number row route → DoesItsTurn now table (FreeCancelled number) part (freeing_by_cancel now table number part) × Fits table (freeing_by_cancel now table number part).ixl
      does fits (route, is) = ((row, route, is, laws.cancel number part row route is), cancel_fits now table number part row route is fits)

    pub move_walks : (need : Need) (part : StepSoFar) → Walks now table (MovePoint number need ∷ []) part (moving_one now table number need part)
    move_walks need part = walks_once now table (MovePoint number need) part (moving_one now table number need part) (λ fits. does fits (kept part fits)) where
      does : Fits table part.ixl → (route : RouteState) × IsRouteOf table part.ixl number row route → DoesItsTurn now table (MovePoint number need) part (moving_one now table number need part) × Fits table (moving_one now table number need part).ixl
      does fits (route, is) = ((row, route, is, laws.move number need part row route is), moving_fits now table number part row route is fits need)

    pub proceed_walks : (part : StepSoFar) → Walks now table (Proceed number ∷ []) part (proceeding now table number part)
    proceed_walks part = walks_once now table (Proceed number) part (proceeding now table number part) (λ fits. does fits (kept part fits)) where
      does : Fits table part.ixl → (route : RouteState) × IsRouteOf table part.ixl number row route → DoesItsTurn now table (Proceed number) part (proceeding now table number part) × Fits table (proceeding now table number part).ixl
      does fits (route, is) = ((row, route, is, laws.proceed number part row route is), proceeding_fits now table number part row route is fits)

    -- all points of a route
    pub moves_walk : (part : StepSoFar) → Walks now table (map (MovePoint number) row.needs) part (moving now table number part)
    unfolding moving
    moves_walk part fits = by_route (kept part fits) where
      by_route : (route : RouteState) × IsRouteOf table part.ixl number row route → Taken now table (map (MovePoint number) row.needs) part (moving now table number part)
      by_route (route, is) = subst (Taken now table (map (MovePoint number) row.needs) part) (sym (at_route_is table number _ part row route is))
          (along_walks now table (moving_one now table number) (MovePoint number) move_walks row.needs part fits)

    -- all sections of a route
    turns : List Turn
    turns = map (λ section. FreeSection number) row.sections

    pub sections_walk : (part : StepSoFar) → Walks now table (map (λ section. FreeSection number) row.sections ++ Passed number ∷ []) part (freeing_by_passage table number part)
    unfolding freeing_by_passage
    sections_walk part fits = by_route (kept part fits) where
      passed : StepSoFar
      passed = freeing_by_passage table number part

      by_route : (route : RouteState) × IsRouteOf table part.ixl number row route → Taken now table (map (λ section. FreeSection number) row.sections ++ Passed number ∷ []) part (freeing_by_passage table number part)
      by_route (route, is) = walks_joined now table (map (λ section. FreeSection number) row.sections) (Passed number ∷ []) part passed passed
          (λ fit. subst (Taken now table (map (λ section. FreeSection number) row.sections) part) (sym (at_route_is table number _ part row route is))
          (repeated_walks now table (freeing_next table number) (FreeSection number) section_walks row.sections part fit))
          (walks_once now table (Passed number) passed passed (λ fit. none fit (kept passed fit))) fits
        where
          none : Fits table passed.ixl → (after : RouteState) × IsRouteOf table passed.ixl number row after → DoesItsTurn now table (Passed number) passed passed × Fits table passed.ixl
          none fit (after, also) = ((row, after, also, (refl, laws.nothing_more number part row route after is also (fit.passages number row after also))), fit)

-- ---- all routes

module _ (now : ℕ) (table : Table) (laws : RuleLaws now table) (part : StepSoFar) where
  watched : StepSoFar
  watched = over (watching table) (count table) part

  withdraws : StepSoFar
  withdraws = over (withdrawing now table) (count table) watched

  ends : StepSoFar
  ends = over (ending_authority now table) (count table) withdraws

  passes : StepSoFar
  passes = over (freeing_by_passage table) (count table) ends

  cancels : StepSoFar
  cancels = over (freeing_by_cancel now table) (count table) passes

  moves : StepSoFar
  moves = over (moving now table) (count table) cancels

  proceeds : StepSoFar
  proceeds = over (proceeding now table) (count table) moves

  pub rules_walk : Walks now table (turns_of_rules table.rows) part (ruled now table (over (watching table) (count table) part))
  unfolding watched withdraws ends passes cancels moves proceeds
  rules_walk = walks_joined now table _ _ part watched proceeds (over_walks now table (watching table) _ table.rows (λ number row some there. watch_walks now table laws number row there some) part)
      (walks_joined now table _ _ watched withdraws proceeds (over_walks now table (withdrawing now table) _ table.rows (λ number row some there. withdraw_walks now table laws number row there some) watched)
      (walks_joined now table _ _ withdraws ends proceeds (over_walks now table (ending_authority now table) _ table.rows (λ number row some there. end_walks now table laws number row there some) withdraws)
      (walks_joined now table _ _ ends passes proceeds (over_walks now table (freeing_by_passage table) _ table.rows (λ number row some there. sections_walk now table laws number row there some) ends)
      (walks_joined now table _ _ passes cancels proceeds (over_walks now table (freeing_by_cancel now table) _ table.rows (λ number row some there. cancel_walks now table laws number row there some) passes)
      (walks_joined now table _ _ cancels moves proceeds (over_walks now table (moving now table) _ table.rows (λ number row some there. moves_walk now table laws number row there some) cancels)
      (over_walks now table (proceeding now table) _ table.rows (λ number row some there. proceed_walks now table laws number row there some) moves))))))
