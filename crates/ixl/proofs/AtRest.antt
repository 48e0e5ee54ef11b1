-- Where all routes rest, only the first rule does anything.
use Rattle.std.proofs.Common.{◌≡◌, ℕ, zero, suc, ◌+◌, ◌<◌, Bool, true, false, if◌then◌else◌, length, Option, Some, None, arith, refl, ap, sym, ◌∙◌, subst}
use Rattle.std.specs.Prelude.{◌&&◌, nat_eq, not, slice_get}
use Rattle.std.proofs.lemmas.Bool.{eqb-false, eqb-true, false≢true}
use Rattle.ixl_state.specs.rasta_core.Outbox.{OutboxState}
use Rattle.ixl_state.specs.ixl_spec.Operations.{lies_in_closed}
use Rattle.ixl_state.specs.ixl_spec.Table.{Row, Table}
use Rattle.ixl_state.specs.ixl_spec.State.{IxlState, RouteState}
use Rattle.ixl_state.specs.ixl_spec.View.{all_clear, all_known, is_at_known_stop, is_held_with_authority, is_known, is_point_available, is_signal_ready}
use Rattle.ixl_state.specs.ixl_spec.StepSoFar.{StepSoFar, at_route, giving_aspect, giving_move, over, with_one, with_route}
use Rattle.ixl_state.specs.ixl_spec.Rules.{authorised, come_to, count, ending_authority, freed, freeing_by_cancel, freeing_by_passage, freeing_next, frees_cancelled, frees_next, is_over_clear, is_unmoved, is_waiting, is_withdrawn, moving, moving_one, one_freed, proceeding, ruled, withdrawing}
use Rattle.ixl_state.specs.ixl_spec.declared.phase.Phase.{Phase}
use Rattle.ixl_state.specs.ixl_spec.declared.phase.Phase.TheVariants as phase
use Rattle.ixl_state.specs.ixl_table.Locks.{IsKeptRoute}
use Rattle.ixl_state.specs.State.{AtRoute, Goes, StateView}
use Rattle.ixl.specs.inside.RoutesAtRest.{AllRest, rests}
use Rattle.ixl.proofs.PartsFollow.{goes_next, goes_nowhere}
use Rattle.ixl.proofs.Rules.{along_still, repeated_still}

-- what holds of free routes and of those that proceed holds of all that rest
of_resting : (P : Phase → Type 0) → P phase.Free → P phase.Proceeding → (p : Phase) → rests p ≡ true → P p
of_resting P free proceeding phase.Free is = free
of_resting P free proceeding phase.Proceeding is = proceeding
of_resting P free proceeding phase.Waiting is = absurd (false≢true is)
of_resting P free proceeding phase.Withdrawn is = absurd (false≢true is)
of_resting P free proceeding (phase.Ended clock done) is = absurd (false≢true is)

-- nothing is done at a number where nothing is done with a route that is kept
at_still : (table : Table) (number : ℕ) (does : Row → RouteState → StepSoFar → StepSoFar) (part : StepSoFar) → ((row : Row) (route : RouteState) → IsKeptRoute table part.ixl.routes number row route → does row route part ≡ part) →
    at_route table number does part ≡ part
unfolding at_route
at_still table number does part still = by_row (slice_get table.rows number) refl where
  by_route : (row : Row) → slice_get table.rows number ≡ Some row → (found : Option RouteState) → slice_get part.ixl.routes number ≡ found → with_one found (does row) part ≡ part
  by_route row there None is = refl
  by_route row there (Some route) is = still row route (there, is)

  by_row : (found : Option Row) → slice_get table.rows number ≡ found → with_one found (λ row part. with_one (slice_get part.ixl.routes number) (does row) part) part ≡ part
  by_row None is = refl
  by_row (Some row) is = by_route row is (slice_get part.ixl.routes number) refl

-- the parts of a state
abbrev StaysAt : StateView → (StepSoFar → StepSoFar) → Type 0
StaysAt old does = (part : StepSoFar) → part.ixl ≡ old.ixl → does part ≡ part

over_still : (does : ℕ → StepSoFar → StepSoFar) (done : ℕ) (old : StateView) → ((number : ℕ) → number < done → StaysAt old (does number)) → StaysAt old (over does done)
over_still does zero old each part is = refl
over_still does (suc done) old each part is = ap (does done) (over_still does done old (λ number less. each number (omega (arith, less))) part is) ∙ each done (omega arith) part is

-- a rule that leaves what rests as it is
rest_still : (old : StateView) (number : ℕ) (does : Row → RouteState → StepSoFar → StepSoFar) → AllRest (count old.sited.table) old → number < count old.sited.table →
    ((row : Row) (route : RouteState) (part : StepSoFar) → rests route.phase ≡ true → does row route part ≡ part) → StaysAt old (at_route old.sited.table number does)
rest_still old number does rest less same part is =
    at_still old.sited.table number does part (λ row route kept. same row route part (rest number less row route (subst (λ (ixl : IxlState). IsKeptRoute old.sited.table ixl.routes number row route) is kept)))

none_ends : (now : ℕ) (old : StateView) → AllRest (count old.sited.table) old → (number : ℕ) → number < count old.sited.table → StaysAt old (ending_authority now old.sited.table number)
unfolding ending_authority
none_ends now old rest number less = rest_still old number _ rest less (λ row route part at_rest.
    of_resting (λ p. (if is_withdrawn p && is_at_known_stop now part.ixl row.entry then with_route number (come_to (phase.Ended now 0)) part else part) ≡ part) refl refl route.phase at_rest)

none_passes : (old : StateView) → AllRest (count old.sited.table) old → (number : ℕ) → number < count old.sited.table → StaysAt old (freeing_by_passage old.sited.table number)
unfolding freeing_by_passage freeing_next
none_passes old rest number less part is = at_still old.sited.table number _ part (λ row route kept. repeated_still (length row.sections) _ part
    (rest_still old number _ rest less (λ row route part at_rest.
    of_resting (λ p. (if frees_next old.sited.table part.ixl row route p then with_route number (one_freed row p) part else part) ≡ part) refl refl route.phase at_rest) part is))

none_frees : (now : ℕ) (old : StateView) → AllRest (count old.sited.table) old → (number : ℕ) → number < count old.sited.table → StaysAt old (freeing_by_cancel now old.sited.table number)
unfolding freeing_by_cancel
none_frees now old rest number less = rest_still old number _ rest less (λ row route part at_rest.
    of_resting (λ p. (if route.cancelled && frees_cancelled now old.sited.table part.ixl row route p then with_route number freed part else part) ≡ part)
    (unfreed route.cancelled _ part) (unfreed route.cancelled _ part) route.phase at_rest)
  where
    unfreed : (cancelled : Bool) (other part : StepSoFar) → (if cancelled && false then other else part) ≡ part
    unfreed true other part = refl
    unfreed false other part = refl

none_moves : (now : ℕ) (old : StateView) → AllRest (count old.sited.table) old → (number : ℕ) → number < count old.sited.table → StaysAt old (moving now old.sited.table number)
unfolding moving moving_one
none_moves now old rest number less part is = at_still old.sited.table number _ part (λ row route kept. along_still _ row.needs part (λ need has.
    rest_still old number _ rest less (λ row route part at_rest.
    of_resting (λ p. (if is_waiting p && not route.cancelled && is_point_available part.ixl need.point && not (is_known part.ixl need.point need.side)
    && is_over_clear old.sited.table part.ixl need.point && not (is_held_with_authority old.sited.table part.ixl need.point) && is_unmoved part.ixl need.point number
    && not (lies_in_closed old.sited.table part.ixl need.point)
    then giving_move now need.point need.side part else part) ≡ part) refl refl route.phase at_rest) part is))

none_proceeds : (now : ℕ) (old : StateView) → AllRest (count old.sited.table) old → (number : ℕ) → number < count old.sited.table → StaysAt old (proceeding now old.sited.table number)
unfolding proceeding
none_proceeds now old rest number less = rest_still old number _ rest less (λ row route part at_rest.
    of_resting (λ p. (if is_waiting p && not route.cancelled && all_known part.ixl row.needs && all_clear old.sited.table part.ixl row.sections
    && is_signal_ready part.ixl row.entry && is_at_known_stop now part.ixl row.entry
    then giving_aspect now row.entry row.aspect (with_route number (authorised old.sited.table part.ixl row) part) else part) ≡ part) refl refl route.phase at_rest)

-- the rules after the first
abbrev others : ℕ → Table → StepSoFar → StepSoFar
others now table part = over (proceeding now table) (count table) (over (moving now table) (count table)
    (over (freeing_by_cancel now table) (count table) (over (freeing_by_passage table) (count table) (over (ending_authority now table) (count table) part))))

others_still : (now : ℕ) (old : StateView) → AllRest (count old.sited.table) old → StaysAt old (others now old.sited.table)
others_still now old rest part is =
    ap (λ p. given (moved (cancelled (passed p)))) (over_still _ (count table) old (none_ends now old rest) part is)
    ∙ ap (λ p. given (moved (cancelled p))) (over_still _ (count table) old (none_passes old rest) part is)
    ∙ ap (λ p. given (moved p)) (over_still _ (count table) old (none_frees now old rest) part is)
    ∙ ap given (over_still _ (count table) old (none_moves now old rest) part is)
    ∙ over_still _ (count table) old (none_proceeds now old rest) part is
  where
    table : Table
    table = old.sited.table

    passed : StepSoFar → StepSoFar
    passed = over (freeing_by_passage table) (count table)

    cancelled : StepSoFar → StepSoFar
    cancelled = over (freeing_by_cancel now table) (count table)

    moved : StepSoFar → StepSoFar
    moved = over (moving now table) (count table)

    given : StepSoFar → StepSoFar
    given = over (proceeding now table) (count table)

-- after the first rule all is done
pub rest_go : (now : ℕ) (old new : StateView) (box out : OutboxState) → AllRest (length new.sited.table.rows) new → Goes now 128 (over (withdrawing now old.sited.table) (count old.sited.table)) old box new out →
    Goes now 4352 (ruled now old.sited.table) old box new out
rest_go now old new box out rest goes = goes_next now 128 0 4352 _ (others now) old box new out new out (omega arith) goes
    (goes_nowhere now 0 (others now new.sited.table) new out goes.clock (others_still now new rest))

-- one more route rests
pub next_rests : (state : StateView) (done : ℕ) (at_rest : Bool) → AllRest done state → AtRoute state done (λ row route. at_rest ≡ rests route.phase) → at_rest ≡ true → AllRest (done + 1) state
next_rests state done at_rest so_far is holds number less = cases (nat_eq number done) refl where
  cases : (b : Bool) → nat_eq number done ≡ b → AtRoute state number (λ row route. rests route.phase ≡ true)
  cases true same = subst (λ n. AtRoute state n (λ row route. rests route.phase ≡ true)) (sym (eqb-true number done same)) (λ row route kept. sym (is row route kept) ∙ holds)
  cases false other = let apart : number ≡ done → ⊥ = eqb-false number done other in so_far number (omega (arith, less, apart))
