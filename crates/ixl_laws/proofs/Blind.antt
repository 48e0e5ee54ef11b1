-- No part of a step looks at the calls that were made before, or at the items acted on.
use Rattle.std.proofs.Common.{◌≡◌, ℕ, zero, suc, Bool, true, false, if◌then◌else◌, List, [], ◌∷◌, length, refl, ap, sym, ◌∙◌, subst}
use Rattle.std.specs.Prelude.{◌&&◌, ◌||◌, Option, Some, None, slice_get}
use Rattle.ixl_state.specs.sci_telegram.declared.message.Aspect.{Aspect}
use Rattle.ixl_state.specs.sci_telegram.declared.message.Side.{Side}
use Rattle.ixl_state.specs.rasta_core.Outbox.{OutboxState}
use Rattle.ixl_state.specs.ixl_client.ClientSoFar.{LinkCall}
use Rattle.ixl_state.specs.ixl_spec.StepSoFar.{Node, StepSoFar, along, at_route, giving_aspect, giving_move, over, with_one, with_route}
use Rattle.ixl_state.specs.ixl_spec.Rules.{authorised, count, ending_authority, freeing_by_cancel, freeing_by_passage, freeing_next, frees_cancelled, frees_next, is_move_due, is_proceed_due, is_proceeding, is_stop_due, is_withdrawn, moving, moving_one, proceeding, repeated, ruled, stopped, withdrawing}
use Rattle.ixl_state.specs.ixl_spec.State.{IxlState, RouteState}
use Rattle.ixl_state.specs.ixl_spec.Step.{watching}
use Rattle.ixl_state.specs.ixl_spec.Table.{Need, Row, Table}
use Rattle.ixl_state.specs.ixl_spec.View.{is_at_known_stop, is_signal_ready}

-- two parts that differ in what was called and acted on alone
pub record Alike (a b : StepSoFar) : Type 0 where
  pub ixl : a.ixl ≡ b.ixl
  pub outbox : a.outbox ≡ b.outbox

abbrev marked : List (Node × LinkCall) → List (Node × List ℕ) → StepSoFar → StepSoFar
marked calls acted part = record part { calls = calls; acted = acted }

-- a part of a step that sees no difference between them
abbrev pub Blind : (StepSoFar → StepSoFar) → Type 0
Blind does = (calls : List (Node × LinkCall)) (acted : List (Node × List ℕ)) (part : StepSoFar) → Alike (does (marked calls acted part)) (does part)

alike : (part other : StepSoFar) → part ≡ other → Alike part other
alike part other is = record { ixl = ap (λ (p : StepSoFar). p.ixl) is; outbox = ap (λ (p : StepSoFar). p.outbox) is }

alike_is : (a b : StepSoFar) → Alike a b → a ≡ marked a.calls a.acted b
alike_is a b same = ap (λ (ixl : IxlState). record a { ixl = ixl }) same.ixl ∙ ap (λ (outbox : OutboxState). record a { ixl = b.ixl; outbox = outbox }) same.outbox

pub blindly : (does : StepSoFar → StepSoFar) → Blind does → (a b : StepSoFar) → Alike a b → Alike (does a) (does b)
blindly does blind a b same = subst (λ (p : StepSoFar). Alike (does p) (does b)) (sym (alike_is a b same)) (blind a.calls a.acted b)

-- ---- how parts are put together

by_case : (b : Bool) (one other this that : StepSoFar) → Alike one other → Alike this that → Alike (if b then one else this) (if b then other else that)
by_case true one other this that is also = is
by_case false one other this that is also = also

by_one : {A : Type 0} (one : Option A) (does : A → StepSoFar → StepSoFar) (a b : StepSoFar) → Alike a b → ((x : A) → Alike (does x a) (does x b)) → Alike (with_one one does a) (with_one one does b)
by_one None does a b same each = same
by_one (Some x) does a b same each = each x

same_marked : (calls : List (Node × LinkCall)) (acted : List (Node × List ℕ)) (part : StepSoFar) → Alike (marked calls acted part) part
same_marked calls acted part = record { ixl = refl; outbox = refl }

at_route_blind : (table : Table) (number : ℕ) (does : Row → RouteState → StepSoFar → StepSoFar) → ((row : Row) (route : RouteState) → Blind (does row route)) → Blind (at_route table number does)
unfolding at_route
at_route_blind table number does each calls acted part =
    by_one (slice_get table.rows number) _ (marked calls acted part) part (same_marked calls acted part) (λ row.
    by_one (slice_get part.ixl.routes number) (does row) (marked calls acted part) part (same_marked calls acted part) (λ route. each row route calls acted part))

pub over_blind : (does : ℕ → StepSoFar → StepSoFar) → ((number : ℕ) → Blind (does number)) → (n : ℕ) → Blind (over does n)
over_blind does each zero calls acted part = same_marked calls acted part
over_blind does each (suc n) calls acted part = blindly (does n) (each n) (over does n (marked calls acted part)) (over does n part) (over_blind does each n calls acted part)

along_blind : {A : Type 0} (does : A → StepSoFar → StepSoFar) → ((a : A) → Blind (does a)) → (list : List A) → Blind (along does list)
along_blind does each [] calls acted part = same_marked calls acted part
along_blind does each (first ∷ others) calls acted part =
    blindly (along does others) (along_blind does each others) (does first (marked calls acted part)) (does first part) (each first calls acted part)

repeated_blind : (does : StepSoFar → StepSoFar) → Blind does → (n : ℕ) → Blind (repeated n does)
repeated_blind does each zero calls acted part = same_marked calls acted part
repeated_blind does each (suc n) calls acted part =
    blindly (repeated n does) (repeated_blind does each n) (does (marked calls acted part)) (does part) (each calls acted part)

-- ---- the rules

aspect_blind : (now signal : ℕ) (aspect : Aspect) → Blind (giving_aspect now signal aspect)
unfolding giving_aspect
aspect_blind now signal aspect calls acted part = by_one (slice_get part.ixl.known_signals signal) _ (marked calls acted part) part (same_marked calls acted part) (λ known_signal. record { ixl = refl; outbox = refl })

move_blind : (now point : ℕ) (side : Side) → Blind (giving_move now point side)
unfolding giving_move
move_blind now point side calls acted part = by_one (slice_get part.ixl.known_points point) _ (marked calls acted part) part (same_marked calls acted part) (λ known_point. record { ixl = refl; outbox = refl })

stopped_blind : (now : ℕ) (row : Row) → Blind (stopped now row)
stopped_blind now row calls acted part = by_case (is_signal_ready part.ixl row.entry) _ _ (marked calls acted part) part (aspect_blind now row.entry _ calls acted part) (same_marked calls acted part)

withdrawing_blind : (now : ℕ) (table : Table) (number : ℕ) → Blind (withdrawing now table number)
unfolding withdrawing
withdrawing_blind now table number = at_route_blind table number _ (λ row route calls acted part.
    by_case (is_stop_due table part.ixl row route) _ _ (marked calls acted part) part (stopped_blind now row calls acted (with_route number _ part)) (same_marked calls acted part))

ending_blind : (now : ℕ) (table : Table) (number : ℕ) → Blind (ending_authority now table number)
unfolding ending_authority
ending_blind now table number = at_route_blind table number _ (λ row route calls acted part.
    by_case (is_withdrawn route.phase && is_at_known_stop now part.ixl row.entry) _ _ (marked calls acted part) part (record { ixl = refl; outbox = refl }) (same_marked calls acted part))

next_blind : (table : Table) (number : ℕ) → Blind (freeing_next table number)
unfolding freeing_next
next_blind table number = at_route_blind table number _ (λ row route calls acted part.
    by_case (frees_next table part.ixl row route route.phase) _ _ (marked calls acted part) part (record { ixl = refl; outbox = refl }) (same_marked calls acted part))

passage_blind : (table : Table) (number : ℕ) → Blind (freeing_by_passage table number)
unfolding freeing_by_passage
passage_blind table number = at_route_blind table number _ (λ row route. repeated_blind (freeing_next table number) (next_blind table number) (length row.sections))

cancel_blind : (now : ℕ) (table : Table) (number : ℕ) → Blind (freeing_by_cancel now table number)
unfolding freeing_by_cancel
cancel_blind now table number = at_route_blind table number _ (λ row route calls acted part.
    by_case (route.cancelled && frees_cancelled now table part.ixl row route route.phase) _ _ (marked calls acted part) part (record { ixl = refl; outbox = refl }) (same_marked calls acted part))

moving_one_blind : (now : ℕ) (table : Table) (number : ℕ) (need : Need) → Blind (moving_one now table number need)
unfolding moving_one
moving_one_blind now table number need = at_route_blind table number _ (λ row route calls acted part.
    by_case (is_move_due table part.ixl number route need) _ _ (marked calls acted part) part (move_blind now need.point need.side calls acted part) (same_marked calls acted part))

moving_blind : (now : ℕ) (table : Table) (number : ℕ) → Blind (moving now table number)
unfolding moving
moving_blind now table number = at_route_blind table number _ (λ row route. along_blind (moving_one now table number) (moving_one_blind now table number) row.needs)

proceeding_blind : (now : ℕ) (table : Table) (number : ℕ) → Blind (proceeding now table number)
unfolding proceeding
proceeding_blind now table number = at_route_blind table number _ (λ row route calls acted part.
    by_case (is_proceed_due now table part.ixl row route) _ _ (marked calls acted part) part
    (aspect_blind now row.entry row.aspect calls acted (with_route number (authorised table part.ixl row) part)) (same_marked calls acted part))

pub watching_blind : (table : Table) (number : ℕ) → Blind (watching table number)
unfolding watching
watching_blind table number = at_route_blind table number _ (λ row route calls acted part.
    by_case (is_proceeding route.phase || is_withdrawn route.phase) _ _ (marked calls acted part) part (record { ixl = refl; outbox = refl }) (same_marked calls acted part))

-- what is seen, and the six rules
pub seen_and_ruled : (now : ℕ) (table : Table) (a b : StepSoFar) → Alike a b → Alike (ruled now table (over (watching table) (count table) a)) (ruled now table (over (watching table) (count table) b))
seen_and_ruled now table a b same =
    blindly (over (proceeding now table) (count table)) (over_blind (proceeding now table) (proceeding_blind now table) (count table)) _ _
    (blindly (over (moving now table) (count table)) (over_blind (moving now table) (moving_blind now table) (count table)) _ _
    (blindly (over (freeing_by_cancel now table) (count table)) (over_blind (freeing_by_cancel now table) (cancel_blind now table) (count table)) _ _
    (blindly (over (freeing_by_passage table) (count table)) (over_blind (freeing_by_passage table) (passage_blind table) (count table)) _ _
    (blindly (over (ending_authority now table) (count table)) (over_blind (ending_authority now table) (ending_blind now table) (count table)) _ _
    (blindly (over (withdrawing now table) (count table)) (over_blind (withdrawing now table) (withdrawing_blind now table) (count table)) _ _
    (blindly (over (watching table) (count table)) (over_blind (watching table) (watching_blind table) (count table)) a b same))))))
