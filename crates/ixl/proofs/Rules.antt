-- What each rule does at a route, by what is due for it.
use Rattle.std.proofs.Common.{◌≡◌, ℕ, zero, suc, ◌+◌, ◌*◌, ◌<◌, ◌≤◌, Bool, true, false, not, if◌then◌else◌, List, [], ◌∷◌, ◌++◌, length, take, get_or, arith, add-one, refl, ap, sym, ◌∙◌, subst}
use Rattle.std.specs.Prelude.{◌&&◌}
use Rattle.std.specs.List.{Contains}
use Rattle.std.proofs.lemmas.Bool.{true≢false, false≢true}
use Rattle.std.proofs.Math.Seq.{take-length, take-suc}
use Rattle.ixl_state.specs.rasta_core.Outbox.{OutboxState}
use Rattle.ixl_state.specs.sci_telegram.declared.message.Aspect.{Aspect}
use Rattle.ixl_state.specs.sci_telegram.declared.message.Side.{Side}
use Rattle.ixl_state.specs.sci_telegram.declared.message.Aspect.TheVariants as aspects
use Rattle.ixl_state.specs.release.Passage.{passage_after}
use Rattle.ixl_state.specs.ixl_spec.Table.{Need, Row, Table}
use Rattle.ixl_state.specs.ixl_spec.State.{IxlState, RouteState}
use Rattle.ixl_state.specs.ixl_spec.View.{all_known, is_approach_clear, is_at_known_stop, is_held_with_authority, is_known, is_point_available, is_signal_ready}
use Rattle.ixl_state.specs.ixl_spec.StepSoFar.{StepSoFar, along, at_route, giving_aspect, giving_move, over, with_route}
use Rattle.ixl_state.specs.ixl_spec.Operations.{lies_in_closed}
use Rattle.ixl_state.specs.ixl_spec.Rules.{come_to, count, ending_authority, freed, freeing_by_cancel, freeing_by_passage, freeing_next, frees_cancelled, frees_next, is_move_due, is_over_clear, is_proceed_due, is_proceeding, is_stop_due, is_unmoved, is_waiting, is_withdrawn, moving, moving_one, one_freed, proceeding, repeated, ruled, withdrawing}
use Rattle.ixl_state.specs.ixl_spec.declared.phase.Phase.{Phase}
use Rattle.ixl_state.specs.ixl_spec.declared.phase.Phase.TheVariants as phase
use Rattle.ixl_state.specs.ixl_table.Locks.{IsKeptRoute}
use Rattle.ixl_state.specs.ixl_table.Table.{SitedTable}
use Rattle.ixl_state.specs.State.{AllAt, AtRoute, Goes, HasRoute, StateView, route_changed}
use Rattle.ixl.specs.inside.Changes.{Changes}
use Rattle.ixl.proofs.PartsFollow.{at_kept, changes_as, changes_go, changes_nowhere, changes_then, goes_as, goes_next, goes_nowhere, goes_then, goes_within, route_changes}
use Rattle.ixl.proofs.RowLaws.{all_pass}

-- ---- tests

if_so : {A : Type 0} (b : Bool) (one other : A) → b ≡ true → (if b then one else other) ≡ one
if_so true one other is = refl
if_so false one other is = absurd (false≢true is)

if_not : {A : Type 0} (b : Bool) (one other : A) → b ≡ false → (if b then one else other) ≡ other
if_not true one other is = absurd (true≢false is)
if_not false one other is = refl

pub phase_proceeding : (p : Phase) → is_proceeding p ≡ true → p ≡ phase.Proceeding
phase_proceeding phase.Proceeding is = refl
phase_proceeding phase.Free is = absurd (false≢true is)
phase_proceeding phase.Waiting is = absurd (false≢true is)
phase_proceeding phase.Withdrawn is = absurd (false≢true is)
phase_proceeding (phase.Ended clock done) is = absurd (false≢true is)

pub phase_waiting : (p : Phase) → is_waiting p ≡ true → p ≡ phase.Waiting
phase_waiting phase.Waiting is = refl
phase_waiting phase.Free is = absurd (false≢true is)
phase_waiting phase.Proceeding is = absurd (false≢true is)
phase_waiting phase.Withdrawn is = absurd (false≢true is)
phase_waiting (phase.Ended clock done) is = absurd (false≢true is)

pub phase_withdrawn : (p : Phase) → is_withdrawn p ≡ true → p ≡ phase.Withdrawn
phase_withdrawn phase.Withdrawn is = refl
phase_withdrawn phase.Free is = absurd (false≢true is)
phase_withdrawn phase.Waiting is = absurd (false≢true is)
phase_withdrawn phase.Proceeding is = absurd (false≢true is)
phase_withdrawn (phase.Ended clock done) is = absurd (false≢true is)

pub phase_ended : (table : Table) (ixl : IxlState) (row : Row) (route : RouteState) (p : Phase) → frees_next table ixl row route p ≡ true → (clock : ℕ) × (done : ℕ) × (p ≡ phase.Ended clock done)
phase_ended table ixl row route (phase.Ended clock done) is = (clock, done, refl)
phase_ended table ixl row route phase.Free is = absurd (false≢true is)
phase_ended table ixl row route phase.Waiting is = absurd (false≢true is)
phase_ended table ixl row route phase.Proceeding is = absurd (false≢true is)
phase_ended table ixl row route phase.Withdrawn is = absurd (false≢true is)

-- ---- at a route that is kept

-- a part of a step does something at parts of a state
abbrev DoesAt : StateView → (StepSoFar → StepSoFar) → (StepSoFar → StepSoFar) → Type 0
DoesAt old does other = (part : StepSoFar) → part.ixl ≡ old.ixl → does part ≡ other part

route_does : (old : StateView) (number : ℕ) (does : Row → RouteState → StepSoFar → StepSoFar) (other : StepSoFar → StepSoFar) → HasRoute old number → AtRoute old number (λ row route. DoesAt old (does row route) other) →
    DoesAt old (at_route old.sited.table number does) other
route_does old number does other there same part is =
    at_kept old.sited.table number does part there.0 there.1 (subst (λ (ixl : IxlState). IsKeptRoute old.sited.table ixl.routes number there.0 there.1) (sym is) there.2) ∙ same there.0 there.1 there.2 part is

-- ---- 1

pub nothing_withdrawn : (now number : ℕ) (old : StateView) (box : OutboxState) (due : Bool) → HasRoute old number → AllAt now old → AtRoute old number (λ row route. due ≡ is_stop_due old.sited.table old.ixl row route) → due ≡ false →
    Goes now 2 (withdrawing now old.sited.table number) old box old box
unfolding withdrawing
nothing_withdrawn now number old box due there at is fails = goes_nowhere now 2 _ old box at (route_does old number _ (λ part. part) there
    (λ row route kept part same. if_not _ _ part (ap (λ ixl. is_stop_due old.sited.table ixl row route) same ∙ sym (is row route kept) ∙ fails)))

pub is_withdrawn_alone : (now number : ℕ) (old new : StateView) (box : OutboxState) (due ready : Bool) → HasRoute old number → AllAt now old → AtRoute old number (λ row route. due ≡ is_stop_due old.sited.table old.ixl row route) → due ≡ true →
    AtRoute old number (λ row route. ready ≡ is_signal_ready old.ixl row.entry) → ready ≡ false → new ≡ route_changed (come_to phase.Withdrawn) number old → Goes now 2 (withdrawing now old.sited.table number) old box new box
unfolding withdrawing
is_withdrawn_alone now number old new box due ready there at is holds is_ready silent changed =
    goes_as now 2 _ (with_route number (come_to phase.Withdrawn)) old box new box (route_does old number _ _ there
    (λ row route kept part same. if_so _ _ part (ap (λ ixl. is_stop_due old.sited.table ixl row route) same ∙ sym (is row route kept) ∙ holds)
    ∙ if_not _ _ _ (ap (λ ixl. is_signal_ready ixl row.entry) same ∙ sym (is_ready row route kept) ∙ silent)))
    (goes_within now 0 2 _ old box new box (omega arith) (changes_go now _ old new box at (route_changes (come_to phase.Withdrawn) number old new changed)))

pub is_withdrawn_and_stopped : (now number signal : ℕ) (old mid : StateView) (box : OutboxState) (new : StateView) (out : OutboxState) (due ready : Bool) → HasRoute old number → AllAt now old → AtRoute old number (λ row route. due ≡ is_stop_due old.sited.table old.ixl row route) → due ≡ true →
    AtRoute old number (λ row route. ready ≡ is_signal_ready old.ixl row.entry) → ready ≡ true → AtRoute old number (λ row route. signal ≡ row.entry) → mid ≡ route_changed (come_to phase.Withdrawn) number old →
    Goes now 2 (giving_aspect now signal aspects.Stop) mid box new out → Goes now 2 (withdrawing now old.sited.table number) old box new out
unfolding withdrawing
is_withdrawn_and_stopped now number signal old mid box new out due ready there at is holds is_ready speaks is_entry changed goes =
    goes_as now 2 _ (λ part. giving_aspect now signal aspects.Stop (with_route number (come_to phase.Withdrawn) part)) old box new out (route_does old number _ _ there
    (λ row route kept part same. if_so _ _ part (ap (λ ixl. is_stop_due old.sited.table ixl row route) same ∙ sym (is row route kept) ∙ holds)
    ∙ if_so _ _ _ (ap (λ ixl. is_signal_ready ixl row.entry) same ∙ sym (is_ready row route kept) ∙ speaks)
    ∙ ap (λ s. giving_aspect now s aspects.Stop (with_route number (come_to phase.Withdrawn) part)) (sym (is_entry row route kept))))
    (goes_then now 0 2 2 (with_route number (come_to phase.Withdrawn)) (giving_aspect now signal aspects.Stop) old box mid box new out (omega arith)
    (changes_go now _ old mid box at (route_changes (come_to phase.Withdrawn) number old mid changed)) goes)

-- ---- 2

pub nothing_ended : (now number : ℕ) (old : StateView) (due : Bool) → HasRoute old number → AtRoute old number (λ row route. due ≡ (is_withdrawn route.phase && is_at_known_stop now old.ixl row.entry)) → due ≡ false →
    Changes (ending_authority now old.sited.table number) old old
unfolding ending_authority
nothing_ended now number old due there is fails = changes_nowhere _ old (route_does old number _ (λ part. part) there
    (λ row route kept part same. if_not _ _ part (ap (λ ixl. is_withdrawn route.phase && is_at_known_stop now ixl row.entry) same ∙ sym (is row route kept) ∙ fails)))

pub authority_ended : (now number : ℕ) (old new : StateView) (due : Bool) → HasRoute old number → AtRoute old number (λ row route. due ≡ (is_withdrawn route.phase && is_at_known_stop now old.ixl row.entry)) → due ≡ true →
    new ≡ route_changed (come_to (phase.Ended now 0)) number old → Changes (ending_authority now old.sited.table number) old new
unfolding ending_authority
authority_ended now number old new due there is holds changed = changes_as _ (with_route number (come_to (phase.Ended now 0))) old new (route_does old number _ _ there
    (λ row route kept part same. if_so _ _ part (ap (λ ixl. is_withdrawn route.phase && is_at_known_stop now ixl row.entry) same ∙ sym (is row route kept) ∙ holds)))
    (route_changes _ number old new changed)

-- ---- 3

next_stays : (number : ℕ) (old : StateView) (due : Bool) → HasRoute old number → AtRoute old number (λ row route. due ≡ frees_next old.sited.table old.ixl row route route.phase) → due ≡ false →
    DoesAt old (freeing_next old.sited.table number) (λ part. part)
unfolding freeing_next
next_stays number old due there is fails = route_does old number _ (λ part. part) there
    (λ row route kept part same. if_not _ _ part (ap (λ ixl. frees_next old.sited.table ixl row route route.phase) same ∙ sym (is row route kept) ∙ fails))

next_freed : (number : ℕ) (old new : StateView) (due : Bool) → HasRoute old number → AtRoute old number (λ row route. due ≡ frees_next old.sited.table old.ixl row route route.phase) → due ≡ true →
    AtRoute old number (λ row route. new ≡ route_changed (one_freed row route.phase) number old) → Changes (freeing_next old.sited.table number) old new
unfolding freeing_next
next_freed number old new due there is holds changed = changes_as _ (with_route number (one_freed there.0 there.1.phase)) old new (at_it there)
    (route_changes _ number old new (changed there.0 there.1 there.2))
  where
    at_it : (there : HasRoute old number) → DoesAt old (at_route old.sited.table number (λ row route part. if frees_next old.sited.table part.ixl row route route.phase then with_route number (one_freed row route.phase) part else part)) (with_route number (one_freed there.0 there.1.phase))
    at_it there part same = at_kept old.sited.table number _ part there.0 there.1 (subst (λ (ixl : IxlState). IsKeptRoute old.sited.table ixl.routes number there.0 there.1) (sym same) there.2)
        ∙ if_so _ _ part (ap (λ ixl. frees_next old.sited.table ixl there.0 there.1 there.1.phase) same ∙ sym (is there.0 there.1 there.2) ∙ holds)

repeated_sum : (done more : ℕ) (does : StepSoFar → StepSoFar) (part : StepSoFar) → repeated (done + more) does part ≡ repeated more does (repeated done does part)
repeated_sum zero more does part = ap (λ n. repeated n does part) (none_more more) where
  none_more : (k : ℕ) → 0 + k ≡ k
  none_more k = omega arith
repeated_sum (suc done) more does part = ap (λ n. repeated n does part) (one_less done more) ∙ repeated_sum done more does (does part) where
  one_less : (n k : ℕ) → suc n + k ≡ suc (n + k)
  one_less n k = omega arith

pub repeated_still : (more : ℕ) (does : StepSoFar → StepSoFar) (part : StepSoFar) → does part ≡ part → repeated more does part ≡ part
repeated_still zero does part same = refl
repeated_still (suc more) does part same = ap (repeated more does) same ∙ repeated_still more does part same

-- so many times the next section was freed
abbrev pub HaveFreed : ℕ → ℕ → StateView → StateView → Type 0
HaveFreed number done old new = Changes (repeated done (freeing_next old.sited.table number)) old new

pub none_freed : (number : ℕ) (old : StateView) → HaveFreed number 0 old old
none_freed number old = changes_nowhere _ old (λ part same. refl)

pub one_freed_more : (number done : ℕ) (old mid new : StateView) (due : Bool) → HaveFreed number done old mid → HasRoute mid number →
    AtRoute mid number (λ row route. due ≡ frees_next mid.sited.table mid.ixl row route route.phase) → due ≡ true → AtRoute mid number (λ row route. new ≡ route_changed (one_freed row route.phase) number mid) →
    HaveFreed number (done + 1) old new
one_freed_more number done old mid new due so_far there is holds changed =
    changes_as _ (λ part. freeing_next old.sited.table number (repeated done (freeing_next old.sited.table number) part)) old new
    (λ part same. repeated_sum done 1 (freeing_next old.sited.table number) part)
    (changes_then _ (freeing_next old.sited.table number) old mid new so_far
    (subst (λ (p : SitedTable). Changes (freeing_next p.table number) mid new) so_far.sited (next_freed number mid new due there is holds changed)))

-- freed as often as there are sections
pub all_freed : (number : ℕ) (old new : StateView) (done : ℕ) → HasRoute old number → AtRoute old number (λ row route. done ≡ length row.sections) → HaveFreed number done old new →
    Changes (freeing_by_passage old.sited.table number) old new
unfolding freeing_by_passage
all_freed number old new done there counted so_far = changes_as _ (repeated done (freeing_next old.sited.table number)) old new
    (route_does old number _ _ there (λ row route kept part same. ap (λ n. repeated n (freeing_next old.sited.table number) part) (sym (counted row route kept)))) so_far

-- or until nothing more is
pub no_more_freed : (number : ℕ) (old new : StateView) (done more : ℕ) (due : Bool) → HasRoute old number → AtRoute old number (λ row route. done + more ≡ length row.sections) → HaveFreed number done old new → HasRoute new number →
    AtRoute new number (λ row route. due ≡ frees_next new.sited.table new.ixl row route route.phase) → due ≡ false → Changes (freeing_by_passage old.sited.table number) old new
unfolding freeing_by_passage
no_more_freed number old new done more due there counted so_far there_now is fails = changes_as _ (repeated done next) old new
    (route_does old number _ _ there (λ row route kept part same.
    ap (λ n. repeated n next part) (sym (counted row route kept)) ∙ repeated_sum done more next part
    ∙ repeated_still more next (repeated done next part) (still part (so_far.leads part.outbox part same refl).0)))
    so_far
  where
    next : StepSoFar → StepSoFar
    next = freeing_next old.sited.table number

    still : (part : StepSoFar) → (repeated done (freeing_next old.sited.table number) part).ixl ≡ new.ixl →
        freeing_next old.sited.table number (repeated done (freeing_next old.sited.table number) part) ≡ repeated done (freeing_next old.sited.table number) part
    still part same = subst (λ (p : SitedTable). freeing_next p.table number (repeated done (freeing_next old.sited.table number) part) ≡ repeated done (freeing_next old.sited.table number) part) so_far.sited
        (next_stays number new due there_now is fails (repeated done (freeing_next old.sited.table number) part) same)

-- ---- 4

pub nothing_cancelled : (now number : ℕ) (old : StateView) (due : Bool) → HasRoute old number → AtRoute old number (λ row route. due ≡ (route.cancelled && frees_cancelled now old.sited.table old.ixl row route route.phase)) → due ≡ false →
    Changes (freeing_by_cancel now old.sited.table number) old old
unfolding freeing_by_cancel
nothing_cancelled now number old due there is fails = changes_nowhere _ old (route_does old number _ (λ part. part) there
    (λ row route kept part same. if_not _ _ part (ap (λ ixl. route.cancelled && frees_cancelled now old.sited.table ixl row route route.phase) same ∙ sym (is row route kept) ∙ fails)))

pub cancelled_freed : (now number : ℕ) (old new : StateView) (due : Bool) → HasRoute old number → AtRoute old number (λ row route. due ≡ (route.cancelled && frees_cancelled now old.sited.table old.ixl row route route.phase)) → due ≡ true →
    new ≡ route_changed freed number old → Changes (freeing_by_cancel now old.sited.table number) old new
unfolding freeing_by_cancel
cancelled_freed now number old new due there is holds changed = changes_as _ (with_route number freed) old new (route_does old number _ _ there
    (λ row route kept part same. if_so _ _ part (ap (λ ixl. route.cancelled && frees_cancelled now old.sited.table ixl row route route.phase) same ∙ sym (is row route kept) ∙ holds)))
    (route_changes _ number old new changed)

-- ---- 5

pub nothing_moved : (now number : ℕ) (need : Need) (old : StateView) (box : OutboxState) (due : Bool) → HasRoute old number → AllAt now old → AtRoute old number (λ row route. due ≡ is_move_due old.sited.table old.ixl number route need) → due ≡ false →
    Goes now 2 (moving_one now old.sited.table number need) old box old box
unfolding moving_one
nothing_moved now number need old box due there at is fails = goes_nowhere now 2 _ old box at (route_does old number _ (λ part. part) there
    (λ row route kept part same. if_not _ _ part (ap (λ ixl. is_move_due old.sited.table ixl number route need) same ∙ sym (is row route kept) ∙ fails)))

pub point_moved : (now number : ℕ) (need : Need) (point : ℕ) (side : Side) (old : StateView) (box : OutboxState) (new : StateView) (out : OutboxState) (due : Bool) → HasRoute old number →
    AtRoute old number (λ row route. due ≡ is_move_due old.sited.table old.ixl number route need) → due ≡ true → point ≡ need.point → side ≡ need.side →
    Goes now 2 (giving_move now point side) old box new out → Goes now 2 (moving_one now old.sited.table number need) old box new out
unfolding moving_one
point_moved now number need point side old box new out due there is holds is_point is_side goes = goes_as now 2 _ (giving_move now point side) old box new out (route_does old number _ _ there
    (λ row route kept part same. if_so _ _ part (ap (λ ixl. is_move_due old.sited.table ixl number route need) same ∙ sym (is row route kept) ∙ holds)
    ∙ ap (λ k. giving_move now k need.side part) (sym is_point) ∙ ap (λ s. giving_move now point s part) (sym is_side))) goes

pub along_still : (does : Need → StepSoFar → StepSoFar) (needs : List Need) (part : StepSoFar) → ((need : Need) → Contains needs need → does need part ≡ part) → along does needs part ≡ part
along_still does [] part each = refl
along_still does (first ∷ others) part each = ap (along does others) (each first (0, omega arith, refl))
    ∙ along_still does others part (λ need has. each need (suc has.0, omega (arith, has.1), has.2))

along_last : (does : Need → StepSoFar → StepSoFar) (needs : List Need) (last : Need) (part : StepSoFar) → along does (needs ++ last ∷ []) part ≡ does last (along does needs part)
along_last does [] last part = refl
along_last does (first ∷ others) last part = along_last does others last (does first part)

-- no point of a route is to be moved that doesn't wait, or whose points are known
not_due : (waits available known over_clear held unmoved closed : Bool) → waits ≡ false → waits && available && not known && over_clear && not held && unmoved && not closed ≡ false
not_due true available known over_clear held unmoved closed is = absurd (true≢false is)
not_due false available known over_clear held unmoved closed is = refl

none_due : (waits available known over_clear held unmoved closed : Bool) → known ≡ true → waits && available && not known && over_clear && not held && unmoved && not closed ≡ false
none_due waits available false over_clear held unmoved closed is = absurd (false≢true is)
none_due false available true over_clear held unmoved closed is = refl
none_due true false true over_clear held unmoved closed is = refl
none_due true true true over_clear held unmoved closed is = refl

pub no_route_moved : (now number : ℕ) (old : StateView) (box : OutboxState) (waits : Bool) → HasRoute old number → AllAt now old → AtRoute old number (λ row route. waits ≡ (is_waiting route.phase && not route.cancelled)) → waits ≡ false →
    Goes now 64 (moving now old.sited.table number) old box old box
unfolding moving moving_one
no_route_moved now number old box waits there at is fails = goes_nowhere now 64 _ old box at (route_does old number _ (λ part. part) there
    (λ row route kept part same. along_still _ row.needs part (λ need has. route_does old number _ (λ p. p) there
    (λ row route kept part same. if_not _ _ part (not_due _ _ _ _ _ _ _ (sym (is row route kept) ∙ fails))) part same)))

pub no_point_moved : (now number : ℕ) (old : StateView) (box : OutboxState) (known : Bool) → HasRoute old number → AllAt now old → AtRoute old number (λ row route. known ≡ all_known old.ixl row.needs) → known ≡ true →
    Goes now 64 (moving now old.sited.table number) old box old box
unfolding moving moving_one
no_point_moved now number old box known there at is holds = goes_nowhere now 64 _ old box at (route_does old number _ (λ part. part) there
    (λ row route kept part same. along_still _ row.needs part (λ need has. route_does old number _ (λ p. p) there
    (λ other state other_kept part same. if_not (is_move_due old.sited.table part.ixl number state need) (giving_move now need.point need.side part) part
    (none_due (is_waiting state.phase && not state.cancelled) (is_point_available part.ixl need.point) (is_known part.ixl need.point need.side) (is_over_clear old.sited.table part.ixl need.point)
    (is_held_with_authority old.sited.table part.ixl need.point) (is_unmoved part.ixl need.point number) (lies_in_closed old.sited.table part.ixl need.point)
    (ap (λ ixl. is_known ixl need.point need.side) same ∙ all_pass (λ (need : Need). is_known old.ixl need.point need.side) row.needs (sym (is row route kept) ∙ holds) need has))) part same)))

-- so many of the points that a route requires had their turn
abbrev pub HaveMoved : ℕ → ℕ → ℕ → StateView → OutboxState → StateView → OutboxState → Type 0
HaveMoved now number done old box new out = AtRoute old number (λ row route. Goes now (2 * done) (along (moving_one now old.sited.table number) (take done row.needs)) old box new out)

pub none_moved : (now number : ℕ) (old : StateView) (box : OutboxState) → AllAt now old → HaveMoved now number 0 old box old box
none_moved now number old box at row route kept = goes_nowhere now 0 _ old box at (λ part same. refl)

pub one_moved : (now number done : ℕ) (need : Need) (old : StateView) (box : OutboxState) (mid : StateView) (between : OutboxState) (new : StateView) (out : OutboxState) → HaveMoved now number done old box mid between →
    AtRoute old number (λ row route. (done < length row.needs) × (need ≡ get_or row.needs done need)) → Goes now 2 (moving_one now mid.sited.table number need) mid between new out → HaveMoved now number (done + 1) old box new out
one_moved now number done need old box mid between new out so_far stands goes row route kept =
    let at = stands row route kept
    in goes_as now (2 * (done + 1)) _ (λ part. moving_one now old.sited.table number need (along (moving_one now old.sited.table number) (take done row.needs) part)) old box new out
    (λ part same. ap (λ needs. along (moving_one now old.sited.table number) needs part) (ap (λ n. take n row.needs) (add-one done) ∙ take-suc row.needs done need at.0 ∙ ap (λ (n : Need). take done row.needs ++ n ∷ []) (sym at.1))
    ∙ along_last (moving_one now old.sited.table number) (take done row.needs) need part)
    (goes_next now (2 * done) 2 (2 * (done + 1)) _ (λ table. moving_one now table number need) old box mid between new out (omega arith) (so_far row route kept) goes)

pub all_moved : (now number done : ℕ) (old : StateView) (box : OutboxState) (new : StateView) (out : OutboxState) → HasRoute old number → AtRoute old number (λ row route. (done ≡ length row.needs) × (length row.needs ≤ 32)) →
    HaveMoved now number done old box new out → Goes now 64 (moving now old.sited.table number) old box new out
unfolding moving
all_moved now number done old box new out there counted so_far =
    let few = counted there.0 there.1 there.2
    in goes_as now 64 _ (along (moving_one now old.sited.table number) (take done there.0.needs)) old box new out
    (λ part same. at_kept old.sited.table number _ part there.0 there.1 (subst (λ (ixl : IxlState). IsKeptRoute old.sited.table ixl.routes number there.0 there.1) (sym same) there.2)
    ∙ ap (λ needs. along (moving_one now old.sited.table number) needs part) (sym (ap (λ n. take n there.0.needs) few.0 ∙ take-length there.0.needs)))
    (goes_within now (2 * done) 64 _ old box new out (omega (arith, few.0, few.1)) (so_far there.0 there.1 there.2))

-- ---- 6

pub nothing_given : (now number : ℕ) (old : StateView) (box : OutboxState) (due : Bool) → HasRoute old number → AllAt now old → AtRoute old number (λ row route. due ≡ is_proceed_due now old.sited.table old.ixl row route) → due ≡ false →
    Goes now 2 (proceeding now old.sited.table number) old box old box
unfolding proceeding
nothing_given now number old box due there at is fails = goes_nowhere now 2 _ old box at (route_does old number _ (λ part. part) there
    (λ row route kept part same. if_not _ _ part (ap (λ ixl. is_proceed_due now old.sited.table ixl row route) same ∙ sym (is row route kept) ∙ fails)))

pub authority_given : (now number signal : ℕ) (aspect : Aspect) (clear : Bool) (old mid : StateView) (box : OutboxState) (new : StateView) (out : OutboxState) (due : Bool) → HasRoute old number → AllAt now old →
    AtRoute old number (λ row route. due ≡ is_proceed_due now old.sited.table old.ixl row route) → due ≡ true → AtRoute old number (λ row route. signal ≡ row.entry) → AtRoute old number (λ row route. aspect ≡ row.aspect) →
    AtRoute old number (λ row route. clear ≡ is_approach_clear old.sited.table old.ixl row) →
    AtRoute old number (λ row route. mid ≡ route_changed (λ (state : RouteState). record state { phase = phase.Proceeding; passage = passage_after (length row.sections) []; approached = not clear }) number old) →
    Goes now 2 (giving_aspect now signal aspect) mid box new out → Goes now 2 (proceeding now old.sited.table number) old box new out
unfolding proceeding
authority_given now number signal aspect clear old mid box new out due there at is holds is_entry is_aspect is_clear changed goes =
    goes_as now 2 _ (λ part. giving_aspect now signal aspect (with_route number (given there.0) part)) old box new out
    (λ part same. at_kept old.sited.table number _ part there.0 there.1 (subst (λ (ixl : IxlState). IsKeptRoute old.sited.table ixl.routes number there.0 there.1) (sym same) there.2)
    ∙ if_so _ _ part (ap (λ ixl. is_proceed_due now old.sited.table ixl there.0 there.1) same ∙ sym (is there.0 there.1 there.2) ∙ holds)
    ∙ ap (λ b. giving_aspect now there.0.entry there.0.aspect (with_route number (given_by there.0 b) part)) (ap (λ ixl. is_approach_clear old.sited.table ixl there.0) same ∙ sym (is_clear there.0 there.1 there.2))
    ∙ ap (λ s. giving_aspect now s there.0.aspect (with_route number (given there.0) part)) (sym (is_entry there.0 there.1 there.2))
    ∙ ap (λ a. giving_aspect now signal a (with_route number (given there.0) part)) (sym (is_aspect there.0 there.1 there.2)))
    (goes_then now 0 2 2 (with_route number (given there.0)) (giving_aspect now signal aspect) old box mid box new out (omega arith)
    (changes_go now _ old mid box at (route_changes (given there.0) number old mid (changed there.0 there.1 there.2))) goes)
  where
    given_by : Row → Bool → RouteState → RouteState
    given_by row b state = record state { phase = phase.Proceeding; passage = passage_after (length row.sections) []; approached = not b }

    given : Row → RouteState → RouteState
    given row = given_by row clear

-- ---- one rule after another

pub rules_go : (now : ℕ) (first second third fourth fifth sixth last : StateView) (box one two out : OutboxState) → AllAt now first →
    Goes now 128 (over (withdrawing now first.sited.table) (count first.sited.table)) first box second one →
    Changes (over (ending_authority now second.sited.table) (count second.sited.table)) second third →
    Changes (over (freeing_by_passage third.sited.table) (count third.sited.table)) third fourth →
    Changes (over (freeing_by_cancel now fourth.sited.table) (count fourth.sited.table)) fourth fifth →
    Goes now 4096 (over (moving now fifth.sited.table) (count fifth.sited.table)) fifth one sixth two →
    Goes now 128 (over (proceeding now sixth.sited.table) (count sixth.sited.table)) sixth two last out →
    Goes now 4352 (ruled now first.sited.table) first box last out
rules_go now first second third fourth fifth sixth last box one two out at withdrawn ended passed cancelled moved given =
    goes_next now 4224 128 4352 _ (λ table. over (proceeding now table) (count table)) first box sixth two last out (omega arith)
    (goes_next now 128 4096 4224 _ (λ table. over (moving now table) (count table)) first box fifth one sixth two (omega arith)
    (goes_next now 128 0 128 _ (λ table. over (freeing_by_cancel now table) (count table)) first box fourth one fifth one (omega arith)
    (goes_next now 128 0 128 _ (λ table. over (freeing_by_passage table) (count table)) first box third one fourth one (omega arith)
    (goes_next now 128 0 128 _ (λ table. over (ending_authority now table) (count table)) first box second one third one (omega arith) withdrawn
    (changes_go now _ second third one withdrawn.clock ended))
    (changes_go now _ third fourth one (ended.clock now withdrawn.clock) passed))
    (changes_go now _ fourth fifth one (passed.clock now (ended.clock now withdrawn.clock)) cancelled))
    moved) given
