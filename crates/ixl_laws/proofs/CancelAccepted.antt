-- When a cancel and a resume are accepted, and why they are refused.
use Rattle.std.proofs.Common.{◌≡◌, ℕ, Bool, true, false, not, refl, ap, sym, ◌∙◌, subst}
use Rattle.std.specs.Prelude.{◌↔◌, Option, Some, None, slice_get}
use Rattle.std.proofs.lemmas.Bool.{false≢true, true≢false}
use Rattle.ixl_state.specs.layout.declared.ids.RouteId.{RouteId}
use Rattle.ixl_state.specs.ixl_spec.Commands.{cancel_refusal, refusal, refused_where}
use Rattle.ixl_state.specs.ixl_spec.State.{IxlState, RouteState}
use Rattle.ixl_state.specs.ixl_spec.Step.{Accepted, Commands, Received, Refused, Reply, Ticked, all_clocked, answer_by, reply}
use Rattle.ixl_state.specs.ixl_spec.View.{is_holding, is_set}
use Rattle.ixl_state.specs.ixl_spec.declared.command.Command.TheVariants as commands
use Rattle.ixl_state.specs.ixl_spec.declared.command.Refusal.{Refusal}
use Rattle.ixl_state.specs.ixl_spec.declared.command.Refusal.TheVariants as refusals
use Rattle.ixl.specs.Interlocking.{HasStepped, InterlockingState}
use Rattle.ixl_laws.specs.Cancels.{IsCancelRefused, IsResumeRefused, MayCancel}
use Rattle.ixl_laws.proofs.PickedByTest.{none_is, some_same}

-- what is so by why a cancel is refused
Told : ℕ → IxlState → ℕ → Option Refusal → Type 0
Told now ixl number None = MayCancel now ixl number
Told now ixl number (Some cause) = IsCancelRefused now ixl number cause

told : (now : ℕ) (ixl : IxlState) (number : ℕ) (kept : Option RouteState) → slice_get ixl.routes number ≡ kept → Told now ixl number (cancel_refusal now ixl kept)
unfolding Told
told now ixl number None none = λ kept. none_is (sym none ∙ kept.1)
told now ixl number (Some route) is = by_hold (is_holding now ixl) refl where
  by_set : (set : Bool) → is_set route.phase ≡ set → is_holding now ixl ≡ false → ixl.resumed ≡ true →
      Told now ixl number (refused_where (not set) refusals.NotSet None)
  by_set true holds over resumed = ((over, resumed), (route, is, holds))
  by_set false unset over resumed = ((over, resumed), (route, is, unset))

  by_resumed : (resumed : Bool) → ixl.resumed ≡ resumed → is_holding now ixl ≡ false →
      Told now ixl number (refused_where (not resumed) refusals.NotResumed (refused_where (not (is_set route.phase)) refusals.NotSet None))
  by_resumed true was_told over = by_set (is_set route.phase) refl over was_told
  by_resumed false untold over = ((route, is), over, untold)

  by_hold : (holds : Bool) → is_holding now ixl ≡ holds →
      Told now ixl number (refused_where holds refusals.Holding (refused_where (not ixl.resumed) refusals.NotResumed (refused_where (not (is_set route.phase)) refusals.NotSet None)))
  by_hold true holding = ((route, is), holding)
  by_hold false over = by_resumed ixl.resumed refl over

-- a route that may be cancelled has no cause against it
none_against : (now : ℕ) (ixl : IxlState) (number : ℕ) (cause : Refusal) → MayCancel now ixl number → IsCancelRefused now ixl number cause → ⊥
none_against now ixl number refusals.UnknownRoute may is = is (may.1.0, may.1.1)
none_against now ixl number refusals.Holding may is = true≢false (sym is.1 ∙ may.0.0)
none_against now ixl number refusals.NotResumed may is = true≢false (sym may.0.1 ∙ is.2)
none_against now ixl number refusals.NotSet may is =
    true≢false (sym may.1.2 ∙ ap (λ (r : RouteState). is_set r.phase) (some_same (sym may.1.1 ∙ is.1.1)) ∙ is.1.2)
none_against now ixl number refusals.AlreadySet may is = is
none_against now ixl number (refusals.Conflict route) may is = is
none_against now ixl number (refusals.NotClear section) may is = is
none_against now ixl number (refusals.PointUnavailable point) may is = is
none_against now ixl number refusals.SignalUnavailable may is = is
none_against now ixl number refusals.DetectionDown may is = is
none_against now ixl number refusals.NoSuchThing may is = is
none_against now ixl number refusals.NotEnded may is = is
none_against now ixl number (refusals.Closed thing) may is = is
none_against now ixl number (refusals.Held route) may is = is

is_accepted : Reply → Bool
is_accepted Accepted = true
is_accepted (Refused cause) = false
is_accepted Ticked = false
is_accepted (Received verdict) = false

cause_of : Refusal → Reply → Refusal
cause_of other (Refused cause) = cause
cause_of other _ = other

-- the answer to a cancel, by why it is refused
answer_is : (now : ℕ) (route : RouteId) (old new : InterlockingState) (answer : Reply) → HasStepped now (Commands (commands.Cancel route)) old new answer →
    answer ≡ answer_by (cancel_refusal now old.state.ixl (slice_get old.state.ixl.routes route.0))
unfolding reply refusal all_clocked
answer_is now route old new answer step = step.answered

pub cancel_accepted : (now : ℕ) (route : RouteId) (old new : InterlockingState) (answer : Reply) → HasStepped now (Commands (commands.Cancel route)) old new answer →
    answer ≡ Accepted ↔ MayCancel now old.state.ixl route.0
unfolding Told is_accepted
cancel_accepted now route old new answer step = by_cause _ refl where
  by_cause : (cause : Option Refusal) → cancel_refusal now old.state.ixl (slice_get old.state.ixl.routes route.0) ≡ cause → answer ≡ Accepted ↔ MayCancel now old.state.ixl route.0
  by_cause None is = (
    λ accepted. subst (Told now old.state.ixl route.0) is (told now old.state.ixl route.0 _ refl),
    λ may. answer_is now route old new answer step ∙ ap answer_by is,
  )
  by_cause (Some cause) is = (
    λ accepted. absurd (false≢true (ap is_accepted (sym (answer_is now route old new answer step ∙ ap answer_by is) ∙ accepted))),
    λ may. absurd (none_against now old.state.ixl route.0 cause may (subst (Told now old.state.ixl route.0) is (told now old.state.ixl route.0 _ refl))),
  )

pub cancel_refused : (now : ℕ) (route : RouteId) (old new : InterlockingState) (answer : Reply) (cause : Refusal) → HasStepped now (Commands (commands.Cancel route)) old new answer →
    answer ≡ Refused cause → IsCancelRefused now old.state.ixl route.0 cause
unfolding Told is_accepted cause_of
cancel_refused now route old new answer cause step refused = by_cause _ refl where
  by_cause : (other : Option Refusal) → cancel_refusal now old.state.ixl (slice_get old.state.ixl.routes route.0) ≡ other → IsCancelRefused now old.state.ixl route.0 cause
  by_cause None is = absurd (false≢true (ap is_accepted (sym refused ∙ answer_is now route old new answer step ∙ ap answer_by is)))
  by_cause (Some other) is =
      subst (IsCancelRefused now old.state.ixl route.0) (ap (cause_of cause) (sym (answer_is now route old new answer step ∙ ap answer_by is) ∙ refused))
      (subst (Told now old.state.ixl route.0) is (told now old.state.ixl route.0 _ refl))

-- ---- a resume

resume_answer : (now : ℕ) (old new : InterlockingState) (answer : Reply) → HasStepped now (Commands commands.Resume) old new answer →
    answer ≡ answer_by (refused_where (is_holding now old.state.ixl) refusals.Holding None)
unfolding reply refusal all_clocked
resume_answer now old new answer step = step.answered

pub resume_accepted : (now : ℕ) (old new : InterlockingState) (answer : Reply) → HasStepped now (Commands commands.Resume) old new answer →
    answer ≡ Accepted ↔ is_holding now old.state.ixl ≡ false
unfolding is_accepted
resume_accepted now old new answer step = by_hold (is_holding now old.state.ixl) (resume_answer now old new answer step) where
  by_hold : (holds : Bool) → answer ≡ answer_by (refused_where holds refusals.Holding None) → answer ≡ Accepted ↔ holds ≡ false
  by_hold true is = (λ accepted. absurd (false≢true (ap is_accepted (sym is ∙ accepted))), λ over. absurd (true≢false over))
  by_hold false is = (λ accepted. refl, λ over. is)

pub resume_refused : (now : ℕ) (old new : InterlockingState) (answer : Reply) (cause : Refusal) → HasStepped now (Commands commands.Resume) old new answer →
    answer ≡ Refused cause → IsResumeRefused now old.state.ixl cause
unfolding is_accepted cause_of
resume_refused now old new answer cause step refused = by_hold (is_holding now old.state.ixl) refl where
  by_hold : (holds : Bool) → is_holding now old.state.ixl ≡ holds → IsResumeRefused now old.state.ixl cause
  by_hold true is = subst (IsResumeRefused now old.state.ixl) (ap (cause_of cause) (sym (resume_answer now old new answer step ∙ ap (λ holds. answer_by (refused_where holds refusals.Holding None)) is) ∙ refused)) is
  by_hold false is = absurd (false≢true (ap is_accepted (sym refused ∙ resume_answer now old new answer step ∙ ap (λ holds. answer_by (refused_where holds refusals.Holding None)) is)))
