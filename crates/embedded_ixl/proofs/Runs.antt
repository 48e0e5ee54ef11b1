-- Calls one after another.
use Rattle.std.proofs.Common.{◌≡◌, ℕ, ◌≤◌, Bool, true, false, List, [], ◌∷◌, ◌++◌, refl, sym, ap, ◌∙◌, subst, arith, append_assoc}
use Rattle.std.specs.Prelude.{is_ok, if◌then◌else◌}
use Rattle.std.proofs.lemmas.List.{append-nil}
use Rattle.ixl_state.specs.ixl_spec.Step.{Input}
use Rattle.embedded_ixl.specs.Embedded.{EmbeddedIxlState}
use Rattle.embedded_ixl.specs.Calls.{Call, Hears, Ticks, Obeys, FindsEmpty, Takes, after_accepted, after_call, after_calls, answer_to, input_by}
use Rattle.embedded_ixl.specs.Inputs.{Rise, inputs_by, state_after}
use Rattle.embedded_ixl.proofs.Answered.{bytes_accepted, next_accepted, reading_accepted}

-- ---- a list of calls and more

pub after_append : (calls more : List Call) (it : EmbeddedIxlState) → after_calls (calls ++ more) it ≡ after_calls more (after_calls calls it)
unfolding after_calls
after_append [] more it = refl
after_append (call ∷ calls) more it = after_append calls more (after_call call it)

pub inputs_append : (calls more : List Call) (it : EmbeddedIxlState) → inputs_by (calls ++ more) it ≡ inputs_by calls it ++ inputs_by more (after_calls calls it)
unfolding after_calls inputs_by
inputs_append [] more it = refl
inputs_append (call ∷ calls) more it =
    let brought : List (ℕ × Input) = if is_ok (answer_to call it) then input_by call else []
    in ap (λ (inputs : List (ℕ × Input)). brought ++ inputs) (inputs_append calls more (after_call call it))
    ∙ sym (append_assoc brought (inputs_by calls (after_call call it)) (inputs_by more (after_calls calls (after_call call it))))

pub after_one : (calls : List Call) (call : Call) (it : EmbeddedIxlState) → after_calls (calls ++ call ∷ []) it ≡ after_call call (after_calls calls it)
unfolding after_calls
after_one calls call it = after_append calls (call ∷ []) it

-- what is so at first and stays so by each call is so after all of them
pub always : (it : EmbeddedIxlState) (P : List Call → EmbeddedIxlState → Type 0)
    → ((calls : List Call) (call : Call) → P calls (after_calls calls it) → P (calls ++ call ∷ []) (after_call call (after_calls calls it)))
    → (calls more : List Call) → P calls (after_calls calls it) → P (calls ++ more) (after_calls (calls ++ more) it)
always it P by_call calls [] holds = subst (λ (all : List Call). P all (after_calls all it)) (sym (append-nil calls)) holds
always it P by_call calls (call ∷ more) holds =
    subst (λ (all : List Call). P all (after_calls all it)) (append_assoc calls (call ∷ []) more)
    (always it P by_call (calls ++ call ∷ []) more
    (subst (λ (now : EmbeddedIxlState). P (calls ++ call ∷ []) now) (sym (after_one calls call it)) (by_call calls call holds)))

-- ---- the interlocking is what came of it

one_state : (accepted : Bool) (call : Call) (others : List (ℕ × Input)) (it : EmbeddedIxlState)
    → state_after others (if accepted then after_accepted call it else it).interlocking.state ≡ state_after ((if accepted then input_by call else []) ++ others) it.interlocking.state
unfolding state_after
one_state false call others it = refl
one_state true (Hears now bytes) others it = refl
one_state true (Ticks now) others it = refl
one_state true (Obeys now command) others it = refl
one_state true (FindsEmpty before) others it = refl
one_state true (Takes now) others it = refl

pub state_is_what_came : (calls : List Call) (it : EmbeddedIxlState) → (after_calls calls it).interlocking.state ≡ state_after (inputs_by calls it) it.interlocking.state
unfolding after_calls inputs_by state_after
state_is_what_came [] it = refl
state_is_what_came (call ∷ calls) it =
    state_is_what_came calls (after_call call it)
    ∙ one_state (is_ok (answer_to call it)) call (inputs_by calls (after_call call it)) it

-- ---- readings don't fall

rise_from : (earlier from : ℕ) (inputs : List (ℕ × Input)) → earlier ≤ from → Rise from inputs → Rise earlier inputs
rise_from earlier from [] before rises = tt
rise_from earlier from (one ∷ others) before rises = (omega arith, rises.1)

-- what a call brings, and the calls after it
one_rises : (call : Call) (accepted : Bool) (others : List (ℕ × Input)) (it : EmbeddedIxlState) → is_ok (answer_to call it) ≡ accepted
    → Rise (if accepted then after_accepted call it else it).latest others → Rise it.latest ((if accepted then input_by call else []) ++ others)
one_rises call false others it e rises = rises
one_rises (Hears now bytes) true others it e rises = ((bytes_accepted now it e).0, rises)
one_rises (Ticks now) true others it e rises = (reading_accepted now it e, rises)
one_rises (Obeys now command) true others it e rises = (reading_accepted now it e, rises)
one_rises (FindsEmpty before) true others it e rises = rise_from it.latest before others (reading_accepted before it e) rises
one_rises (Takes now) true others it e rises = rise_from it.latest now others ((next_accepted now it e).0) rises

pub readings_rise : (calls : List Call) (it : EmbeddedIxlState) → Rise it.latest (inputs_by calls it)
unfolding inputs_by
readings_rise [] it = tt
readings_rise (call ∷ calls) it = one_rises call (is_ok (answer_to call it)) (inputs_by calls (after_call call it)) it refl (readings_rise calls (after_call call it))
