-- What leaves is of the last step, and fresh.
use Rattle.std.proofs.Common.{◌≡◌, ℕ, ◌+◌, ◌≤◌, ◌<◌, Bool, true, false, List, [], ◌∷◌, ◌++◌, Some, None, Ok, refl, sym, ap, ◌∙◌, subst, append_assoc}
use Rattle.std.specs.Prelude.{is_ok, if◌then◌else◌, drop, slice_get}
use Rattle.std.proofs.lemmas.Bool.{ltb-true}
use Rattle.ixl_state.specs.ixl_spec.Step.{Input}
use Rattle.ixl_state.specs.rasta_core.Outbox.{OutboxState}
use Rattle.ixl.specs.Interlocking.{step_of}
use Rattle.embedded_ixl.specs.Embedded.{EmbeddedIxlState, answer_to_next, leaving, without_oldest, is_fresh}
use Rattle.embedded_ixl.specs.Calls.{Call, Hears, Ticks, Obeys, FindsEmpty, Takes, after_accepted, after_call, after_calls, answer_to, input_by, leaves_by}
use Rattle.embedded_ixl.specs.Inputs.{inputs_by}
use Rattle.embedded_ixl.specs.Leaving.{IsIn, LeavesRightly}
use Rattle.embedded_ixl.proofs.Answered.{is_accepted, next_accepted}
use Rattle.embedded_ixl.proofs.Runs.{after_append, always, inputs_append}

-- a beginning of a list and the rest of it without its first
without_first : {A : Type 0} (all front rest : List A) → all ≡ front ++ rest → (more : List A) × (all ≡ more ++ drop 1 rest)
without_first all front [] e = (front, e)
without_first all front (one ∷ rest) e = (front ++ one ∷ [], e ∙ sym (append_assoc front (one ∷ []) rest))

-- the first of the rest is one of all
first_is_in : {A : Type 0} (one : A) (all front rest : List A) → all ≡ front ++ rest → slice_get rest 0 ≡ Some one → IsIn one all
first_is_in one all front [] e first = cc
first_is_in one all front (other ∷ rest) e first = record { before = front; after = rest; all_are = e ∙ ap (λ (x : _). front ++ x ∷ rest) some_is } where
  some_is : other ≡ one
  some_is = cc

-- whatever was answered, a call that brings nothing brings nothing
nothing_either : (ok : Bool) → (let none : List (ℕ × Input) = if ok then [] else [] in none ++ []) ≡ []
nothing_either true = refl
nothing_either false = refl

-- an outbox that is empty stays so, and one whose oldest goes has the rest
still_none : (fresh : Bool) (outbox : OutboxState) → outbox.datagrams ≡ [] → (without_oldest fresh outbox).datagrams ≡ []
still_none true outbox is = ap (λ (all : List (List ℕ)). drop 1 all) is
still_none false outbox is = is

waits_on : (fresh : Bool) (all front : List (List ℕ)) (outbox : OutboxState) → all ≡ front ++ outbox.datagrams → (more : List (List ℕ)) × (all ≡ more ++ (without_oldest fresh outbox).datagrams)
waits_on false all front outbox are = (front, are)
waits_on true all front outbox are = without_first all front outbox.datagrams are

module _ (it : EmbeddedIxlState) where
  -- what a step of this state with this input hands out
  abbrev handed_by : ℕ → Input → EmbeddedIxlState → List (List ℕ)
  handed_by since input old = (step_of since input old.interlocking.state).outbox.datagrams

  -- What waits after these calls was handed out by the last step.
  record IsOfStep (calls : List Call) (state : EmbeddedIxlState) : Type 0 where
    earlier : List Call
    step : Call
    later : List Call
    calls_are : calls ≡ earlier ++ step ∷ later
    accepted : answer_to step (after_calls earlier it) ≡ Ok tt
    since : ℕ
    input : Input
    brought : input_by step ≡ (since, input) ∷ []
    last : inputs_by later (after_call step (after_calls earlier it)) ≡ []
    since_is : state.since ≡ since
    waiting : (front : List (List ℕ)) × (handed_by since input (after_calls earlier it) ≡ front ++ state.interlocking.outbox.datagrams)

  data Waits (calls : List Call) (state : EmbeddedIxlState) : Type 0 where
    none : state.interlocking.outbox.datagrams ≡ [] → Waits calls state
    of_step : IsOfStep calls state → Waits calls state

  -- the state after a step's calls
  after_step : (calls earlier later : List Call) (step : Call) → calls ≡ earlier ++ step ∷ later
      → after_calls later (after_call step (after_calls earlier it)) ≡ after_calls calls it
  unfolding after_calls
  after_step calls earlier later step are = sym (ap (λ (all : List Call). after_calls all it) are ∙ after_append earlier (step ∷ later) it)

  -- a call that brings nothing
  goes_on : (calls : List Call) (call : Call) (new : EmbeddedIxlState) → inputs_by (call ∷ []) (after_calls calls it) ≡ []
      → new.since ≡ (after_calls calls it).since
      → ((all front : List (List ℕ)) → all ≡ front ++ (after_calls calls it).interlocking.outbox.datagrams → (more : List (List ℕ)) × (all ≡ more ++ new.interlocking.outbox.datagrams))
      → IsOfStep calls (after_calls calls it) → IsOfStep (calls ++ call ∷ []) new
  goes_on calls call new brings since waits old = record {
    earlier = old.earlier;
    step = old.step;
    later = old.later ++ call ∷ [];
    calls_are = ap (λ (all : List Call). all ++ call ∷ []) old.calls_are ∙ append_assoc old.earlier (old.step ∷ old.later) (call ∷ []);
    accepted = old.accepted;
    since = old.since;
    input = old.input;
    brought = old.brought;
    last = inputs_append old.later (call ∷ []) (after_call old.step (after_calls old.earlier it))
        ∙ ap (λ (inputs : List (ℕ × Input)). inputs ++ inputs_by (call ∷ []) (after_calls old.later (after_call old.step (after_calls old.earlier it)))) old.last
        ∙ ap (λ (state : EmbeddedIxlState). inputs_by (call ∷ []) state) (after_step calls old.earlier old.later old.step old.calls_are)
        ∙ brings;
    since_is = since ∙ old.since_is;
    waiting = waits (handed_by old.since old.input (after_calls old.earlier it)) (old.waiting).0 (old.waiting).1;
  }

  -- a step
  steps : (calls : List Call) (call : Call) (since : ℕ) (input : Input) (new : EmbeddedIxlState) → is_ok (answer_to call (after_calls calls it)) ≡ true
      → input_by call ≡ (since, input) ∷ [] → new.since ≡ since → handed_by since input (after_calls calls it) ≡ new.interlocking.outbox.datagrams
      → IsOfStep (calls ++ call ∷ []) new
  unfolding inputs_by
  steps calls call since input new ok brought since_is handed = record {
    earlier = calls;
    step = call;
    later = [];
    calls_are = refl;
    accepted = is_accepted (answer_to call (after_calls calls it)) ok;
    since = since;
    input = input;
    brought = brought;
    last = refl;
    since_is = since_is;
    waiting = ([], handed);
  }

  by_call : (calls : List Call) (call : Call) (ok : Bool) → is_ok (answer_to call (after_calls calls it)) ≡ ok → Waits calls (after_calls calls it)
      → Waits (calls ++ call ∷ []) (if ok then after_accepted call (after_calls calls it) else after_calls calls it)
  unfolding inputs_by
  by_call calls call false e (none is) = none is
  by_call calls call false e (of_step old) =
      of_step (goes_on calls call (after_calls calls it) (ap (λ (ok : Bool). (if ok then input_by call else []) ++ []) e) refl (λ all front are. (front, are)) old)
  by_call calls (Hears now bytes) true e old = of_step (steps calls (Hears now bytes) now _ _ e refl refl refl)
  by_call calls (Ticks now) true e old = of_step (steps calls (Ticks now) now _ _ e refl refl refl)
  by_call calls (Obeys now command) true e old = of_step (steps calls (Obeys now command) now _ _ e refl refl refl)
  by_call calls (FindsEmpty before) true e (none is) = none is
  by_call calls (FindsEmpty before) true e (of_step old) = of_step (goes_on calls (FindsEmpty before) _ (nothing_either (is_ok (answer_to (FindsEmpty before) (after_calls calls it)))) refl (λ all front are. (front, are)) old)
  by_call calls (Takes now) true e (none is) = none (still_none (is_fresh now (after_calls calls it)) _ is)
  by_call calls (Takes now) true e (of_step old) = of_step (goes_on calls (Takes now) _ (nothing_either (is_ok (answer_to (Takes now) (after_calls calls it)))) refl
      (λ all front are. waits_on (is_fresh now (after_calls calls it)) all front _ are) old)

  -- what waits after calls, where nothing waited at first
  waits : (calls : List Call) → it.interlocking.outbox.datagrams ≡ [] → Waits calls (after_calls calls it)
  unfolding after_calls
  waits calls empty = always it Waits (λ before call old. by_call before call (is_ok (answer_to call (after_calls before it))) refl old) [] calls (none empty)

  leaves_of : (calls : List Call) (now : ℕ) (datagram : List ℕ) (fresh : Bool) → is_fresh now (after_calls calls it) ≡ fresh
      → (if fresh then slice_get (after_calls calls it).interlocking.outbox.datagrams 0 else None) ≡ Some datagram → Waits calls (after_calls calls it) → LeavesRightly it calls now datagram
  leaves_of calls now datagram false e left waits = cc
  leaves_of calls now datagram true e left (none is) =
      let no : None ≡ Some datagram = ap (λ (all : List (List ℕ)). slice_get all 0) (sym is) ∙ left in cc
  leaves_of calls now datagram true e left (of_step old) = record {
    earlier = old.earlier;
    step = old.step;
    later = old.later;
    calls_are = old.calls_are;
    accepted = old.accepted;
    since = old.since;
    input = old.input;
    brought = old.brought;
    last = old.last;
    handed = first_is_in datagram _ (old.waiting).0 (after_calls calls it).interlocking.outbox.datagrams (old.waiting).1 left;
    fresh = subst (λ (since : ℕ). now < since + 500) old.since_is (ltb-true now ((after_calls calls it).since + 500) e);
  }

  leaves_by_answer : (calls : List Call) (now : ℕ) (datagram : List ℕ) (ok : Bool) → is_ok (answer_to_next now (after_calls calls it)) ≡ ok
      → (if ok then leaving now (after_calls calls it) else None) ≡ Some datagram → it.interlocking.outbox.datagrams ≡ []
      → LeavesRightly it calls now datagram × ((after_calls calls it).begun + 2000 ≤ now)
  leaves_by_answer calls now datagram false e left empty = cc
  leaves_by_answer calls now datagram true e left empty =
      let accepted = next_accepted now (after_calls calls it) e
      in (leaves_of calls now datagram (is_fresh now (after_calls calls it)) refl left (waits calls empty), accepted.1)

  pub leaves_rightly : (calls : List Call) (now : ℕ) (datagram : List ℕ) → it.interlocking.outbox.datagrams ≡ [] → leaves_by (Takes now) (after_calls calls it) ≡ Some datagram
      → LeavesRightly it calls now datagram × ((after_calls calls it).begun + 2000 ≤ now)
  leaves_rightly calls now datagram empty left = leaves_by_answer calls now datagram (is_ok (answer_to_next now (after_calls calls it))) refl left empty
