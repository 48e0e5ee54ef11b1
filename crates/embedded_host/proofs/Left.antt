-- What leaves is of the last step, in force and fresh.
use Rattle.std.proofs.Common.{◌≡◌, ℕ, ◌+◌, ◌≤◌, ◌<◌, Bool, true, false, List, [], ◌∷◌, ◌++◌, Some, None, Ok, refl, sym, ap, ◌∙◌, subst, append_assoc, ◌⊎◌, inl, inr}
use Rattle.std.specs.Prelude.{is_ok, if◌then◌else◌, drop, slice_get}
use Rattle.std.proofs.lemmas.Bool.{ltb-true}
use Rattle.rasta_core.specs.Outbox.{OutboxState, spellings}
use Rattle.object_host.specs.Behaviour.{Behaviour}
use Rattle.object_host.specs.Step.{host_step}
use Rattle.object_host.specs.declared.input.Input.{Input}
use Rattle.embedded_host.specs.Embedded.{EmbeddedState, answer_to_next, leaving, without_oldest, is_fresh}
use Rattle.embedded_host.specs.Calls.{Call, Hears, Ticks, Senses, FindsEmpty, AsksOrder, Done, Takes, after_accepted, after_call, after_calls, answer_to, input_by, leaves_by}
use Rattle.embedded_host.specs.Inputs.{inputs_by}
use Rattle.embedded_host.specs.Leaving.{IsIn, LeavesRightly}
use Rattle.embedded_host.proofs.Answered.{is_accepted, next_accepted}
use Rattle.embedded_host.proofs.Below.{posted}
use Rattle.embedded_host.proofs.Runs.{after_append, always, inputs_append}

-- a beginning of a list and the rest of it without its first
without_first : {A : Type 0} (all front rest : List A) → all ≡ front ++ rest → (more : List A) × (all ≡ more ++ drop 1 rest)
without_first all front [] e = (front, e)
without_first all front (one ∷ rest) e = (front ++ one ∷ [], e ∙ sym (append_assoc front (one ∷ []) rest))

-- the first of the rest is one of all
first_is_in : {A : Type 0} (one : A) (all front rest : List A) → all ≡ front ++ rest → slice_get rest 0 ≡ Some one → IsIn one all
first_is_in one all front [] e first = cc
first_is_in one all front (other ∷ rest) e first = record { before = front; after = rest; all_are = e ∙ ap (λ (x : _). front ++ x ∷ rest) some_is } where
  some_is : other ≡ one
  some_is = cc

-- whatever was answered, a call that brings nothing brings nothing
nothing_either : (ok : Bool) → (let none : List (ℕ × Input) = if ok then [] else [] in none ++ []) ≡ []
nothing_either true = refl
nothing_either false = refl

-- an outbox that is empty stays so, and one whose oldest goes has the rest
still_none : (fresh : Bool) (outbox : OutboxState) → outbox.datagrams ≡ [] → (without_oldest fresh outbox).datagrams ≡ []
still_none true outbox is = ap (λ (all : List (List ℕ)). drop 1 all) is
still_none false outbox is = is

waits_on : (fresh : Bool) (all front : List (List ℕ)) (outbox : OutboxState) → all ≡ front ++ outbox.datagrams → (more : List (List ℕ)) × (all ≡ more ++ (without_oldest fresh outbox).datagrams)
waits_on false all front outbox are = (front, are)
waits_on true all front outbox are = without_first all front outbox.datagrams are

module _ {Object : Type 0} (does : Behaviour Object) (it : EmbeddedState Object) where
  -- what a step of this state with this input hands out
  abbrev handed_by : ℕ → Input → EmbeddedState Object → List (List ℕ)
  handed_by since input old = spellings old.hosted.host.link.identity.key (host_step does since input old.hosted.host).pdus

  -- What waits after these calls was handed out by the last step; and where the order is in force it was put so since.
  record IsOfStep (calls : List Call) (state : EmbeddedState Object) : Type 0 where
    earlier : List Call
    step : Call
    later : List Call
    calls_are : calls ≡ earlier ++ step ∷ later
    accepted : answer_to step (after_calls does earlier it) ≡ Ok tt
    since : ℕ
    input : Input
    brought : input_by step ≡ (since, input) ∷ []
    last : inputs_by does later (after_call does step (after_calls does earlier it)) ≡ []
    since_is : state.since ≡ since
    in_force : state.in_force ≡ true → IsIn Done later
    waiting : (front : List (List ℕ)) × (handed_by since input (after_calls does earlier it) ≡ front ++ state.hosted.outbox.datagrams)

  data Waits (calls : List Call) (state : EmbeddedState Object) : Type 0 where
    none : state.hosted.outbox.datagrams ≡ [] → Waits calls state
    of_step : IsOfStep calls state → Waits calls state

  -- the state after a step's calls
  after_step : (calls earlier later : List Call) (step : Call) → calls ≡ earlier ++ step ∷ later
      → after_calls does later (after_call does step (after_calls does earlier it)) ≡ after_calls does calls it
  unfolding after_calls
  after_step calls earlier later step are = sym (ap (λ (all : List Call). after_calls does all it) are ∙ after_append does earlier (step ∷ later) it)

  -- a call that brings nothing
  goes_on : (calls : List Call) (call : Call) (new : EmbeddedState Object) → inputs_by does (call ∷ []) (after_calls does calls it) ≡ []
      → new.since ≡ (after_calls does calls it).since
      → (new.in_force ≡ true → ((after_calls does calls it).in_force ≡ true) ⊎ (call ≡ Done))
      → ((all front : List (List ℕ)) → all ≡ front ++ (after_calls does calls it).hosted.outbox.datagrams → (more : List (List ℕ)) × (all ≡ more ++ new.hosted.outbox.datagrams))
      → IsOfStep calls (after_calls does calls it) → IsOfStep (calls ++ call ∷ []) new
  goes_on calls call new brings since forced waits old = record {
    earlier = old.earlier;
    step = old.step;
    later = old.later ++ call ∷ [];
    calls_are = ap (λ (all : List Call). all ++ call ∷ []) old.calls_are ∙ append_assoc old.earlier (old.step ∷ old.later) (call ∷ []);
    accepted = old.accepted;
    since = old.since;
    input = old.input;
    brought = old.brought;
    last = inputs_append does old.later (call ∷ []) (after_call does old.step (after_calls does old.earlier it))
        ∙ ap (λ (inputs : List (ℕ × Input)). inputs ++ inputs_by does (call ∷ []) (after_calls does old.later (after_call does old.step (after_calls does old.earlier it)))) old.last
        ∙ ap (λ (state : EmbeddedState Object). inputs_by does (call ∷ []) state) (after_step calls old.earlier old.later old.step old.calls_are)
        ∙ brings;
    since_is = since ∙ old.since_is;
    in_force = λ is. elim (forced is) [ inl before ↦ extended (old.in_force before) | inr now ↦ record { before = old.later; after = []; all_are = ap (λ (one : Call). old.later ++ one ∷ []) now } ];
    waiting = waits (handed_by old.since old.input (after_calls does old.earlier it)) (old.waiting).0 (old.waiting).1;
  } where
    extended : IsIn Done old.later → IsIn Done (old.later ++ call ∷ [])
    extended is = record { before = is.before; after = is.after ++ call ∷ []; all_are = ap (λ (all : List Call). all ++ call ∷ []) is.all_are ∙ append_assoc is.before (Done ∷ is.after) (call ∷ []) }

  -- a step
  steps : (calls : List Call) (call : Call) (since : ℕ) (input : Input) (new : EmbeddedState Object) → is_ok (answer_to call (after_calls does calls it)) ≡ true
      → input_by call ≡ (since, input) ∷ [] → new.since ≡ since → new.in_force ≡ false → handed_by since input (after_calls does calls it) ≡ new.hosted.outbox.datagrams
      → IsOfStep (calls ++ call ∷ []) new
  unfolding inputs_by
  steps calls call since input new ok brought since_is unforced handed = record {
    earlier = calls;
    step = call;
    later = [];
    calls_are = refl;
    accepted = is_accepted (answer_to call (after_calls does calls it)) ok;
    since = since;
    input = input;
    brought = brought;
    last = refl;
    since_is = since_is;
    in_force = λ forced. cc;
    waiting = ([], handed);
  }

  by_call : (calls : List Call) (call : Call) (ok : Bool) → is_ok (answer_to call (after_calls does calls it)) ≡ ok → Waits calls (after_calls does calls it)
      → Waits (calls ++ call ∷ []) (if ok then after_accepted does call (after_calls does calls it) else after_calls does calls it)
  unfolding inputs_by posted
  by_call calls call false e (none is) = none is
  by_call calls call false e (of_step old) =
      of_step (goes_on calls call (after_calls does calls it) (ap (λ (ok : Bool). (if ok then input_by call else []) ++ []) e) refl (λ forced. inl forced) (λ all front are. (front, are)) old)
  by_call calls (Hears now bytes) true e old = of_step (steps calls (Hears now bytes) now _ _ e refl refl refl refl)
  by_call calls (Ticks now) true e old = of_step (steps calls (Ticks now) now _ _ e refl refl refl refl)
  by_call calls (Senses now sense) true e old = of_step (steps calls (Senses now sense) now _ _ e refl refl refl refl)
  by_call calls (FindsEmpty before) true e (none is) = none is
  by_call calls (FindsEmpty before) true e (of_step old) = of_step (goes_on calls (FindsEmpty before) _ (nothing_either (is_ok (answer_to (FindsEmpty before) (after_calls does calls it)))) refl (λ forced. inl forced) (λ all front are. (front, are)) old)
  by_call calls (AsksOrder now) true e (none is) = none is
  by_call calls (AsksOrder now) true e (of_step old) = of_step (goes_on calls (AsksOrder now) _ (nothing_either (is_ok (answer_to (AsksOrder now) (after_calls does calls it)))) refl (λ forced. inl forced) (λ all front are. (front, are)) old)
  by_call calls Done true e (none is) = none is
  by_call calls Done true e (of_step old) = of_step (goes_on calls Done _ refl refl (λ forced. inr refl) (λ all front are. (front, are)) old)
  by_call calls (Takes now) true e (none is) = none (still_none (is_fresh now (after_calls does calls it)) _ is)
  by_call calls (Takes now) true e (of_step old) = of_step (goes_on calls (Takes now) _ (nothing_either (is_ok (answer_to (Takes now) (after_calls does calls it)))) refl (λ forced. inl forced)
      (λ all front are. waits_on (is_fresh now (after_calls does calls it)) all front _ are) old)

  -- what waits after calls, where nothing waited at first
  waits : (calls : List Call) → it.hosted.outbox.datagrams ≡ [] → Waits calls (after_calls does calls it)
  unfolding after_calls
  waits calls empty = always does it Waits (λ before call old. by_call before call (is_ok (answer_to call (after_calls does before it))) refl old) [] calls (none empty)

  leaves_of : (calls : List Call) (now : ℕ) (datagram : List ℕ) (fresh : Bool) → is_fresh now (after_calls does calls it) ≡ fresh → (after_calls does calls it).in_force ≡ true
      → (if fresh then slice_get (after_calls does calls it).hosted.outbox.datagrams 0 else None) ≡ Some datagram → Waits calls (after_calls does calls it) → LeavesRightly does it calls now datagram
  leaves_of calls now datagram false e forced left waits = cc
  leaves_of calls now datagram true e forced left (none is) =
      let no : None ≡ Some datagram = ap (λ (all : List (List ℕ)). slice_get all 0) (sym is) ∙ left in cc
  leaves_of calls now datagram true e forced left (of_step old) = record {
    earlier = old.earlier;
    step = old.step;
    later = old.later;
    calls_are = old.calls_are;
    accepted = old.accepted;
    since = old.since;
    input = old.input;
    brought = old.brought;
    last = old.last;
    in_force = old.in_force forced;
    handed = first_is_in datagram _ (old.waiting).0 (after_calls does calls it).hosted.outbox.datagrams (old.waiting).1 left;
    fresh = subst (λ (since : ℕ). now < since + 500) old.since_is (ltb-true now ((after_calls does calls it).since + 500) e);
  }

  leaves_by_answer : (calls : List Call) (now : ℕ) (datagram : List ℕ) (ok : Bool) → is_ok (answer_to_next now (after_calls does calls it)) ≡ ok
      → (if ok then leaving now (after_calls does calls it) else None) ≡ Some datagram → it.hosted.outbox.datagrams ≡ []
      → LeavesRightly does it calls now datagram × ((after_calls does calls it).begun + 2000 ≤ now)
  leaves_by_answer calls now datagram false e left empty = cc
  leaves_by_answer calls now datagram true e left empty =
      let accepted = next_accepted now (after_calls does calls it) e
      in (leaves_of calls now datagram (is_fresh now (after_calls does calls it)) refl accepted.2 left (waits calls empty), accepted.1)

  pub leaves_rightly : (calls : List Call) (now : ℕ) (datagram : List ℕ) → it.hosted.outbox.datagrams ≡ [] → leaves_by (Takes now) (after_calls does calls it) ≡ Some datagram
      → LeavesRightly does it calls now datagram × ((after_calls does calls it).begun + 2000 ≤ now)
  leaves_rightly calls now datagram empty left = leaves_by_answer calls now datagram (is_ok (answer_to_next now (after_calls does calls it))) refl left empty
