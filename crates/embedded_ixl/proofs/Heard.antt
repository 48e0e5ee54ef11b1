-- What is heard has waited briefly, and not in the first time.
use Rattle.std.proofs.Common.{◌≡◌, ℕ, ◌+◌, ◌≤◌, Bool, true, false, List, [], ◌∷◌, ◌++◌, Option, Some, None, Ok, refl, sym, ap, ◌∙◌, subst, arith, append_assoc}
use Rattle.std.specs.Prelude.{is_ok, if◌then◌else◌}
use Rattle.std.proofs.lemmas.Bool.{leb-true}
use Rattle.embedded_ixl.specs.Embedded.{EmbeddedIxlState, is_recent}
use Rattle.embedded_ixl.specs.Calls.{Call, Hears, Ticks, Obeys, FindsEmpty, Takes, after_accepted, after_calls, answer_to}
use Rattle.embedded_ixl.specs.Leaving.{WaitedBriefly}
use Rattle.embedded_ixl.proofs.Answered.{bytes_accepted, is_accepted, next_accepted, reading_accepted}
use Rattle.embedded_ixl.proofs.Runs.{always}

some_is : (one other : ℕ) → Some one ≡ Some other → one ≡ other
some_is one other e = cc

module _ (it : EmbeddedIxlState) where
  -- the reading that is kept was brought by one of these calls, and no later reading is before it
  pub record WasEmpty (calls : List Call) (state : EmbeddedIxlState) (before : ℕ) : Type 0 where
    pub earlier : List Call
    pub later : List Call
    pub calls_are : calls ≡ earlier ++ FindsEmpty before ∷ later
    pub accepted : answer_to (FindsEmpty before) (after_calls earlier it) ≡ Ok tt
    pub not_after : before ≤ state.latest

  abbrev pub Keeps : List Call → EmbeddedIxlState → Type 0
  Keeps calls state = (before : ℕ) → state.empty ≡ Some before → WasEmpty calls state before

  goes_on : (calls : List Call) (call : Call) (new : EmbeddedIxlState) → (after_calls calls it).latest ≤ new.latest → new.empty ≡ (after_calls calls it).empty
      → Keeps calls (after_calls calls it) → Keeps (calls ++ call ∷ []) new
  goes_on calls call new rises same old before is =
      let was = old before (sym same ∙ is)
      in record {
        earlier = was.earlier;
        later = was.later ++ call ∷ [];
        calls_are = ap (λ (all : List Call). all ++ call ∷ []) was.calls_are ∙ append_assoc was.earlier (FindsEmpty before ∷ was.later) (call ∷ []);
        accepted = was.accepted;
        not_after = let first : before ≤ (after_calls calls it).latest = was.not_after in omega arith;
      }

  found : (calls : List Call) (now : ℕ) → is_ok (answer_to (FindsEmpty now) (after_calls calls it)) ≡ true → (before : ℕ) → now ≡ before
      → (new : EmbeddedIxlState) → new.latest ≡ now → WasEmpty (calls ++ FindsEmpty now ∷ []) new before
  found calls now ok before is new latest = record {
    earlier = calls;
    later = [];
    calls_are = ap (λ (reading : ℕ). calls ++ FindsEmpty reading ∷ []) is;
    accepted = subst (λ (reading : ℕ). answer_to (FindsEmpty reading) (after_calls calls it) ≡ Ok tt) is (is_accepted (answer_to (FindsEmpty now) (after_calls calls it)) ok);
    not_after = omega arith;
  }

  by_call : (calls : List Call) (call : Call) (ok : Bool) → is_ok (answer_to call (after_calls calls it)) ≡ ok → Keeps calls (after_calls calls it)
      → Keeps (calls ++ call ∷ []) (if ok then after_accepted call (after_calls calls it) else after_calls calls it)
  by_call calls call false e old = goes_on calls call _ (omega arith) refl old
  by_call calls (Hears now bytes) true e old = goes_on calls (Hears now bytes) _ ((bytes_accepted now (after_calls calls it) e).0) refl old
  by_call calls (Ticks now) true e old = goes_on calls (Ticks now) _ (reading_accepted now (after_calls calls it) e) refl old
  by_call calls (Obeys now command) true e old = goes_on calls (Obeys now command) _ (reading_accepted now (after_calls calls it) e) refl old
  by_call calls (FindsEmpty now) true e old = λ before is. found calls now e before (some_is now before is) _ refl
  by_call calls (Takes now) true e old = goes_on calls (Takes now) _ ((next_accepted now (after_calls calls it) e).0) refl old

  pub keeps : (calls : List Call) → it.empty ≡ None → Keeps calls (after_calls calls it)
  unfolding after_calls
  keeps calls none = always it Keeps (λ before call old. by_call before call (is_ok (answer_to call (after_calls before it))) refl old) [] calls
      (λ before is. let no : None ≡ Some before = sym none ∙ is in cc)

  briefly : (calls : List Call) (now : ℕ) (kept : Option ℕ) → (after_calls calls it).empty ≡ kept → (after_calls calls it).latest ≤ now → is_recent now kept ≡ true → Keeps calls (after_calls calls it)
      → WaitedBriefly it calls now
  briefly calls now None is rises recent old = cc
  briefly calls now (Some before) is rises recent old =
      let was = old before is
      in record {
        earlier = was.earlier;
        before = before;
        later = was.later;
        calls_are = was.calls_are;
        accepted = was.accepted;
        not_after = let first : before ≤ (after_calls calls it).latest = was.not_after in omega arith;
        brief = leb-true now (before + 400) recent;
      }

  pub waited_briefly : (calls : List Call) (now : ℕ) (bytes : List ℕ) → it.empty ≡ None → is_ok (answer_to (Hears now bytes) (after_calls calls it)) ≡ true
      → WaitedBriefly it calls now × ((after_calls calls it).begun + 2000 ≤ now)
  waited_briefly calls now bytes none ok =
      let accepted = bytes_accepted now (after_calls calls it) ok
      in (briefly calls now (after_calls calls it).empty refl accepted.0 accepted.2 (keeps calls none), accepted.1)

  -- ---- when it began

  begun_stays : (call : Call) (ok : Bool) (state : EmbeddedIxlState) → (if ok then after_accepted call state else state).begun ≡ state.begun
  begun_stays call false state = refl
  begun_stays (Hears now bytes) true state = refl
  begun_stays (Ticks now) true state = refl
  begun_stays (Obeys now command) true state = refl
  begun_stays (FindsEmpty now) true state = refl
  begun_stays (Takes now) true state = refl

  pub begun_once : (calls : List Call) → (after_calls calls it).begun ≡ it.begun
  unfolding after_calls
  begun_once calls = always it (λ before state. state.begun ≡ it.begun)
      (λ before call old. begun_stays call (is_ok (answer_to call (after_calls before it))) (after_calls before it) ∙ old) [] calls refl
