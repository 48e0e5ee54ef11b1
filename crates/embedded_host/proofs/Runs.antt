-- Calls one after another.
use Rattle.std.proofs.Common.{◌≡◌, ℕ, ◌≤◌, Bool, true, false, List, [], ◌∷◌, ◌++◌, refl, sym, ap, ◌∙◌, subst, arith, append_assoc}
use Rattle.std.specs.Prelude.{is_ok, if◌then◌else◌}
use Rattle.std.proofs.lemmas.List.{append-nil}
use Rattle.object_host.specs.Behaviour.{Behaviour}
use Rattle.object_host.specs.declared.input.Input.{Input}
use Rattle.embedded_host.specs.Embedded.{EmbeddedState}
use Rattle.embedded_host.specs.Calls.{Call, Hears, Ticks, Senses, FindsEmpty, AsksOrder, Done, Takes, after_accepted, after_call, after_calls, answer_to, input_by}
use Rattle.embedded_host.specs.Inputs.{Rise, host_after, inputs_by}
use Rattle.embedded_host.proofs.Answered.{bytes_accepted, next_accepted, reading_accepted}

module _ {Object : Type 0} (does : Behaviour Object) where
  -- ---- a list of calls and more

  pub after_append : (calls more : List Call) (it : EmbeddedState Object) → after_calls does (calls ++ more) it ≡ after_calls does more (after_calls does calls it)
  unfolding after_calls
  after_append [] more it = refl
  after_append (call ∷ calls) more it = after_append calls more (after_call does call it)

  pub inputs_append : (calls more : List Call) (it : EmbeddedState Object) → inputs_by does (calls ++ more) it ≡ inputs_by does calls it ++ inputs_by does more (after_calls does calls it)
  unfolding after_calls inputs_by
  inputs_append [] more it = refl
  inputs_append (call ∷ calls) more it =
      let brought : List (ℕ × Input) = if is_ok (answer_to call it) then input_by call else []
      in ap (λ (inputs : List (ℕ × Input)). brought ++ inputs) (inputs_append calls more (after_call does call it))
      ∙ sym (append_assoc brought (inputs_by does calls (after_call does call it)) (inputs_by does more (after_calls does calls (after_call does call it))))

  pub after_one : (calls : List Call) (call : Call) (it : EmbeddedState Object) → after_calls does (calls ++ call ∷ []) it ≡ after_call does call (after_calls does calls it)
  unfolding after_calls
  after_one calls call it = after_append calls (call ∷ []) it

  -- what is so at first and stays so by each call is so after all of them
  pub always : (it : EmbeddedState Object) (P : List Call → EmbeddedState Object → Type 0)
      → ((calls : List Call) (call : Call) → P calls (after_calls does calls it) → P (calls ++ call ∷ []) (after_call does call (after_calls does calls it)))
      → (calls more : List Call) → P calls (after_calls does calls it) → P (calls ++ more) (after_calls does (calls ++ more) it)
  always it P by_call calls [] holds = subst (λ (all : List Call). P all (after_calls does all it)) (sym (append-nil calls)) holds
  always it P by_call calls (call ∷ more) holds =
      subst (λ (all : List Call). P all (after_calls does all it)) (append_assoc calls (call ∷ []) more)
      (always it P by_call (calls ++ call ∷ []) more
      (subst (λ (now : EmbeddedState Object). P (calls ++ call ∷ []) now) (sym (after_one calls call it)) (by_call calls call holds)))

  -- ---- the controller is what came of it

  pub one_host : (accepted : Bool) (call : Call) (others : List (ℕ × Input)) (it : EmbeddedState Object)
      → host_after does others (if accepted then after_accepted does call it else it).hosted.host ≡ host_after does ((if accepted then input_by call else []) ++ others) it.hosted.host
  unfolding host_after
  one_host false call others it = refl
  one_host true (Hears now bytes) others it = refl
  one_host true (Ticks now) others it = refl
  one_host true (Senses now sense) others it = refl
  one_host true (FindsEmpty before) others it = refl
  one_host true (AsksOrder now) others it = refl
  one_host true Done others it = refl
  one_host true (Takes now) others it = refl

  pub host_is_what_came : (calls : List Call) (it : EmbeddedState Object) → (after_calls does calls it).hosted.host ≡ host_after does (inputs_by does calls it) it.hosted.host
  unfolding after_calls inputs_by host_after
  host_is_what_came [] it = refl
  host_is_what_came (call ∷ calls) it =
      host_is_what_came calls (after_call does call it)
      ∙ one_host (is_ok (answer_to call it)) call (inputs_by does calls (after_call does call it)) it

  -- ---- readings don't fall

  rise_from : (earlier from : ℕ) (inputs : List (ℕ × Input)) → earlier ≤ from → Rise from inputs → Rise earlier inputs
  rise_from earlier from [] before rises = tt
  rise_from earlier from (one ∷ others) before rises = (omega arith, rises.1)

  -- what a call brings, and the calls after it
  one_rises : (call : Call) (accepted : Bool) (others : List (ℕ × Input)) (it : EmbeddedState Object) → is_ok (answer_to call it) ≡ accepted
      → Rise (if accepted then after_accepted does call it else it).latest others → Rise it.latest ((if accepted then input_by call else []) ++ others)
  one_rises call false others it e rises = rises
  one_rises (Hears now bytes) true others it e rises = ((bytes_accepted now it e).0, rises)
  one_rises (Ticks now) true others it e rises = (reading_accepted now it e, rises)
  one_rises (Senses now sense) true others it e rises = (reading_accepted now it e, rises)
  one_rises (FindsEmpty before) true others it e rises = rise_from it.latest before others (reading_accepted before it e) rises
  one_rises (AsksOrder now) true others it e rises = rise_from it.latest now others (reading_accepted now it e) rises
  one_rises Done true others it e rises = rises
  one_rises (Takes now) true others it e rises = rise_from it.latest now others ((next_accepted now it e).0) rises

  pub readings_rise : (calls : List Call) (it : EmbeddedState Object) → Rise it.latest (inputs_by does calls it)
  unfolding inputs_by
  readings_rise [] it = tt
  readings_rise (call ∷ calls) it = one_rises call (is_ok (answer_to call it)) (inputs_by does calls (after_call does call it)) it refl (readings_rise calls (after_call does call it))
