-- One of a list is changed, and the calls at one node are noted.
use Rattle.std.proofs.Common.{◌≡◌, ℕ, zero, suc, Bool, true, false, if◌then◌else◌, List, [], ◌∷◌, ◌++◌, map, refl, ap, ◌∙◌}
use Rattle.std.specs.Prelude.{Option, Some, None, slice_get}
use Rattle.std.proofs.lemmas.Bool.{true≢false, false≢true}
use Rattle.std.proofs.lemmas.List.{append-nil}
use Rattle.ixl_spec.specs.ixl_client.ClientSoFar.{LinkCall}
use Rattle.ixl_spec.specs.StepSoFar.{Node}
use Rattle.ixl_spec.specs.State.{changed}
use Rattle.simulator_machine.specs.Lists.{changed_at, is_same}
use Rattle.simulator_move_laws.specs.Calls.{calls_at, is_node}

pub same_self : (n : ℕ) → is_same n n ≡ true
same_self zero = refl
same_self (suc n) = same_self n

pub same_is : (a b : ℕ) → is_same a b ≡ true → a ≡ b
same_is zero zero e = refl
same_is zero (suc b) e = absurd (false≢true e)
same_is (suc a) zero e = absurd (false≢true e)
same_is (suc a) (suc b) e = ap suc (same_is a b e)

pub changed_here : {A : Type 0} (change : A → A) (place : ℕ) (list : List A) (one : A) → slice_get list place ≡ Some one → slice_get (changed change place list) place ≡ Some (change one)
changed_here change place [] one is = absurd (none_is is) where
  none_is : None ≡ Some one → ⊥
  none_is e = cc (e)
changed_here {A = A} change zero (first ∷ others) one is = ap with_change is where
  with_change : Option A → Option A
  with_change None = None
  with_change (Some one) = Some (change one)
changed_here change (suc place) (first ∷ others) one is = changed_here change place others one is

pub at_here : {A : Type 0} (place : ℕ) (new : A) (old : ℕ → A) → changed_at place new old place ≡ new
at_here place new old = rw (same_self place) refl

pub at_other : {A : Type 0} (place : ℕ) (new : A) (old : ℕ → A) (n : ℕ) → is_same n place ≡ false → changed_at place new old n ≡ old n
at_other place new old n other = rw other refl

pub changed_nowhere : {A : Type 0} (change : A → A) (place : ℕ) (list : List A) → slice_get list place ≡ None → changed change place list ≡ list
changed_nowhere change place [] is = refl
changed_nowhere change zero (first ∷ others) is = absurd (cc (is))
changed_nowhere change (suc place) (first ∷ others) is = ap (λ rest. first ∷ rest) (changed_nowhere change place others is)

pub changed_elsewhere : {A : Type 0} (change : A → A) (place : ℕ) (list : List A) (n : ℕ) → is_same n place ≡ false → slice_get (changed change place list) n ≡ slice_get list n
changed_elsewhere change place [] n other = refl
changed_elsewhere change zero (first ∷ others) zero other = absurd (true≢false other)
changed_elsewhere change zero (first ∷ others) (suc n) other = refl
changed_elsewhere change (suc place) (first ∷ others) zero other = refl
changed_elsewhere change (suc place) (first ∷ others) (suc n) other = changed_elsewhere change place others n other

pub calls_joined : (node : Node) (calls others : List (Node × LinkCall)) → calls_at node (calls ++ others) ≡ calls_at node calls ++ calls_at node others
unfolding calls_at
calls_joined node [] others = refl
calls_joined node (first ∷ later) others = cases (is_node node first.0) (calls_joined node later others) where
  cases : (b : Bool) → calls_at node (later ++ others) ≡ calls_at node later ++ calls_at node others → (if b then first.1 ∷ calls_at node (later ++ others) else calls_at node (later ++ others)) ≡ (if b then first.1 ∷ calls_at node later else calls_at node later) ++ calls_at node others
  cases true more = ap (λ rest. first.1 ∷ rest) more
  cases false more = more

pub calls_here : (node other : Node) (calls : List LinkCall) → is_node node other ≡ true → calls_at node (map (λ call. (other, call)) calls) ≡ calls
unfolding calls_at
calls_here node other [] same = refl
calls_here node other (first ∷ later) same = rw same (ap (λ rest. first ∷ rest) (calls_here node other later same))

pub calls_elsewhere : (node other : Node) (calls : List LinkCall) → is_node node other ≡ false → calls_at node (map (λ call. (other, call)) calls) ≡ []
unfolding calls_at
calls_elsewhere node other [] same = refl
calls_elsewhere node other (first ∷ later) same = rw same (calls_elsewhere node other later same)

pub noted_here : (node other : Node) (calls : List (Node × LinkCall)) (more : List LinkCall) → is_node node other ≡ true → calls_at node (calls ++ map (λ call. (other, call)) more) ≡ calls_at node calls ++ more
noted_here node other calls more same = calls_joined node calls (map (λ call. (other, call)) more) ∙ ap (λ rest. calls_at node calls ++ rest) (calls_here node other more same)

pub noted_elsewhere : (node other : Node) (calls : List (Node × LinkCall)) (more : List LinkCall) → is_node node other ≡ false → calls_at node (calls ++ map (λ call. (other, call)) more) ≡ calls_at node calls
noted_elsewhere node other calls more same = calls_joined node calls (map (λ call. (other, call)) more) ∙ ap (λ rest. calls_at node calls ++ rest) (calls_elsewhere node other more same) ∙ append-nil (calls_at node calls)
