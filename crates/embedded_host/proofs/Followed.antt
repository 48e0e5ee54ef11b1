-- The equipment follows a controller by a beginning of what came.
use Rattle.std.proofs.Common.{◌≡◌, Bool, true, false, List, [], ◌∷◌, ◌++◌, refl, sym, ap, ◌∙◌, subst, append_assoc, ◌||◌}
use Rattle.std.proofs.lemmas.List.{append-nil}
use Rattle.object_host.specs.Behaviour.{Behaviour}
use Rattle.object_host.specs.Host.{HostState}
use Rattle.embedded_host.specs.Embedded.{EmbeddedState}
use Rattle.embedded_host.specs.Calls.{Call, after_call, after_calls}
use Rattle.embedded_host.specs.Inputs.{host_after, inputs_by}
use Rattle.embedded_host.specs.Orders.{FollowsABeginning, followed_after, followed_by, has_done, is_done}
use Rattle.embedded_host.proofs.Runs.{after_one, always, host_is_what_came}

or_assoc : (a b c : Bool) → (a || (b || c)) ≡ ((a || b) || c)
or_assoc true b c = refl
or_assoc false b c = refl

pub has_append : (calls more : List Call) → has_done (calls ++ more) ≡ (has_done calls || has_done more)
has_append [] more = refl
has_append (first ∷ others) more = ap (λ (b : Bool). is_done first || b) (has_append others more) ∙ or_assoc (is_done first) (has_done others) (has_done more)

none_more : (calls : List Call) (call : Call) → has_done calls ≡ false → is_done call ≡ false → has_done (calls ++ call ∷ []) ≡ false
none_more calls call none not = has_append calls (call ∷ []) ∙ ap (λ (b : Bool). b || (is_done call || false)) none ∙ ap (λ (b : Bool). b || false) not

module _ {Object : Type 0} (does : Behaviour Object) (it : EmbeddedState Object) where
  followed_one : (calls : List Call) (call : Call) (from : EmbeddedState Object) (followed : Object) → followed_after does (calls ++ call ∷ []) from followed
      ≡ followed_by (is_done call) (after_call does call (after_calls does calls from)).hosted.host.object (followed_after does calls from followed)
  unfolding followed_after after_calls
  followed_one [] call from followed = refl
  followed_one (first ∷ others) call from followed = followed_one others call (after_call does first from) (followed_by (is_done first) (after_call does first from).hosted.host.object followed)

  goes_on : (calls : List Call) (call : Call) (done : Bool) → is_done call ≡ done → FollowsABeginning does it calls (followed_after does calls it it.hosted.host.object)
      → FollowsABeginning does it (calls ++ call ∷ []) (followed_by done (after_call does call (after_calls does calls it)).hosted.host.object (followed_after does calls it it.hosted.host.object))
  goes_on calls call true is old = record {
    earlier = calls ++ call ∷ [];
    later = [];
    calls_are = sym (append-nil (calls ++ call ∷ []));
    followed_is = ap (λ (state : EmbeddedState Object). state.hosted.host.object) (sym (after_one does calls call it))
        ∙ ap (λ (host : HostState Object). host.object) (host_is_what_came does (calls ++ call ∷ []) it);
    none_since = refl;
  }
  goes_on calls call false is old = record {
    earlier = old.earlier;
    later = old.later ++ call ∷ [];
    calls_are = ap (λ (all : List Call). all ++ call ∷ []) old.calls_are ∙ append_assoc old.earlier old.later (call ∷ []);
    followed_is = old.followed_is;
    none_since = none_more old.later call old.none_since is;
  }

  pub follows_a_beginning : (calls : List Call) → FollowsABeginning does it calls (followed_after does calls it it.hosted.host.object)
  unfolding followed_after inputs_by host_after after_calls
  follows_a_beginning calls =
      always does it (λ before state. FollowsABeginning does it before (followed_after does before it it.hosted.host.object))
      (λ before call old. subst (λ (followed : Object). FollowsABeginning does it (before ++ call ∷ []) followed) (sym (followed_one before call it it.hosted.host.object)) (goes_on before call (is_done call) refl old))
      [] calls (record { earlier = []; later = []; calls_are = refl; followed_is = refl; none_since = refl })
