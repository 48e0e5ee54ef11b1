-- What counts of the calls of a loop is what came up to the last `done`.
use Rattle.std.proofs.Common.{◌≡◌, ℕ, Bool, true, false, List, [], ◌∷◌, ◌++◌, Ok, Result, refl, sym, ap, ◌∙◌, subst, append_assoc, ◌||◌}
use Rattle.std.specs.Prelude.{is_ok, if◌then◌else◌}
use Rattle.std.proofs.lemmas.List.{append-nil}
use Rattle.rasta_core.specs.Outbox.{spellings}
use Rattle.object_host.specs.Behaviour.{Behaviour}
use Rattle.object_host.specs.Host.{HostState}
use Rattle.object_host.specs.Step.{host_step}
use Rattle.object_host.specs.declared.input.Input.{Input}
use Rattle.embedded_host.specs.Embedded.{EmbeddedState}
use Rattle.embedded_host.specs.Calls.{Call, Done, after_call, after_calls, answer_to, input_by}
use Rattle.embedded_host.specs.Inputs.{host_after, inputs_by}
use Rattle.embedded_host.specs.Leaving.{IsHandedOutBy, IsIn, LeavesRightly}
use Rattle.embedded_host.specs.Orders.{followed_after, followed_by, has_done, is_done, up_to_done}
use Rattle.embedded_host.specs.declared.refusal.Refusal.{Refusal}
use Rattle.embedded_host.proofs.Followed.{has_append}
use Rattle.embedded_host.proofs.Runs.{host_is_what_came, inputs_append, one_host}

-- ---- lists of calls

or_true : (b : Bool) → (b || true) ≡ true
or_true true = refl
or_true false = refl

or_false : (b : Bool) → (b || false) ≡ b
or_false true = refl
or_false false = refl

-- where no `done` is nothing counts
none_counts : (calls : List Call) → has_done calls ≡ false → up_to_done calls ≡ []
none_counts [] none = refl
none_counts (first ∷ others) none = ap (λ (b : Bool). if b then first ∷ up_to_done others else []) none

-- a call with a `done` behind it counts
one_counts : (first : Call) (others : List Call) → has_done others ≡ true → up_to_done (first ∷ others) ≡ first ∷ up_to_done others
one_counts first others done = ap (λ (b : Bool). if b then first ∷ up_to_done others else []) (ap (λ (b : Bool). is_done first || b) done ∙ or_true (is_done first))

-- and so do all of them
all_count : (front more : List Call) → has_done more ≡ true → up_to_done (front ++ more) ≡ front ++ up_to_done more
all_count [] more done = refl
all_count (first ∷ front) more done =
    one_counts first (front ++ more) (has_append front more ∙ ap (λ (b : Bool). has_done front || b) done ∙ or_true (has_done front))
    ∙ ap (λ (l : List Call). first ∷ l) (all_count front more done)

-- and where none follows nothing more counts
none_more : (calls more : List Call) → has_done more ≡ false → up_to_done (calls ++ more) ≡ up_to_done calls
none_more [] more none = none_counts more none
none_more (first ∷ calls) more none =
    ap (λ (b : Bool). if b then first ∷ up_to_done (calls ++ more) else []) (ap (λ (b : Bool). is_done first || b) (has_append calls more ∙ ap (λ (b : Bool). has_done calls || b) none ∙ or_false (has_done calls)))
    ∙ ap (λ (l : List Call). if is_done first || has_done calls then first ∷ l else []) (none_more calls more none)

is_there : (calls : List Call) → IsIn Done calls → has_done calls ≡ true
is_there calls is =
    ap has_done is.all_are ∙ has_append is.before (Done ∷ is.after) ∙ or_true (has_done is.before)

-- ---- what is followed

module _ {Object : Type 0} (does : Behaviour Object) where
  -- what came by the calls that count, of a controller that was so
  abbrev counted : List Call → EmbeddedState Object → Object
  counted calls it = (host_after does (inputs_by does (up_to_done calls) it) it.hosted.host).object

  nothing_came : (it : EmbeddedState Object) → counted [] it ≡ it.hosted.host.object
  unfolding inputs_by host_after
  nothing_came it = refl

  -- one call, and those after it
  after_first : (first : Call) (more : List Call) (it : EmbeddedState Object)
      → (host_after does (inputs_by does (first ∷ more) it) it.hosted.host).object ≡ (host_after does (inputs_by does more (after_call does first it)) (after_call does first it).hosted.host).object
  unfolding inputs_by
  after_first first more it = ap (λ (host : HostState Object). host.object) (sym (one_host does (is_ok (answer_to first it)) first (inputs_by does more (after_call does first it)) it))

  followed_where : Bool → Object → Object → Object
  followed_where true present followed = present
  followed_where false present followed = followed

  -- what is followed is what came by the calls that count, or what was followed where none does
  follows : (calls : List Call) (it : EmbeddedState Object) (followed : Object) → followed_after does calls it followed ≡ followed_by (has_done calls) (counted calls it) followed
  unfolding followed_after
  follows [] it followed = refl
  follows (first ∷ others) it followed = follows others (after_call does first it) (followed_by (is_done first) (after_call does first it).hosted.host.object followed) ∙ by_done (has_done others) refl (is_done first) refl where
    new : EmbeddedState Object
    new = after_call does first it

    by_done : (later : Bool) → has_done others ≡ later → (now : Bool) → is_done first ≡ now
        → followed_by (has_done others) (counted others new) (followed_by (is_done first) new.hosted.host.object followed) ≡ followed_by (has_done (first ∷ others)) (counted (first ∷ others) it) followed
    by_done true later now is =
        ap (λ (b : Bool). followed_by b (counted others new) (followed_by (is_done first) new.hosted.host.object followed)) later
        ∙ sym (after_first first (up_to_done others) it)
        ∙ ap (λ (l : List Call). (host_after does (inputs_by does l it) it.hosted.host).object) (sym (one_counts first others later))
        ∙ ap (λ (b : Bool). followed_by b (counted (first ∷ others) it) followed) (sym (ap (λ (b : Bool). is_done first || b) later ∙ or_true (is_done first)))
    by_done false later true is =
        ap (λ (b : Bool). followed_by b (counted others new) (followed_by (is_done first) new.hosted.host.object followed)) later
        ∙ ap (λ (b : Bool). followed_by b new.hosted.host.object followed) is
        ∙ sym (ap (λ (l : List Call). (host_after does (inputs_by does l new) new.hosted.host).object) (none_counts others later) ∙ nothing_came new)
        ∙ sym (after_first first (up_to_done others) it)
        ∙ ap (λ (l : List Call). (host_after does (inputs_by does l it) it.hosted.host).object) (sym (ap (λ (b : Bool). if b || has_done others then first ∷ up_to_done others else []) is))
        ∙ ap (λ (b : Bool). followed_by b (counted (first ∷ others) it) followed) (sym (ap (λ (b : Bool). b || has_done others) is))
    by_done false later false is =
        ap (λ (b : Bool). followed_by b (counted others new) (followed_by (is_done first) new.hosted.host.object followed)) later
        ∙ ap (λ (b : Bool). followed_by b new.hosted.host.object followed) is
        ∙ ap (λ (b : Bool). followed_by b (counted (first ∷ others) it) followed) (sym (ap (λ (b : Bool). b || has_done others) is ∙ later))

  -- where the equipment follows the order of the start at first
  pub follows_what_counts : (calls : List Call) (it : EmbeddedState Object) → followed_after does calls it it.hosted.host.object ≡ (host_after does (inputs_by does (up_to_done calls) it) it.hosted.host).object
  follows_what_counts calls it = follows calls it it.hosted.host.object ∙ by_done (has_done calls) refl where
    by_done : (done : Bool) → has_done calls ≡ done → followed_by (has_done calls) (counted calls it) it.hosted.host.object ≡ counted calls it
    by_done true done = ap (λ (b : Bool). followed_by b (counted calls it) it.hosted.host.object) done
    by_done false none =
        ap (λ (b : Bool). followed_by b (counted calls it) it.hosted.host.object) none
        ∙ sym (ap (λ (l : List Call). (host_after does (inputs_by does l it) it.hosted.host).object) (none_counts calls none) ∙ nothing_came it)

-- ---- what leaves

module _ {Object : Type 0} (does : Behaviour Object) (it : EmbeddedState Object) where
  brings : (step : Call) (state : EmbeddedState Object) (input : ℕ × Input) → answer_to step state ≡ Ok tt → input_by step ≡ input ∷ [] → inputs_by does (step ∷ []) state ≡ input ∷ []
  unfolding inputs_by
  brings step state input accepted brought =
      append-nil (if is_ok (answer_to step state) then input_by step else [])
      ∙ ap (λ (answer : Result (Unit {0}) Refusal). if is_ok answer then input_by step else []) accepted
      ∙ brought

  leaving_counted : (calls : List Call) (now : ℕ) (datagram : List ℕ) → LeavesRightly does it calls now datagram → IsHandedOutBy does (inputs_by does (up_to_done calls) it) it.hosted.host now datagram
  leaving_counted calls now datagram is =
      let front : List Call = is.earlier ++ is.step ∷ [] in
      let calls_are : calls ≡ front ++ is.later = is.calls_are ∙ sym (append_assoc is.earlier (is.step ∷ []) is.later) in
      let count : up_to_done calls ≡ front ++ up_to_done is.later = ap up_to_done calls_are ∙ all_count front is.later (is_there is.later is.in_force) in
      let more : List (ℕ × Input) = inputs_by does (up_to_done is.later) (after_calls does front it) in
      let came : inputs_by does front it ≡ inputs_by does is.earlier it ++ (is.since, is.input) ∷ [] =
      inputs_append does is.earlier (is.step ∷ []) it
      ∙ ap (λ (l : List (ℕ × Input)). inputs_by does is.earlier it ++ l) (brings is.step (after_calls does is.earlier it) (is.since, is.input) is.accepted is.brought) in record {
        earlier = inputs_by does is.earlier it;
        since = is.since;
        input = is.input;
        later = more;
        inputs_are = ap (λ (l : List Call). inputs_by does l it) count
            ∙ inputs_append does front (up_to_done is.later) it
            ∙ ap (λ (l : List (ℕ × Input)). l ++ more) came
            ∙ append_assoc (inputs_by does is.earlier it) ((is.since, is.input) ∷ []) more;
        handed = subst (λ (host : HostState Object). IsIn datagram (spellings host.link.identity.key (host_step does is.since is.input host).pdus)) (host_is_what_came does is.earlier it) is.handed;
        fresh = is.fresh;
      }

  -- more inputs take nothing away
  still_handed : (inputs more : List (ℕ × Input)) (host : HostState Object) (now : ℕ) (datagram : List ℕ) → IsHandedOutBy does inputs host now datagram → IsHandedOutBy does (inputs ++ more) host now datagram
  still_handed inputs more host now datagram is = record {
    earlier = is.earlier;
    since = is.since;
    input = is.input;
    later = is.later ++ more;
    inputs_are = ap (λ (l : List (ℕ × Input)). l ++ more) is.inputs_are ∙ append_assoc is.earlier ((is.since, is.input) ∷ is.later) more;
    handed = is.handed;
    fresh = is.fresh;
  }

  -- the calls that count are a beginning of all, and what came by them a beginning of all that came
  beginning : (calls : List Call) → (rest : List Call) × (calls ≡ up_to_done calls ++ rest)
  beginning [] = ([], refl)
  beginning (first ∷ others) = by_done (has_done (first ∷ others)) refl (beginning others) where
    by_done : (done : Bool) → has_done (first ∷ others) ≡ done → (rest : List Call) × (others ≡ up_to_done others ++ rest) → (rest : List Call) × (first ∷ others ≡ up_to_done (first ∷ others) ++ rest)
    by_done true done rest = (rest.0, ap (λ (l : List Call). first ∷ l) rest.1 ∙ ap (λ (b : Bool). (if b then first ∷ up_to_done others else []) ++ rest.0) (sym done))
    by_done false none rest = (first ∷ others, ap (λ (l : List Call). l ++ first ∷ others) (sym (none_counts (first ∷ others) none)))

  abbrev Handed : List Call → ℕ → List ℕ → Type 0
  Handed calls now datagram = IsHandedOutBy does (inputs_by does calls it) it.hosted.host now datagram

  longer : (front rest : List Call) (now : ℕ) (datagram : List ℕ) → Handed front now datagram → Handed (front ++ rest) now datagram
  longer front rest now datagram is =
      subst (λ (inputs : List (ℕ × Input)). IsHandedOutBy does inputs it.hosted.host now datagram) (sym (inputs_append does front rest it))
      (still_handed (inputs_by does front it) (inputs_by does rest (after_calls does front it)) it.hosted.host now datagram is)

  more_came : (calls later : List Call) (now : ℕ) (datagram : List ℕ) → Handed (up_to_done calls) now datagram → Handed (up_to_done (calls ++ later)) now datagram
  more_came calls later now datagram is = by_done (has_done later) refl where
    all_came : Handed calls now datagram
    all_came = let rest = beginning calls in subst (λ (l : List Call). Handed l now datagram) (sym rest.1) (longer (up_to_done calls) rest.0 now datagram is)

    by_done : (done : Bool) → has_done later ≡ done → Handed (up_to_done (calls ++ later)) now datagram
    by_done true done = subst (λ (l : List Call). Handed l now datagram) (sym (all_count calls later done)) (longer calls (up_to_done later) now datagram all_came)
    by_done false none = subst (λ (l : List Call). Handed l now datagram) (sym (none_more calls later none)) is

  pub leaving_counts : (calls later : List Call) (now : ℕ) (datagram : List ℕ) → LeavesRightly does it calls now datagram → IsHandedOutBy does (inputs_by does (up_to_done (calls ++ later)) it) it.hosted.host now datagram
  leaving_counts calls later now datagram is = more_came calls later now datagram (leaving_counted calls now datagram is)
