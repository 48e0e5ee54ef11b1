-- Those that wait, as they leave one after another.
use Rattle.std.proofs.Common.{◌≡◌, ◌<◌, ◌↔◌, Bool, true, false, cond, ℕ, List, [], ◌∷◌, ◌++◌, length, map, Option, Some, None, slice_index_or, IsSome, IfSome, IfNone, refl, sym, ap, ◌∙◌, append-nil, append_assoc, arith}
use Rattle.std.specs.Option.{option_to_list}
use Rattle.std.proofs.lemmas.List.{map-append}
use Rattle.node_drive.specs.Calls.{Calls, Sends, Told}
use Rattle.node_drive.specs.Inside.{waiting_of_code}
use Rattle.node_drive.specs.Rounds.{sent}
use Rattle.node_drive.specs.Waiting.{Waiting, is_fresh, leaving, unless_stale, waiting_on, waits_on}
use Rattle.node_drive.specs.declared.course.Delayed.{Delayed}
use Rattle.node_drive.proofs.Calls.{calls_none, calls_same, calls_then}

pub sent-append : (xs ys : List Waiting) → sent (xs ++ ys) ≡ sent xs ++ sent ys
sent-append xs ys = map-append (λ (one : Waiting). Sends one.datagram.0 one.datagram.1) xs ys

-- one that waited too long is dropped, and any other leaves
pub stale_is : (now : ℕ) (one : Waiting) → is_fresh now one ≡ false → unless_stale now one ≡ []
stale_is now one e = ap (λ (v : Bool). cond v (one ∷ []) []) e

pub fresh_is : (now : ℕ) (one : Waiting) → is_fresh now one ≡ true → unless_stale now one ≡ one ∷ []
fresh_is now one e = ap (λ (v : Bool). cond v (one ∷ []) []) e

-- where the first of them waits on none leaves, and all are left
pub held_up : (now in_force : ℕ) (one : Waiting) (others : List Waiting) → waits_on now in_force one ≡ true
    → (leaving now in_force (one ∷ others) ≡ []) × (waiting_on now in_force (one ∷ others) ≡ one ∷ others)
held_up now in_force one others e = (
  ap (λ (v : Bool). cond v [] (unless_stale now one ++ leaving now in_force others)) e,
  ap (λ (v : Bool). cond v (one ∷ others) (waiting_on now in_force others)) e,
)

-- and where it doesn't, the others follow it
goes : (now in_force : ℕ) (one : Waiting) (others : List Waiting) → waits_on now in_force one ≡ false
    → (leaving now in_force (one ∷ others) ≡ unless_stale now one ++ leaving now in_force others) × (waiting_on now in_force (one ∷ others) ≡ waiting_on now in_force others)
goes now in_force one others e = (
  ap (λ (v : Bool). cond v [] (unless_stale now one ++ leaving now in_force others)) e,
  ap (λ (v : Bool). cond v (one ∷ others) (waiting_on now in_force others)) e,
)

-- ---- the first of them, as it is looked at and taken out

module _ (now in_force : ℕ) where
  -- there is none
  pub none_waits : (xs : List Delayed) → length xs ≡ 0
      → (leaving now in_force (map waiting_of_code xs) ≡ []) × (map waiting_of_code xs ≡ waiting_on now in_force (map waiting_of_code xs))
  none_waits [] e = (refl, refl)
  none_waits (x ∷ xs) e = absurd (omega (arith, e))

  -- it waits on
  pub first_waits : (first : Delayed) (xs : List Delayed) → 0 < length xs → first ≡ slice_index_or xs 0 first → waits_on now in_force (waiting_of_code first) ≡ true
      → (leaving now in_force (map waiting_of_code xs) ≡ []) × (map waiting_of_code xs ≡ waiting_on now in_force (map waiting_of_code xs))
  first_waits first [] some is e = absurd (omega (arith, some))
  first_waits first (x ∷ xs) some is e =
      let held = held_up now in_force (waiting_of_code x) (map waiting_of_code xs) (ap (λ (d : Delayed). waits_on now in_force (waiting_of_code d)) (sym is) ∙ e) in
      (held.0, sym held.1)

  -- it is taken out
  pub first_goes : (first : Delayed) (taken : Option Delayed) (xs rest : List Delayed) → first ≡ slice_index_or xs 0 first → xs ≡ option_to_list taken ++ rest → waits_on now in_force (waiting_of_code first) ≡ false
      → IfSome taken (λ one. (xs ≡ one ∷ rest) × (waits_on now in_force (waiting_of_code one) ≡ false))
  first_goes first None xs rest is parts e = tt
  first_goes first (Some one) xs rest is parts e =
      let same : first ≡ one = is ∙ ap (λ (l : List Delayed). slice_index_or l 0 first) parts in
      (parts, ap (λ (d : Delayed). waits_on now in_force (waiting_of_code d)) (sym same) ∙ e)

-- where there is a first, one is taken out
pub some_taken : (P : Type 0) (taken : Option Delayed) (count : ℕ) → (IsSome taken ↔ (0 < count)) → 0 < count → IfNone taken P
some_taken P None count iff some =
    let taken = iff.1 some in
    cc
some_taken P (Some one) count iff some = tt

-- ---- one after another

-- what left so far, and those that were not looked at yet
pub record Released (now in_force : ℕ) (ta tb : Told) (all left : List Waiting) : Type 0 where
  pub done : List Waiting
  pub leaving_is : done ++ leaving now in_force left ≡ leaving now in_force all
  pub waiting_is : waiting_on now in_force left ≡ waiting_on now in_force all
  pub called : Calls ta tb (sent done)

module _ (now in_force : ℕ) where
  pub release_none : (t : Told) (all : List Waiting) → Released now in_force t t all all
  release_none t all = record { done = []; leaving_is = refl; waiting_is = refl; called = calls_none t }

  -- one more
  pub release_more : {ta tb tc : Told} {all left rest : List Waiting} (one : Waiting) → Released now in_force ta tb all left → left ≡ one ∷ rest → waits_on now in_force one ≡ false
      → Calls tb tc (sent (unless_stale now one)) → Released now in_force ta tc all rest
  release_more {ta} {tb} {tc} {all} {left} {rest} one before first free sends =
      let next = goes now in_force one rest free in
      let leaves : List Waiting = unless_stale now one in
      record {
        done = before.done ++ leaves;
        leaving_is = append_assoc before.done leaves (leaving now in_force rest)
            ∙ ap (λ l. before.done ++ l) (sym next.0)
            ∙ ap (λ l. before.done ++ leaving now in_force l) (sym first)
            ∙ before.leaving_is;
        waiting_is = sym next.1 ∙ ap (waiting_on now in_force) (sym first) ∙ before.waiting_is;
        called = calls_same (sym (sent-append before.done leaves)) (calls_then before.called sends);
      }

  -- no more leave
  pub release_all : {ta tb : Told} {all left : List Waiting} → Released now in_force ta tb all left → leaving now in_force left ≡ [] → Calls ta tb (sent (leaving now in_force all))
  release_all {ta} {tb} {all} {left} before none =
      calls_same (ap sent (sym (append-nil before.done) ∙ ap (λ l. before.done ++ l) (sym none) ∙ before.leaving_is)) before.called
