-- What keeps datagrams in the order of their sending.
use Rattle.std.proofs.Common.{ℕ, ◌≤◌, ◌<◌, Bool, true, false, List, [], ◌∷◌, ◌++◌, if◌then◌else◌, arith, Option}
use Rattle.std.specs.List.{All}
use Rattle.std.proofs.lemmas.List.Elements.{All-cons, All-head, All-tail, All-append, All-weaker}
use Rattle.rasta_core.specs.Ends.{Sent, handed_out}
use Rattle.rasta_core.specs.Bag.{is_copy, without_oldest}
use Rattle.rasta_core.specs.identity.Role.{Role}
use Rattle.simulator_pair.specs.inside.Order.{AreInOrder}

-- none was sent after the time
pub sent_by : (time : ℕ) (sent : List Sent) → AreInOrder time sent → All (λ s. s.at ≤ time) sent
sent_by time [] in_order = λ k d (below : k < 0). absurd (omega arith)
sent_by time (first ∷ later) in_order = All-cons (λ s. s.at ≤ time) first later in_order.0 (sent_by time later in_order.2)

-- time goes on
pub in_order_later : (time new_time : ℕ) (sent : List Sent) → time ≤ new_time → AreInOrder time sent → AreInOrder new_time sent
in_order_later time new_time [] not_before in_order = tt
in_order_later time new_time (first ∷ later) not_before in_order =
    let first_by : first.at ≤ time = in_order.0
    in (omega arith, in_order.1, in_order_later time new_time later not_before in_order.2)

-- more that were sent at the time or later follow
in_order_append : (time : ℕ) (sent more : List Sent) → AreInOrder time sent → AreInOrder time more → All (λ s. time ≤ s.at) more → AreInOrder time (sent ++ more)
in_order_append time [] more in_order more_in_order none_before = more_in_order
in_order_append time (first ∷ later) more in_order more_in_order none_before =
    let first_by : first.at ≤ time = in_order.0
    in let after_first = All-weaker (λ (s : Sent). time ≤ s.at) (λ (s : Sent). first.at ≤ s.at) (λ (s : Sent) (h : time ≤ s.at). omega arith) more none_before
    in (first_by, All-append (λ s. first.at ≤ s.at) later more in_order.1 after_first, in_order_append time later more in_order.2 more_in_order none_before)

none_before_the_time : (time : ℕ) (who : Role) (connection : Option ℕ) (datagrams : List (List ℕ)) → All (λ s. time ≤ s.at) (handed_out time who connection datagrams)
none_before_the_time time who connection [] = λ k d (below : k < 0). absurd (omega arith)
none_before_the_time time who connection (first ∷ later) = All-cons (λ s. time ≤ s.at) _ (handed_out time who connection later) (omega arith) (none_before_the_time time who connection later)

in_order_handed_out : (time : ℕ) (who : Role) (connection : Option ℕ) (datagrams : List (List ℕ)) → AreInOrder time (handed_out time who connection datagrams)
in_order_handed_out time who connection [] = tt
in_order_handed_out time who connection (first ∷ later) = (omega arith, none_before_the_time time who connection later, in_order_handed_out time who connection later)

-- datagrams are handed out
pub in_order_sending : (time : ℕ) (sent : List Sent) (who : Role) (connection : Option ℕ) (datagrams : List (List ℕ)) → AreInOrder time sent → AreInOrder time (sent ++ handed_out time who connection datagrams)
in_order_sending time sent who connection datagrams in_order =
    in_order_append time sent (handed_out time who connection datagrams) in_order (in_order_handed_out time who connection datagrams) (none_before_the_time time who connection datagrams)

after_without : (time : ℕ) (bytes : List ℕ) (sent : List Sent) → All (λ s. time ≤ s.at) sent → All (λ s. time ≤ s.at) (without_oldest bytes sent)
after_without time bytes [] after = after
after_without time bytes (first ∷ later) after =
    let P = λ (s : Sent). time ≤ s.at
    in elim (is_copy bytes first) as (λ (b : Bool). All P (if b then (record first { is_lost = true }) ∷ later else first ∷ without_oldest bytes later)) [
      | true ↦ All-cons P (record first { is_lost = true }) later (All-head P first later after) (All-tail P first later after)
      | false ↦ All-cons P first (without_oldest bytes later) (All-head P first later after) (after_without time bytes later (All-tail P first later after))
    ]

-- the network loses one
pub in_order_losing : (time : ℕ) (bytes : List ℕ) (sent : List Sent) → AreInOrder time sent → AreInOrder time (without_oldest bytes sent)
in_order_losing time bytes [] in_order = tt
in_order_losing time bytes (first ∷ later) in_order =
    elim (is_copy bytes first) as (λ (b : Bool). AreInOrder time (if b then (record first { is_lost = true }) ∷ later else first ∷ without_oldest bytes later)) [
      | true ↦ (in_order.0, in_order.1, in_order.2)
      | false ↦ (in_order.0, after_without first.at bytes later in_order.1, in_order_losing time bytes later in_order.2)
    ]
