-- What keeps datagrams in the order of their sending.
use Rattle.std.proofs.Common.{◌≡◌, ℕ, zero, suc, ◌≤◌, ◌<◌, List, [], ◌∷◌, ◌++◌, length, get_or, sym, ap, ◌∙◌, subst, arith}
use Rattle.std.proofs.Math.ListN.{set}
use Rattle.std.specs.List.{All}
use Rattle.std.proofs.lemmas.List.Elements.{All-cons, All-head, All-tail, All-append, All-weaker}
use Rattle.simulator_spec.specs.rasta_core.Ends.{Sent}
use Rattle.simulator_field.specs.inside.Entries.{AreInOrder}

-- none was sent after the time
pub sent_by : (time : ℕ) (sent : List Sent) → AreInOrder time sent → All (λ s. s.at ≤ time) sent
sent_by time [] in_order = λ k d (below : k < 0). absurd (omega arith)
sent_by time (first ∷ later) in_order = All-cons (λ s. s.at ≤ time) first later in_order.0 (sent_by time later in_order.2)

-- time goes on
pub in_order_later : (time new_time : ℕ) (sent : List Sent) → time ≤ new_time → AreInOrder time sent → AreInOrder new_time sent
in_order_later time new_time [] not_before in_order = tt
in_order_later time new_time (first ∷ later) not_before in_order =
    let first_by : first.at ≤ time = in_order.0
    in (omega arith, in_order.1, in_order_later time new_time later not_before in_order.2)

-- one more is sent at the time
pub in_order_sending : (time : ℕ) (sent : List Sent) (last : Sent) → last.at ≡ time → AreInOrder time sent → AreInOrder time (sent ++ last ∷ [])
in_order_sending time [] last now in_order = (omega arith, λ k d (below : k < 0). absurd (omega arith), tt)
in_order_sending time (first ∷ later) last now in_order =
    let first_by : first.at ≤ time = in_order.0
    in let At : Sent → Type 0 = λ s. first.at ≤ s.at
    in let nothing : All At [] = λ k d (below : k < 0). absurd (omega arith)
    in let after : All At (last ∷ []) = All-cons At last [] (omega arith) nothing
    in (first_by, All-append At later (last ∷ []) in_order.1 after, in_order_sending time later last now in_order.2)

after_setting : (time : ℕ) (sent : List Sent) (place : ℕ) (new : Sent) → time ≤ new.at → All (λ s. time ≤ s.at) sent → All (λ s. time ≤ s.at) (set sent place new)
after_setting time [] place new not_before after = after
after_setting time (first ∷ later) zero new not_before after =
    let At : Sent → Type 0 = λ s. time ≤ s.at
    in All-cons At new later not_before (All-tail At first later after)
after_setting time (first ∷ later) (suc place) new not_before after =
    let At : Sent → Type 0 = λ s. time ≤ s.at
    in All-cons At first (set later place new) (All-head At first later after) (after_setting time later place new not_before (All-tail At first later after))

-- one is changed, but not the time of its sending
pub in_order_setting : (time : ℕ) (sent : List Sent) (place : ℕ) (one new : Sent) → place < length sent → one ≡ get_or sent place one → new.at ≡ one.at → AreInOrder time sent → AreInOrder time (set sent place new)
in_order_setting time [] place one new below is_one same in_order = tt
in_order_setting time (first ∷ later) zero one new below is_one same in_order =
    let At : ℕ → Type 0 = λ at. (at ≤ time) × All (λ s. at ≤ s.at) later × AreInOrder time later
    in let at_first : first.at ≡ new.at = sym (same ∙ ap (λ (s : Sent). s.at) is_one)
    in subst At at_first in_order
in_order_setting time (first ∷ later) (suc place) one new below is_one same in_order =
    let At : Sent → Type 0 = λ s. first.at ≤ s.at
    in let at_one : first.at ≤ one.at = rw is_one (in_order.1 place one (omega arith))
    in let not_before : first.at ≤ new.at = omega arith
    in (in_order.0, after_setting first.at later place new not_before in_order.1, in_order_setting time later place one new (omega arith) is_one same in_order.2)
