-- The newest copy of bytes that can be delivered is a delivery.
use Rattle.std.proofs.Common.{◌≡◌, ℕ, ◌⊎◌, inl, inr, ◌+◌, ◌≤◌, true, not, nat_le, List, [], ◌∷◌, Some, bytes_eq, refl, subst, arith, leb-true}
use Rattle.std.proofs.lemmas.Slice.Eq.{bytes_eq-Decides}
use Rattle.rasta_core_spec.specs.Bag.{lifetime, newest_copy, is_alive_copy, is_copy}
use Rattle.rasta_core_spec.specs.Ends.{Sent}
use Rattle.rasta_core_spec.specs.Run.{Ends}
use Rattle.rasta_core_spec.specs.Events.{IsAmong, IsDelivered}
use Rattle.rasta_core.proofs.States.{and_first, and_second}

newest_step : (time : ℕ) (bytes : List ℕ) (first : Sent) (later : List Sent) (datagram : Sent) → newest_copy time bytes (first ∷ later) ≡ Some datagram
    → (newest_copy time bytes later ≡ Some datagram) ⊎ ((is_alive_copy time bytes first ≡ true) × (first ≡ datagram))
newest_step time bytes first later datagram e = grind arith

pub newest_is : (time : ℕ) (bytes : List ℕ) (list : List Sent) (datagram : Sent) → newest_copy time bytes list ≡ Some datagram
    → IsAmong datagram list × (datagram.bytes ≡ bytes) × (time ≤ datagram.at + lifetime)
newest_is time bytes [] datagram e = cc
newest_is time bytes (first ∷ later) datagram e = elim (newest_step time bytes first later datagram e) [
  | inl further ↦ (inr (newest_is time bytes later datagram further).0, (newest_is time bytes later datagram further).1, (newest_is time bytes later datagram further).2)
  | inr here ↦ subst (λ (d : Sent). ((first ≡ d) ⊎ IsAmong d later) × (d.bytes ≡ bytes) × (time ≤ d.at + lifetime)) here.1 (inl refl, same here.0, leb-true _ _ (and_first _ _ here.0))
]
  where
    same : is_alive_copy time bytes first ≡ true → first.bytes ≡ bytes
    same alive = (bytes_eq-Decides first.bytes bytes).0 (and_second (not first.is_lost) (bytes_eq first.bytes bytes) (and_second (nat_le time (first.at + lifetime)) (is_copy bytes first) alive))

pub copy_delivered : (ends : Ends) (bytes : List ℕ) (datagram : Sent) → newest_copy ends.time bytes ends.sent ≡ Some datagram → IsDelivered ends bytes datagram.connection datagram
copy_delivered ends bytes datagram e =
    let found : IsAmong datagram ends.sent × (datagram.bytes ≡ bytes) × (ends.time ≤ datagram.at + lifetime) = newest_is ends.time bytes ends.sent datagram e in
    record { was_sent = found.0; bytes_same = found.1; connection_same = refl; in_time = found.2 }
