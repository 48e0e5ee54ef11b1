-- What is captured: datagrams with the time, the sender and the receiver of each.
use Rattle.std.specs.Prelude.{◌≤◌, ℕ, List, length}
use Rattle.capture_file.specs.declared.journey.TheConstants.{MOST_BYTES}
use Rattle.capture_file.specs.declared.journey.Journey.{Journey}

-- a datagram that was sent: when, from where, to where, its bytes, and what is remarked of it, nothing where that is empty
pub record Sent : Type 0 where
  pub journey : Journey
  pub payload : List ℕ
  pub comment : List ℕ

-- how many bytes of payload and of comment a captured datagram may have
abbrev pub Fits : List ℕ → List ℕ → Type 0
Fits payload comment = (length payload ≤ MOST_BYTES) × (length comment ≤ MOST_BYTES)
