-- The datagrams that were sent and aren't lost, and which of them can still be delivered.
use Rattle.std.specs.Prelude.{ℕ, ◌+◌, nat_le, ◌&&◌, not, Bool, true, false, List, [], ◌∷◌, Option, Some, None, if◌then◌else◌}
use Rattle.std.specs.Str.{bytes_eq}
use Rattle.rasta_core_link.specs.declared.time.TheConstants.{LIFETIME_MICROS}
use Rattle.rasta_core_spec.specs.Ends.{Sent}

-- how long a datagram can be delivered, in microseconds of true time
abbrev pub lifetime : ℕ
lifetime = LIFETIME_MICROS

-- a copy of these bytes in the bag
abbrev pub is_copy : List ℕ → Sent → Bool
is_copy bytes sent = not sent.is_lost && bytes_eq sent.bytes bytes

-- one that can still be delivered
abbrev pub is_alive_copy : ℕ → List ℕ → Sent → Bool
is_alive_copy time bytes sent = nat_le time (sent.at + lifetime) && is_copy bytes sent

-- the newest such copy, in a list with the oldest first
abbrev pub newest_copy : ℕ → List ℕ → List Sent → Option Sent
newest_copy time bytes [] = None
newest_copy time bytes (first ∷ later) = or_this (newest_copy time bytes later) where
  or_this : Option Sent → Option Sent
  or_this (Some found) = Some found
  or_this None = if is_alive_copy time bytes first then Some first else None

-- the oldest copy is lost
abbrev pub without_oldest : List ℕ → List Sent → List Sent
without_oldest bytes [] = []
without_oldest bytes (first ∷ later) = if is_copy bytes first then (record first { is_lost = true }) ∷ later else first ∷ without_oldest bytes later

abbrev pub has_copy : List ℕ → List Sent → Bool
has_copy bytes [] = false
has_copy bytes (first ∷ later) = if is_copy bytes first then true else has_copy bytes later
