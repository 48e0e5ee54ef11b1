-- Sequence numbers of 32 bits, which go round, as the bytes of a datagram tell them.
use Rattle.std.specs.Prelude.{ℕ, ◌+◌, ◌-◌, ◌^◌, ◌%◌, nat_le, ◌&&◌, Bool, List}
use Rattle.rasta_pdu.specs.PduRead.{u32_at}

-- the number that bytes tell, whether they are intact or not; bytes that are lacking count as 0
abbrev pub number_of : List ℕ → ℕ
number_of bytes = u32_at 12 bytes

-- how many steps lead from one number up to another
abbrev pub distance : ℕ → ℕ → ℕ
distance from to = (to + (2 ^ 32 - from)) % 2 ^ 32

abbrev pub next_to : ℕ → ℕ
next_to number = (number + 1) % 2 ^ 32

-- 1 to 8 ahead of the number that is expected: those before it may be on their way
abbrev pub is_ahead : ℕ → ℕ → Bool
is_ahead expected number = nat_le 1 (distance expected number) && nat_le (distance expected number) 8

-- 1 to 256 behind it: it comes again, or late
abbrev pub is_behind : ℕ → ℕ → Bool
is_behind expected number = nat_le 1 (distance number expected) && nat_le (distance number expected) 256
