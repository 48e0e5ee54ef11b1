-- All the modular arithmetic there is: numbers of less than 2^31 PDUs, as they stand on the wire.
use Rattle.std.proofs.Common.{◌≡◌, ℕ, ◌+◌, ◌-◌, ◌^◌, ◌<◌, ◌≤◌, arith}
use Rattle.rasta_core_spec.specs.Sequence.{wire, before, distance}

-- a PDU at most 200 ahead is the one with that number
pub ahead_is : (first expected place : ℕ) → expected < 2 ^ 31 → place < 2 ^ 31
    → distance (wire first expected) (wire first place) ≤ 200 → place ≡ expected + distance (wire first expected) (wire first place)
ahead_is first expected place e p d = omega (arith, d)

-- what a sequence number confirms
pub behind_is : (first sent expected : ℕ) → 1 ≤ expected → expected ≤ sent → sent < 2 ^ 31
    → sent - 1 - distance (wire first (expected - 1)) (wire first (before sent)) ≡ expected - 1
behind_is first sent expected some most fits = omega arith

-- the next one expected
pub next_is : (expected ahead : ℕ) → expected + ahead < 2 ^ 31 → wire expected (ahead + 1) ≡ expected + ahead + 1
next_is expected ahead fits = omega arith

pub before_is : (count : ℕ) → 1 ≤ count → count < 2 ^ 31 → before count ≡ count - 1
before_is count some fits = omega arith

pub wire_fits : (first count : ℕ) → wire first count < 2 ^ 32
wire_fits first count = omega arith

pub wire_0 : (first : ℕ) → first < 2 ^ 32 → wire first 0 ≡ first
wire_0 first fits = omega arith
