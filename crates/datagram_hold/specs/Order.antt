-- In which order datagrams are handed out.
use Rattle.std.specs.Prelude.{◌≡◌, ◌≤◌, ◌<◌, ◌^◌, ◌⊎◌, ℕ, true, List, [], ◌∷◌, Option, Some, None}
use Rattle.datagram_hold.specs.Came.{Came}
use Rattle.datagram_hold.specs.Sequence.{distance, is_behind, number_of}
use Rattle.datagram_hold.specs.Hold.{HoldState, expected_after}
use Rattle.datagram_hold.specs.Runs.{Call, Takes, asks}

-- They are so far ahead of the number that is expected at least, and 8 at most, each at least as far as the one before it.
abbrev pub Rises : ℕ → ℕ → List Came → Type 0
Rises expected least [] = Unit {0}
Rises expected least (one ∷ others) =
    let ahead = distance expected (number_of one.bytes)
    in (least ≤ ahead) × (ahead ≤ 8) × (number_of one.bytes < 2 ^ 32) × Rises expected ahead others

-- How a hold stands that was asked until there was none: those that wait are 1 to 8 ahead, in the order of their numbers.
pub record IsSettled (hold : HoldState) : Type 0 where
  pub expected : ℕ
  pub small : expected < 2 ^ 32
  pub expected_is : hold.expected ≡ Some expected
  pub rises : Rises expected 1 hold.held

-- a datagram has the number that is expected, or comes again or late
abbrev pub Follows : Option ℕ → Came → Type 0
Follows None one = ⊥
Follows (Some expected) one = (number_of one.bytes ≡ expected) ⊎ (is_behind expected (number_of one.bytes) ≡ true)

-- each follows those before it: no end that hears them finds a number ahead of the one that it expects
abbrev pub LeavesNoGap : Option ℕ → List Came → Type 0
LeavesNoGap expected [] = Unit {0}
LeavesNoGap expected (one ∷ others) = Follows expected one × LeavesNoGap (expected_after expected (number_of one.bytes)) others

-- at most 8 ahead of the number that is expected, or behind it
abbrev pub IsNear : Option ℕ → Came → Type 0
IsNear None one = ⊥
IsNear (Some expected) one = (distance expected (number_of one.bytes) ≤ 8) ⊎ (is_behind expected (number_of one.bytes) ≡ true)

-- a datagram comes, and then it is asked at the same reading until there is none
abbrev pub round : Came → List Call
round one = Takes one ∷ asks 8 one.at
