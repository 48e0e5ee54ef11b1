-- What is told of a route's approach, and when it lets the route go.
use Rattle.std.specs.Prelude.{◌≡◌, ◌+◌, ◌-◌, ◌^◌, ◌≤◌, ◌⊎◌, ◌||◌, ℕ, Bool, true, false, not, nat_le, min, List, [], ◌∷◌}
use Rattle.std.specs.List.{Contains}
use Rattle.release.specs.declared.approach.TheConstants.{APPROACH_TIME}

-- The clock reading at which the approach time is over. Clocks stop at the greatest reading.
abbrev pub approach_end : ℕ → ℕ
approach_end ended_at = min (ended_at + APPROACH_TIME) (2 ^ 64 - 1)

-- The approach lets the route go: it was never told that a section is occupied or unknown, or its time is over.
abbrev pub IsDue : List Bool → ℕ → ℕ → Type 0
IsDue steps ended_at now = (Contains steps true → ⊥) ⊎ (approach_end ended_at ≤ now)

-- Whether it was told in some step that a section is occupied or unknown. The latest step comes first.
unfoldable pub approach_after : List Bool → Bool
approach_after [] = false
approach_after (occupied ∷ steps) = approach_after steps || occupied

-- Whether it lets the route go, as it is computed.
abbrev pub is_due : Bool → ℕ → ℕ → Bool
is_due occupied ended_at now = not occupied || nat_le (approach_end ended_at) now
