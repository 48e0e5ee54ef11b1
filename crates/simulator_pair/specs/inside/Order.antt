-- Datagrams in the order of their sending.
use Rattle.std.specs.Prelude.{ℕ, ◌≤◌, List, [], ◌∷◌, All}
use Rattle.rasta_core.specs.Ends.{Sent}

-- none was sent after this time, and none before one that stands earlier
abbrev pub AreInOrder : ℕ → List Sent → Type 0
AreInOrder time [] = Unit {0}
AreInOrder time (first ∷ later) = (first.at ≤ time) × All (λ sent. first.at ≤ sent.at) later × AreInOrder time later
