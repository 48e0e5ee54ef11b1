-- The readings of a node's clock at which something came to it.
use Rattle.std.specs.Prelude.{ℕ, ◌≤◌, List, [], ◌∷◌}
use Rattle.simulator_spec.specs.rasta_core.Ends.{reading_of}
use Rattle.simulator_node_laws.specs.Lives.{Life}

-- They begin at this one or later, and don't fall.
unfoldable pub RiseFrom : {Coming : Type 0} → ℕ → List (ℕ × Coming) → Type 0
RiseFrom first [] = Unit {0}
RiseFrom first (one ∷ others) = (first ≤ one.0) × RiseFrom one.0 others

-- the last of them, or the first reading where nothing came
abbrev pub last_reading : {Coming : Type 0} → ℕ → List (ℕ × Coming) → ℕ
last_reading first [] = first
last_reading first (one ∷ others) = last_reading one.0 others

-- The readings of a life rise from its first, and its clock has reached the last.
pub record Rises {Contacts Coming : Type 0} (life : Life Contacts Coming) : Type 0 where
  pub rise : RiseFrom life.begins.clock life.came
  pub last : last_reading life.begins.clock life.came ≤ reading_of life.clock
