-- What came to a node in the rounds of its process, and what came of it.
use Rattle.std.specs.Prelude.{ℕ, if◌then◌else◌, ◌&&◌, List, [], ◌∷◌, ◌++◌, map}
use Rattle.node_drive.specs.Kinds.{Kind, Meaning, InForce, Comes, Faulty}
use Rattle.node_drive.specs.Rounds.{Coming, Line, Datagram, Tick, Standing, comes, is_taken}
use Rattle.node_drive.specs.Seen.{is_heard}

-- the inputs of a line, at its reading
abbrev pub inputs_told : {Input : Type 0} → ℕ → Meaning Input → List (ℕ × Input)
inputs_told now (InForce number) = []
inputs_told now (Comes answer inputs) = map (λ input. (now, input)) inputs
inputs_told now (Faulty fault) = []

module _ {State Input : Type 0} (kind : Kind State Input) where
  abbrev pub inputs_of : ℕ → Coming → Standing State → List (ℕ × Input)
  inputs_of now (Line text ends) standing = inputs_told now (kind.meaning now text standing.state)
  inputs_of now (Datagram origin bytes thrown ends) standing = if is_heard now standing.course.seen && is_taken kind origin.from then (now, kind.datagram bytes) ∷ [] else []
  inputs_of now (Tick ends) standing = (now, kind.tick) ∷ []
  inputs_of now coming standing = []

  -- all that came to the node, oldest first, each with its reading
  abbrev pub came : List (ℕ × Coming) → Standing State → List (ℕ × Input)
  came [] standing = []
  came (one ∷ others) standing = inputs_of one.0 one.1 standing ++ came others (comes kind one.0 one.1 standing).1

  -- a node after these inputs
  abbrev pub state_after : List (ℕ × Input) → State → State
  state_after [] state = state
  state_after (one ∷ others) state = state_after others (kind.after one.0 one.1 state)
