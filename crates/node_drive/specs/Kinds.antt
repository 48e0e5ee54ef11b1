-- What the engine has to know of a kind of node.
use Rattle.std.specs.Prelude.{ℕ, Bool, true, false, List, ◌∷◌, drop, Option, Some, None}
use Rattle.node_lines.specs.replay_words.declared.fault.Fault.{Fault}
use Rattle.node_lines.specs.simulator_event.layout.declared.ids.NodeId.{NodeId}
use Rattle.node_lines.specs.declared.order.Order.{Order}
use Rattle.node_drive.specs.Waiting.{Addressed}
use Rattle.node_drive.specs.declared.node.LineMeaning.{LineMeaning}
use Rattle.node_drive.specs.declared.node.LineMeaning.TheVariants as line_meaning
use Rattle.node_drive.specs.declared.outside.ToKeep.{ToKeep}

-- what a line tells
pub data Meaning (Input : Type 0) : Type 0 where
  -- the order of this number is in force
  InForce : (number : ℕ) → Meaning Input
  -- it is answered so, with a line or none, and these inputs come to the node, each as a step of its own
  Comes : (answer : List (List ℕ)) (inputs : List Input) → Meaning Input
  -- it is faulty
  Faulty : (fault : Fault) → Meaning Input

-- What a step asks to be kept in the file of its process, before any line of the step is told.
pub record AskedToKeep : Type 0 where
  pub all : ToKeep
  -- the line that is told in the place of the first one, where it isn't kept; with none the first one is told all the same
  pub unless : Option (List ℕ)

-- A kind of node: how it is, and what comes to it.
pub record Kind (State Input : Type 0) : Type 0 where
  -- how it is after an input at a reading of its clock, and the datagrams that it hands out then
  pub after : ℕ → Input → State → State
  pub hands : ℕ → Input → State → List Addressed
  -- what a step asks to be kept, if anything
  pub keeps : ℕ → Input → State → Option AskedToKeep
  -- the lines that are told after a step, where that is kept
  pub says : ℕ → Input → State → List (List ℕ)
  -- the input when the clock goes on, and that when bytes come
  pub tick : Input
  pub datagram : List ℕ → Input
  -- with which nodes it has links
  pub is_partner : NodeId → Bool
  -- what its equipment has to do, if it has any that does something
  pub order : State → Option Order
  -- what a line tells at a reading
  pub meaning : ℕ → List ℕ → State → Meaning Input
  -- all that stands, as one is told who begins to listen
  pub stands : ℕ → State → List (List ℕ)
  -- whether it has nothing more to do once its last order is in force
  pub is_done : State → Bool

-- ---- what is told

-- another line in the place of the first
abbrev pub told_instead : Option (List ℕ) → List (List ℕ) → List (List ℕ)
told_instead None said = said
told_instead (Some line) said = line ∷ drop 1 said

-- the lines of a step, once it is answered whether what it asked for is kept
abbrev pub said_if : Bool → Option AskedToKeep → List (List ℕ) → List (List ℕ)
said_if true asked said = said
said_if false None said = said
said_if false (Some asked) said = told_instead asked.unless said

-- ---- a node

-- A node as its code has it: its state, the reading of its last step, and of that step what wasn't taken yet: the datagrams, what it
-- asks to be kept, the lines, and the inputs of a line that have to come.
pub record NodeState (State Input : Type 0) : Type 0 where
  pub state : State
  pub reached : ℕ
  pub handed : List Addressed
  pub keeps : Option AskedToKeep
  pub said : List (List ℕ)
  pub left : List Input

module _ {State Input : Type 0} where
  -- after a step
  abbrev pub node_after : Kind State Input → ℕ → Input → NodeState State Input → NodeState State Input
  node_after kind now input node = record {
    state = kind.after now input node.state;
    reached = now;
    handed = kind.hands now input node.state;
    keeps = kind.keeps now input node.state;
    said = kind.says now input node.state;
    left = node.left;
  }

  -- once it was answered whether that is kept
  abbrev pub node_kept : Bool → NodeState State Input → NodeState State Input
  node_kept kept node = record node { keeps = None; said = said_if kept node.keeps node.said }

  -- what a line was found to tell, with the answer and the inputs that it left
  abbrev pub meaning_of : LineMeaning → NodeState State Input → Meaning Input
  meaning_of (line_meaning.InForce number) node = InForce number
  meaning_of line_meaning.Comes node = Comes node.said node.left
  meaning_of (line_meaning.Faulty fault) node = Faulty fault
