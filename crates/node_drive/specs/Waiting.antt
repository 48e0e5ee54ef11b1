-- Datagrams that wait until the line of their step is in force.
use Rattle.std.specs.Prelude.{ℕ, ◌+◌, ◌&&◌, nat_le, nat_lt, not, if◌then◌else◌, Bool, true, false, List, [], ◌∷◌, ◌++◌, map}
use Rattle.node_lines.specs.simulator_event.layout.declared.ids.NodeId.{NodeId}
use Rattle.node_drive.specs.Budget.{at_sender}

-- a datagram, and the node to which it goes
abbrev pub Addressed : Type 0
Addressed = NodeId × List ℕ

pub record Waiting : Type 0 where
  -- the number of the line that has to be in force before it leaves; with 0 none has
  pub behind : ℕ
  -- the reading of the step that handed it out
  pub since : ℕ
  pub datagram : Addressed

abbrev pub waiting_one : ℕ → ℕ → Addressed → Waiting
waiting_one behind since datagram = record { behind = behind; since = since; datagram = datagram }

-- those of a step, oldest first
abbrev pub waiting_of : ℕ → ℕ → List Addressed → List Waiting
waiting_of behind since datagrams = map (waiting_one behind since) datagrams

abbrev pub none_waits : List Waiting → Bool
none_waits [] = true
none_waits (one ∷ others) = false

-- at a reading of the clock it may still leave
abbrev pub is_fresh : ℕ → Waiting → Bool
is_fresh now one = nat_lt now (one.since + at_sender)

-- the line of its step is in force, or one after that
abbrev pub is_free : ℕ → Waiting → Bool
is_free in_force one = nat_le one.behind in_force

-- it may still leave, but not yet
abbrev pub waits_on : ℕ → ℕ → Waiting → Bool
waits_on now in_force one = is_fresh now one && not (is_free in_force one)

-- one that needn't wait any more leaves, unless it waited too long
abbrev pub unless_stale : ℕ → Waiting → List Waiting
unless_stale now one = if is_fresh now one then one ∷ [] else []

-- Those that leave at a reading, where this line is in force, and those that are left. They go in their order: the first that
-- waits on holds up all after it.
abbrev pub leaving : ℕ → ℕ → List Waiting → List Waiting
leaving now in_force [] = []
leaving now in_force (one ∷ others) = if waits_on now in_force one then [] else unless_stale now one ++ leaving now in_force others

abbrev pub waiting_on : ℕ → ℕ → List Waiting → List Waiting
waiting_on now in_force [] = []
waiting_on now in_force (one ∷ others) = if waits_on now in_force one then one ∷ others else waiting_on now in_force others
