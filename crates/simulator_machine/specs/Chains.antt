-- Lists of moves from one state of the machine to another, and at one of its signals or points.
use Rattle.std.specs.Prelude.{◌≡◌, ◌≤◌, ℕ, List, [], ◌∷◌}
use Rattle.simulator_machine.specs.Link.{Link, LinkMove, LinkMay, link_after}
use Rattle.simulator_machine.specs.Signal.{Signal, SignalMove, SignalMay, signal_after}
use Rattle.simulator_machine.specs.Point.{Point, PointMove, PointMay, point_after}
use Rattle.simulator_machine.specs.Table.{Table}
use Rattle.simulator_machine.specs.Machine.{Machine}
use Rattle.simulator_machine.specs.Moves.{Move}
use Rattle.simulator_machine.specs.Run.{right_rules, run, MayRun}

-- A list of moves leads from one state to another.
pub record MovesTo (table : Table) (old new : Machine) : Type 0 where
  pub moves : List Move
  pub may : MayRun right_rules table moves old
  pub leads : run right_rules table moves old ≡ new

-- what a list of steps leaves, each after the one before
abbrev pub chained : {Step State : Type 0} → (Step → State → State) → List Step → State → State
chained after [] state = state
chained after (step ∷ steps) state = chained after steps (after step state)

-- each of them may be made where it comes
abbrev pub MayChain : {Step State : Type 0} → (Step → State → Type 0) → (Step → State → State) → List Step → State → Type 0
MayChain may after [] state = Unit {0}
MayChain may after (step ∷ steps) state = may step state × MayChain may after steps (after step state)

-- a list of moves of one link
abbrev pub link_chained : List LinkMove → Link → Link
link_chained = chained link_after

abbrev pub LinkMayChain : List LinkMove → Link → Type 0
LinkMayChain = MayChain LinkMay link_after

-- a list of moves at one signal
abbrev pub signal_chained : List SignalMove → Signal → Signal
signal_chained = chained signal_after

abbrev pub SignalMayChain : List SignalMove → Signal → Type 0
SignalMayChain = MayChain SignalMay signal_after

-- a list of moves at one point
abbrev pub point_chained : List PointMove → Point → Point
point_chained = chained point_after

abbrev pub PointMayChain : List PointMove → Point → Type 0
PointMayChain = MayChain PointMay point_after

-- the machine when each signal, or each point, has made moves of its own
abbrev pub signals_chained : (ℕ → List SignalMove) → Machine → Machine
signals_chained moves machine = record machine { signals = λ place. signal_chained (moves place) (machine.signals place) }

abbrev pub points_chained : (ℕ → List PointMove) → Machine → Machine
points_chained moves machine = record machine { points = λ place. point_chained (moves place) (machine.points place) }

-- from this number on, none has a move
abbrev pub NoneFrom : {Step : Type 0} → ℕ → (ℕ → List Step) → Type 0
NoneFrom count moves = (place : ℕ) → count ≤ place → moves place ≡ []
