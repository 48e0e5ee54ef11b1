-- Lists of moves, one after the other, from the first state on.
use Rattle.std.specs.Prelude.{ℕ, true, false, List, [], ◌∷◌}
use Rattle.simulator_machine.specs.Link.{Link, Quiet, Gone}
use Rattle.simulator_machine.specs.Point.{Position}
use Rattle.simulator_machine.specs.Table.{Table}
use Rattle.simulator_machine.specs.Route.{Free}
use Rattle.simulator_machine.specs.Machine.{Machine}
use Rattle.simulator_machine.specs.Moves.{Move, May, after}

-- The rules of a machine: when a move may be made, and what it leaves.
pub record Rules : Type 1 where
  pub may : Table → Machine → Move → Type 0
  pub after : Table → Machine → Move → Machine

abbrev pub right_rules : Rules
right_rules = record { may = May; after = after }

-- a list of moves, one after the other
abbrev pub run : Rules → Table → List Move → Machine → Machine
run rules table [] machine = machine
run rules table (move ∷ moves) machine = run rules table moves (rules.after table machine move)

-- each of them may be made where it comes
abbrev pub MayRun : Rules → Table → List Move → Machine → Type 0
MayRun rules table [] machine = Unit {0}
MayRun rules table (move ∷ moves) machine = rules.may table machine move × MayRun rules table moves (rules.after table machine move)

-- the first state: the interlocking was just made, no link has had a connection yet, and each point stands somewhere
abbrev pub unlinked : Link
unlinked = record { client = Quiet; server = Gone }

abbrev pub first : (ℕ → Position) → Machine
first positions = record {
  signals = λ place. record { link = unlinked; done = []; flight = []; confirmed = 0 };
  points = λ place. record { link = unlinked; taken = 0; flight = 0; heard = []; coming = []; driven = false; position = positions place };
  routes = λ route. Free;
  holding = true;
  frozen = λ route. false;
}
