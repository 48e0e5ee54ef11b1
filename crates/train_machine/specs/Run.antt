-- Lists of moves, one after the other, from the first state on.
use Rattle.std.specs.Prelude.{◌≡◌, ℕ, true, false, List, [], ◌∷◌, Option, None}
use Rattle.train_machine.specs.Lists.{IsOf}
use Rattle.train_machine.specs.Track.{Side, Track}
use Rattle.train_machine.specs.Train.{Nothing, is_in}
use Rattle.train_machine.specs.Section.{Unknown, Came}
use Rattle.train_machine.specs.Route.{free_route}
use Rattle.train_machine.specs.Machine.{Never, Machine}
use Rattle.train_machine.specs.Moves.{Move, May, after}

-- The rules of a machine: when a move may be made, and what it leaves.
pub record Rules : Type 1 where
  pub may : Track → Machine → Move → Type 0
  pub after : Track → Machine → Move → Machine

abbrev pub right_rules : Rules
right_rules = record { may = May; after = after }

-- a list of moves, one after the other
abbrev pub run : Rules → Track → List Move → Machine → Machine
run rules track [] machine = machine
run rules track (move ∷ moves) machine = run rules track moves (rules.after track machine move)

-- each of them may be made where it comes
abbrev pub MayRun : Rules → Track → List Move → Machine → Type 0
MayRun rules track [] machine = Unit {0}
MayRun rules track (move ∷ moves) machine = rules.may track machine move × MayRun rules track moves (rules.after track machine move)

-- A list of moves leads from one state to another.
pub record MovesTo (track : Track) (old new : Machine) : Type 0 where
  pub moves : List Move
  pub may : MayRun right_rules track moves old
  pub leads : run right_rules track moves old ≡ new

-- Trains may stand in the station from the beginning: on tracks, no two in one section.
pub record MayStand (track : Track) (standing : ℕ → List ℕ) : Type 0 where
  pub alone : (a b section : ℕ) → is_in track section (standing a) ≡ true → is_in track section (standing b) ≡ true → a ≡ b
  pub plain : (train place : ℕ) → IsOf place (standing train) → track.point place ≡ None

-- The first state: the interlocking was just made, knows nothing and has set nothing; trains and points stand somewhere.
abbrev pub first : (standing : ℕ → List ℕ) (positions : ℕ → Option Side) → Machine
first standing positions = record {
  trains = λ train. record { places = standing train; under = Nothing; way = [] };
  sections = λ section. record { belief = Unknown; told = Came; entered = 0; inlet = false; since = 0 };
  routes = λ route. free_route;
  points = λ point. record { lies = positions point; moves = false };
  passes = λ signal. Never;
  now = 0;
  clock = 0;
}
