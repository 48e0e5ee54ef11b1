-- What is promised of a line.
use Rattle.std.specs.Prelude.{◌≡◌, true, false, List, [], ◌∷◌, ◌++◌}
use Rattle.line_laws.specs.declared.words.Side.{Side}
use Rattle.line_laws.specs.declared.words.Position.TheVariants.{Right}
use Rattle.line_laws.specs.Line.{Node, Line, Move, Rules, node, after}
use Rattle.line_laws.specs.Run.{run}

abbrev pub HasToken : Node → Type 0
HasToken node = node.end.token ≡ true

abbrev pub IsLocked : Node → Type 0
IsLocked node = node.end.lock ≡ Right

-- no contact of its part is occupied
abbrev pub IsFree : Node → Type 0
IsFree node = node.busy ≡ false

-- it tells its station that the line is clear
pub record TellsClear (node : Node) : Type 0 where
  pub empty : node.end.empty ≡ true
  pub free : IsFree node

-- no contact of either end is occupied
pub record IsClear (line : Line) : Type 0 where
  pub first : IsFree line.first
  pub second : IsFree line.second

-- an end has the token, and no contact of its part is occupied
pub record Holds (side : Side) (line : Line) : Type 0 where
  pub token : HasToken (node side line)
  pub free : IsFree (node side line)

-- a fact holds now, and after each of these moves
abbrev pub Throughout : Rules → (Line → Type 0) → List Move → Line → Type 0
Throughout rules Fact [] line = Fact line
Throughout rules Fact (move ∷ moves) line = Fact line × Throughout rules Fact moves (after rules move line)

-- Clear was clear: there was a moment at which no contact of either end was occupied, and since that moment this end
-- has had the token, and no contact of its own was occupied.
pub record WasClear (rules : Rules) (side : Side) (start : Line) (moves : List Move) : Type 0 where
  pub earlier : List Move
  pub later : List Move
  pub whole : earlier ++ later ≡ moves
  pub clear : IsClear (run rules earlier start)
  pub since : Throughout rules (Holds side) later (run rules earlier start)
