-- Lists of moves of a line that begins.
use Rattle.std.specs.Prelude.{Bool, true, false, List, [], ◌∷◌}
use Rattle.line_laws.specs.declared.words.Position.TheVariants.{Left}
use Rattle.line_laws.specs.End.{File, made_anew}
use Rattle.line_laws.specs.Link.{Gone}
use Rattle.line_laws.specs.Line.{Node, Line, Move, Rules, after}

-- a list of moves, oldest first
abbrev pub run : Rules → List Move → Line → Line
run rules [] line = line
run rules (move ∷ moves) line = run rules moves (after rules move line)

-- an end of a line that begins: its lock lies at the left, and it is in no connection
abbrev pub first_file : (token : Bool) → File
first_file token = record { token = token; lock = Left }

abbrev pub first_node : (token busy : Bool) → Node
first_node token busy = record { end = made_anew (first_file token); file = first_file token; busy = busy; place = Gone; coming = [] }

-- a line that begins: its token is at the first end, and its contacts are as they are
abbrev pub begins : (first_busy second_busy : Bool) → Line
begins first_busy second_busy = record { first = first_node true first_busy; second = first_node false second_busy }
