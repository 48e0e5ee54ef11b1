-- An end as its callers see it, and what a step of it hands out.
use Rattle.std.specs.Prelude.{Bool, true, false, ◌&&◌, if◌then◌else◌, List, Option, Some, None}
use Rattle.line_laws.specs.declared.words.Side.{Side}
use Rattle.line_laws.specs.declared.words.Position.{Position}
use Rattle.line_laws.specs.declared.words.Position.TheVariants.{Left, Right}
use Rattle.line_laws.specs.declared.words.Item.{Item}
use Rattle.line_laws.specs.End.{File, End, Seen, file_of}
use Rattle.line_laws.specs.Step.{StepSoFar, step}

pub record EndState : Type 0 where
  pub side : Side
  pub end : End

pub record StepOutput : Type 0 where
  pub written : Option File
  pub items : List Item

-- ---- the file

abbrev pub is_same_flag : Bool → Bool → Bool
is_same_flag true true = true
is_same_flag true false = false
is_same_flag false true = false
is_same_flag false false = true

abbrev pub is_same_position : Position → Position → Bool
is_same_position Left Left = true
is_same_position Left Right = false
is_same_position Right Left = false
is_same_position Right Right = true

-- what is to be written where the file has the first of these, and is to have the second
abbrev pub changed_file : File → File → Option File
changed_file old new = if is_same_flag old.token new.token && is_same_position old.lock new.lock then None else Some new

-- ---- a step

-- what a step has done so far, where the end is this and it has given these items
abbrev pub so_far : EndState → List Item → StepSoFar
so_far state items = record { end = state.end; given = items }

abbrev pub stepped : Bool → Seen → List Item → EndState → EndState
stepped up seen items state = record state { end = (step state.side up seen items state.end).end }

abbrev pub output : Bool → Seen → List Item → EndState → StepOutput
output up seen items state =
    let so_far = step state.side up seen items state.end
    in record { written = changed_file (file_of state.end) (file_of so_far.end); items = so_far.given }
