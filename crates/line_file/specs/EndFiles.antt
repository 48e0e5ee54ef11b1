-- The text of the file of an end of a line, and how it is read.
use Rattle.std.specs.Prelude.{ℕ, Bool, true, false, nat_lt, if◌then◌else◌, List, [], ◌∷◌, ◌++◌, codes, length, take, drop, Result, Ok, Err}
use Rattle.std.specs.Str.{bytes_eq}
use Rattle.line_laws.specs.declared.words.Side.{Side}
use Rattle.line_laws.specs.declared.words.Side.TheVariants.{First, Second}
use Rattle.line_laws.specs.declared.words.Position.{Position}
use Rattle.line_laws.specs.declared.words.Position.TheVariants.{Left, Right}
use Rattle.line_laws.specs.End.{File}
use Rattle.line_file.specs.declared.fault.FileFault.{FileFault}
use Rattle.line_file.specs.declared.fault.FileFault.TheVariants.{CutOff, OtherLine, OtherEnd, Damaged}

-- ---- the text

abbrev pub line_text : (name : List ℕ) → List ℕ
line_text name = codes "line " ++ name ++ codes "\n"

abbrev pub side_text : Side → List ℕ
side_text First = codes "side first\n"
side_text Second = codes "side second\n"

abbrev pub token_text : (token : Bool) → List ℕ
token_text true = codes "token here\n"
token_text false = codes "token away\n"

abbrev pub lock_text : Position → List ℕ
lock_text Left = codes "lock left\n"
lock_text Right = codes "lock right\n"

-- which line and which end
abbrev pub owner_text : (name : List ℕ) → Side → List ℕ
owner_text name side = line_text name ++ side_text side

-- what the end keeps, and the last line
abbrev pub kept_text : File → List ℕ
kept_text file = token_text file.token ++ lock_text file.lock ++ codes "end\n"

-- all five lines
abbrev pub writing : (name : List ℕ) → Side → File → List ℕ
writing name side file = owner_text name side ++ kept_text file

-- ---- reading

-- bytes begin with a text
abbrev pub begin_with : (text bytes : List ℕ) → Bool
begin_with text bytes = if nat_lt (length bytes) (length text) then false else bytes_eq (take (length text) bytes) text

-- bytes are a text that was cut off
abbrev pub is_cut_off : (text bytes : List ℕ) → Bool
is_cut_off text bytes = if nat_lt (length bytes) (length text) then begin_with bytes text else false

-- whether the lines behind the two that name the end say that it keeps this, or were cut off
abbrev pub says : File → (rest : List ℕ) → Result Bool FileFault
says file rest =
    if bytes_eq (kept_text file) rest then Ok true else
    if is_cut_off (kept_text file) rest then Err CutOff else Ok false

-- what an end keeps where these lines stand behind the two that name it
abbrev pub kept_then : File → Result Bool FileFault → Result File FileFault → Result File FileFault
kept_then file (Ok true) next = Ok file
kept_then file (Ok false) next = next
kept_then file (Err fault) next = Err fault

abbrev pub kept_in : List File → (rest : List ℕ) → Result File FileFault
kept_in [] rest = Err Damaged
kept_in (file ∷ files) rest = kept_then file (says file rest) (kept_in files rest)

-- all that an end can keep
abbrev pub four : List File
four = record { token = true; lock = Left } ∷ record { token = true; lock = Right } ∷ record { token = false; lock = Left } ∷ record { token = false; lock = Right } ∷ []

-- what is told of bytes that don't begin with the two lines of this end
abbrev pub fault_of : (name : List ℕ) → Side → (bytes : List ℕ) → FileFault
fault_of name side bytes =
    if is_cut_off (owner_text name side) bytes then CutOff else
    if begin_with (line_text name) bytes then OtherEnd else
    if begin_with (codes "line ") bytes then OtherLine else Damaged

-- what an end finds in its file, where it has these bytes
abbrev pub reading : (name : List ℕ) → Side → (bytes : List ℕ) → Result File FileFault
reading name side bytes =
    if begin_with (owner_text name side) bytes
    then kept_in four (drop (length (owner_text name side)) bytes)
    else Err (fault_of name side bytes)
