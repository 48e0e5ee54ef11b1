-- Lines cut from bytes, in whatever pieces these come.
use Rattle.std.specs.Prelude.{◌≡◌, ◌==◌, ℕ, nat_lt, if◌then◌else◌, List, [], ◌∷◌, ◌++◌, length, Option, Some, None, string_bytes}
use Rattle.std.specs.Io.KnownBytes.{Consumes}
use Rattle.std.specs.Str.Lossy.{utf8_lossy}
use Rattle.node_drive.specs.declared.outside.NextLine.{NextLine}
use Rattle.node_drive.specs.declared.outside.NextLine.TheVariants as next

abbrev pub line_feed : ℕ
line_feed = 10

-- how many bytes of a line are kept
abbrev pub longest_line : ℕ
longest_line = 512

-- the byte that stands after them where there were more: no text has it
abbrev pub too_long : ℕ
too_long = 255

-- a line that has begun, and one more byte of it
abbrev pub with_byte : List ℕ → ℕ → List ℕ
with_byte begun byte =
    if nat_lt (length begun) longest_line
    then begun ++ byte ∷ []
    else (if length begun == longest_line then begun ++ too_long ∷ [] else begun)

-- What came and wasn't handed on: of the line that has begun, and the bytes after that.
pub record Waiting : Type 0 where
  pub begun : List ℕ
  pub behind : List ℕ

abbrev pub nothing_waits : Waiting
nothing_waits = record { begun = []; behind = [] }

-- the first line that is whole, without its line feed, and what waits after it
abbrev pub cut : List ℕ → List ℕ → Option (List ℕ) × Waiting
cut begun [] = (None, record { begun = begun; behind = [] })
cut begun (byte ∷ behind) =
    if byte == line_feed
    then (Some begun, record { begun = []; behind = behind })
    else cut (with_byte begun byte) behind

-- ---- all lines of bytes

abbrev pub lines : List ℕ → List ℕ → List (List ℕ)
lines begun [] = []
lines begun (byte ∷ behind) = if byte == line_feed then begun ∷ lines [] behind else lines (with_byte begun byte) behind

-- what they leave of the last, which isn't whole
abbrev pub left : List ℕ → List ℕ → List ℕ
left begun [] = begun
left begun (byte ∷ behind) = if byte == line_feed then left [] behind else left (with_byte begun byte) behind

-- the line that was cut, and those after it
abbrev pub handed_on : Option (List ℕ) × Waiting → List (List ℕ)
handed_on (Some line, rest) = line ∷ lines rest.begun rest.behind
handed_on (None, rest) = []

-- ---- a question for a line

-- It is answered with the text of a line, in which what is no text is replaced.
abbrev pub Answers : NextLine → Option (List ℕ) → Type 0
Answers (next.Text text) (Some line) = string_bytes text ≡ utf8_lossy line
Answers (next.Text text) None = ⊥
Answers answer line = line ≡ None

-- to whoever can go on without lines
abbrev pub unless_closed : NextLine → NextLine
unless_closed next.Closed = next.Nothing
unless_closed answer = answer

-- Some bytes were read, and the first line of all that waits was handed on.
pub record HandsOn (left_old left_new : Option (List ℕ)) (old new : Waiting) (answer : NextLine) : Type 0 where
  pub came : List ℕ
  pub read : Consumes left_old left_new came
  pub line : Option (List ℕ)
  pub is_cut : cut old.begun (old.behind ++ came) ≡ (line, new)
  pub answers : Answers answer line
