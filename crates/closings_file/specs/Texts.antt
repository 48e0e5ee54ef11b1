-- The text of a file of closings, and how it is read.
use Rattle.std.specs.Prelude.{ℕ, Bool, nat_eq, nat_lt, ◌==◌, ◌&&◌, List, [], ◌∷◌, ◌++◌, codes, length, drop, Option, Some, None, Result, Ok, Err, if◌then◌else◌}
use Rattle.std.specs.Fmt.{decimal as written}
use Rattle.std.specs.List.{slice_split, starts_with}
use Rattle.std.specs.Str.{bytes_eq}
use Rattle.closings.specs.layout.Entries.{Site}
use Rattle.closings.specs.declared.auxiliary.AuxiliaryCounts.{AuxiliaryCounts}
use Rattle.closings.specs.declared.closed.Closings.{Closings}
use Rattle.closings.specs.declared.thing.Thing.{Thing}
use Rattle.closings.specs.declared.thing.Named.{Named}
use Rattle.closings.specs.declared.thing.Named.TheVariants.{One}
use Rattle.closings.specs.Closed.{closed_things, nothing, with_named}
use Rattle.closings.specs.Words.{named_by, words_of}
use Rattle.replay_words.specs.Read.{decimal}
use Rattle.replay_words.specs.declared.fault.Fault.{Fault}
use Rattle.closings_file.specs.declared.fault.FileFault.{FileFault}
use Rattle.closings_file.specs.declared.fault.FileFault.TheVariants.{CutOff, OtherLayout, NotThere, Damaged}
use Rattle.closings_file.specs.declared.found.Said.{Said}

-- ---- the text

-- the first line, by the digest of the layout
abbrev pub heading : (digest : List ℕ) → List ℕ
heading digest = codes "layout " ++ (digest ++ codes "\n")

-- the line of a number, by what stands before it
abbrev pub number_line : (label : List ℕ) → ℕ → List ℕ
number_line label number = label ++ (written number ++ codes "\n")

-- the lines of the auxiliary commands that were counted
abbrev pub lines_counted : AuxiliaryCounts → List ℕ
lines_counted counts = number_line (codes "counted release ") counts.releases ++ number_line (codes "counted open ") counts.opens

-- the line of a closed thing
abbrev pub line_of : Site → Thing → List ℕ
line_of l t = codes "closed " ++ (words_of l (One t) ++ codes "\n")

abbrev pub lines_of : Site → List Thing → List ℕ
lines_of l [] = []
lines_of l (t ∷ things) = line_of l t ++ lines_of l things

-- a line for each closed thing of the layout, in the order of its things, and the last line
abbrev pub lines_closed : Site → Closings → List ℕ
lines_closed l c = lines_of l (closed_things l c) ++ codes "end\n"

-- behind the first line
abbrev pub writing : Site → (head : List ℕ) → AuxiliaryCounts → Closings → List ℕ
writing l head counts c = head ++ (lines_counted counts ++ lines_closed l c)

-- ---- reading

-- bytes begin with a text
abbrev pub begin_with : (text bytes : List ℕ) → Bool
begin_with text bytes = starts_with nat_eq bytes text

-- bytes are a text that was cut off
abbrev pub is_cut_off : (text bytes : List ℕ) → Bool
is_cut_off text bytes = nat_lt (length bytes) (length text) && begin_with bytes text

-- a line feed, which ends a line
abbrev pub ends_line : ℕ → Bool
ends_line byte = byte == 10

abbrev pub is_there : Option Named → Result Named FileFault
is_there None = Err NotThere
is_there (Some named) = Ok named

-- what a line says to be closed
abbrev pub said_in : Site → (line : List ℕ) → Result Named FileFault
said_in l line = if begin_with (codes "closed ") line then is_there (named_by l (drop 7 line)) else Err Damaged

-- nothing stands behind the last line
abbrev pub ended : Closings → (behind : List (List ℕ)) → Result Closings FileFault
ended c ([] ∷ []) = Ok c
ended c _ = Err Damaged

-- what a line says is closed too, and then the lines behind it are read
abbrev pub read_on : Result Named FileFault → (behind : Closings → Result Closings FileFault) → Closings → Result Closings FileFault
read_on (Ok named) behind c = behind (with_named c named)
read_on (Err fault) behind c = Err fault

-- A part of a text behind which no line feed stands is no whole line.
abbrev pub line_read : Site → (line : List ℕ) → (parts : List (List ℕ)) → (behind : Closings → Result Closings FileFault) → Closings → Result Closings FileFault
line_read l line [] behind c = Err CutOff
line_read l line (part ∷ parts) behind c = if bytes_eq line (codes "end") then ended c (part ∷ parts) else read_on (said_in l line) behind c

-- What is closed by the lines of a text, which is parted at its line feeds, where others before them closed this.
abbrev pub lines_read : Site → (parts : List (List ℕ)) → Closings → Result Closings FileFault
lines_read l [] c = Err CutOff
lines_read l (line ∷ parts) c = line_read l line parts (lines_read l parts) c

abbrev pub number_or_damage : Result ℕ Fault → Result ℕ FileFault
number_or_damage (Ok number) = Ok number
number_or_damage (Err fault) = Err Damaged

-- the number that a line says
abbrev pub number_said : (label line : List ℕ) → Result ℕ FileFault
number_said label line = if begin_with label line then number_or_damage (decimal (drop (length label) line)) else Err Damaged

abbrev pub number_then : {T : Type 0} → Result ℕ FileFault → (behind : ℕ → Result T FileFault) → Result T FileFault
number_then (Ok number) behind = behind number
number_then (Err fault) behind = Err fault

-- The number of the first line, and then the lines behind it are read. A part of a text behind which no line feed stands is no whole line.
abbrev pub number_read : {T : Type 0} → (label : List ℕ) → (parts : List (List ℕ)) → (behind : ℕ → List (List ℕ) → Result T FileFault) → Result T FileFault
number_read label [] behind = Err CutOff
number_read label (line ∷ []) behind = Err CutOff
number_read label (line ∷ (part ∷ parts)) behind = number_then (number_said label line) (λ number. behind number (part ∷ parts))

abbrev pub said_with : AuxiliaryCounts → Result Closings FileFault → Result Said FileFault
said_with counts (Ok c) = Ok (record { counts = counts; closings = c })
said_with counts (Err fault) = Err fault

-- all lines behind that of the releases
abbrev pub opens_read : Site → (releases : ℕ) → (parts : List (List ℕ)) → Result Said FileFault
opens_read l releases parts =
    number_read (codes "counted open ") parts (λ opens last. said_with (record { releases = releases; opens = opens }) (lines_read l last nothing))

-- all lines behind the first
abbrev pub all_read : Site → (parts : List (List ℕ)) → Result Said FileFault
all_read l parts = number_read (codes "counted release ") parts (opens_read l)

-- what is told of bytes that don't begin with the first line of this layout
abbrev pub fault_of : (head bytes : List ℕ) → FileFault
fault_of head bytes =
    if is_cut_off head bytes then CutOff else
    if begin_with (codes "layout ") bytes then OtherLayout else Damaged

-- what a file says, where it has these bytes
abbrev pub reading : Site → (head bytes : List ℕ) → Result Said FileFault
reading l head bytes =
    if begin_with head bytes
    then all_read l (slice_split ends_line (drop (length head) bytes))
    else Err (fault_of head bytes)
