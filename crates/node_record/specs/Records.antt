-- A node's record: its first line, as `node S1 first 7 for 60000` or `node IXL1 first 7 keeps closings releases 2 opens 1`, and the lines
-- after it.
use Rattle.std.specs.Prelude.{ℕ, ◌^◌, ◌==◌, ◌&&◌, ◌||◌, nat_lt, if◌then◌else◌, Bool, List, [], ◌∷◌, codes, Option, Some, None, Result, Ok, Err}
use Rattle.std.specs.List.{enumerate_from, slice_split}
use Rattle.std.specs.Str.{bytes_eq}
use Rattle.control_table.specs.layout.Entries.{Site}
use Rattle.replay_lines.specs.Text.{at_line}
use Rattle.replay_lines.specs.declared.text.SessionFault.{SessionFault}
use Rattle.replay_words.specs.Cut.{words}
use Rattle.replay_words.specs.Fault.{number_of, ◌>>=◌}
use Rattle.replay_words.specs.Read.{decimal}
use Rattle.replay_words.specs.declared.fault.Fault.{Fault}
use Rattle.replay_words.specs.declared.fault.Fault.TheVariants.{Name, Number, Words}
use Rattle.node_record.specs.RecordLines.{Line, line_said, node_of}
use Rattle.node_record.specs.declared.record_head.Head.{Head}

-- ---- its lines

abbrev pub but_last : {A : Type 0} → List A → List A
but_last [] = []
but_last (one ∷ []) = []
but_last (one ∷ next ∷ more) = one ∷ but_last (next ∷ more)

-- the lines of a text that end with a line feed: what stands after the last one was broken off
abbrev pub whole_lines : List ℕ → List (List ℕ)
whole_lines text = but_last (slice_split (λ b. b == 10) text)

-- ---- the first one

-- what the process of an interlocking kept of it in a file: its closings, or its locks, too
abbrev pub is_kept : List ℕ → List ℕ → Bool
is_kept word what = bytes_eq word (codes "keeps") && (bytes_eq what (codes "closings") || bytes_eq what (codes "locks"))

-- and how many auxiliary commands were counted before
abbrev pub are_counts : List ℕ → List ℕ → Bool
are_counts releases opens = bytes_eq releases (codes "releases") && bytes_eq opens (codes "opens")

-- for how many milliseconds the node was to run, where these words tell what it kept
abbrev pub time_if_kept : Option ℕ → List ℕ → List (List ℕ) → Result (Option ℕ) Fault
time_if_kept time keeps (what ∷ releases ∷ released ∷ opens ∷ opened ∷ []) =
    if is_kept keeps what && are_counts releases opens then (decimal released >>= λ more. decimal opened >>= λ others. Ok time) else Err Words
time_if_kept time keeps other = Err Words

abbrev pub time_before : Option ℕ → List (List ℕ) → Result (Option ℕ) Fault
time_before time [] = Ok time
time_before time (keeps ∷ other) = time_if_kept time keeps other

abbrev pub time_in : List (List ℕ) → Result (Option ℕ) Fault
time_in [] = Err Words
time_in (number ∷ other) = decimal number >>= λ time. time_before (Some time) other

-- the same, if it is told
abbrev pub time_said : List (List ℕ) → Result (Option ℕ) Fault
time_said [] = Ok None
time_said (word ∷ other) = if bytes_eq word (codes "for") then time_in other else time_if_kept None word other

-- the number of the node's first PDU
abbrev pub first_said : List ℕ → Result ℕ Fault
first_said word = do
  number ← decimal word
  if nat_lt number (2 ^ 32) then Ok number else Err Number

abbrev pub is_head : List ℕ → List ℕ → Bool
is_head kind first = bytes_eq kind (codes "node") && bytes_eq first (codes "first")

abbrev pub head_behind : ℕ → List ℕ → List (List ℕ) → Result Head Fault
head_behind node number time = do
  first ← first_said number
  for_ms ← time_said time
  Ok (record { node = node; first = first; for_ms = for_ms })

-- what words tell of the node of this name
abbrev pub head_words : List ℕ → ℕ → List (List ℕ) → Result Head Fault
head_words name node (kind ∷ word ∷ first ∷ number ∷ time) =
    if is_head kind first then (if bytes_eq word name then head_behind node number time else Err Name) else Err Words
head_words name node other = Err Words

abbrev pub head_said : Site → List ℕ → List (List ℕ) → Result Head Fault
head_said site name said = do
  node ← node_of site name
  head_words name node said

-- ---- all of it

-- what numbered lines tell, or the fault of the first faulty one
abbrev pub lines_said : Site → List (ℕ × List ℕ) → Result (List Line) SessionFault
lines_said site [] = Ok []
lines_said site (l ∷ more) = at_line l.0 (line_said site (words l.1)) (lines_said site more)

-- the first of numbered lines, which is empty where there is none, and those after it
abbrev pub first_of : List (ℕ × List ℕ) → List ℕ
first_of [] = []
first_of (first ∷ more) = first.1

abbrev pub behind_first : List (ℕ × List ℕ) → List (ℕ × List ℕ)
behind_first [] = []
behind_first (first ∷ more) = more

abbrev pub Said : Type 0
Said = Head × List Line

-- what the first line tells, and what those after it do; or the fault of the first faulty one
abbrev pub joined : Result Head Fault → Result (List Line) SessionFault → Result Said SessionFault
joined (Err fault) more = Err (record { line = 1; number = number_of fault })
joined (Ok head) (Ok lines) = Ok (head, lines)
joined (Ok head) (Err later) = Err later

abbrev pub record_said : Site → List ℕ → List ℕ → Result Said SessionFault
record_said site name text =
    let lines = enumerate_from 1 (whole_lines text)
    in joined (head_said site name (words (first_of lines))) (lines_said site (behind_first lines))
