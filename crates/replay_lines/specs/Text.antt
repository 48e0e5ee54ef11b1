-- What the lines of a file for the simulation say, and which fault is told of another text.
use Rattle.std.specs.Prelude.{◌≡◌, ◌==◌, Bool, true, false, ℕ, if◌then◌else◌, List, [], ◌∷◌, ◌++◌, codes, Result, Ok, Err}
use Rattle.std.specs.List.{enumerate_from}
use Rattle.std.specs.Fmt.{decimal}
use Rattle.replay_words.specs.Fault.{number_of, ◌>>=◌}
use Rattle.replay_words.specs.declared.fault.Fault.{Fault}
use Rattle.replay_words.specs.declared.fault.Fault.TheVariants.{Memory}
use Rattle.replay_words.specs.Cut.{lines, is_passed_over}
use Rattle.ixl_spec.specs.layout.Entries.{Site}
use Rattle.replay_lines.specs.declared.line.SimLine.{SimLine}
use Rattle.replay_lines.specs.declared.text.SessionFault.{SessionFault}
use Rattle.replay_lines.specs.Line.{line}
use Rattle.replay_lines.specs.Outset.{may_stand}

-- what a line says before the lines after it, or its fault
abbrev pub at_line : {A : Type 0} → ℕ → Result A Fault → Result (List A) SessionFault → Result (List A) SessionFault
at_line number (Ok said) (Ok more) = Ok (said ∷ more)
at_line number (Ok said) (Err later) = Err later
at_line number (Err fault) more = Err (record { line = number; number = number_of fault })

-- what a line says after earlier ones, if it may stand there
abbrev pub line_behind : Site → List SimLine → List ℕ → Result SimLine Fault
line_behind site earlier text = do
  this ← line site text
  stands ← may_stand earlier this
  Ok this

-- what a line says before those after it, or its fault
abbrev pub before : ℕ → Result SimLine Fault → (SimLine → Result (List SimLine) SessionFault) → Result (List SimLine) SessionFault
before number (Ok this) more = at_line number (Ok this) (more this)
before number (Err fault) more = Err (record { line = number; number = number_of fault })

-- what numbered lines say after earlier ones, or the fault of the first faulty one
abbrev pub said : Site → List SimLine → List (ℕ × List ℕ) → Result (List SimLine) SessionFault
said site earlier [] = Ok []
said site earlier (l ∷ more) =
    if is_passed_over l.1 then said site earlier more
    else before l.0 (line_behind site earlier l.1) (λ this. said site (earlier ++ this ∷ []) more)

-- what the lines of a text say
abbrev pub lines_said : Site → List ℕ → Result (List SimLine) SessionFault
lines_said site text = said site [] (enumerate_from 1 (lines text))

-- where memory was lacking that is told instead of what is so
abbrev pub Unless : Bool → Type 0 → Type 0
Unless true so = Unit {0}
Unless false so = so

-- the number of the fault that is told of a line
abbrev pub FailsAt : {A : Type 0} → ℕ → ℕ → Result A SessionFault → Type 0
FailsAt line number said = Unless (number == number_of Memory) (said ≡ Err (record { line = line; number = number }))

abbrev pub Tells : {A B : Type 0} → (B → A) → Result A SessionFault → Result B SessionFault → Type 0
Tells view said (Ok told) = said ≡ Ok (view told)
Tells view said (Err told) = FailsAt told.line told.number said

-- how a fault is told
abbrev pub fault_text : SessionFault → List ℕ
fault_text fault = codes "session fault " ++ (decimal fault.number ++ (codes " at line " ++ decimal fault.line))
