-- Which text is a run of a pair, and which fault is told of another.
use Rattle.std.specs.Prelude.{ℕ, if◌then◌else◌, List, [], ◌∷◌, Result, Ok, Err}
use Rattle.std.specs.List.{enumerate_from}
use Rattle.replay_words.specs.declared.fault.Fault.{Fault}
use Rattle.replay_words.specs.Cut.{lines, is_passed_over}
use Rattle.simulator_pair_text.specs.declared.line.PairLine.{PairLine}
use Rattle.simulator_pair_text.specs.declared.text.LineFault.{LineFault}
use Rattle.simulator_pair_text.specs.Line.{line}

-- what a line says before the lines after it, or its fault
abbrev pub at_line : ℕ → Result PairLine Fault → Result (List PairLine) LineFault → Result (List PairLine) LineFault
at_line number (Ok said) (Ok more) = Ok (said ∷ more)
at_line number (Ok said) (Err later) = Err later
at_line number (Err fault) more = Err (record { line = number; fault = fault })

-- what numbered lines say, or the fault of the first faulty one
abbrev pub said : List (ℕ × List ℕ) → Result (List PairLine) LineFault
said [] = Ok []
said (l ∷ more) = if is_passed_over l.1 then said more else at_line l.0 (line l.1) (said more)

-- what the lines of a text say
abbrev pub run_of : List ℕ → Result (List PairLine) LineFault
run_of text = said (enumerate_from 1 (lines text))
