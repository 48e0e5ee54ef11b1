-- The verdict on lines, one after the other.
use Rattle.std.proofs.Common.{IsOk, ◌≡◌, ℕ, List, Result, Ok, Err, refl}
use Rattle.simulator_pair_text.specs.declared.line.PairLine.{PairLine}
use Rattle.simulator_pair_text.specs.declared.text.LineFault.{LineFault}
use Rattle.simulator_pair_text.specs.Text.{at_line}

-- nothing, or the fault
abbrev pub verdict : Result (List PairLine) LineFault → Result (Unit {0}) LineFault
verdict (Ok all) = Ok tt
verdict (Err fault) = Err fault

-- a line without a fault leaves the verdict to the lines after it
pub verdict-at_line : (number : ℕ) (this : PairLine) (more : Result (List PairLine) LineFault) → verdict (at_line number (Ok this) more) ≡ verdict more
verdict-at_line number this (Ok all) = refl
verdict-at_line number this (Err fault) = refl

-- a text that is judged well says something in each line
pub judged_ok : (said : Result (List PairLine) LineFault) → verdict said ≡ Ok tt → IsOk said
judged_ok (Ok all) well = refl
judged_ok (Err fault) well = cc

-- and then so do the lines after one
pub later_ok : (number : ℕ) (this : PairLine) (later : Result (List PairLine) LineFault) → IsOk (at_line number (Ok this) later) → IsOk later
later_ok number this (Ok all) well = refl
later_ok number this (Err fault) well = well
