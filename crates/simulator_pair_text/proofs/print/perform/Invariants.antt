use Rattle.std.proofs.Common.{IsOk, ℕ, List}
use Rattle.std.specs.Io.KnownBytes.{Appends}
use Rattle.simulator_pair_text.specs.Text.{run_of, said}
use Rattle.simulator_pair_text.proofs.Transcripts.{GoesOn}
use Rattle.simulator_pair_text.proofs.print.perform.Given as goal

-- what was written so far, that it goes on to a transcript of the whole text, and that the lines that are left say
-- something
abbrev pub invariant-loop-number : goal.invariant-loop-number
invariant-loop-number g l =
    (written : List ℕ)
    × Appends (g.W.Write.contents l.fn.out) (g.W.Write.contents l.out) written
    × GoesOn (run_of l.fn.text) written l.run (said l.number-iterator)
    × IsOk (said l.number-iterator)
