use Rattle.simulator.specs.simulator_spec.Flow.{Flowing}
use Rattle.replay.specs.Outset.{outset_of}
use Rattle.replay.specs.Transcript.{IsBeginning}
use Rattle.replay.specs.inside.Runs.{flowing_of}
use Rattle.replay.proofs.Transcripts.{GoesOn}
use Rattle.replay.proofs.play.perform.Given as goal

-- what was written so far goes on to a transcript of all lines by a station that lies as they say when it is started
abbrev pub invariant-loop-line : goal.invariant-loop-line
invariant-loop-line g l =
    (first : Flowing)
    × IsBeginning l.fn.table (outset_of l.fn.table l.lines) first
    × GoesOn first l.lines l.line-index (flowing_of l.run) (g.W.Write.contents l.fn.out) (g.W.Write.contents l.out)
