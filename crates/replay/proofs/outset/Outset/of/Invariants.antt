use Rattle.std.proofs.Common.{◌≡◌, drop}
use Rattle.simulator.specs.simulator_spec.First.{IsOutsetOf}
use Rattle.replay.specs.Outset.{lines_in, outset_of}
use Rattle.replay.specs.inside.Outsets.{outset_in}
use Rattle.replay.proofs.outset.Outset.of.Given as goal

-- how it lies so far, and as the lines say that are left, is as all of them say
abbrev pub invariant-loop-line : goal.invariant-loop-line
invariant-loop-line l =
    (lines_in (outset_in l.outset) (drop l.line-index l.lines) ≡ outset_of l.layout l.lines) × IsOutsetOf l.layout (outset_in l.outset)
