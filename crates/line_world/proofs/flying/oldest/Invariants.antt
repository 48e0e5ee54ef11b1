use Rattle.line_world.proofs.InFlight.{IsPast}
use Rattle.line_world.proofs.flying.oldest.Given as goal

abbrev pub invariant-loop-place : goal.invariant-loop-place
invariant-loop-place l = IsPast l.bytes l.flying l.place
