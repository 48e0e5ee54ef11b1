use Rattle.ixl.proofs.Rules.{HaveFreed}
use Rattle.ixl.proofs.passage.free_by_passage.Given as goal

abbrev pub invariant-loop-place : goal.invariant-loop-place
invariant-loop-place l = HaveFreed l.number l._place l.fn.state l.state
