use Rattle.ixl_spec.specs.StepSoFar.{over}
use Rattle.ixl_spec.specs.Step.{looking_by}
use Rattle.ixl_state.specs.inside.DetectorHeard.{Passes}
use Rattle.ixl_state.proofs.datagrams_heard.look.Given as goal

abbrev pub invariant-loop-number : goal.invariant-loop-number
invariant-loop-number l = Passes l.now (over (looking_by l.section l.occupied l.fn.state.sited.table) l.number) l.fn.state l.state
