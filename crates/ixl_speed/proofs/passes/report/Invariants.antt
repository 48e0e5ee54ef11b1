use Rattle.ixl_state.specs.State.{MayStepAll}
use Rattle.ixl_speed.proofs.passes.report.Given as goal

abbrev pub invariant-loop-pass : goal.invariant-loop-pass
invariant-loop-pass l = MayStepAll l.now l.ixl.state

abbrev pub invariant-loop-place : goal.invariant-loop-place
invariant-loop-place l = MayStepAll l.now l.ixl.state
