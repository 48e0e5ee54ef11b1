use Rattle.ixl_state.specs.State.{MayStepAll}
use Rattle.ixl_speed.proofs.passes.tick.Given as goal

abbrev pub invariant-loop-pass : goal.invariant-loop-pass
invariant-loop-pass l = MayStepAll l.now l.ixl.state
