use Rattle.std.specs.Prelude.{◌*◌}
use Rattle.ixl_state.specs.ixl_spec.StepSoFar.{over}
use Rattle.ixl_state.specs.ixl_spec.Rules.{withdrawing}
use Rattle.ixl_state.specs.State.{Goes}
use Rattle.ixl.proofs.withdrawal.withdraw_routes.Given as goal

abbrev pub invariant-loop-number : goal.invariant-loop-number
invariant-loop-number l = Goes l.now (2 * l.number) (over (withdrawing l.now l.fn.state.sited.table) l.number) l.fn.state l.fn.outbox l.state l.outbox
