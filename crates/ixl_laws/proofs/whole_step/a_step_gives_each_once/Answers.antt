use Rattle.ixl_laws.specs.WholeStep.{heard}
use Rattle.ixl_laws.proofs.GivenOnce.{move_once, none_after_stop, proceed_once, stop_once}
use Rattle.ixl_laws.proofs.whole_step.a_step_gives_each_once.Goals as goal

pub returns-clause-stop : goal.returns-clause-stop
returns-clause-stop c now number input old new step = stop_once now old.state.sited.table step.turns (heard now input old) step.last step.follow number

pub returns-clause-withdrawn : goal.returns-clause-withdrawn
returns-clause-withdrawn c now number input old new step = none_after_stop now old.state.sited.table step.turns (heard now input old) step.last step.follow number

pub returns-clause-proceed : goal.returns-clause-proceed
returns-clause-proceed c now number input old new step = proceed_once now old.state.sited.table step.turns (heard now input old) step.last step.follow number

pub returns-clause-moves : goal.returns-clause-moves
returns-clause-moves c now point input old new step = move_once now old.state.sited.table step.turns (heard now input old) step.last step.follow point
