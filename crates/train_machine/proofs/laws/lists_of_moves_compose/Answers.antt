use Rattle.train_machine.proofs.Composed.{stays, one_move, then_reaches}
use Rattle.train_machine.proofs.laws.lists_of_moves_compose.Goals as goal

pub returns-clause-none : goal.returns-clause-none
returns-clause-none c = stays

pub returns-clause-one : goal.returns-clause-one
returns-clause-one c = one_move

pub returns-clause-then : goal.returns-clause-then
returns-clause-then c = then_reaches
