use Rattle.simulator_move_laws.specs.Items.{aspects_of, moves_of, reports_of}
use Rattle.simulator_move_laws.proofs.Links.Items.{joined}
use Rattle.simulator_move_laws.proofs.items.items_join.Goals as goal

pub returns-clause-aspects : goal.returns-clause-aspects
returns-clause-aspects c = joined aspects_of

pub returns-clause-moves : goal.returns-clause-moves
returns-clause-moves c = joined moves_of

pub returns-clause-reports : goal.returns-clause-reports
returns-clause-reports c = joined reports_of
