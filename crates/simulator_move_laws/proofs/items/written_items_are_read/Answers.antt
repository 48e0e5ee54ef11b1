use Rattle.sci_telegram.specs.Telegrams.{writing}
use Rattle.simulator_move_laws.specs.Items.{aspects_of, moves_of, reports_of}
use Rattle.simulator_move_laws.proofs.Links.Items.{read_one}
use Rattle.simulator_move_laws.proofs.items.written_items_are_read.Goals as goal

pub returns-clause-aspects : goal.returns-clause-aspects
returns-clause-aspects c telegram is = read_one aspects_of (writing telegram) telegram (c.written_is_read.ensures.read telegram is)

pub returns-clause-moves : goal.returns-clause-moves
returns-clause-moves c telegram is = read_one moves_of (writing telegram) telegram (c.written_is_read.ensures.read telegram is)

pub returns-clause-reports : goal.returns-clause-reports
returns-clause-reports c telegram is = read_one reports_of (writing telegram) telegram (c.written_is_read.ensures.read telegram is)
