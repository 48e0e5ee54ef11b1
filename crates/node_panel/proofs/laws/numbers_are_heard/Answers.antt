use Rattle.node_panel.proofs.NumbersHeard.{number_heard}
use Rattle.node_panel.proofs.laws.numbers_are_heard.Goals as goal

pub returns : goal.returns
returns c site row value small = number_heard site row value (c.numbers_are_read_again.ensures.words row value small) (c.numbers_are_read_again.ensures.read row value small)
