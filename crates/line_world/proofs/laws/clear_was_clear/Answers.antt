use Rattle.line_world.proofs.Histories.{clear_is_so}
use Rattle.line_world.proofs.laws.clear_was_clear.Goals as goal

pub returns : goal.returns
returns c = clear_is_so c.laws_below.ensures
