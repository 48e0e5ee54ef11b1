use Rattle.line_world.proofs.Histories.{locks_so}
use Rattle.line_world.proofs.laws.both_locks_are_never_right.Goals as goal

pub returns : goal.returns
returns c = locks_so c.laws_below.ensures
