use Rattle.ixl_table.proofs.FirstLaws.{held-somewhere}
use Rattle.ixl_table.proofs.laws.points_are_held_by_some_phase.Goals as goal

pub returns : goal.returns
returns c sited ixl locks table each are = held-somewhere sited ixl locks table each are
