use Rattle.std.proofs.Common.{[]}
use Rattle.ixl_known.proofs.Went.{known_point_in, known_point_ticks}
use Rattle.ixl_known.proofs.known_point.KnownPoint.tick.Goals as goal

pub returns : goal.returns
returns c = known_point_in _ _ _ _ _ _ _ _ c.self.view_is (known_point_ticks _ _ _ _ _ _ (c.tick.ensures []) c.fall.ensures)
