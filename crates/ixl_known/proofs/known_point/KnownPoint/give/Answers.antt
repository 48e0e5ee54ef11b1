use Rattle.std.proofs.Common.{[]}
use Rattle.ixl_known.proofs.Went.{gives_move, known_point_in}
use Rattle.ixl_known.proofs.known_point.KnownPoint.give.Goals as goal

pub returns : goal.returns
returns c = known_point_in _ _ _ _ _ _ _ _ c.self.view_is (gives_move _ _ _ _ _ _ _ _ _ (c.command.ensures []) c.all_below-self-inside.ensures c.fall.ensures)
