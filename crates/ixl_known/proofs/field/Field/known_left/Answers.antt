use Rattle.ixl_known.proofs.Known.{known_at}
use Rattle.ixl_known.proofs.field.Field.known_left.Goals as goal

pub returns : goal.returns
returns c rest = known_at _ rest _ _ _ c.self.view_is c.self.invariant.points_are.left
