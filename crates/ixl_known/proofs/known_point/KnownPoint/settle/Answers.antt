use Rattle.ixl_known.proofs.Went.{known_point_kept, known_point_settles}
use Rattle.ixl_known.proofs.known_point.KnownPoint.settle.Goals as goal

pub returns-clause-known_point : goal.returns-clause-known_point
returns-clause-known_point c = known_point_settles _ _ _ _ _ c.self.view_is c.settle.ensures.client c.fall.ensures

pub returns-clause-kept : goal.returns-clause-kept
returns-clause-kept c = known_point_kept _ _ _ _ _ c.self.view_is c.settle.ensures.kept c.fall.ensures
