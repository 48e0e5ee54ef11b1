use Rattle.ixl_table.proofs.LockLaws.{point-held}
use Rattle.ixl_table.proofs.laws.points_are_held_by_phase.Goals as goal

pub returns : goal.returns
returns c sited routes locks table are number row route is = point-held sited routes locks are number row route is table
