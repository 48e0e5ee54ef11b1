use Rattle.ixl_table.proofs.LockLaws.{point-held-somewhere}
use Rattle.ixl_table.proofs.laws.points_are_held_by_phase_at_a_side.Goals as goal

pub returns : goal.returns
returns c sited routes locks table are number row route is = point-held-somewhere sited routes locks are number row route is table
