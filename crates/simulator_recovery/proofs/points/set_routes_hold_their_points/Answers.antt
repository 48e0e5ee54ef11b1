use Rattle.simulator_recovery.proofs.Lemmas.Points.SidesRoutes.{holds_point}
use Rattle.simulator_recovery.proofs.points.set_routes_hold_their_points.Goals as goal

pub returns : goal.returns
returns c = λ site table world number row need is_table. holds_point site table is_table world.interlocking.ixl number row need
