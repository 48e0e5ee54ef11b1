use Rattle.simulator_move_laws.proofs.Controllers.Turns.{seen_driven}
use Rattle.simulator_move_laws.proofs.points.driven_points_are_seen_driven.Goals as goal

pub returns : goal.returns
returns c = seen_driven c.point_reports_its_moves.ensures.driven
