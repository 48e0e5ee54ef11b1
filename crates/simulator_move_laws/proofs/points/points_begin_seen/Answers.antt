use Rattle.simulator_move_laws.proofs.Controllers.Turns.{begun_seen}
use Rattle.simulator_move_laws.proofs.points.points_begin_seen.Goals as goal

pub returns : goal.returns
returns c names start own_name peer_name object version place positions fit own peer small position =
    begun_seen names start own_name peer_name object version place positions fit own peer small position (c.links_are_represented.ensures.first names start)
    (c.point_reports_its_moves.ensures.starts names start own_name peer_name object version)
