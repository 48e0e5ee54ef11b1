use Rattle.simulator_move_laws.proofs.Controllers.Turns.{alone_seen, later_reported, later_seen, restarted_reported, restarted_seen}
use Rattle.simulator_move_laws.proofs.points.points_pass_time_and_restart.Goals as goal

pub returns-clause-passes : goal.returns-clause-passes
returns-clause-passes c elapsed of_client of_server moves ends host point fit fit_after seen none goes =
    later_seen c.moves_of_links_are_moves.ensures.point c.moves_of_links_are_moves.ensures.point_link elapsed of_client of_server moves ends host point fit fit_after none goes seen
    (later_reported c.point_reports_its_moves.ensures.kept elapsed of_client of_server ends host fit seen.reported)

pub returns-clause-restarts : goal.returns-clause-restarts
returns-clause-restarts c clock first object ends host point fit fit_after seen stands goes =
    restarted_seen c.moves_of_links_are_moves.ensures.point c.moves_of_links_are_moves.ensures.point_link clock first object ends host point fit fit_after stands goes seen
    (restarted_reported c.point_reports_its_moves.ensures.kept clock first object ends host fit seen.reported)

pub returns-clause-alone : goal.returns-clause-alone
returns-clause-alone c elapsed of_client of_server ends host point fit fit_later seen =
    alone_seen c.moves_of_links_are_moves.ensures.point c.moves_of_links_are_moves.ensures.point_link elapsed of_client of_server ends host point fit fit_later seen
    (later_reported c.point_reports_its_moves.ensures.kept elapsed of_client of_server ends host fit seen.reported)
