use Rattle.simulator_move_laws.proofs.Controllers.Lamps.{alone_seen, later_seen, later_told, restarted_seen, restarted_told}
use Rattle.simulator_move_laws.proofs.signals.signals_pass_time_and_restart.Goals as goal

pub returns-clause-passes : goal.returns-clause-passes
returns-clause-passes c elapsed of_client of_server moves ends host signal fit seen none goes =
    later_seen c.moves_of_links_are_moves.ensures.signal c.moves_of_links_are_moves.ensures.signal_link elapsed of_client of_server moves ends host signal none goes seen
    (later_told c.signal_shows_what_was_told.ensures.kept elapsed of_client of_server ends host fit seen.told)

pub returns-clause-restarts : goal.returns-clause-restarts
returns-clause-restarts c clock first object ends host signal fit fit_after seen goes =
    restarted_seen c.moves_of_links_are_moves.ensures.signal c.moves_of_links_are_moves.ensures.signal_link clock first object ends host signal fit_after goes seen
    (restarted_told c.signal_shows_what_was_told.ensures.kept clock first object ends host fit seen.told)

pub returns-clause-alone : goal.returns-clause-alone
returns-clause-alone c elapsed of_client of_server ends host signal fit fit_later seen =
    alone_seen c.moves_of_links_are_moves.ensures.signal c.moves_of_links_are_moves.ensures.signal_link elapsed of_client of_server ends host signal fit fit_later seen
    (later_told c.signal_shows_what_was_told.ensures.kept elapsed of_client of_server ends host fit seen.told)
