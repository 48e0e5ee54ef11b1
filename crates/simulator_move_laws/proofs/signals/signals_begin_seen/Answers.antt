use Rattle.simulator_move_laws.proofs.Controllers.Lamps.{begun_seen}
use Rattle.simulator_move_laws.proofs.signals.signals_begin_seen.Goals as goal

pub returns : goal.returns
returns c names start own_name peer_name object version place positions fit =
    begun_seen names start own_name peer_name object version place positions fit (c.links_are_represented.ensures.first names start)
    (c.signal_shows_what_was_told.ensures.starts names start own_name peer_name object version)
