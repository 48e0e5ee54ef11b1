use Rattle.simulator_move_laws.proofs.Controllers.Lamps.{shows}
use Rattle.simulator_move_laws.proofs.signals.signal_shows_what_is_seen.Goals as goal

pub returns : goal.returns
returns c = shows c.signal_shows_what_was_told.ensures.shown
