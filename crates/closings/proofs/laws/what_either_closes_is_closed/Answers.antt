use Rattle.closings.proofs.Either.{either_closed, track_has}
use Rattle.closings.proofs.laws.what_either_closes_is_closed.Goals as goal

pub returns-clause-either : goal.returns-clause-either
returns-clause-either c = either_closed

pub returns-clause-track : goal.returns-clause-track
returns-clause-track c = track_has
