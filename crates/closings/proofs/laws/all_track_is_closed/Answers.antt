use Rattle.closings.proofs.Rows.{nothing_closed, track_closed}
use Rattle.closings.proofs.laws.all_track_is_closed.Goals as goal

pub returns-clause-none : goal.returns-clause-none
returns-clause-none c = nothing_closed

pub returns-clause-all : goal.returns-clause-all
returns-clause-all c = track_closed
