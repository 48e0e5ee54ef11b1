use Rattle.simulator_recovery.proofs.Lemmas.Points.MovesKnown.{is_available_then}
use Rattle.simulator_recovery.proofs.points.answered_points_are_available.Goals as goal

pub returns : goal.returns
returns c = is_available_then c.laws_below.ensures
