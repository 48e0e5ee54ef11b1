use Rattle.simulator_recovery.proofs.Lemmas.Points.AwaitsHeld.{awaits_nothing}
use Rattle.simulator_recovery.proofs.points.points_held_with_authority_await_nothing.Goals as goal

pub returns : goal.returns
returns c = awaits_nothing c.laws_below.ensures.move_is_given_where_due
