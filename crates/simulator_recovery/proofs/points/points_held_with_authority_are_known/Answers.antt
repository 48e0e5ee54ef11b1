use Rattle.simulator_recovery.proofs.Lemmas.Points.AwaitsHeld.{ready_available}
use Rattle.simulator_recovery.proofs.Lemmas.Points.EndedAlways.{held_rests}
use Rattle.simulator_recovery.proofs.Lemmas.Points.FieldPointsKnown.{rests_known}
use Rattle.simulator_recovery.proofs.Lemmas.RoutesComing.HeldNeeds.{needs_there}
use Rattle.simulator_recovery.proofs.points.points_held_with_authority_are_known.Goals as goal

pub returns : goal.returns
returns c = λ site table world number row route need once station is_table reached is holds within up ready.
    rests_known c.laws_below.ensures site table world need.point need.side once station is_table reached
    (held_rests c.laws_below.ensures site table station once is_table number row is.0 need within (needs_there site table station is_table number row is.0 need within) world reached route is holds) up
    (ready_available c.laws_below.ensures.move_is_given_where_due site table world number row route need is_table reached is holds within ready)
