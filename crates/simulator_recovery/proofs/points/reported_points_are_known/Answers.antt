use Rattle.simulator_recovery.proofs.Lemmas.Points.KnownBack.{is_known_again}
use Rattle.simulator_recovery.proofs.points.reported_points_are_known.Goals as goal

pub returns : goal.returns
returns c = λ site table start old new place side once station is_table start_reached was_reached reached few back. is_known_again c.laws_below.ensures site table station once is_table start old new start_reached was_reached reached place few side back
