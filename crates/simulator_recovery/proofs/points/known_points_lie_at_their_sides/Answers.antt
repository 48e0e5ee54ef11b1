use Rattle.simulator_recovery.proofs.Lemmas.Points.QuietLies.{known_lies}
use Rattle.simulator_recovery.proofs.points.known_points_lie_at_their_sides.Goals as goal

pub returns : goal.returns
returns c = λ site table world place side once station is_table reached up known. known_lies c.laws_below.ensures site table once station is_table world reached place side up known
