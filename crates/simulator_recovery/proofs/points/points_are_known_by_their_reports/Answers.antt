use Rattle.simulator_recovery.proofs.Lemmas.Points.KnownAlways.{have_told}
use Rattle.simulator_recovery.proofs.points.points_are_known_by_their_reports.Goals as goal

pub returns : goal.returns
returns c = λ site table world station once is_table reached. have_told c.laws_below.ensures site table station once is_table world reached
