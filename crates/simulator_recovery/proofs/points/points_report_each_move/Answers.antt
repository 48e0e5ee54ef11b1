use Rattle.simulator_recovery.proofs.Lemmas.Points.FieldPointsStep.{have_owed}
use Rattle.simulator_recovery.proofs.points.points_report_each_move.Goals as goal

pub returns : goal.returns
returns c = λ site table world station once is_table reached. have_owed c.laws_below.ensures c.laws_below.ensures site table station once is_table world reached
