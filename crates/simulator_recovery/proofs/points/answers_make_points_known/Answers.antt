use Rattle.simulator_recovery.proofs.Lemmas.Points.KnownReports.{is_known}
use Rattle.simulator_recovery.proofs.points.answers_make_points_known.Goals as goal

pub returns : goal.returns
returns c = λ site table old new place side once station is_table was_reached reached few answer. is_known c.laws_below.ensures site table station once is_table old new was_reached reached place few side answer.comes answer.last answer.ready answer.answered
