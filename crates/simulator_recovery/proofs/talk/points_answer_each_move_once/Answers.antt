use Rattle.simulator_recovery.proofs.Lemmas.Talk.AlwaysExpected.{have_answered}
use Rattle.simulator_recovery.proofs.talk.points_answer_each_move_once.Goals as goal

pub returns : goal.returns
returns c = λ site table world station once is_table reached. have_answered c.laws_below.ensures site table station once is_table world reached
