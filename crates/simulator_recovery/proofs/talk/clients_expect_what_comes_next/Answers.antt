use Rattle.simulator_recovery.proofs.Lemmas.Talk.AlwaysExpected.{have_next}
use Rattle.simulator_recovery.proofs.talk.clients_expect_what_comes_next.Goals as goal

pub returns : goal.returns
returns c = λ site table world station once is_table reached. have_next c.laws_below.ensures site table station once is_table world reached
