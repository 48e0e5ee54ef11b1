use Rattle.simulator_recovery.proofs.Lemmas.Talk.AlwaysFits.{have_fitting}
use Rattle.simulator_recovery.proofs.talk.hosts_expect_what_comes_next.Goals as goal

pub returns : goal.returns
returns c = λ site table world station once is_table reached. have_fitting c.laws_below.ensures site table station once is_table world reached
