use Rattle.simulator_recovery.proofs.Lemmas.Talk.AlwaysExpected.{have_talked}
use Rattle.simulator_recovery.proofs.talk.clients_have_said_what_their_stages_tell.Goals as goal

pub returns : goal.returns
returns c = λ site table world station once is_table reached. have_talked c.laws_below.ensures site table station once is_table world reached
