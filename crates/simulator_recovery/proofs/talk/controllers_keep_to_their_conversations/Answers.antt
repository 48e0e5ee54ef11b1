use Rattle.simulator_recovery.proofs.Lemmas.Talk.AlwaysTold.{have_told}
use Rattle.simulator_recovery.proofs.talk.controllers_keep_to_their_conversations.Goals as goal

pub returns : goal.returns
returns c = λ site table world station once reached. have_told c.laws_below.ensures site table station once world reached
