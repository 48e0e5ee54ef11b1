use Rattle.simulator_recovery.proofs.Lemmas.Talk.ClientConversation.{client_acts}
use Rattle.simulator_recovery.proofs.talk.clients_act_on_what_they_expect.Goals as goal

pub returns : goal.returns
returns c = client_acts
