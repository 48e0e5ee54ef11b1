use Rattle.simulator_recovery.proofs.Words.Controllers.{reading}
use Rattle.simulator_recovery.proofs.Lemmas.Talk.HostConversation.{host_acts}
use Rattle.simulator_recovery.proofs.talk.hosts_act_on_what_they_expect.Goals as goal

pub returns : goal.returns
returns g c = λ now item host. host_acts _ now item (reading item) host
