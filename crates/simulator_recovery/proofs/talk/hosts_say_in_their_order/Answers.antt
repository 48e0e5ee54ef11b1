use Rattle.simulator_recovery.proofs.Words.Basics.{refl}
use Rattle.simulator_recovery.proofs.Words.Controllers.{item_of}
use Rattle.simulator_recovery.proofs.Lemmas.Talk.HostSaid.{step_says}
use Rattle.simulator_recovery.proofs.talk.hosts_say_in_their_order.Goals as goal

pub returns : goal.returns
returns g c = λ now input host items objects many stands has opened. step_says _ (item_of host) host.version many objects now items input host stands refl refl has opened
