use Rattle.simulator_recovery.proofs.Lemmas.Links.HandedOver.{hands_over}
use Rattle.simulator_recovery.proofs.lamps.links_hand_over.Goals as goal

pub returns : goal.returns
returns c = λ between later last flowing link good. hands_over c.laws_below.ensures between later last flowing link good.flow.once good.flow.station good.flow.table good.flow.reached good.work good.works good.time
