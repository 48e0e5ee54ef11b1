use Rattle.simulator_recovery.proofs.Lemmas.Links.ComeUp.{come_up}
use Rattle.simulator_recovery.proofs.links.links_come_up.Goals as goal

pub returns : goal.returns
returns c = λ between later flowing link good. come_up c.laws_below.ensures between later flowing link good.flow.once good.flow.station good.flow.table good.flow.reached good.work good.works good.time
