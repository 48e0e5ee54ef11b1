use Rattle.simulator_recovery.proofs.Lemmas.Links.ConfirmedLinks.{links_confirm}
use Rattle.simulator_recovery.proofs.links.links_confirm.Goals as goal

pub returns : goal.returns
returns c = λ between later replied last flowing link good. links_confirm c.laws_below.ensures between later replied last flowing link good.flow.once good.flow.station good.flow.table good.flow.reached good.work good.works good.time
