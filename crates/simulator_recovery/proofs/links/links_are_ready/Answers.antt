use Rattle.simulator_recovery.proofs.Lemmas.Links.Ready.{links_ready}
use Rattle.simulator_recovery.proofs.links.links_are_ready.Goals as goal

pub returns : goal.returns
returns c = λ between later flowing link good. links_ready c.laws_below.ensures between later flowing link good.flow.once good.flow.station good.flow.table good.flow.reached good.work good.works good.time
