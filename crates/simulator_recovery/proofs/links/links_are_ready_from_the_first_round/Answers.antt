use Rattle.simulator_recovery.proofs.Lemmas.Links.FirstRoundUp.{ready_from_the_first}
use Rattle.simulator_recovery.proofs.links.links_are_ready_from_the_first_round.Goals as goal

pub returns : goal.returns
returns c = λ between later flowing link good. ready_from_the_first c.laws_below.ensures c.read_was_written.ensures.intact c.laws_below.ensures.intact_is_tested between later flowing link good.flow.once good.flow.station good.flow.table good.flow.reached good.work good.works good.time
