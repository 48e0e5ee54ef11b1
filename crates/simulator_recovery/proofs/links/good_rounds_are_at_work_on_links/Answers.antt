use Rattle.simulator_recovery.proofs.Lemmas.Rounds.AtWork.{at_work_on_links}
use Rattle.simulator_recovery.proofs.links.good_rounds_are_at_work_on_links.Goals as goal

pub returns : goal.returns
returns c = λ old new leaves between before link flow. at_work_on_links c.laws_below.ensures c.laws_below.ensures old new leaves between before link flow.once flow.station flow.table flow.reached
