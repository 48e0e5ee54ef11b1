use Rattle.simulator_recovery.proofs.Lemmas.Sections.SectionsInTime.{known_in_time}
use Rattle.simulator_recovery.proofs.sections.sections_are_reported.Goals as goal

pub returns : goal.returns
returns c = λ between later more flowing section reporter good reported long enough below leaves. known_in_time c.laws_below.ensures between flowing section reporter good.flow.once good.flow.station good.flow.table good.flow.reached good.work reported later more good.works good.time long enough below leaves
