use Rattle.simulator_recovery.proofs.Lemmas.Sections.SectionsRounds.{told_are_known}
use Rattle.simulator_recovery.proofs.sections.told_sections_are_known.Goals as goal

pub returns : goal.returns
returns c = λ between later last flowing section reporter good reported long below owes leaves. told_are_known c.laws_below.ensures between later last flowing section reporter good.flow.once good.flow.station good.flow.table good.flow.reached good.work good.works good.time reported long below owes leaves
