use Rattle.simulator_recovery.proofs.Lemmas.Sections.SectionsRounds.{told_with_room}
use Rattle.simulator_recovery.proofs.sections.sections_are_reported_with_room.Goals as goal

pub returns : goal.returns
returns c = λ between later last flowing section reporter good reported long below room leaves. told_with_room c.laws_below.ensures c.laws_below.ensures between later last flowing section reporter good.flow.once good.flow.station good.flow.table good.flow.reached good.work good.works good.time reported long below room leaves
