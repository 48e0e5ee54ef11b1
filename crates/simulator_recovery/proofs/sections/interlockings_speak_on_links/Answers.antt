use Rattle.simulator_recovery.proofs.Lemmas.Windows.WindowsSpoken.{links_speak}
use Rattle.simulator_recovery.proofs.sections.interlockings_speak_on_links.Goals as goal

pub returns : goal.returns
returns c = λ between later more flowing link good. links_speak c.laws_below.ensures between later more flowing link good.flow.once good.flow.station good.flow.table good.flow.reached good.work good.works good.time
