use Rattle.simulator_recovery.proofs.Lemmas.Windows.WindowsAlone.{speaks_alone}
use Rattle.simulator_recovery.proofs.sections.interlockings_speak_alone_to_detectors.Goals as goal

pub returns : goal.returns
returns c = λ between later one more flowing place good. speaks_alone c.laws_below.ensures between later one more flowing place good.flow.once good.flow.station good.flow.table good.flow.reached good.work good.works good.time
