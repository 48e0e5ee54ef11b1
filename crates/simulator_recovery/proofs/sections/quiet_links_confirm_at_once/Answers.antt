use Rattle.simulator_recovery.proofs.Lemmas.Windows.WindowsConfirmed.{confirms_at_once}
use Rattle.simulator_recovery.proofs.sections.quiet_links_confirm_at_once.Goals as goal

pub returns : goal.returns
returns c = λ between later one two three flowing link good. confirms_at_once c.laws_below.ensures between later one two three flowing link good.flow.once good.flow.station good.flow.table good.flow.reached good.work good.works good.time
