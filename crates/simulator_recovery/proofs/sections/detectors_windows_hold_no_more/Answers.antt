use Rattle.simulator_recovery.proofs.Lemmas.Windows.WindowsFew.{few_wait}
use Rattle.simulator_recovery.proofs.sections.detectors_windows_hold_no_more.Goals as goal

pub returns : goal.returns
returns c = λ site table world station once is_table reached place inside up. few_wait c.laws_below.ensures site table station once is_table world place reached inside up
