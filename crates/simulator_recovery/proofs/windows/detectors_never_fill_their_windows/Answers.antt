use Rattle.simulator_recovery.proofs.Lemmas.Windows.DetectorWindows.{detector_leaves, few_items_wait}
use Rattle.simulator_recovery.proofs.windows.detectors_never_fill_their_windows.Goals as goal

pub returns-clause-few : goal.returns-clause-few
returns-clause-few c = λ site table world reached place known e opened. few_items_wait site table world reached place known e opened

pub returns-clause-leaves : goal.returns-clause-leaves
returns-clause-leaves c = λ site table world station once reached place below happening may. detector_leaves c.laws_below.ensures site table station once place below world reached happening may
