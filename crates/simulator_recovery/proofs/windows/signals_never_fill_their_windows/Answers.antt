use Rattle.simulator_recovery.proofs.Lemmas.Windows.SignalWindows.{four_wait, signal_leaves}
use Rattle.simulator_recovery.proofs.windows.signals_never_fill_their_windows.Goals as goal

pub returns-clause-few : goal.returns-clause-few
returns-clause-few c = four_wait

pub returns-clause-leaves : goal.returns-clause-leaves
returns-clause-leaves c = λ site table world station once reached. signal_leaves c.laws_below.ensures site table station once world reached
