use Rattle.simulator_recovery.proofs.Lemmas.Windows.RoomWindows.{few_wait}
use Rattle.simulator_recovery.proofs.windows.points_controllers_never_fill_their_windows.Goals as goal

pub returns : goal.returns
returns c = λ site table world station once is_table reached place controller there. few_wait c.laws_below.ensures site table station once is_table world reached place controller there
