use Rattle.simulator_recovery.proofs.Lemmas.Windows.PointWindows.{point_leaves}
use Rattle.simulator_recovery.proofs.windows.points_never_fill_their_windows.Goals as goal

pub returns : goal.returns
returns c = λ site table world station once is_table reached place below happening intact. point_leaves c.laws_below.ensures site table station once is_table place below world reached happening intact
