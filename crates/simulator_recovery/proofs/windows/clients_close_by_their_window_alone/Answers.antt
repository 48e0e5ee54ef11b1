use Rattle.simulator_recovery.proofs.Lemmas.Windows.StationCloses.{stay_open}
use Rattle.simulator_recovery.proofs.windows.clients_close_by_their_window_alone.Goals as goal

pub returns : goal.returns
returns c = λ site table world happening station once is_table reached may. stay_open c.laws_below.ensures site table station once is_table world reached happening may
