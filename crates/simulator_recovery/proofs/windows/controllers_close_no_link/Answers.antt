use Rattle.simulator_recovery.proofs.Lemmas.Windows.OpenHosts.{close_none}
use Rattle.simulator_recovery.proofs.windows.controllers_close_no_link.Goals as goal

pub returns : goal.returns
returns c = λ site table world happening station once is_table reached can. close_none c.laws_below.ensures site table station once is_table world reached happening can
