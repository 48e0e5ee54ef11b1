use Rattle.simulator_move_laws.proofs.Interlocking.FitBehind.{command_fits, datagram_fits, tick_fits}
use Rattle.simulator_move_laws.proofs.parts.clients_fit_behind_each_part.Goals as goal

pub returns-clause-datagram : goal.returns-clause-datagram
returns-clause-datagram c = datagram_fits

pub returns-clause-command : goal.returns-clause-command
returns-clause-command c = command_fits

pub returns-clause-tick : goal.returns-clause-tick
returns-clause-tick c = tick_fits
