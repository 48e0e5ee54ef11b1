use Rattle.simulator_machine.proofs.Composed.{signal_links_may, signal_links, point_links_may, point_links}
use Rattle.simulator_machine.proofs.chains.moves_of_links_are_moves.Goals as goal

pub returns-clause-signal : goal.returns-clause-signal
returns-clause-signal c = signal_links_may

pub returns-clause-signal_link : goal.returns-clause-signal_link
returns-clause-signal_link c = signal_links

pub returns-clause-point : goal.returns-clause-point
returns-clause-point c = point_links_may

pub returns-clause-point_link : goal.returns-clause-point_link
returns-clause-point_link c = point_links
