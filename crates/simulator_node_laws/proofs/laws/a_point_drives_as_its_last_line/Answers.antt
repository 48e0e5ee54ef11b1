use Rattle.simulator_node_laws.proofs.Lines.{drives_by_line}
use Rattle.simulator_node_laws.proofs.Said.{driven_by_lines}
use Rattle.simulator_node_laws.proofs.laws.a_point_drives_as_its_last_line.Goals as goal

pub returns : goal.returns
returns c = driven_by_lines drives_by_line
