use Rattle.node_kinds.specs.simulator_spec.ixl_spec.closings.Closed.{closed_things}
use Rattle.station_node.proofs.ToldFirst.{told_first}
use Rattle.station_node.proofs.laws.what_is_found_is_told_first.Goals as goal

pub returns : goal.returns
returns c l found calls so = told_first l found calls (closed_things l found.closings) so
