use Rattle.node_kinds.specs.simulator_spec.ixl_spec.closings.Closed.{is_closed}
use Rattle.whole_file.specs.Keeping.{begins}
use Rattle.closings_file.specs.Files.{found_in}
use Rattle.std.proofs.Common.{◌++◌}
use Rattle.station_node.specs.Closings.{begun}
use Rattle.station_node.proofs.KeptLast.{kept_is_sure}
use Rattle.station_node.proofs.laws.what_was_kept_last_is_found.Goals as goal

pub returns : goal.returns
returns c l head fresh bytes readable earlier life before t once station there answered one so is last =
    c.what_surely_is_closed_is_found.ensures l head fresh bytes readable (earlier ++ life) t once station there answered
    (kept_is_sure l head t (λ one other. c.what_either_closes_is_closed.ensures.either one other t) earlier life (begun l head readable (begins fresh bytes)) (is_closed (found_in l head bytes).closings) before one so is last)
