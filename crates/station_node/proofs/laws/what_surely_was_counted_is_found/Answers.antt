use Rattle.station_node.proofs.Found.{counted_found}
use Rattle.station_node.proofs.laws.what_surely_was_counted_is_found.Goals as goal

pub returns : goal.returns
returns c l head fresh bytes readable moments once station =
    counted_found l head (λ all fit. c.written_is_read.ensures.counts l head all.counts all.closings once station fit) c.what_is_found_was_kept.ensures fresh bytes readable moments
