use Rattle.station_node.proofs.Found.{closed_found}
use Rattle.station_node.proofs.laws.what_surely_is_closed_is_found.Goals as goal

pub returns : goal.returns
returns c l head fresh bytes readable moments t once station there =
    closed_found l head (λ all u fit has closed. (c.written_is_read.ensures.things l head all.counts all.closings u once station fit).1 (has, closed)) c.what_is_found_was_kept.ensures fresh bytes readable moments t there
