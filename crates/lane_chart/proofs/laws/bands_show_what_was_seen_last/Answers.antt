use Rattle.std.proofs.Common.{None}
use Rattle.std.specs.List.{filter}
use Rattle.lane_chart.specs.Spans.{is_drawn}
use Rattle.lane_chart.proofs.SeenLast.{from_none}
use Rattle.lane_chart.proofs.laws.bands_show_what_was_seen_last.Goals as goal

pub returns : goal.returns
returns c = λ window lane changes unit. from_none window unit None (filter (is_drawn window lane) changes)
