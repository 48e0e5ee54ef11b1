use Rattle.std.proofs.Common.{◌≡◌, ◌++◌, drop}
use Rattle.std.specs.List.{filter}
use Rattle.lane_chart.specs.Spans.{is_drawn, spans_behind, spans_of}
use Rattle.lane_chart.proofs.spans.spans_of.Given as goal

-- the spans so far, and after them those from the open one on
abbrev pub invariant-loop-change : goal.invariant-loop-change
invariant-loop-change l = l.spans.items ++ spans_behind l.window l.before (filter (is_drawn l.window l.lane) (drop l.change-index l.changes)) ≡ spans_of l.window l.lane l.changes
