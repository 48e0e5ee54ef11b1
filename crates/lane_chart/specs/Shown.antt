-- What a band shows in a unit of the chart, and what its lane showed last, up to the end of that unit.
use Rattle.std.specs.Prelude.{ℕ, nat_le, if◌then◌else◌, List, [], ◌∷◌, Option, Some, None}
use Rattle.std.specs.List.{filter}
use Rattle.lane_chart.specs.declared.change.Change.{Change}
use Rattle.lane_chart.specs.declared.lane.Lane.{Lane}
use Rattle.lane_chart.specs.declared.lane.Seen.{Seen}
use Rattle.lane_chart.specs.declared.scale.Window.{Window}
use Rattle.lane_chart.specs.declared.spans.Span.{Span}
use Rattle.lane_chart.specs.Spans.{is_drawn, unit_of}

-- the last span that has begun by then, where this was shown before
unfoldable pub shown_from : ℕ → Option Seen → List Span → Option Seen
shown_from unit before [] = before
shown_from unit before (span ∷ later) = shown_from unit (if nat_le span.left unit then Some span.seen else before) later

-- What spans show in a unit.
abbrev pub shown_in : ℕ → List Span → Option Seen
shown_in unit spans = shown_from unit None spans

-- the last change by then, where this was seen before
unfoldable pub seen_from : Window → ℕ → Option Seen → List Change → Option Seen
seen_from window unit before [] = before
seen_from window unit before (change ∷ later) = seen_from window unit (if nat_le (unit_of window change.time) unit then Some change.seen else before) later

-- What a lane showed last, up to the end of a unit.
abbrev pub seen_last : Window → Lane → ℕ → List Change → Option Seen
seen_last window lane unit changes = seen_from window unit None (filter (is_drawn window lane) changes)
