-- What is drawn of a lane: from each change to the next. What is narrower than a unit of the chart is joined.
use Rattle.std.specs.Prelude.{ℕ, ◌*◌, ◌/◌, ◌-◌, ◌^◌, ◌==◌, ◌&&◌, min, nat_le, Bool, true, false, if◌then◌else◌, List, [], ◌∷◌, Option, Some, None}
use Rattle.std.specs.List.{filter}
use Rattle.lane_chart.specs.declared.change.Change.{Change}
use Rattle.lane_chart.specs.declared.lane.Kind.{Kind}
use Rattle.lane_chart.specs.declared.lane.Kind.TheVariants as kind
use Rattle.lane_chart.specs.declared.lane.Lane.{Lane}
use Rattle.lane_chart.specs.declared.scale.Window.{Window}
use Rattle.lane_chart.specs.declared.spans.Span.{Span}

-- ---- units

-- a time lies in a window
abbrev pub is_within : Window → ℕ → Bool
is_within window time = nat_le window.from time && nat_le time window.to

-- how many units a length of time has, of 1380 for all; products end at the greatest of a machine word
abbrev pub units_of : Window → ℕ → ℕ
units_of window length =
    if window.to - window.from == 0 then 0 else min (length * 1380) (2 ^ 64 - 1) / (window.to - window.from)

-- in which unit a time lies; what is earlier than the window lies in its first one
abbrev pub unit_of : Window → ℕ → ℕ
unit_of window time = units_of window (time - window.from)

-- ---- the changes of a lane

abbrev pub kind_number : Kind → ℕ
kind_number kind.Aspect = 0
kind_number kind.Authority = 1
kind_number kind.Position = 2
kind_number kind.Drive = 3
kind_number kind.Section = 4
kind_number kind.Route = 5
kind_number kind.SignalLink = 6
kind_number kind.PointLink = 7
kind_number kind.DetectorLink = 8

-- a change is one of a lane, and no later than the window
abbrev pub is_drawn : Window → Lane → Change → Bool
is_drawn window lane change =
    kind_number change.lane.kind == kind_number lane.kind && change.lane.place == lane.place && nat_le change.time window.to

-- ---- spans

-- what a change begins to show, up to the end of the chart
abbrev pub begun : Window → Change → Span
begun window change = record { left = unit_of window change.time; right = 1380; seen = change.seen; joins = false }

-- A change in the unit in which a span begins: its own is drawn, and it joins what is narrower.
abbrev pub joined : Change → Span → Span
joined change span = record span { seen = change.seen; joins = true }

abbrev pub ended : ℕ → Span → Span
ended unit span = record span { right = unit }

-- the spans from an open one on
unfoldable pub spans_behind : Window → Option Span → List Change → List Span
spans_behind window None [] = []
spans_behind window None (change ∷ later) = spans_behind window (Some (begun window change)) later
spans_behind window (Some last) [] = last ∷ []
spans_behind window (Some last) (change ∷ later) =
    if unit_of window change.time == last.left then spans_behind window (Some (joined change last)) later
    else ended (unit_of window change.time) last ∷ spans_behind window (Some (begun window change)) later

-- what is drawn of a lane
abbrev pub spans_of : Window → Lane → List Change → List Span
spans_of window lane changes = spans_behind window None (filter (is_drawn window lane) changes)
