-- The lanes of a station, kind by kind.
use Rattle.std.specs.Prelude.{ℕ, List, ◌++◌}
use Rattle.lane_chart.specs.declared.lane.Kind.{Kind}
use Rattle.lane_chart.specs.declared.lane.Lane.{Lane}
use Rattle.station_record.specs.Lanes.{lanes_below}

-- lanes, and those of a kind, of so many places
abbrev pub with_lanes : List Lane → Kind × ℕ → List Lane
with_lanes lanes kind = lanes ++ lanes_below kind.0 kind.1
