use Rattle.std.proofs.Common.{◌≡◌, ◌++◌}
use Rattle.station_record.specs.Lanes.{lanes_below}
use Rattle.station_record.proofs.lane_list.add_lanes.Given as goal

abbrev pub invariant-loop-place : goal.invariant-loop-place
invariant-loop-place l = l.lanes.items ≡ l.fn.lanes.items ++ lanes_below l.kind l.place
