use Rattle.std.proofs.Common.{◌≡◌, [], fold, take}
use Rattle.station_record.specs.inside.KindLanes.{with_lanes}
use Rattle.station_record.proofs.lane_list.lanes_of.Given as goal

abbrev pub invariant-loop-kind : goal.invariant-loop-kind
invariant-loop-kind l = l.lanes.items ≡ fold with_lanes [] (take l.kind-index l.kind-items)
