use Rattle.std.proofs.Common.{◌≡◌, drop}
use Rattle.station_layout.specs.RouteStart.{is_written}
use Rattle.station_layout.proofs.route_start.is_written.Given as goal

abbrev pub invariant-loop-other : goal.invariant-loop-other
invariant-loop-other l = is_written (drop l.other-index l.points) l.point ≡ is_written l.points l.point
