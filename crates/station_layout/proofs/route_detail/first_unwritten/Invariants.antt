use Rattle.std.proofs.Common.{◌≡◌, drop}
use Rattle.station_layout.specs.RouteDetails.{unwritten_at}
use Rattle.station_layout.specs.Search.{first_of}
use Rattle.station_layout.proofs.route_detail.first_unwritten.Given as goal

abbrev pub invariant-loop-left : goal.invariant-loop-left
invariant-loop-left l = first_of (unwritten_at l.layout l.route) (drop l.left-index l.path) ≡ first_of (unwritten_at l.layout l.route) l.path
