use Rattle.std.proofs.Common.{◌≡◌, drop}
use Rattle.station_layout.specs.RouteDetails.{in_the_way}
use Rattle.station_layout.specs.Search.{first_of}
use Rattle.station_layout.proofs.route_detail.first_in_the_way.Given as goal

abbrev pub invariant-loop-left : goal.invariant-loop-left
invariant-loop-left l = first_of (in_the_way l.layout l.exit) (drop l.left-index l.path) ≡ first_of (in_the_way l.layout l.exit) l.path
