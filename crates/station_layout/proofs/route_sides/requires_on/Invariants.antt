use Rattle.std.proofs.Common.{◌≡◌, drop}
use Rattle.station_layout.specs.RouteSides.{requires_on}
use Rattle.station_layout.proofs.route_sides.requires_on.Given as goal

abbrev pub invariant-loop-left : goal.invariant-loop-left
invariant-loop-left l = requires_on l.layout l.point l.side l.before (drop l.left-index l.path) ≡ requires_on l.layout l.point l.side l.fn.start l.path
