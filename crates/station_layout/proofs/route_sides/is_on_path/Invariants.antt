use Rattle.std.proofs.Common.{◌≡◌, drop}
use Rattle.station_layout.specs.RouteSides.{is_on_path}
use Rattle.station_layout.proofs.route_sides.is_on_path.Given as goal

abbrev pub invariant-loop-left : goal.invariant-loop-left
invariant-loop-left l = is_on_path (drop l.left-index l.path) l.point ≡ is_on_path l.path l.point
