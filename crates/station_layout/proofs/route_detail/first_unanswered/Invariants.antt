use Rattle.std.proofs.Common.{◌≡◌, drop}
use Rattle.station_layout.specs.RouteDetails.{unanswered}
use Rattle.station_layout.specs.Search.{first_of}
use Rattle.station_layout.proofs.route_detail.first_unanswered.Given as goal

abbrev pub invariant-loop-other : goal.invariant-loop-other
invariant-loop-other l = first_of (unanswered l.layout l.route) (drop l.other-index l.extra) ≡ first_of (unanswered l.layout l.route) l.extra
