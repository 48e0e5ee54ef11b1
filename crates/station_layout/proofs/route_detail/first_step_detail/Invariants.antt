use Rattle.std.proofs.Common.{◌≡◌, drop}
use Rattle.station_layout.specs.Search.{first_step}
use Rattle.station_layout.specs.inside.StepsFound.{step_found}
use Rattle.station_layout.proofs.route_detail.first_step_detail.Given as goal

abbrev pub invariant-loop-left : goal.invariant-loop-left
invariant-loop-left l =
    first_step (step_found l.layout l.route l.start l.fault) l.before (drop l.left-index l.path) ≡ first_step (step_found l.layout l.route l.start l.fault) l.start l.path
