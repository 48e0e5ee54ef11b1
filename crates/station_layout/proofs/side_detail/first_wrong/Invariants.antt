use Rattle.std.proofs.Common.{◌≡◌, drop}
use Rattle.station_layout.specs.Search.{first_of}
use Rattle.station_layout.specs.inside.WrittenPoints.{wrong_at}
use Rattle.station_layout.proofs.side_detail.first_wrong.Given as goal

abbrev pub invariant-loop-written : goal.invariant-loop-written
invariant-loop-written l = first_of (wrong_at l.layout l.start l.path l.under) (drop l.written-index l.points) ≡ first_of (wrong_at l.layout l.start l.path l.under) l.points
