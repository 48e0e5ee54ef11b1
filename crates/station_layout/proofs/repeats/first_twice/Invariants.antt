use Rattle.std.proofs.Common.{◌≡◌, drop}
use Rattle.station_layout.specs.Repeats.{twice_at}
use Rattle.station_layout.specs.Search.{first_of}
use Rattle.station_layout.proofs.repeats.first_twice.Given as goal

abbrev pub invariant-loop-left : goal.invariant-loop-left
invariant-loop-left l = first_of (twice_at l.layout l.path) (drop l.left-index l.path) ≡ first_of (twice_at l.layout l.path) l.path
