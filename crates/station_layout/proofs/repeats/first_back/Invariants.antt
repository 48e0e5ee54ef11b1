use Rattle.std.proofs.Common.{◌≡◌, drop}
use Rattle.station_layout.specs.Repeats.{back_at}
use Rattle.station_layout.specs.Search.{first_of}
use Rattle.station_layout.proofs.repeats.first_back.Given as goal

abbrev pub invariant-loop-left : goal.invariant-loop-left
invariant-loop-left l = first_of (back_at l.layout l.path) (drop l.left-index l.path) ≡ first_of (back_at l.layout l.path) l.path
