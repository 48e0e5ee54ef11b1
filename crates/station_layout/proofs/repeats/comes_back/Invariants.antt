use Rattle.std.proofs.Common.{◌≡◌, drop, false}
use Rattle.station_layout.specs.Repeats.{comes_back}
use Rattle.station_layout.proofs.repeats.comes_back.Given as goal

abbrev pub invariant-loop-left : goal.invariant-loop-left
invariant-loop-left l =
    comes_back l.layout l.section l.is_there l.has_left (drop l.left-index l.path) ≡ comes_back l.layout l.section false false l.path
