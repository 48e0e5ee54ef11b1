use Rattle.std.proofs.Common.{◌≡◌, drop, false}
use Rattle.station_layout.specs.Repeats.{comes_twice}
use Rattle.station_layout.proofs.repeats.comes_twice.Given as goal

abbrev pub invariant-loop-left : goal.invariant-loop-left
invariant-loop-left l = comes_twice l.element l.was_there (drop l.left-index l.path) ≡ comes_twice l.element false l.path
