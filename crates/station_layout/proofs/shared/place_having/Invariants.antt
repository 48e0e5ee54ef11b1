use Rattle.std.proofs.Common.{◌≡◌, ◌-◌}
use Rattle.station_layout.specs.SharedAdvice.{entries, first_behind}
use Rattle.station_layout.proofs.shared.place_having.Given as goal

abbrev pub invariant-loop-before : goal.invariant-loop-before
invariant-loop-before l =
    first_behind l.written l.what l.table l.before (entries l.written l.table - l.before) ≡ first_behind l.written l.what l.table 0 (entries l.written l.table)
