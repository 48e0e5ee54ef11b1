use Rattle.std.proofs.Common.{◌≡◌, ◌++◌, replicate}
use Rattle.station_layout.proofs.lines.add_times.Given as goal

abbrev pub invariant-loop-done : goal.invariant-loop-done
invariant-loop-done l = l.text.items ≡ l.fn.text.items ++ replicate l.done l.byte
