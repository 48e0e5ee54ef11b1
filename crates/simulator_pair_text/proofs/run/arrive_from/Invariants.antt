use Rattle.std.proofs.Common.{◌≡◌, ◌≤◌, ◌-◌, ◌+◌}
use Rattle.simulator_pair_text.specs.Flow.{arriving_from}
use Rattle.simulator_pair_text.proofs.run.arrive_from.Given as goal

-- what is left to arrive leads to the same end, and there is room for it
abbrev pub invariant-loop-index : goal.invariant-loop-index
invariant-loop-index l = record {
  run : arriving_from l.index (l.end - l.index) l.pair.run ≡ arriving_from l.first (l.end - l.first) l.fn.pair.run;
  room : l.fn.pair.room ≤ l.pair.room + (l.index - l.first);
  reached : l.first ≤ l.index;
  within : l.index - l.first ≤ l.end - l.first;
}
