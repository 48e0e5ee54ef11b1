use Rattle.std.proofs.Common.{◌≡◌, drop}
use Rattle.simulator_pair.specs.Pair.{indicated_after}
use Rattle.simulator_pair.proofs.lamp.indicate_all.Given as goal

abbrev pub invariant-loop-item : goal.invariant-loop-item
invariant-loop-item l =
    (indicated_after (drop l.item-index l.items) l.lamp.indicated ≡ indicated_after l.items l.initial.lamp.indicated)
    × (l.lamp.until ≡ l.initial.lamp.until)
