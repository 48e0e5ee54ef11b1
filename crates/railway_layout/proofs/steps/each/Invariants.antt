use Rattle.std.proofs.Common.{◌≡◌, ◌+◌, drop, map}
use Rattle.toml.specs.View.{view}
use Rattle.railway_layout.specs.Reading.{each_of}
use Rattle.railway_layout.proofs.Loops.{with_front}
use Rattle.railway_layout.proofs.steps.each.Given as goal

abbrev pub invariant-loop-before : goal.invariant-loop-before
invariant-loop-before g l = with_front l.made.items (each_of (g.S.Step.gives l.step) (l.before + 1) (map view (drop l.before l.from))) ≡ each_of (g.S.Step.gives l.step) 1 (map view l.from)
