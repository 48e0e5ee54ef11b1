use Rattle.std.proofs.Common.{◌≡◌, ◌+◌, drop}
use Rattle.layout_text.specs.FirstFault.{each_of}
use Rattle.layout_text.proofs.Loops.{with_front}
use Rattle.layout_text.proofs.steps.each.Given as goal

abbrev pub invariant-loop-before : goal.invariant-loop-before
invariant-loop-before g l = with_front l.made.items (each_of (g.S.Step.gives l.step) l.table (l.before + 1) (drop l.before l.from)) ≡ each_of (g.S.Step.gives l.step) l.table 1 l.from
