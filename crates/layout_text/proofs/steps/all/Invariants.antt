use Rattle.std.proofs.Common.{◌≡◌, drop}
use Rattle.layout_text.specs.FirstFault.{all_of}
use Rattle.layout_text.proofs.Loops.{with_front}
use Rattle.layout_text.proofs.steps.all.Given as goal

abbrev pub invariant-loop-entry : goal.invariant-loop-entry
invariant-loop-entry g l = with_front l.made.items (all_of (g.S.Step.gives l.step l.place) (drop l.entry-index l.from)) ≡ all_of (g.S.Step.gives l.step l.place) l.from
