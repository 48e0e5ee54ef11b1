use Rattle.std.proofs.Common.{◌≡◌, drop}
use Rattle.line_laws.specs.Step.{all_taken}
use Rattle.line_end.proofs.line_end.LineEnd.take_all.Given as goal

-- What is left to be taken leads from here to where all leads from the beginning.
abbrev pub invariant-loop-item : goal.invariant-loop-item
invariant-loop-item l = (l.self.side ≡ l.initial.self.side) × (all_taken l.seen (drop l.item-index l.items) l.self.end ≡ all_taken l.seen l.items l.initial.self.end)
