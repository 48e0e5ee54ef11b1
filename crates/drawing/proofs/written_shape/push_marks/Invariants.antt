use Rattle.std.proofs.Common.{◌≡◌, ◌++◌, take}
use Rattle.std.specs.List.{flat_map}
use Rattle.drawing.specs.Svg.{mark_text}
use Rattle.drawing.proofs.written_shape.push_marks.Given as goal

abbrev pub invariant-loop-mark : goal.invariant-loop-mark
invariant-loop-mark l = l.svg.items ≡ l.fn.svg.items ++ flat_map mark_text (take l.mark-index l.marks)
