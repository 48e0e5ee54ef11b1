use Rattle.std.proofs.Common.{◌≡◌, ◌++◌, take}
use Rattle.std.specs.List.{flat_map}
use Rattle.drawing.specs.Svg.{strip_text}
use Rattle.drawing.proofs.written_picture.push_strips.Given as goal

abbrev pub invariant-loop-strip : goal.invariant-loop-strip
invariant-loop-strip l = l.svg.items ≡ l.fn.svg.items ++ flat_map strip_text (take l.strip-index l.strips)
