use Rattle.std.proofs.Common.{◌≡◌, ◌++◌, take}
use Rattle.std.specs.List.{flat_map}
use Rattle.drawing.specs.Svg.{group_text}
use Rattle.drawing.proofs.written_picture.push_groups.Given as goal

abbrev pub invariant-loop-group : goal.invariant-loop-group
invariant-loop-group l = l.svg.items ≡ l.fn.svg.items ++ flat_map group_text (take l.group-index l.groups)
