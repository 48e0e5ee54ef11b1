use Rattle.std.proofs.Common.{◌≡◌, ◌++◌, take}
use Rattle.std.specs.List.{flat_map}
use Rattle.std.specs.Prelude.{codes}
use Rattle.drawing.specs.Svg.{spot_text}
use Rattle.drawing.proofs.written_shape.push_points.Given as goal

abbrev pub invariant-loop-spot : goal.invariant-loop-spot
invariant-loop-spot l = l.svg.items ≡ (l.fn.svg.items ++ codes "\" points=\"") ++ flat_map spot_text (take l.spot-index l.spots)
