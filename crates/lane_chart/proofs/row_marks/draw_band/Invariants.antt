use Rattle.std.proofs.Common.{◌≡◌, ◌++◌, take}
use Rattle.std.specs.List.{flat_map}
use Rattle.lane_chart.specs.Faces.{span_strokes}
use Rattle.lane_chart.specs.Strokes.{named, strokes}
use Rattle.lane_chart.proofs.row_marks.draw_band.Given as goal

abbrev pub invariant-loop-span : goal.invariant-loop-span
invariant-loop-span l = record {
  drawn : strokes l.marks.marks.items ≡ strokes l.initial.marks.marks.items ++ flat_map span_strokes (take l.span-index l.spans);
  named : named l.marks.marks.items ≡ named l.initial.marks.marks.items;
}
