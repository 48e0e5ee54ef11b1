use Rattle.std.proofs.Common.{◌∙◌, ◌++◌}
use Rattle.station_layout.specs.Lines.{barred, padded}
use Rattle.station_layout.proofs.Tables.{joined_added, joined_begin}
use Rattle.station_layout.proofs.lines.add_markdown.Goals as goal

pub loop-place-init : goal.loop-place-init
loop-place-init c = joined_begin _ _

pub loop-place-preserved : goal.loop-place-preserved
loop-place-preserved c =
    joined_added _ _ _ _ c.loop-place.place c.loop-place.invariant
    (c.in_ok-add_cell.ensures ∙ (λ i. c.loop-place.text.items ++ barred (padded (c.width.ensures i) (c.cell.ensures i))))
