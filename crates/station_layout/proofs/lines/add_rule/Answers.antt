use Rattle.std.proofs.Common.{◌∙◌, ◌++◌, max, replicate}
use Rattle.station_layout.specs.Lines.{barred}
use Rattle.station_layout.proofs.Tables.{joined_added, joined_begin}
use Rattle.station_layout.proofs.lines.add_rule.Goals as goal

pub loop-place-init : goal.loop-place-init
loop-place-init c = joined_begin _ _

pub loop-place-preserved : goal.loop-place-preserved
loop-place-preserved c =
    joined_added _ _ _ _ c.loop-place.place c.loop-place.invariant
    (c.in_ok-add_rule_cell.ensures ∙ (λ i. c.loop-place.text.items ++ barred (replicate (max (c.width.ensures i) 3) 45)))
