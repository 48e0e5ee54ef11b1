use Rattle.std.proofs.Common.{◌∙◌, ap, length, map, max, string_bytes}
use Rattle.station_layout.specs.Lines.{cell_at}
use Rattle.station_layout.specs.inside.CellLines.{line_cells}
use Rattle.station_layout.proofs.Tables.{folded_more}
use Rattle.station_layout.proofs.lines.width.Goals as goal

pub loop-line-preserved : goal.loop-line-preserved
loop-line-preserved c =
    let cell = c.cell.ensures ∙ ap (λ cells. cell_at c.args.place (map string_bytes cells)) c.deref.ensures.value in
    folded_more line_cells (λ width line. max width (length (cell_at c.args.place line))) c.args.lines.now c.loop-line.line-index c.line-item.result c.loop-line.width c.wider-width.result
    c.loop-line-test.true c.line-item.is c.loop-line.invariant (c.wider-width.ensures ∙ ap (λ text. max c.loop-line.width (length text)) cell)
