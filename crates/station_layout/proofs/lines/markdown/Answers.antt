use Rattle.std.proofs.Common.{◌∙◌, ◌++◌, ap, map, string_bytes}
use Rattle.station_layout.specs.Lines.{markdown_line}
use Rattle.station_layout.specs.inside.CellLines.{cells_in, line_cells}
use Rattle.station_layout.proofs.Tables.{told_more}
use Rattle.station_layout.proofs.lines.markdown.Goals as goal

pub loop-row-preserved : goal.loop-row-preserved
loop-row-preserved c =
    let old = c.loop-row.text.items in
    let table = cells_in c.args.lines.now in
    told_more line_cells (markdown_line table) c.add_rule.new.text.items c.in-Some.rows.now c.loop-row.row-index c.row-item.result old c.add_markdown-in-loop-row.new.text.items
    c.loop-row-test.true c.row-item.is c.loop-row.invariant
    (c.in_ok-add_markdown-2.ensures ∙ ap (λ cells. old ++ markdown_line table (map string_bytes cells)) c.deref-in-loop-row.ensures.value)
