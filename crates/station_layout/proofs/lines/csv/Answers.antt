use Rattle.std.proofs.Common.{◌∙◌, ◌++◌, [], ap, map, string_bytes}
use Rattle.csv.specs.Writing.{default_writer, row_text}
use Rattle.station_layout.specs.inside.CellLines.{line_cells}
use Rattle.station_layout.proofs.Tables.{told_more}
use Rattle.station_layout.proofs.lines.csv.Goals as goal

pub loop-line-preserved : goal.loop-line-preserved
loop-line-preserved c =
    let old = c.loop-line.text.items in
    let line = c.deref-in-loop-line.ensures.value ∙ c.in_ok-csv_line.ensures ∙ ap (λ cells. row_text default_writer (map string_bytes cells)) c.deref.ensures.value in
    told_more line_cells (row_text default_writer) [] c.args.lines.now c.loop-line.line-index c.line-item.result old c.extend_from_slice.new.self.items
    c.loop-line-test.true c.line-item.is c.loop-line.invariant (c.in_ok-extend_from_slice.ensures.items ∙ ap (λ added. old ++ added) line)
