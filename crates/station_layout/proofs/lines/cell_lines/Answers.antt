use Rattle.station_layout.specs.inside.CellLines.{line_cells}
use Rattle.station_layout.proofs.Rows.{route_there}
use Rattle.station_layout.proofs.Tables.{heads_begin, line_added}
use Rattle.station_layout.proofs.lines.cell_lines.Goals as goal

pub loop-place-init : goal.loop-place-init
loop-place-init c =
    heads_begin line_cells c.args.table.now c.new-lines.result.items c.push.new.self.items c.in_ok-head_cells.field-0 c.new-lines.ensures.items c.in_ok-push.ensures.items c.in_ok-head_cells.ensures

pub cells_of-requires-clause-entry : goal.cells_of-requires-clause-entry
cells_of-requires-clause-entry c =
    route_there c.args.table.now c.layout.result.now c.routes-entry-items.result.now c.loop-place.place c.entry-item.result c.layout.ensures.entries c.routes-entry-items.ensures c.loop-place-test.true c.entry-item.is

pub loop-place-preserved : goal.loop-place-preserved
loop-place-preserved c =
    let at = route_there c.args.table.now c.layout.result.now c.routes-entry-items.result.now c.loop-place.place c.entry-item.result c.layout.ensures.entries c.routes-entry-items.ensures c.loop-place-test.true c.entry-item.is in
    let added = c.in_ok-cells_of.ensures in
    line_added line_cells c.args.table.now c.loop-place.place c.entry-item.result added.0 c.loop-place.lines.items c.push-in-loop-place.new.self.items c.in_ok-cells_of.field-0
    c.loop-place.invariant at added.1 c.in_ok-push-2.ensures.items added.2
