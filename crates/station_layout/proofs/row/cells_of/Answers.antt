use Rattle.std.proofs.Common.{string_bytes}
use Rattle.station_layout.proofs.Columns.{all_cells, cell_added}
use Rattle.station_layout.proofs.row.cells_of.Goals as goal

pub loop-column-init : goal.loop-column-init
loop-column-init c = rw c.new-texts.ensures.items (λ rest are. are)

pub loop-column-preserved : goal.loop-column-preserved
loop-column-preserved c =
    cell_added string_bytes c.args.table.now c.args.id c.args.entry.now c.loop-column.column-index _ c.loop-column.texts.items c.push.new.self.items c.in_ok-cell_of.field-0
    c.loop-column-test.true c.in_ok-cell_of.ensures c.in_ok-push.ensures.items c.loop-column.invariant

pub returns : goal.returns
returns c =
    all_cells string_bytes c.args.table.now c.args.id c.args.entry.now c.loop-column.column-index c.loop-column.texts.items c.loop-column-test.false c.loop-column.invariant
