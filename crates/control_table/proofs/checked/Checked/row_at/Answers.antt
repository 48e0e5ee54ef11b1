use Rattle.std.proofs.Common.{ap, arith, length}
use Rattle.layout.specs.Entries.{Site}
use Rattle.control_table.proofs.ConflictLaws.{table-length, row-is}
use Rattle.control_table.proofs.checked.Checked.row_at.Goals as goal

pub index-requires : goal.index-requires
index-requires c =
    let n = table-length c.self.inside.layout c.self.inside.rows.items c.self.invariant.1 in
    let same = ap (λ (p : Site). length p.routes) c.self.view_is in
    let lt = c.requires in
    grind (arith, n, same, lt)

pub returns-clause-row : goal.returns-clause-row
returns-clause-row c = row-is c.self.inside.layout c.args.self.now c.self.inside.rows.items c.args.route c.index.result.now c.self.view_is c.self.invariant.1 c.requires c.index.ensures
