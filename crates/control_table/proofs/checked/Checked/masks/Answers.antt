use Rattle.std.proofs.Common.{arith}
use Rattle.control_table.proofs.MaskLaws.{kept-inside, kept-are}
use Rattle.control_table.proofs.checked.Checked.masks.Goals as goal

pub index-requires : goal.index-requires
index-requires c =
    let inside = c.self.inside in
    let held = c.self.invariant in
    let lt = kept-inside inside.layout c.args.self.now inside.rows.items inside.masks.items c.args.route c.self.view_is held.0.0 held.1 held.2 c.requires in
    grind (arith, lt)

pub returns : goal.returns
returns c =
    let inside = c.self.inside in
    let held = c.self.invariant in
    kept-are inside.layout c.args.self.now inside.rows.items inside.masks.items c.args.route c.self.view_is held.0.0 held.1 held.2 c.requires c.index.result.now c.index.ensures
