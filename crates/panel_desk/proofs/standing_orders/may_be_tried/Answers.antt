use Rattle.std.proofs.Common.{ap, length, arith}
use Rattle.node_lines.specs.layout.Entries.{Site}
use Rattle.panel_desk.proofs.Judged.{behind, not_there, opposed, rests}
use Rattle.panel_desk.proofs.standing_orders.may_be_tried.Goals as goal

pub returns-then-one-routes : goal.returns-then-one-routes
returns-then-one-routes c =
    let above = c.if-one-routes.true in
    let many = ap (λ l. length l) c.routes.ensures in
    let same = ap (λ (s : Site). length s.routes) c.layout.ensures.entries in
    not_there c.args.table.now c.args.lines.now c.args.millis c.args.earlier.now c.args.one (omega (arith, above, many, same))

pub returns-then-is_opposed : goal.returns-then-is_opposed
returns-then-is_opposed c = opposed c.args.table.now c.args.lines.now c.args.millis c.args.earlier.now c.args.one c.is_opposed.result c.if-is_opposed.true c.is_opposed.ensures

pub returns-then-not-is_let_by : goal.returns-then-not-is_let_by
returns-then-not-is_let_by c = behind c.args.table.now c.args.lines.now c.args.millis c.args.earlier.now c.args.one c.is_let_by.result c.if-not-is_let_by.true c.is_let_by.ensures

pub returns : goal.returns
returns c =
    let below = c.if-one-routes.false in
    let many = ap (λ l. length l) c.routes.ensures in
    let same = ap (λ (s : Site). length s.routes) c.layout.ensures.entries in
    rests c.args.table.now c.args.lines.now c.args.millis c.args.earlier.now c.args.one c.is_rested.result c.is_opposed.result c.is_let_by.result (omega (arith, below, many, same))
    c.if-is_opposed.false c.is_opposed.ensures c.if-not-is_let_by.false c.is_let_by.ensures c.is_rested.ensures
