use Rattle.std.proofs.Common.{◌∙◌, length, ap, sym, arith}
use Rattle.ixl_state.specs.ixl_spec.Operations.{keeps_open}
use Rattle.ixl_state.specs.ixl_table.Table.{SitedTable}
use Rattle.ixl.proofs.FirstRoutes.{first_here, first_later, first_past}
use Rattle.ixl.proofs.operations.first_keeping_open.Goals as goal

pub keeps_open-requires : goal.keeps_open-requires
keeps_open-requires c = omega (arith, c.loop-number-test.true, ap length (c.rows-number-end.ensures ∙ ap (λ (p : SitedTable). p.table.rows) c.table.ensures.sited))

pub returns-then-keeps_open : goal.returns-then-keeps_open
returns-then-keeps_open c =
    let there = c.table.ensures.there c.loop-number.number (omega (arith, c.loop-number-test.true, ap length (c.rows-number-end.ensures ∙ ap (λ (p : SitedTable). p.table.rows) c.table.ensures.sited)))
    in first_here (keeps_open c.args.state.now.sited.table c.args.state.now.ixl c.args.named) c.loop-number.number c.args.state.now.sited.table.rows c.args.state.now.ixl.routes there.0 there.1 c.keeps_open.result there.2.0 there.2.1
    (c.keeps_open.ensures there.0 there.1 there.2) c.if-keeps_open.true ∙ c.loop-number.invariant

pub loop-number-preserved : goal.loop-number-preserved
loop-number-preserved c =
    let there = c.table.ensures.there c.loop-number.number (omega (arith, c.loop-number-test.true, ap length (c.rows-number-end.ensures ∙ ap (λ (p : SitedTable). p.table.rows) c.table.ensures.sited)))
    in first_later (keeps_open c.args.state.now.sited.table c.args.state.now.ixl c.args.named) c.loop-number.number c.args.state.now.sited.table.rows c.args.state.now.ixl.routes there.0 there.1 c.keeps_open.result there.2.0 there.2.1
    (c.keeps_open.ensures there.0 there.1 there.2) c.if-keeps_open.false ∙ c.loop-number.invariant

pub returns : goal.returns
returns c = sym (first_past (keeps_open c.args.state.now.sited.table c.args.state.now.ixl c.args.named) c.loop-number.number c.args.state.now.sited.table.rows c.args.state.now.ixl.routes
    (omega (arith, c.loop-number-test.false, ap length (c.rows-number-end.ensures ∙ ap (λ (p : SitedTable). p.table.rows) c.table.ensures.sited)))) ∙ c.loop-number.invariant
