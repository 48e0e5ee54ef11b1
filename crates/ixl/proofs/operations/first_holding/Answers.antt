use Rattle.std.proofs.Common.{◌∙◌, length, ap, sym, arith}
use Rattle.ixl_state.specs.ixl_spec.View.{holds_point}
use Rattle.ixl_state.specs.ixl_table.Table.{SitedTable}
use Rattle.ixl.proofs.FirstRoutes.{first_here, first_later, first_past}
use Rattle.ixl.proofs.operations.first_holding.Goals as goal

pub holds-requires : goal.holds-requires
holds-requires c = omega (arith, c.loop-number-test.true, ap length (c.rows-number-end.ensures ∙ ap (λ (p : SitedTable). p.table.rows) c.table.ensures.sited))

pub returns-then-holds : goal.returns-then-holds
returns-then-holds c =
    let there = c.table.ensures.there c.loop-number.number (omega (arith, c.loop-number-test.true, ap length (c.rows-number-end.ensures ∙ ap (λ (p : SitedTable). p.table.rows) c.table.ensures.sited)))
    in first_here (λ number row route. holds_point row route.phase c.args.point) c.loop-number.number c.args.state.now.sited.table.rows c.args.state.now.ixl.routes there.0 there.1 c.holds.result there.2.0 there.2.1
    (c.holds.ensures there.0 there.1 there.2) c.if-holds.true ∙ c.loop-number.invariant

pub loop-number-preserved : goal.loop-number-preserved
loop-number-preserved c =
    let there = c.table.ensures.there c.loop-number.number (omega (arith, c.loop-number-test.true, ap length (c.rows-number-end.ensures ∙ ap (λ (p : SitedTable). p.table.rows) c.table.ensures.sited)))
    in first_later (λ number row route. holds_point row route.phase c.args.point) c.loop-number.number c.args.state.now.sited.table.rows c.args.state.now.ixl.routes there.0 there.1 c.holds.result there.2.0 there.2.1
    (c.holds.ensures there.0 there.1 there.2) c.if-holds.false ∙ c.loop-number.invariant

pub returns : goal.returns
returns c = sym (first_past (λ number row route. holds_point row route.phase c.args.point) c.loop-number.number c.args.state.now.sited.table.rows c.args.state.now.ixl.routes
    (omega (arith, c.loop-number-test.false, ap length (c.rows-number-end.ensures ∙ ap (λ (p : SitedTable). p.table.rows) c.table.ensures.sited)))) ∙ c.loop-number.invariant
