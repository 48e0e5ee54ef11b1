use Rattle.std.proofs.Common.{◌∙◌, length, ap, sym, arith}
use Rattle.ixl_state.specs.ixl_table.Table.{SitedTable}
use Rattle.ixl.proofs.Giver.{authority_here, authority_later, authority_past}
use Rattle.ixl.proofs.authority.authority.Goals as goal

pub has_authority_from-requires : goal.has_authority_from-requires
has_authority_from-requires c = omega (arith, c.loop-number-test.true, ap length (c.rows-number-end.ensures ∙ ap (λ (p : SitedTable). p.table.rows) c.table.ensures.sited))

pub returns-then-has_authority_from : goal.returns-then-has_authority_from
returns-then-has_authority_from c =
    let there = c.table.ensures.there c.loop-number.number (omega (arith, c.loop-number-test.true, ap length (c.rows-number-end.ensures ∙ ap (λ (p : SitedTable). p.table.rows) c.table.ensures.sited)))
    in authority_here c.args.signal c.loop-number.number c.args.state.now.sited.table.rows c.args.state.now.ixl.routes there.0 there.1 c.has_authority_from.result there.2.0 there.2.1
    (c.has_authority_from.ensures there.0 there.1 there.2) c.if-has_authority_from.true ∙ c.loop-number.invariant

pub loop-number-preserved : goal.loop-number-preserved
loop-number-preserved c =
    let there = c.table.ensures.there c.loop-number.number (omega (arith, c.loop-number-test.true, ap length (c.rows-number-end.ensures ∙ ap (λ (p : SitedTable). p.table.rows) c.table.ensures.sited)))
    in authority_later c.args.signal c.loop-number.number c.args.state.now.sited.table.rows c.args.state.now.ixl.routes there.0 there.1 c.has_authority_from.result there.2.0 there.2.1
    (c.has_authority_from.ensures there.0 there.1 there.2) c.if-has_authority_from.false ∙ c.loop-number.invariant

pub returns : goal.returns
returns c = sym (authority_past c.args.signal c.loop-number.number c.args.state.now.sited.table.rows c.args.state.now.ixl.routes
    (omega (arith, c.loop-number-test.false, ap length (c.rows-number-end.ensures ∙ ap (λ (p : SitedTable). p.table.rows) c.table.ensures.sited)))) ∙ c.loop-number.invariant
