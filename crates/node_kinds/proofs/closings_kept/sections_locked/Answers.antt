use Rattle.std.proofs.Common.{◌∙◌, ◌+◌, ap, length, sym, subst, arith}
use Rattle.simulator_spec.specs.bit_row.Places.{Places}
use Rattle.simulator_spec.specs.ixl_spec.Table.{SitedTable}
use Rattle.node_kinds.proofs.Locked.{AreLockedBelow, all_locked, more_locked, none_locked}
use Rattle.node_kinds.proofs.closings_kept.sections_locked.Goals as goal

pub loop-number-init : goal.loop-number-init
loop-number-init c =
    let state = c.args.state.now in
    subst (λ (s : Places). AreLockedBelow state.sited.table.rows state.ixl.routes 0 s) (sym c.empty-sections.ensures) (none_locked state.sited.table.rows state.ixl.routes)

pub locked-requires : goal.locked-requires
locked-requires c =
    let rows = ap length (c.rows-number-end.ensures ∙ ap (λ (s : SitedTable). s.table.rows) c.table.ensures.sited) in
    omega (arith, rows, c.loop-number-test.true)

pub loop-number-preserved : goal.loop-number-preserved
loop-number-preserved c =
    let state = c.args.state.now in
    let number = c.loop-number.number in
    let rows = ap length (c.rows-number-end.ensures ∙ ap (λ (s : SitedTable). s.table.rows) c.table.ensures.sited) in
    let there = c.table.ensures.there number (omega (arith, rows, c.loop-number-test.true)) in
    subst (λ (s : Places). AreLockedBelow state.sited.table.rows state.ixl.routes (number + 1) s) (sym c.union-sections.ensures)
    (more_locked state.sited.table.rows state.ixl.routes number there.0 there.1 c.loop-number.sections c.locked.result there.2.0 there.2.1 (c.locked.ensures there.0 there.1 there.2) c.loop-number.invariant)

pub returns : goal.returns
returns c section =
    let state = c.args.state.now in
    let rows = ap length (c.rows-number-end.ensures ∙ ap (λ (s : SitedTable). s.table.rows) c.table.ensures.sited) in
    let all = all_locked section state.sited.table.rows state.ixl.routes c.loop-number.number (omega (arith, rows, c.loop-number-test.false)) in
    let so_far = c.loop-number.invariant section in
    (λ has. all.0 (so_far.0 has), λ locks. so_far.1 (all.1 locks))
