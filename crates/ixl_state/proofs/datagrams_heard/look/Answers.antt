use Rattle.std.proofs.Common.{ℕ, ◌<◌, ◌∙◌, length, ap, sym, subst, arith}
use Rattle.ixl_spec.specs.StepSoFar.{over}
use Rattle.ixl_spec.specs.Step.{looking_by}
use Rattle.ixl_table.specs.Table.{SitedTable}
use Rattle.ixl_state.specs.inside.DetectorHeard.{Passes}
use Rattle.ixl_state.proofs.StepParts.{one_over, passed_clock, passed_site}
use Rattle.ixl_state.proofs.datagrams_heard.look.Goals as goal

pub look_by-requires-clause-there : goal.look_by-requires-clause-there
look_by-requires-clause-there c = subst (λ (p : SitedTable). c.loop-number.number < length p.table.rows) (sym (passed_site c.args.now (over (looking_by c.args.section c.args.occupied c.args.state.now.sited.table) c.loop-number.number) c.args.state.now c.loop-number.state c.loop-number.invariant))
    (omega (arith, c.loop-number-test.true, ap length (c.rows-number-end.ensures ∙ ap (λ (p : SitedTable). p.table.rows) c.table.ensures.sited)))

pub look_by-requires-clause-clock : goal.look_by-requires-clause-clock
look_by-requires-clause-clock c = passed_clock c.args.now (over (looking_by c.args.section c.args.occupied c.args.state.now.sited.table) c.loop-number.number) c.args.state.now c.loop-number.state c.loop-number.invariant

pub loop-number-preserved : goal.loop-number-preserved
loop-number-preserved c = one_over c.args.now (looking_by c.args.section c.args.occupied) c.loop-number.number c.args.state.now c.loop-number.state c.look_by.new.state c.loop-number.invariant c.look_by.ensures

pub returns : goal.returns
returns c = subst (λ (n : ℕ). Passes c.args.now (over (looking_by c.args.section c.args.occupied c.args.state.now.sited.table) n) c.args.state.now c.loop-number.state)
    (omega (arith, c.loop-number-test.false, c.loop-number.auto.number-end, ap length (c.rows-number-end.ensures ∙ ap (λ (p : SitedTable). p.table.rows) c.table.ensures.sited))) c.loop-number.invariant
