use Rattle.std.proofs.lemmas.Result.{err_from_is_err_and}
use Rattle.layout_text.specs.FirstFault.{all_of}
use Rattle.layout_text.proofs.Loops.{all-goes_on, all-ends, all-is_done}
use Rattle.layout_text.proofs.steps.all.Goals as goal

pub returns-in_err-step : goal.returns-in_err-step
returns-in_err-step g c =
    let p = err_from_is_err_and c.from_residual.result c.from_residual.ensures.1 in
    let gives = g.S.Step.gives c.args.step.now c.args.place in
    rw (p.1, p.2) (all-ends gives c.in_err-step.field-0.0 c.loop-entry.made.items c.args.from.now c.loop-entry.entry-index c.entry-item.result (all_of gives c.args.from.now) c.loop-entry-test.true c.entry-item.is c.in_err-step.ensures c.loop-entry.invariant)

pub loop-entry-preserved : goal.loop-entry-preserved
loop-entry-preserved g c =
    let gives = g.S.Step.gives c.args.step.now c.args.place in
    rw c.in_ok-push.ensures.items (all-goes_on gives c.loop-entry.made.items c.args.from.now c.loop-entry.entry-index c.entry-item.result c.in_ok-step.field-0 (all_of gives c.args.from.now) c.loop-entry-test.true c.entry-item.is c.in_ok-step.ensures c.loop-entry.invariant)

pub returns : goal.returns
returns g c =
    let gives = g.S.Step.gives c.args.step.now c.args.place in
    all-is_done gives c.loop-entry.made.items c.args.from.now c.loop-entry.entry-index (all_of gives c.args.from.now) c.loop-entry-test.false c.loop-entry.invariant
