use Rattle.std.proofs.Common.{map}
use Rattle.std.proofs.lemmas.Result.{err_from_is_err_and}
use Rattle.toml.specs.View.{view}
use Rattle.railway_layout.specs.Reading.{each_of}
use Rattle.railway_layout.proofs.Loops.{each-goes_on, each-ends, each-is_done}
use Rattle.railway_layout.proofs.steps.each.Goals as goal

pub returns-in_err-step : goal.returns-in_err-step
returns-in_err-step g c =
    let p = err_from_is_err_and c.from_residual.result c.from_residual.ensures.1 in
    let total = each_of (g.S.Step.gives c.args.step.now) 1 (map view c.args.from.now) in
    rw (p.1, p.2) (each-ends (g.S.Step.gives c.args.step.now) c.in_err-step.field-0.0 c.loop-before.made.items c.args.from.now c.loop-before.before c.index-from-before.result total c.loop-before-test.true c.index-from-before.is c.in_err-step.ensures c.loop-before.invariant)

pub loop-before-preserved : goal.loop-before-preserved
loop-before-preserved g c =
    let total = each_of (g.S.Step.gives c.args.step.now) 1 (map view c.args.from.now) in
    rw c.in_ok-push.ensures.items (each-goes_on (g.S.Step.gives c.args.step.now) c.loop-before.made.items c.args.from.now c.loop-before.before c.index-from-before.result c.in_ok-step.field-0 total c.loop-before-test.true c.index-from-before.is c.in_ok-step.ensures c.loop-before.invariant)

pub returns : goal.returns
returns g c =
    let total = each_of (g.S.Step.gives c.args.step.now) 1 (map view c.args.from.now) in
    each-is_done (g.S.Step.gives c.args.step.now) c.loop-before.made.items c.args.from.now c.loop-before.before total c.loop-before-test.false c.loop-before.invariant
