use Rattle.std.proofs.Common.{[], ◌∙◌, sym}
use Rattle.railway_layout.specs.Way.{way_on}
use Rattle.railway_layout.proofs.Ways.{way_found, way_is_done}
use Rattle.railway_layout.proofs.way.way_on.Goals as goal

pub returns-then-ends_at : goal.returns-then-ends_at
returns-then-ends_at c =
    sym (way_found c.args.joints.now c.args.border c.args.most c.loop-step._step c.loop-step.port c.loop-step.tracks.items (way_on c.args.joints.now c.args.border c.args.most c.args.from [])
    c.loop-step-test.true (sym c.ends_at.ensures ∙ c.if-ends_at.true) c.loop-step.invariant)

pub returns : goal.returns
returns c =
    sym (way_is_done c.args.joints.now c.args.border c.args.most c.loop-step._step c.loop-step.port c.loop-step.tracks.items (way_on c.args.joints.now c.args.border c.args.most c.args.from [])
    c.loop-step-test.false c.loop-step.invariant)
