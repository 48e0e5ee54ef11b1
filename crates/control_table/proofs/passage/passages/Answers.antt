use Rattle.std.proofs.Common.{sym}
use Rattle.control_table.specs.inside.TableTests.{passages}
use Rattle.control_table.proofs.Loops.{passages-goes_on, passages-ends, passages-is_done}
use Rattle.control_table.proofs.passage.passages.Goals as goal

pub returns-in-None : goal.returns-in-None
returns-in-None c =
    passages-ends c.args.place.now c.args.joints.now c.loop-left.passages.items c.args.path.now c.loop-left.left-index _ c.loop-left.before (passages c.args.place.now c.args.joints.now c.args.start c.args.path.now) c.loop-left-test.true (sym c.in-None.ensures) c.loop-left.invariant

pub loop-left-preserved : goal.loop-left-preserved
loop-left-preserved c =
    rw c.in_ok-push-in-Some.ensures.items (passages-goes_on c.args.place.now c.args.joints.now c.loop-left.passages.items c.args.path.now c.loop-left.left-index _ c.loop-left.before (passages c.args.place.now c.args.joints.now c.args.start c.args.path.now) c.in-Some.passage c.loop-left-test.true (sym c.in-Some.ensures) c.loop-left.invariant)

pub returns : goal.returns
returns c =
    passages-is_done c.args.place.now c.args.joints.now c.loop-left.passages.items c.args.path.now c.loop-left.left-index c.loop-left.before c.loop-left.before (passages c.args.place.now c.args.joints.now c.args.start c.args.path.now) c.loop-left-test.false c.loop-left.invariant
