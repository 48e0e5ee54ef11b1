use Rattle.std.proofs.lemmas.List.{get_or_default}
use Rattle.station_plan.specs.Subjects.{joint_subjects}
use Rattle.station_plan.specs.inside.Placing.{subjects_at}
use Rattle.station_plan.proofs.Grown.{grown_by_all, grows_by_all}
use Rattle.station_plan.proofs.placed.place_joints.Goals as goal

pub loop-joint-preserved : goal.loop-joint-preserved
loop-joint-preserved c =
    grows_by_all (subjects_at c.args.placed.now.items) c.args.joints.now c.loop-joint.joint-index _ (joint_subjects c.args.layout.now) (subjects_at c.loop-joint.placed.items) (subjects_at c.place_joint.new.placed.items)
    c.loop-joint-test.true (get_or_default c.args.joints.now c.loop-joint.joint-index _ _ c.loop-joint-test.true) c.loop-joint.invariant c.in_ok-place_joint.ensures

pub returns : goal.returns
returns c = grown_by_all (subjects_at c.args.placed.now.items) c.args.joints.now c.loop-joint.joint-index (subjects_at c.loop-joint.placed.items) (joint_subjects c.args.layout.now) c.loop-joint-test.false c.loop-joint.invariant
