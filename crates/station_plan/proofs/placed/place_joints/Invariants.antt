use Rattle.std.proofs.Common.{◌≡◌, ◌++◌, take}
use Rattle.std.specs.List.{flat_map}
use Rattle.station_plan.specs.Subjects.{joint_subjects}
use Rattle.station_plan.specs.inside.Placing.{subjects_at}
use Rattle.station_plan.proofs.placed.place_joints.Given as goal

abbrev pub invariant-loop-joint : goal.invariant-loop-joint
invariant-loop-joint l = subjects_at l.placed.items ≡ subjects_at l.initial.placed.items ++ flat_map (joint_subjects l.layout) (take l.joint-index l.joints)
