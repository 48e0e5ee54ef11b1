use Rattle.std.proofs.Common.{◌≡◌, drop}
use Rattle.station_layout.specs.Joints.{other_port}
use Rattle.station_layout.specs.Search.{first_of}
use Rattle.station_layout.proofs.joints.joined_to.Given as goal

abbrev pub invariant-loop-joint : goal.invariant-loop-joint
invariant-loop-joint l = first_of (λ joint. other_port joint l.port) (drop l.joint-index l.joints) ≡ first_of (λ joint. other_port joint l.port) l.joints
