use Rattle.std.proofs.Common.{◌≡◌, drop}
use Rattle.railway_layout.specs.Way.{joined_to}
use Rattle.railway_layout.proofs.way.joined_to.Given as goal

abbrev pub invariant-loop-joint : goal.invariant-loop-joint
invariant-loop-joint l = joined_to (drop l.joint-index l.joints) l.port ≡ joined_to l.joints l.port
