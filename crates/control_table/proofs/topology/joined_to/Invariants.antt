use Rattle.std.proofs.Common.{◌≡◌, drop}
use Rattle.control_table.proofs.topology.joined_to.Given as goal
use Rattle.control_table.specs.inside.TableTests.{joined_to}

abbrev pub invariant-loop-joint : goal.invariant-loop-joint
invariant-loop-joint l = joined_to (drop l.joint-index l.joints) l.port ≡ joined_to l.joints l.port
