-- The shares of the age of a datagram.
use Rattle.std.proofs.Common.{◌≡◌, ◌+◌, ◌*◌, refl}
use Rattle.node_lines.specs.ixl_spec.rasta_core.Bag.{lifetime}
use Rattle.node_lines.specs.ixl_spec.rasta_core.time.TheConstants.{LIFETIME}
use Rattle.node_drive.specs.Budget.{at_receiver, at_sender, in_network, oldest}

pub sum_is : at_sender + in_network + at_receiver ≡ LIFETIME
sum_is = refl

pub lives_as_long : 1000 * oldest ≡ lifetime
lives_as_long = refl
