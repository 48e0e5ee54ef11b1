use Rattle.embedded_host.proofs.Started.{leaves_rightly}
use Rattle.embedded_host.proofs.laws.what_leaves_is_in_force_and_fresh.Goals as goal

pub returns : goal.returns
returns g c = λ host begun calls now datagram. leaves_rightly g.C.Controller.behaviour host begun calls now datagram
