use Rattle.embedded_ixl.proofs.Started.{leaves_rightly}
use Rattle.embedded_ixl.proofs.laws.what_leaves_is_fresh.Goals as goal

pub returns : goal.returns
returns c = λ state begun calls now datagram. leaves_rightly state begun calls now datagram
