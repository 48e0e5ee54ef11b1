use Rattle.embedded_host.proofs.Started.{leaving_counts}
use Rattle.embedded_host.proofs.laws.what_leaves_counts.Goals as goal

pub returns : goal.returns
returns g c = λ host begun calls later now datagram. leaving_counts g.C.Controller.behaviour host begun calls now later datagram
