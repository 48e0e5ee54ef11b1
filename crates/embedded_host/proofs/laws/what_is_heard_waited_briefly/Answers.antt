use Rattle.embedded_host.proofs.Started.{waited_briefly}
use Rattle.embedded_host.proofs.laws.what_is_heard_waited_briefly.Goals as goal

pub returns : goal.returns
returns g c = λ host begun calls now bytes. waited_briefly g.C.Controller.behaviour host begun calls now bytes
