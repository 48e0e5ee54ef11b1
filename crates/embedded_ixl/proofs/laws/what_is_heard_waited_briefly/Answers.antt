use Rattle.embedded_ixl.proofs.Started.{waited_briefly}
use Rattle.embedded_ixl.proofs.laws.what_is_heard_waited_briefly.Goals as goal

pub returns : goal.returns
returns c = λ state begun calls now bytes. waited_briefly state begun calls now bytes
