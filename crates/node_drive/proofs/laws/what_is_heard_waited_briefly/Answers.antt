use Rattle.node_drive.proofs.Ages.{heard_waited_briefly}
use Rattle.node_drive.proofs.laws.what_is_heard_waited_briefly.Goals as goal

pub returns : goal.returns
returns g c = heard_waited_briefly g.B.Behaves.does
