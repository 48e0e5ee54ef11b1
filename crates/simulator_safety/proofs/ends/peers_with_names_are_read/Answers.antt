use Rattle.simulator_safety.proofs.Readable.{readable}
use Rattle.simulator_safety.proofs.ends.peers_with_names_are_read.Goals as goal

pub returns : goal.returns
returns c = λ peer named version. readable c.written_is_read.ensures.read peer named version
