use Rattle.simulator_safety.proofs.ClientKnowledge.{made_is_heard}
use Rattle.simulator_safety.proofs.far_ends.reports_made_are_heard.Goals as goal

pub returns : goal.returns
returns c = made_is_heard c.written_is_read.ensures.read
