use Rattle.simulator_safety.proofs.Quiet.{client_is}
use Rattle.simulator_safety.proofs.ends.clients_are_seen_at_their_ends.Goals as goal

pub returns : goal.returns
returns c = client_is
