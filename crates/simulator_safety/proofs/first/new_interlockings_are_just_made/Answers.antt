use Rattle.simulator_safety.proofs.FirstWorld.{just_made}
use Rattle.simulator_safety.proofs.first.new_interlockings_are_just_made.Goals as goal

pub returns : goal.returns
returns c = just_made
