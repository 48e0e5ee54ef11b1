use Rattle.caught_up_laws.proofs.Computed.{is_starved}
use Rattle.caught_up_laws.proofs.starved.a_starved_end_stays_up.Goals as goal

pub returns : goal.returns
returns c = is_starved
