use Rattle.tds_ctl.proofs.Owed.{first_is_told}
use Rattle.tds_ctl.proofs.laws.tells_present_states.Goals as goal

pub returns : goal.returns
returns c = first_is_told
