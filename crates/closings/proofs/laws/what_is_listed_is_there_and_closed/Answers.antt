use Rattle.closings.proofs.Listed.{listed}
use Rattle.closings.proofs.laws.what_is_listed_is_there_and_closed.Goals as goal

pub returns : goal.returns
returns c = listed
