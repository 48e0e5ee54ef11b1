use Rattle.railway_layout.proofs.Locked.{locked}
use Rattle.railway_layout.proofs.laws.each_line_is_locked.Goals as goal

pub returns : goal.returns
returns c = locked
