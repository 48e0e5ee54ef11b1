use Rattle.tds_ctl.proofs.Owed.{owed_after_change}
use Rattle.tds_ctl.proofs.laws.owes_nothing_but_changes.Goals as goal

pub returns : goal.returns
returns c = owed_after_change
