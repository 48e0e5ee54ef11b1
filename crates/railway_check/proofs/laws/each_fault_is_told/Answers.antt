use Rattle.railway_check.proofs.EachTold.{each_told}
use Rattle.railway_check.proofs.laws.each_fault_is_told.Goals as goal

pub returns : goal.returns
returns c = each_told
