use Rattle.tds_ctl.specs.History.{changing}
use Rattle.tds_ctl.proofs.Owed.{calls_keep, changing_owes}
use Rattle.tds_ctl.proofs.laws.owes_each_change_until_it_is_sent.Goals as goal

pub returns : goal.returns
returns c = λ place occupancy calls sections changes stays.
    calls_keep place calls (changing place occupancy sections) (changing_owes place occupancy sections changes) stays
