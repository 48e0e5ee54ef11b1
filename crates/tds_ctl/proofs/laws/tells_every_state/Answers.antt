use Rattle.tds_ctl.specs.History.{begun_at}
use Rattle.tds_ctl.proofs.Told.{begins_told, calls_tell}
use Rattle.tds_ctl.proofs.laws.tells_every_state.Goals as goal

pub returns-clause-every : goal.returns-clause-every
returns-clause-every c = λ calls sections. calls_tell calls (begun_at sections) (begins_told sections)

pub returns-clause-kept : goal.returns-clause-kept
returns-clause-kept c = calls_tell
