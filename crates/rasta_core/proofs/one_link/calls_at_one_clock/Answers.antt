use Rattle.rasta_core.proofs.Steps.{steps_after, steps_partner, steps_stay, steps_time}
use Rattle.rasta_core.proofs.one_link.calls_at_one_clock.Goals as goal

pub returns-clause-end : goal.returns-clause-end
returns-clause-end c = steps_after

pub returns-clause-items : goal.returns-clause-items
returns-clause-items c = steps_stay

pub returns-clause-partner : goal.returns-clause-partner
returns-clause-partner c = steps_partner

pub returns-clause-time : goal.returns-clause-time
returns-clause-time c = steps_time
