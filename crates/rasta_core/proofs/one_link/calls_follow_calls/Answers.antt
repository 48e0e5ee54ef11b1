use Rattle.rasta_core.proofs.Steps.{after_none, after_then, none_then, stays_none, stays_then}
use Rattle.rasta_core.proofs.one_link.calls_follow_calls.Goals as goal

pub returns-clause-nothing : goal.returns-clause-nothing
returns-clause-nothing c = λ end. (after_none end, stays_none end)

pub returns-clause-after : goal.returns-clause-after
returns-clause-after c = after_then

pub returns-clause-entering : goal.returns-clause-entering
returns-clause-entering c = none_then

pub returns-clause-stays : goal.returns-clause-stays
returns-clause-stays c = stays_then
