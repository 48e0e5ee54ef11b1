-- the laws that the body calls are those that a step stands on
use Rattle.std.proofs.Common.{[], refl}
use Rattle.object_host.specs.Made as made
use Rattle.object_host_laws.proofs.Acted.{other_event, step_acted}
use Rattle.object_host_laws.proofs.hosts.what_is_taken_is_acted_on.Goals as goal

pub returns-clause-starts : goal.returns-clause-starts
unfolding made.commands_of
returns-clause-starts g c = λ names start. record { dropped = []; beginning = refl; whole = λ _. refl; told_is = refl }

pub returns-clause-steps : goal.returns-clause-steps
returns-clause-steps g c = step_acted g.C.Controller.behaviour c.own_calls_open_nothing.ensures c.step_is_calls.ensures.first c.step_is_calls.ensures.made c.step_tells_what_was_taken.ensures

pub returns-clause-others : goal.returns-clause-others
returns-clause-others g c = other_event
