use Rattle.object_host_laws.specs.World.{host_of}
use Rattle.object_host_laws.proofs.Server.{now_of}
use Rattle.object_host_laws.proofs.Told.{step_clock, step_given, step_idle, step_link, step_outside, step_taken}
use Rattle.object_host_laws.proofs.hosts.step_takes_and_gives.Goals as goal

pub returns-clause-taken : goal.returns-clause-taken
returns-clause-taken g c = λ input connection world.
    step_taken g.C.Controller.behaviour input connection world (c.step_is_calls.ensures.first (now_of world.ends) input (host_of world))

pub returns-clause-given : goal.returns-clause-given
returns-clause-given g c = λ input connection world.
    step_given g.C.Controller.behaviour input connection world (c.step_is_calls.ensures.first (now_of world.ends) input (host_of world))

pub returns-clause-link : goal.returns-clause-link
returns-clause-link g c = step_link g.C.Controller.behaviour c.step_is_calls.ensures.made

pub returns-clause-clock : goal.returns-clause-clock
returns-clause-clock g c = step_clock g.C.Controller.behaviour

pub returns-clause-outside : goal.returns-clause-outside
returns-clause-outside g c = step_outside g.C.Controller.behaviour c.own_calls_open_nothing.ensures c.step_is_calls.ensures.first

pub returns-clause-takes_none : goal.returns-clause-takes_none
returns-clause-takes_none g c = λ input connection world none closed.
    (step_idle g.C.Controller.behaviour c.own_calls_open_nothing.ensures c.step_is_calls.ensures.first input connection world none closed).0

pub returns-clause-gives_none : goal.returns-clause-gives_none
returns-clause-gives_none g c = λ input connection world none closed.
    (step_idle g.C.Controller.behaviour c.own_calls_open_nothing.ensures c.step_is_calls.ensures.first input connection world none closed).1
