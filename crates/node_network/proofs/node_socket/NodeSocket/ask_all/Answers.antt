use Rattle.std.proofs.Common.{◌∙◌}
use Rattle.node_network.proofs.Intakes.{answers_on, takes_on}
use Rattle.node_network.proofs.node_socket.NodeSocket.ask_all.Goals as goal

pub returns-in-Some-ask-clause-answers : goal.returns-in-Some-ask-clause-answers
returns-in-Some-ask-clause-answers c = answers_on c.loop.invariant.0 c.loop.invariant.1 c.in-Some-ask.ensures.answers

pub loop-preserved : goal.loop-preserved
loop-preserved c = (takes_on c.loop.invariant.0 c.loop.invariant.1 c.in-None.ensures.answers, c.ask.ensures.places ∙ c.loop.invariant.1)
