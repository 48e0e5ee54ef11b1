use Rattle.node_network.proofs.Intakes.{answers_one, takes_given, takes_nothing}
use Rattle.node_network.proofs.node_socket.NodeSocket.hand_out.Goals as goal

pub returns-in-Some-clause-answers : goal.returns-in-Some-clause-answers
returns-in-Some-clause-answers c =
    answers_one c.in-Some.incoming c.handed.ensures (takes_given c.args.now c.in-Some.field-0-0 c.in-Some.incoming c.in-Some.ensures.handed c.in-Some.ensures.after)

pub returns-in-None-clause-answers : goal.returns-in-None-clause-answers
returns-in-None-clause-answers c = takes_nothing c.args.now c.in-None.ensures.handed c.in-None.ensures.after
