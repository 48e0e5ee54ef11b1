use Rattle.node_network.proofs.Intakes.{answers_one, takes_held, takes_passed}
use Rattle.node_network.proofs.node_socket.NodeSocket.take_from.Goals as goal

pub returns-in-Some-clause-answers : goal.returns-in-Some-clause-answers
returns-in-Some-clause-answers c =
    answers_one c.in-Some.incoming c.handed.ensures
    (takes_passed c.args.network c.args.from.0 c.args.bytes.items c.in-Some.incoming c.requires c.in-Some.ensures.handed c.in-Some.ensures.after)

pub returns-in-None-clause-answers : goal.returns-in-None-clause-answers
returns-in-None-clause-answers c = takes_held c.args.network c.args.from.0 c.args.bytes.items c.requires c.in-None.ensures.handed c.in-None.ensures.after
