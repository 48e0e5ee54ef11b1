use Rattle.node_network.specs.Intakes.{empty, failed}
use Rattle.node_network.proofs.Intakes.{takes_on}
use Rattle.node_network.proofs.node_socket.NodeSocket.end_round.Goals as goal

pub returns-then-is_clear-clause-answers : goal.returns-then-is_clear-clause-answers
returns-then-is_clear-clause-answers c = empty (takes_on c.end_flood.ensures.takes c.end_flood.ensures.places c.end_flood-2.ensures.takes) (c.is_clear.ensures c.if-is_clear.true)

pub returns-else-is_clear-clause-answers : goal.returns-else-is_clear-clause-answers
returns-else-is_clear-clause-answers c = failed (takes_on c.end_flood.ensures.takes c.end_flood.ensures.places c.end_flood-2.ensures.takes)
