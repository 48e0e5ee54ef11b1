use Rattle.std.proofs.Common.{rules}
use Rattle.simulator.proofs.DatagramsSent.{one_sent}
use Rattle.simulator.proofs.connections.Connections.send.Goals as goal

pub returns-clause-sending : goal.returns-clause-sending
returns-clause-sending c =
    one_sent c.args.layout.now c.args.network.now.time c.link_of-link.result c.len.result c.args.datagram.now.items c.args.self.now.begun.items c.begin.new.self.begun.items c.args.network.now.sent c.send.new.self.sent c.last.result
    (search rules) (search rules) (search rules) (search rules) (search rules)
