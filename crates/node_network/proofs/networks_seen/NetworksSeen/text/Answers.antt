use Rattle.std.proofs.Common.{◌<◌, length, rules, subst}
use Rattle.std.specs.Prelude.{string_bytes}
use Rattle.node_network.proofs.NewsTold.{told_next}
use Rattle.node_network.proofs.networks_seen.NetworksSeen.text.Goals as goal

pub loop-node-preserved : goal.loop-node-preserved
loop-node-preserved c =
    told_next c.args.self.now.layout.now c.args.telling c.loop-node.node c.args.self.now.watch (string_bytes c.loop-node.text) (string_bytes c.push_node.new.text)
    (subst (λ count. c.loop-node.node < count) c.nodes-node-end.ensures c.loop-node-test.true) c.in_ok-push_node.ensures c.loop-node.invariant
