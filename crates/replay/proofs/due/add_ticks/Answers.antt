use Rattle.replay.proofs.Rounds.{ticks-add, ticks-all}
use Rattle.replay.proofs.due.add_ticks.Goals as goal

pub loop-node-preserved : goal.loop-node-preserved
loop-node-preserved c =
    ticks-add c.args.passed c.loop-node.node c.args.nodes c.loop-node.due.items c.push.new.self.items _ c.loop-node-test.true c.in_ok-push.ensures.items c.loop-node.invariant

pub returns : goal.returns
returns c = ticks-all c.args.passed c.loop-node.node c.args.nodes c.loop-node.due.items _ c.loop-node-test.false c.loop-node.invariant
