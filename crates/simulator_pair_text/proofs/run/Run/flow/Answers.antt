use Rattle.std.proofs.Common.{◌/◌, ◌∙◌, ap, arith}
use Rattle.simulator_pair_text.specs.Flow.{round}
use Rattle.simulator_pair_text.proofs.Rounds.{rounds-none, rounds-next, flow-goes, flow-ends}
use Rattle.simulator_pair_text.proofs.run.Run.flow.Goals as goal

pub loop-init : goal.loop-init
loop-init c = rounds-none c.args.self.now

pub returns-in_default : goal.returns-in_default
returns-in_default c =
    flow-ends (c.args.length / 10) c.loop.counter c.number.result c.args.self.now c.loop.self c.round.new.self c.loop.invariant c.loop-test.true c.in_default.ensures.err c.number.ensures

pub loop-preserved : goal.loop-preserved
loop-preserved c = c.in-Ok.ensures.ok ∙ ap round c.loop.invariant ∙ rounds-next c.loop.counter c.args.self.now

pub returns : goal.returns
returns c =
    let past = c.loop-test.false
    in let bound = c.loop.auto.counter-end
    in flow-goes (c.args.length / 10) c.loop.counter c.args.self.now c.loop.self c.loop.invariant (omega arith)
