use Rattle.std.proofs.Common.{◌/◌, ◌∙◌, ap, arith}
use Rattle.simulator.specs.simulator_spec.Flow.{round}
use Rattle.replay.specs.inside.Runs.{flowing_of}
use Rattle.replay.proofs.Rounds.{rounds-none, rounds-next, flow-goes, flow-stops}
use Rattle.replay.proofs.run.Run.flow.Goals as goal

pub loop-init : goal.loop-init
loop-init c = rounds-none (flowing_of c.args.self.now)

pub returns-in_default : goal.returns-in_default
returns-in_default c =
    flow-stops (c.args.length / 10) c.loop.counter (flowing_of c.args.self.now) (flowing_of c.loop.self) (flowing_of c.round.new.self)
    c.loop.invariant c.loop-test.true c.in_default.ensures.err

pub loop-preserved : goal.loop-preserved
loop-preserved c =
    c.in-Ok.ensures.ok ∙ ap round c.loop.invariant ∙ rounds-next c.loop.counter (flowing_of c.args.self.now)

pub returns : goal.returns
returns c =
    let past = c.loop-test.false
    in let bound = c.loop.auto.counter-end
    in flow-goes (c.args.length / 10) c.loop.counter (flowing_of c.args.self.now) (flowing_of c.loop.self) c.loop.invariant (omega arith)
