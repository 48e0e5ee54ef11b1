use Rattle.simulator.specs.World.{played}
use Rattle.simulator.proofs.WorldAnswers.{applied}
use Rattle.simulator.proofs.station.WorldStation.apply.Goals as goal

pub returns-clause-applies : goal.returns-clause-applies
returns-clause-applies c =
    applied c.args.event.now (played c.args.self.now) (played c.apply.new.self) c.apply.result
    c.apply.ensures.sited c.apply.ensures.step c.apply.ensures.reply c.apply.ensures.allowed c.apply.ensures.refused c.apply.ensures.same
