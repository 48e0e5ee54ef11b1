use Rattle.std.proofs.Common.{sym, subst, Result}
use Rattle.simulator.specs.simulator_event.refused.Refused.{Refused}
use Rattle.simulator.specs.simulator_event.declared.reply.Answer.{Answer}
use Rattle.replay.specs.Transcript.{Answers}
use Rattle.replay.proofs.EventAnswers.{answered, at}
use Rattle.replay.specs.World.{played}
use Rattle.replay.proofs.run.Run.event.Goals as goal

pub returns : goal.returns
returns c =
    let run = c.args.self.now
    in let old = played run.world
    in let new = played c.apply.new.self
    in subst (λ (said : Result Answer Refused). Answers c.args.event.now (at run.passed run.drives.items old) said (at run.passed run.drives.items new)) (sym c.recorded.ensures)
    (answered c.args.event.now run.passed run.drives.items old new c.apply.result c.apply.ensures.applies)
