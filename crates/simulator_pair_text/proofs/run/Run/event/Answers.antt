use Rattle.std.proofs.Common.{sym, subst}
use Rattle.simulator_pair_text.specs.Flow.{Flowing}
use Rattle.simulator_pair_text.specs.Transcript.{Answers}
use Rattle.simulator_pair_text.specs.declared.answer.Answer.{Answer}
use Rattle.simulator_pair_text.proofs.EventAnswers.{answers, at}
use Rattle.simulator_pair_text.proofs.run.Run.event.Goals as goal

pub returns : goal.returns
returns c =
    let new = at c.self.inside.passed c.apply.new.self.run
    in subst (λ (old : Flowing). Answers c.args.event.now old c.to_event.result new) c.self.view_is
    (subst (λ (answer : Answer). Answers c.args.event.now (at c.self.inside.passed c.self.inside.pair.run) answer new) (sym c.to_event.ensures)
    (answers c.args.event.now c.self.inside.passed c.self.inside.pair.run c.apply.new.self.run c.apply.result (record {
      step = c.apply.ensures.step;
      reply = c.apply.ensures.reply;
      allowed = c.apply.ensures.allowed;
      refused = c.apply.ensures.refused;
      same = c.apply.ensures.same;
    })))
