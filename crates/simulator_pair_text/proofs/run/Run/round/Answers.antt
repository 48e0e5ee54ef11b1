use Rattle.std.proofs.Common.{◌≡◌, ap, List, length, subst}
use Rattle.rasta_core.specs.Ends.{Sent}
use Rattle.simulator_pair_text.specs.Flow.{Flowing, round}
use Rattle.simulator_pair_text.proofs.EventAnswers.{at}
use Rattle.simulator_pair_text.proofs.Rounds.{made-round}
use Rattle.simulator_pair_text.proofs.run.Run.round.Goals as goal

pub returns-clause-ok : goal.returns-clause-ok
returns-clause-ok c =
    let made = at (length c.sent-sent_before.result.now) c.attempt-3.new.pair.run
    in subst (λ (old : Flowing). made ≡ round old) c.self.view_is
    (made-round (at c.self.inside.passed c.self.inside.pair.run) (length c.sent-sent_before.result.now) c.reserve.new.self.run c.attempt.new.pair.run c.arrive_from.new.pair.run c.attempt-2.new.pair.run c.attempt-3.new.pair.run (record {
      before_is = ap (λ (sent : List Sent). length sent) c.sent-sent_before.ensures;
      start_is = c.reserve.ensures.same;
      passed_is = c.attempt.ensures.run;
      arrived_is = c.arrive_from.ensures.run;
      opened_is = c.attempt-2.ensures.run;
      ticked_is = c.attempt-3.ensures.run;
    }))
