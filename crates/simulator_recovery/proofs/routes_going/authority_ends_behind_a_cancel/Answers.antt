use Rattle.simulator_recovery.proofs.Lemmas.RoutesGoing.BetweenCancels.{many_cancelled}
use Rattle.simulator_recovery.proofs.routes_going.authority_ends_behind_a_cancel.Goals as goal

pub returns : goal.returns
returns c = λ between later_rounds before more flowing route row flow work works before_works more_works can there long enough below proceeds accepted still apart.
    many_cancelled c.laws_below.ensures more between later_rounds before flowing route row flow.once flow.station flow.table flow.reached work works before_works more_works can there long enough below proceeds accepted still apart
