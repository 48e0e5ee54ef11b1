use Rattle.simulator_recovery.proofs.Lemmas.Rounds.Arrives.{due_in_order, none_refused}
use Rattle.simulator_recovery.proofs.rounds.each_round_delivers_what_the_last_one_left.Goals as goal

pub returns : goal.returns
returns c = λ old new leaves flow. record {
  due = due_in_order old new leaves;
  none = none_refused c.laws_below.ensures old new leaves flow.once flow.station flow.reached;
}
