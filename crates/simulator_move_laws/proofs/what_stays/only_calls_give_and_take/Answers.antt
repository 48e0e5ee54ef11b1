use Rattle.simulator_move_laws.proofs.Links.Anew.{lists_stay}
use Rattle.simulator_move_laws.proofs.what_stays.only_calls_give_and_take.Goals as goal

pub returns : goal.returns
returns c = lists_stay
