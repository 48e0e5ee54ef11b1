use Rattle.simulator_recovery.proofs.Words.Basics.{inl}
use Rattle.simulator_recovery.proofs.Lemmas.RoutesGoing.AuthorityRoundFrees.{round_frees}
use Rattle.simulator_recovery.proofs.routes_going.rounds_leave_no_cancelled_route.Goals as goal

pub returns : goal.returns
returns c = λ between flowing number row route clock freed reached work of cancelled ended lets.
    round_frees c.laws_below.ensures.route_is_freed_where_cancel_lets_it_go c.laws_below.ensures between flowing number row route clock freed reached work of cancelled ended (inl lets)
