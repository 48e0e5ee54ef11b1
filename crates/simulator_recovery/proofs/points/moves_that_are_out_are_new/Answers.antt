use Rattle.simulator_recovery.proofs.Words.Basics.{suc, ◌≤◌, ◌∷◌, ◌++◌, length, arith, length-append}
use Rattle.simulator_recovery.proofs.Words.Stations.{point_link}
use Rattle.simulator_recovery.proofs.Words.Recovery.{ready_rounds, good_rounds}
use Rattle.simulator_recovery.proofs.Lemmas.Points.AnsweredMoves.{given_since}
use Rattle.simulator_recovery.proofs.Lemmas.RoutesComing.HeldRounds.{point_below}
use Rattle.simulator_recovery.proofs.points.moves_that_are_out_are_new.Goals as goal

pub returns : goal.returns
returns c = λ between later more flowing place good few long many below awaits.
    let site = flowing.state.sited.site
    in let was_long : ready_rounds ≤ suc (length later) = let n = length-append later more in omega (arith, long, n, many)
    in let now_long : ready_rounds ≤ suc (length (later ++ more)) = let n = length-append later more in omega (arith, was_long, n)
    in let behind = c.good_rounds_are_events.ensures (between ∷ (later ++ more)) flowing good.flow.reached
    in let ready = c.links_are_ready.ensures between (later ++ more) flowing (point_link site place) good (point_below site place few) now_long below
    in let all = c.moves_are_answered.ensures between later more flowing place good few was_long many below
    in given_since c.laws_below.ensures
    site flowing.state.sited.table (good_rounds (between ∷ later) flowing).state.run (good_rounds (between ∷ (later ++ more)) flowing).state.run place good.flow.once good.flow.station good.flow.table behind few all ready awaits
