use Rattle.simulator_recovery.proofs.Words.Basics.{suc, ◌≤◌, ◌++◌, length, arith, length-append}
use Rattle.simulator_recovery.proofs.Words.Links.{Each}
use Rattle.simulator_recovery.proofs.Words.Stations.{round, point_link}
use Rattle.simulator_recovery.proofs.Words.Recovery.{answered_rounds, StaysBelowLimit, IsWork, all_tried}
use Rattle.simulator_recovery.proofs.Lemmas.RoutesComing.HeldRounds.{fewer}
use Rattle.simulator_recovery.proofs.Lemmas.Rounds.FlowsStay.{each_split}
use Rattle.simulator_recovery.proofs.Lemmas.Windows.WindowsAlone.{below_two}
use Rattle.simulator_recovery.proofs.points.moves_that_are_out_are_the_last.Goals as goal

pub returns : goal.returns
returns c = λ between later more still last flowing place good few long many as_many below occupancies awaits.
    let next = all_tried between (round flowing)
    in let link = point_link flowing.state.sited.site place
    in let rounds = later ++ more
    in let mid_below : StaysBelowLimit flowing.state.sited.site link (rounds ++ still) next = λ before are. below_two link (rounds ++ still) last next before (below before are)
    in let answered : answered_rounds ≤ suc (length rounds) = let n = length-append later more in omega (arith, long, n, many)
    in let first = c.moves_that_are_out_are_new.ensures between later more flowing place (record {
      flow = good.flow;
      work = good.work;
      works = (each_split (Each IsWork) rounds still (each_split (Each IsWork) (rounds ++ still) last good.works).0).0;
      time = fewer rounds still flowing.state.run (fewer
          (rounds ++ still) last flowing.state.run good.time);
    }) few
    answered many (λ before are. below_two link rounds still next before (mid_below before are)) awaits
    in c.moves_that_are_given_are_the_last.ensures between later more still last flowing place good few long as_many below occupancies first
