use Rattle.simulator_recovery.proofs.Words.Basics.{arith, length-append}
use Rattle.simulator_recovery.proofs.Lemmas.Points.OnceCounted.{counts_on}
use Rattle.simulator_recovery.proofs.points.links_of_points_count_on.Goals as goal

pub returns : goal.returns
returns c = λ between later more flowing place good few long below. counts_on c.laws_below.ensures between flowing place good.flow.once good.flow.station good.flow.table good.flow.reached good.work few more later (omega (arith, long))
    (record { works = good.works; can = good.time; room = below; long = let n = length-append later more in omega (arith, long, n) })
