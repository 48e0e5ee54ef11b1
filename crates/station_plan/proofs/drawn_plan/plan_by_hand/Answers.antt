use Rattle.std.proofs.Common.{refl}
use Rattle.station_plan.proofs.drawn_plan.plan_by_hand.Goals as goal

pub returns : goal.returns
returns c = c.in_ok-paper.ensures _ refl
