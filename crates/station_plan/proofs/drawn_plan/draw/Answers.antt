use Rattle.std.proofs.Common.{Global, Vec, subst, sym}
use Rattle.drawing.specs.declared.picture.Group.{Group}
use Rattle.station_plan.specs.Plan.{AreGroupsOf}
use Rattle.station_plan.proofs.drawn_plan.draw.Goals as goal

pub returns : goal.returns
returns c = λ picture same. record {
  things = c.in_ok-things.things.items;
  listed = c.in_ok-things.ensures.listed;
  drawn = c.in_ok-things.ensures.drawn;
  grouped = subst (λ (groups : Vec Group Global). AreGroupsOf c.in_ok-things.things.items groups.items) (sym same) c.in_ok-add_all.ensures;
}
