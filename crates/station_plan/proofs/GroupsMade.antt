-- Groups of things, and of one more.
use Rattle.std.proofs.Common.{List, [], ◌∷◌, ◌++◌}
use Rattle.std.specs.List.{AllZip}
use Rattle.drawing.specs.declared.picture.Group.{Group}
use Rattle.station_plan.specs.declared.thing.Thing.{Thing}
use Rattle.station_plan.specs.Plan.{Shows}

pub one_more : (things : List Thing) (groups : List Group) (thing : Thing) (group : Group)
    → AllZip Shows things groups → Shows thing group → AllZip Shows (things ++ thing ∷ []) (groups ++ group ∷ [])
one_more [] [] thing group made this = (this, tt)
one_more [] (other ∷ groups) thing group made this = absurd made
one_more (first ∷ things) [] thing group made this = absurd made
one_more (first ∷ things) (other ∷ groups) thing group made this = (made.0, one_more things groups thing group made.1 this)
