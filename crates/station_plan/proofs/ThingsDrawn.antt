-- Things that are drawn, and one more.
use Rattle.std.proofs.Common.{List, [], ◌∷◌, ◌++◌, Option}
use Rattle.control_table.specs.layout.Entries.{Site}
use Rattle.station_plan.specs.declared.shown.Seen.{Seen}
use Rattle.station_plan.specs.declared.thing.Thing.{Thing}
use Rattle.station_plan.specs.Faces.{AreDrawn, IsDrawn}

pub one_more : (l : Site) (seen : Option Seen) (things : List Thing) (thing : Thing)
    → AreDrawn l seen things → IsDrawn l seen thing → AreDrawn l seen (things ++ thing ∷ [])
one_more l seen [] thing drawn this = (this, tt)
one_more l seen (first ∷ things) thing drawn this = (drawn.0, one_more l seen things thing drawn.1 this)
