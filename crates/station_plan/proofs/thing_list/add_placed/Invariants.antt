use Rattle.std.proofs.Common.{◌≡◌, ◌++◌, take}
use Rattle.station_plan.specs.Subjects.{subjects_of}
use Rattle.station_plan.specs.Faces.{AreDrawn}
use Rattle.station_plan.specs.inside.Placing.{subjects_at}
use Rattle.station_plan.proofs.thing_list.add_placed.Given as goal

abbrev pub invariant-loop-one : goal.invariant-loop-one
invariant-loop-one l =
    (subjects_of l.things.items ≡ subjects_of l.initial.things.items ++ subjects_at (take l.one-index l.placed))
    × AreDrawn l.scene.layout.now l.scene.shown.now.seen l.things.items
