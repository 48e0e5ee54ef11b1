-- What is to be drawn, before it is drawn.
use Rattle.std.specs.Prelude.{List, map}
use Rattle.station_plan.specs.declared.placed.Placed.{Placed}
use Rattle.station_plan.specs.declared.thing.Subject.{Subject}

-- what is placed
abbrev pub subjects_at : List Placed → List Subject
subjects_at placed = map (λ one. one.subject) placed
