use Rattle.std.proofs.Common.{◌≡◌, ◌++◌, map, take}
use Rattle.station_plan.specs.Subjects.{section_subject}
use Rattle.station_plan.specs.inside.Placing.{subjects_at}
use Rattle.station_plan.proofs.placed.place_sections.Given as goal

abbrev pub invariant-loop-number : goal.invariant-loop-number
invariant-loop-number l = subjects_at l.placed.items ≡ subjects_at l.initial.placed.items ++ map section_subject (take l.number l.sections)
