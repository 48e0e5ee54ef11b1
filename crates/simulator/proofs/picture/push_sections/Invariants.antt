use Rattle.std.proofs.Common.{◌≡◌, ◌++◌, drop, string_bytes}
use Rattle.simulator_spec.specs.Picture.{section_lines}
use Rattle.simulator.proofs.picture.push_sections.Given as goal

-- what was added so far, and after it the lines that are left
abbrev pub invariant-loop-place : goal.invariant-loop-place
invariant-loop-place l =
    string_bytes l.text ++ section_lines (drop l.place l.world.sited.site.sections) (drop l.place l.world.run.occupancies)
    ≡ string_bytes l.fn.text ++ section_lines l.world.sited.site.sections l.world.run.occupancies
