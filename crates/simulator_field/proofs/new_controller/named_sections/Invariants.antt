use Rattle.std.proofs.Common.{◌≡◌, map, take}
use Rattle.simulator_spec.specs.First.{named_section}
use Rattle.simulator_field.proofs.new_controller.named_sections.Given as goal

abbrev pub invariant-loop-section : goal.invariant-loop-section
invariant-loop-section l = l.named.items ≡ map (named_section l.layout l.occupied) (take l.section-index l.sections)
