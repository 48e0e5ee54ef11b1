use Rattle.std.proofs.Common.{◌≡◌, None, map, take}
use Rattle.simulator_spec.specs.layout.declared.ids.SectionId.{SectionId}
use Rattle.node_kinds.proofs.opening_node.untold.Given as goal

abbrev pub invariant-loop-section : goal.invariant-loop-section
invariant-loop-section l = l.sections.items ≡ map (λ (section : SectionId). None) (take l._section-index l.own)
