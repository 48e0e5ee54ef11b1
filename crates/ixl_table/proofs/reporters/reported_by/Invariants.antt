use Rattle.std.proofs.Common.{◌≡◌, map, take}
use Rattle.ixl_spec.specs.layout.Entries.{DetectorEntry}
use Rattle.ixl_table.specs.Table.{as_section}
use Rattle.ixl_table.proofs.reporters.reported_by.Given as goal

abbrev pub invariant-loop-detector : goal.invariant-loop-detector
invariant-loop-detector l = map (λ sections. map as_section sections.items) l.lists.items ≡ map (λ (d : DetectorEntry). d.sections) (take l.detector-index l.detectors)
