use Rattle.std.proofs.Common.{◌≡◌, ◌==◌, drop, if◌then◌else◌}
use Rattle.std.specs.List.{fold}
use Rattle.layout.specs.declared.port.Element.TheVariants as element
use Rattle.control_table.specs.Topology.{section_of}
use Rattle.control_table.specs.inside.TableTests.{guarded_sections, with_section}
use Rattle.control_table.proofs.point_release.guarded_sections.Given as goal

abbrev pub invariant-loop-flank : goal.invariant-loop-flank
invariant-loop-flank l =
    fold (λ row f. if f.flank.0 == l.point.0 then with_section (section_of l.layout (element.Point f.point)) row else row) l.row (drop l.flank-index l.flanks) ≡ guarded_sections l.layout l.point l.flanks
