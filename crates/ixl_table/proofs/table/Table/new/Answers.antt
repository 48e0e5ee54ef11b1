use Rattle.std.proofs.Common.{◌∙◌, ap, map}
use Rattle.ixl_spec.specs.layout.declared.entries.Point.{Point}
use Rattle.ixl_spec.specs.layout.Entries.{DetectorEntry, Site}
use Rattle.ixl_table.specs.Table.{as_section}
use Rattle.ixl_table.proofs.Made.{lists-mapped}
use Rattle.ixl_table.proofs.table.Table.new.Goals as goal

pub returns-clause-table : goal.returns-clause-table
returns-clause-table c = record {
  rows = c.in_ok-rows.ensures;
  point_sections = c.in_ok-point_sections.ensures ∙ ap (map (λ (p : Point). p.section)) (c.points.ensures ∙ ap (λ (p : Site). p.points) c.layout-layout.ensures.entries);
  reporters = c.in_ok-reporters.ensures;
  detectors =
      lists-mapped (λ v. v.items) (λ sections. map as_section sections) c.in_ok-detectors.detectors.items (map (λ (d : DetectorEntry). d.sections) c.args.checked.detectors)
      (c.in_ok-detectors.ensures ∙ ap (map (λ (d : DetectorEntry). d.sections)) (c.detectors.ensures ∙ ap (λ (p : Site). p.detectors) c.layout-layout.ensures.entries));
}

pub invariant_of-result : goal.invariant_of-result
invariant_of-result c = record {
  once = c.facts_of.ensures.once;
  station = c.facts_of.ensures.station;
  sound = c.facts_of.ensures.sound;
  is_table = record {
    rows = c.in_ok-rows.ensures;
    point_sections = c.in_ok-point_sections.ensures ∙ ap (map (λ (p : Point). p.section)) (c.points.ensures ∙ ap (λ (p : Site). p.points) c.layout-layout.ensures.entries);
    reporters = c.in_ok-reporters.ensures;
    detectors =
        lists-mapped (λ v. v.items) (λ sections. map as_section sections) c.in_ok-detectors.detectors.items (map (λ (d : DetectorEntry). d.sections) c.args.checked.detectors)
        (c.in_ok-detectors.ensures ∙ ap (map (λ (d : DetectorEntry). d.sections)) (c.detectors.ensures ∙ ap (λ (p : Site). p.detectors) c.layout-layout.ensures.entries));
  };
}
