use Rattle.std.proofs.Common.{ap, ◌∙◌}
use Rattle.ixl_state.specs.ixl_table.Table.{SitedTable}
use Rattle.ixl.proofs.RowLaws.{not_over_clear, over_clear}
use Rattle.ixl.proofs.field_known.is_over_clear.Goals as goal

pub returns-then-point-sections : goal.returns-then-point-sections
returns-then-point-sections c = over_clear c.args.state.now c.point_sections-sections.result.now c.args.point c.is_section_clear.result
    (c.point_sections-sections.ensures ∙ ap (λ (p : SitedTable). p.table.point_sections) c.table.ensures.sited) c.if-point-sections.true c.is_section_clear.ensures

pub returns-else-point-sections : goal.returns-else-point-sections
returns-else-point-sections c = not_over_clear c.args.state.now c.point_sections-sections.result.now c.args.point
    (c.point_sections-sections.ensures ∙ ap (λ (p : SitedTable). p.table.point_sections) c.table.ensures.sited) c.if-point-sections.false
