use Rattle.std.proofs.Common.{ap, refl, ◌∙◌}
use Rattle.std.specs.Prelude.{◌==◌}
use Rattle.ixl_state.specs.ixl_table.Table.{SitedTable}
use Rattle.ixl.proofs.RowLaws.{no_section, own_section}
use Rattle.ixl.proofs.operations.lies_in.Goals as goal

pub returns-then-point-sections : goal.returns-then-point-sections
returns-then-point-sections c = own_section (λ own. own == c.args.section) c.args.state.now.sited.table.point_sections c.point_sections-sections.result.now c.args.point _
    (c.point_sections-sections.ensures ∙ ap (λ (p : SitedTable). p.table.point_sections) c.table.ensures.sited) c.if-point-sections.true refl

pub returns-else-point-sections : goal.returns-else-point-sections
returns-else-point-sections c = no_section (λ own. own == c.args.section) c.args.state.now.sited.table.point_sections c.point_sections-sections.result.now c.args.point
    (c.point_sections-sections.ensures ∙ ap (λ (p : SitedTable). p.table.point_sections) c.table.ensures.sited) c.if-point-sections.false
