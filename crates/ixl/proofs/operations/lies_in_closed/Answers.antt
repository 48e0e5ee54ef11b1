use Rattle.std.proofs.Common.{ap, ◌∙◌}
use Rattle.ixl_state.specs.ixl_spec.closings.Closed.{is_closed}
use Rattle.ixl_state.specs.ixl_spec.Operations.{lies_in_closed, section_thing}
use Rattle.ixl_state.specs.ixl_table.Table.{SitedTable}
use Rattle.ixl.proofs.RowLaws.{no_section, own_section}
use Rattle.ixl.proofs.operations.lies_in_closed.Goals as goal

pub returns-then-point-sections : goal.returns-then-point-sections
unfolding lies_in_closed
returns-then-point-sections c = own_section (λ section. is_closed c.args.state.now.ixl.closed (section_thing section)) c.args.state.now.sited.table.point_sections c.point_sections-sections.result.now c.args.point _
    (c.point_sections-sections.ensures ∙ ap (λ (p : SitedTable). p.table.point_sections) c.table.ensures.sited) c.if-point-sections.true c.is_section_closed.ensures

pub returns-else-point-sections : goal.returns-else-point-sections
unfolding lies_in_closed
returns-else-point-sections c = no_section (λ section. is_closed c.args.state.now.ixl.closed (section_thing section)) c.args.state.now.sited.table.point_sections c.point_sections-sections.result.now c.args.point
    (c.point_sections-sections.ensures ∙ ap (λ (p : SitedTable). p.table.point_sections) c.table.ensures.sited) c.if-point-sections.false
