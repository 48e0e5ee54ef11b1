use Rattle.std.proofs.Common.{◌≡◌, ◌<◌, ◌∙◌, ap, sym, subst, length, if◌then◌else◌, List, ℕ}
use Rattle.std.specs.Prelude.{None, slice_get}
use Rattle.std.proofs.lemmas.Option.{slice_get-get_or}
use Rattle.ixl_state.specs.ixl_spec.Commands.{section_refusal}
use Rattle.ixl_state.specs.ixl_table.Table.{SitedTable}
use Rattle.ixl.proofs.operation_refusals.own_section_refusal.Goals as goal

pub returns-then-lies_in_closed : goal.returns-then-lies_in_closed
returns-then-lies_in_closed c =
    ap (λ b. if b then None else section_refusal c.args.state.now.sited.table c.args.state.now.ixl (slice_get c.args.state.now.sited.table.point_sections c.args.point))
    (sym c.if-lies_in_closed.true ∙ c.lies_in_closed.ensures)

pub returns : goal.returns
returns c =
    let are : c.point_sections-sections.result.now ≡ c.args.state.now.sited.table.point_sections = c.point_sections-sections.ensures ∙ ap (λ (p : SitedTable). p.table.point_sections) c.table.ensures.sited
    in c.section_refusal.ensures
    ∙ ap (section_refusal c.args.state.now.sited.table c.args.state.now.ixl)
    (sym (slice_get-get_or c.point_sections-sections.result.now c.args.point 0 (subst (λ (list : List ℕ). c.args.point < length list) (sym are) c.requires))
    ∙ ap (λ list. slice_get list c.args.point) are)
    ∙ ap (λ b. if b then None else section_refusal c.args.state.now.sited.table c.args.state.now.ixl (slice_get c.args.state.now.sited.table.point_sections c.args.point))
    (sym c.if-lies_in_closed.false ∙ c.lies_in_closed.ensures)
