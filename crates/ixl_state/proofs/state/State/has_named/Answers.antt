use Rattle.std.proofs.Common.{◌∙◌, ℕ, nat_lt, List, ap, length, sym}
use Rattle.ixl_spec.specs.Operations.{has_named}
use Rattle.ixl_table.specs.Table.{SitedTable}
use Rattle.ixl_state.proofs.state.State.has_named.Goals as goal

pub returns-in-One : goal.returns-in-One
returns-in-One c = c.has_thing.ensures ∙ ap (has_named c.args.self.now.sited.table c.args.self.now.ixl) (sym c.in-One.is)

pub returns-in-BothSides : goal.returns-in-BothSides
returns-in-BothSides c =
    ap (λ (list : List ℕ). nat_lt c.in-BothSides.point.0 (length list)) (c.point_sections.ensures ∙ ap (λ (p : SitedTable). p.table.point_sections) c.table.ensures.sited)
    ∙ ap (has_named c.args.self.now.sited.table c.args.self.now.ixl) (sym c.in-BothSides.is)
