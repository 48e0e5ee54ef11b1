use Rattle.std.proofs.Common.{◌∙◌, ℕ, nat_lt, List, ap, length, sym}
use Rattle.ixl_spec.specs.Operations.{has_thing}
use Rattle.ixl_spec.specs.Table.{Row}
use Rattle.ixl_known.specs.Field.{FieldState}
use Rattle.ixl_table.specs.Table.{SitedTable}
use Rattle.ixl_state.proofs.state.State.has_thing.Goals as goal

pub returns-in-Section : goal.returns-in-Section
returns-in-Section c =
    ap (λ (list : List (ℕ × ℕ)). nat_lt c.in-Section.section.0 (length list)) (c.reporters.ensures ∙ ap (λ (p : SitedTable). p.table.reporters) c.table-table.ensures.sited)
    ∙ ap (has_thing c.args.self.now.sited.table c.args.self.now.ixl) (sym c.in-Section.is)

pub returns-in-Point : goal.returns-in-Point
returns-in-Point c =
    ap (λ (list : List ℕ). nat_lt c.in-Point.point.0 (length list)) (c.point_sections.ensures ∙ ap (λ (p : SitedTable). p.table.point_sections) c.table-table.ensures.sited)
    ∙ ap (has_thing c.args.self.now.sited.table c.args.self.now.ixl) (sym c.in-Point.is)

pub returns-in-Signal : goal.returns-in-Signal
returns-in-Signal c =
    ap (λ (n : ℕ). nat_lt c.in-Signal.signal.0 n) (c.signals.ensures ∙ ap (λ (f : FieldState). length f.known_signals) c.field.ensures)
    ∙ ap (has_thing c.args.self.now.sited.table c.args.self.now.ixl) (sym c.in-Signal.is)

pub returns-in-Route : goal.returns-in-Route
returns-in-Route c =
    ap (λ (list : List Row). nat_lt c.in-Route.route.0 (length list)) (c.rows.ensures ∙ ap (λ (p : SitedTable). p.table.rows) c.table-table.ensures.sited)
    ∙ ap (has_thing c.args.self.now.sited.table c.args.self.now.ixl) (sym c.in-Route.is)
