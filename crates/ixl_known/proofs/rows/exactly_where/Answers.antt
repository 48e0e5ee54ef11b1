use Rattle.std.proofs.Common.{ap, sym, ◌∙◌, if◌then◌else◌}
use Rattle.std.specs.FinSet.{contains}
use Rattle.std.specs.Prelude.{◌==◌}
use Rattle.ixl_known.proofs.RowsRenewed.{with_it, without_it}
use Rattle.ixl_known.proofs.rows.exactly_where.Goals as goal

pub returns-then-passes : goal.returns-then-passes
returns-then-passes c other = ap (λ row. contains row other) c.with.ensures ∙ with_it c.args.row c.args.place other
    ∙ ap (λ passed. if other == c.args.place then passed else contains c.args.row other) (sym c.if-passes.true)

pub returns-else-passes : goal.returns-else-passes
returns-else-passes c other = ap (λ row. contains row other) c.without.ensures ∙ without_it c.args.row c.args.place other
    ∙ ap (λ passed. if other == c.args.place then passed else contains c.args.row other) (sym c.if-passes.false)
