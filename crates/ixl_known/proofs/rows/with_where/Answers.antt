use Rattle.std.proofs.Common.{ap, sym, ◌∙◌}
use Rattle.std.specs.FinSet.{contains}
use Rattle.std.specs.Prelude.{◌&&◌, ◌||◌, ◌==◌}
use Rattle.ixl_known.proofs.RowLaws.{put}
use Rattle.ixl_known.proofs.rows.with_where.Goals as goal

pub returns-then-passes : goal.returns-then-passes
returns-then-passes c other = ap (λ row. contains row other) c.with.ensures ∙ put c.args.row c.args.place other
    ∙ ap (λ passed. (passed && (other == c.args.place)) || contains c.args.row other) (sym c.if-passes.true)
