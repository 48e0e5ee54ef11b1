use Rattle.std.proofs.Common.{◌≡◌, ◌∙◌, ap}
use Rattle.std.specs.Prelude.{◌==◌}
use Rattle.ixl_state.specs.ixl_spec.Table.{Row}
use Rattle.ixl.proofs.Views.{row_read}
use Rattle.ixl.proofs.authority.begins_at.Goals as goal

pub returns : goal.returns
returns c row route kept =
    let same : c.index-rows-number.result ≡ row = row_read c.args.state.now.sited c.table.result.now c.rows.result.now c.args.number c.index-rows-number.result row c.rows.ensures c.table.ensures.sited c.index-rows-number.is kept.0
    in ap (λ e. e == c.args.signal) (c.entry.ensures ∙ ap (λ (r : Row). r.entry) same)
