use Rattle.std.proofs.Common.{◌≡◌, arith, sym, subst}
use Rattle.std.specs.Prelude.{Some, slice_get}
use Rattle.ixl_state.specs.ixl_table.Table.{IsRowThere, SitedTable}
use Rattle.ixl.proofs.point_moves.required_points_are_few.Goals as goal

pub returns : goal.returns
returns c row route kept =
    let there : IsRowThere c.table.result.now.site row = c.names_what_is_there.ensures.there.rows c.args.number row (subst (λ (p : SitedTable). slice_get p.table.rows c.args.number ≡ Some row) (sym c.table.ensures.sited) kept.0)
    in omega (arith, there.few_needs, c.names_what_is_there.ensures.station.limits.points)
