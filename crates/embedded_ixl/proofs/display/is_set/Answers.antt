use Rattle.std.proofs.Common.{◌∙◌, ◌<◌, ◌≤◌, ap, subst, sym, length, List}
use Rattle.ixl_state.specs.ixl_spec.State.{RouteState}
use Rattle.ixl_state.specs.ixl_spec.Table.{Row, SitedTable}
use Rattle.ixl_state.specs.ixl_spec.View.{is_set}
use Rattle.embedded_ixl.proofs.Views.{at_none, at_there, not_less}
use Rattle.embedded_ixl.proofs.display.is_set.Goals as goal

pub returns-then-place-rows : goal.returns-then-place-rows
returns-then-place-rows c =
    let state = c.args.state.now in
    let rows = c.rows.ensures ∙ ap (λ (p : SitedTable). p.table.rows) c.table.ensures.sited in
    let there = c.table.ensures.there c.args.place (subst (λ (all : List Row). c.args.place < length all) rows c.if-place-rows.true) in
    c.is_set.ensures ∙ ap (λ (r : RouteState). is_set r.phase) (c.route.ensures there.0 there.1 there.2)
    ∙ at_there state.ixl.routes c.args.place there.1 (λ route. is_set route.phase) there.2.1

pub returns-else-place-rows : goal.returns-else-place-rows
returns-else-place-rows c =
    let state = c.args.state.now in
    let rows = c.rows.ensures ∙ ap (λ (p : SitedTable). p.table.rows) c.table.ensures.sited in
    let as_many = ap (λ (all : List Row). length all) rows ∙ sym c.table.ensures.each in
    not_less c.args.place (length c.rows.result.now) c.if-place-rows.false
    ∙ sym (at_none state.ixl.routes c.args.place (λ (route : RouteState). is_set route.phase) (subst (λ n. n ≤ c.args.place) as_many c.if-place-rows.false))
