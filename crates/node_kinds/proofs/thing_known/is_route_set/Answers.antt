use Rattle.std.proofs.Common.{◌∙◌, ap, arith}
use Rattle.simulator_spec.specs.ixl_spec.State.{RouteState}
use Rattle.simulator_spec.specs.ixl_spec.View.{is_set}
use Rattle.node_kinds.proofs.Views.{at_there}
use Rattle.node_kinds.proofs.thing_known.is_route_set.Goals as goal

pub returns : goal.returns
returns c =
    let there = c.table.ensures.there c.args.place (omega (arith, c.requires, c.table.ensures.each)) in
    c.is_set.ensures ∙ ap (λ (r : RouteState). is_set r.phase) (c.route.ensures there.0 there.1 there.2)
    ∙ at_there c.args.state.now.ixl.routes c.args.place there.1 (λ route. is_set route.phase) there.2.1
