use Rattle.std.proofs.Common.{◌∙◌, ◌&&◌, Bool, ap, arith}
use Rattle.std.specs.Prelude.{is_some}
use Rattle.simulator_spec.specs.ixl_spec.State.{RouteState}
use Rattle.simulator_spec.specs.ixl_spec.View.{is_set}
use Rattle.node_kinds.proofs.Views.{at_there}
use Rattle.node_kinds.proofs.thing_known.is_released.Goals as goal

pub returns : goal.returns
returns c =
    let there = c.table.ensures.there c.args.place (omega (arith, c.requires, c.table.ensures.each)) in
    let test : RouteState → Bool = λ route. is_set route.phase && is_some route.released in
    c.is_set_and_released.ensures ∙ ap test (c.route.ensures there.0 there.1 there.2) ∙ at_there c.args.state.now.ixl.routes c.args.place there.1 test there.2.1
