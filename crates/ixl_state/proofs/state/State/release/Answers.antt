use Rattle.std.proofs.Common.{◌∙◌, ap, refl}
use Rattle.ixl_spec.specs.Commands.{released_at}
use Rattle.ixl_spec.specs.State.{RouteState}
use Rattle.ixl_state.proofs.RouteChange.{alike-by, passage-by}
use Rattle.ixl_state.proofs.state.State.release.Goals as goal

pub keep-requires-clause-alike : goal.keep-requires-clause-alike
keep-requires-clause-alike c = λ row old at.
    let change : RouteState → RouteState = released_at c.args.now in
    alike-by old c.released_at-route.result change (c.released_at-route.ensures ∙ ap change (c.route.ensures row old at)) (record { set = refl; freed = refl })

pub keep-requires-clause-passage : goal.keep-requires-clause-passage
keep-requires-clause-passage c = λ row old at is.
    let change : RouteState → RouteState = released_at c.args.now in
    passage-by row old c.released_at-route.result change (c.released_at-route.ensures ∙ ap change (c.route.ensures row old at)) is

pub returns : goal.returns
returns c =
    let change : RouteState → RouteState = released_at c.args.now in
    c.keep.ensures change (λ row old at. c.released_at-route.ensures ∙ ap change (c.route.ensures row old at))
