use Rattle.std.proofs.Common.{◌∙◌, true, ap, refl}
use Rattle.ixl_spec.specs.State.{RouteState}
use Rattle.ixl_state.proofs.RouteChange.{alike-by, passage-by}
use Rattle.ixl_state.proofs.state.State.cancel.Goals as goal

pub keep-requires-clause-alike : goal.keep-requires-clause-alike
keep-requires-clause-alike c = λ row old at.
    let change : RouteState → RouteState = λ old. record old { cancelled = true } in
    alike-by old c.cancelled-route.result change (c.cancelled-route.ensures ∙ ap change (c.route.ensures row old at)) (record { set = refl; freed = refl })

pub keep-requires-clause-passage : goal.keep-requires-clause-passage
keep-requires-clause-passage c = λ row old at is.
    let change : RouteState → RouteState = λ old. record old { cancelled = true } in
    passage-by row old c.cancelled-route.result change (c.cancelled-route.ensures ∙ ap change (c.route.ensures row old at)) is

pub returns : goal.returns
returns c =
    let change : RouteState → RouteState = λ old. record old { cancelled = true } in
    c.keep.ensures change (λ row old at. c.cancelled-route.ensures ∙ ap change (c.route.ensures row old at))
