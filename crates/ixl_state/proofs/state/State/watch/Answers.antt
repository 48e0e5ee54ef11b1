use Rattle.std.proofs.Common.{◌∙◌, ◌||◌, not, ap, refl}
use Rattle.ixl_spec.specs.State.{RouteState}
use Rattle.ixl_state.proofs.RouteChange.{alike-by, passage-by}
use Rattle.ixl_state.proofs.state.State.watch.Goals as goal

pub keep-requires-clause-alike : goal.keep-requires-clause-alike
keep-requires-clause-alike c = λ row old at.
    let change : RouteState → RouteState = λ old. record old { approached = old.approached || not c.args.is_approach_clear } in
    alike-by old c.watches-route.result change (c.watches-route.ensures ∙ ap change (c.route.ensures row old at)) (record { set = refl; freed = refl })

pub keep-requires-clause-passage : goal.keep-requires-clause-passage
keep-requires-clause-passage c = λ row old at is.
    let change : RouteState → RouteState = λ old. record old { approached = old.approached || not c.args.is_approach_clear } in
    passage-by row old c.watches-route.result change (c.watches-route.ensures ∙ ap change (c.route.ensures row old at)) is

pub returns : goal.returns
returns c =
    let change : RouteState → RouteState = λ old. record old { approached = old.approached || not c.args.is_approach_clear } in
    c.keep.ensures change (λ row old at. c.watches-route.ensures ∙ ap change (c.route.ensures row old at))
