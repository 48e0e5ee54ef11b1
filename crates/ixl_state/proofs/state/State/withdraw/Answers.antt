use Rattle.std.proofs.Common.{◌∙◌, ap, refl}
use Rattle.ixl_spec.specs.Rules.{come_to}
use Rattle.ixl_spec.specs.State.{RouteState}
use Rattle.ixl_spec.specs.declared.phase.Phase.TheVariants as phase
use Rattle.ixl_state.proofs.RouteChange.{alike-by, alike-from, passage-by}
use Rattle.ixl_state.proofs.state.State.withdraw.Goals as goal

pub keep-requires-clause-alike : goal.keep-requires-clause-alike
keep-requires-clause-alike c = λ row old at.
    let change : RouteState → RouteState = come_to phase.Withdrawn in
    alike-by old c.come_to-route.result change (c.come_to-route.ensures ∙ ap change (c.route.ensures row old at)) (alike-from old.phase phase.Proceeding phase.Withdrawn (c.requires.proceeding row old at) (record { set = refl; freed = refl }))

pub keep-requires-clause-passage : goal.keep-requires-clause-passage
keep-requires-clause-passage c = λ row old at is.
    let change : RouteState → RouteState = come_to phase.Withdrawn in
    passage-by row old c.come_to-route.result change (c.come_to-route.ensures ∙ ap change (c.route.ensures row old at)) is

pub returns : goal.returns
returns c =
    let change : RouteState → RouteState = come_to phase.Withdrawn in
    c.keep.ensures change (λ row old at. c.come_to-route.ensures ∙ ap change (c.route.ensures row old at))
