use Rattle.std.proofs.Common.{◌∙◌, ap, sym}
use Rattle.ixl_spec.specs.State.{RouteState}
use Rattle.ixl_spec.specs.View.{was_authorised}
use Rattle.ixl_state.proofs.Looks.{route_looked, route_not_looked}
use Rattle.ixl_state.proofs.datagrams_heard.look_by.Goals as goal

pub returns-then-was_authorised : goal.returns-then-was_authorised
returns-then-was_authorised c =
    let there = c.keeps_route.ensures.kept
    in route_looked c.args.now c.args.number c.args.section c.args.occupied c.args.state.now c.look.new.self there.0 there.1 c.requires.clock there.2
    (ap (λ (r : RouteState). was_authorised r.phase) (sym (c.route.ensures there.0 there.1 there.2)) ∙ sym c.was_authorised.ensures ∙ c.if-was_authorised.true)
    (c.look.ensures there.0 there.1 there.2)

pub returns-else-was_authorised : goal.returns-else-was_authorised
returns-else-was_authorised c =
    let there = c.keeps_route.ensures.kept
    in route_not_looked c.args.now c.args.number c.args.section c.args.occupied c.args.state.now there.0 there.1 c.requires.clock there.2
    (ap (λ (r : RouteState). was_authorised r.phase) (sym (c.route.ensures there.0 there.1 there.2)) ∙ sym c.was_authorised.ensures ∙ c.if-was_authorised.false)
