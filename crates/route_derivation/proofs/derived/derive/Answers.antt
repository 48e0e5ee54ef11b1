use Rattle.std.proofs.Common.{subst}
use Rattle.route_derivation.specs.inside.RouteParts.{AreAlong}
use Rattle.route_derivation.proofs.DerivedLaws.{are-derived, derived-approaches}
use Rattle.route_derivation.proofs.AspectLaws.{derived-aspects}
use Rattle.route_derivation.proofs.Counting.{not-too_many}
use Rattle.route_derivation.proofs.derived.derive.Goals as goal

pub returns-clause-derived : goal.returns-clause-derived
returns-clause-derived c =
    let along = subst (λ ws. AreAlong c.args.layout.now c.args.slow.now c.args.rule ws c.in_ok-routes_along.field-0.items) c.deref.ensures.value c.in_ok-routes_along.ensures in
    are-derived c.args.layout.now c.args.slow.now c.args.rule c.in_ok-ways.ensures.once c.args.entries.now c.in_ok-ways.ways.items c.in_ok-routes_along.field-0.items c.in_ok-ways.ensures.found along

pub returns-clause-aspects : goal.returns-clause-aspects
returns-clause-aspects c =
    let along = subst (λ ws. AreAlong c.args.layout.now c.args.slow.now c.args.rule ws c.in_ok-routes_along.field-0.items) c.deref.ensures.value c.in_ok-routes_along.ensures in
    derived-aspects c.args.layout.now c.args.slow.now c.args.rule c.in_ok-ways.ways.items c.in_ok-routes_along.field-0.items along

pub returns-clause-not_too_many : goal.returns-clause-not_too_many
returns-clause-not_too_many c = not-too_many c.args.layout.now c.args.entries.now c.in_ok-ways.ways.items c.in_ok-ways.ensures.found

pub returns-clause-approaches : goal.returns-clause-approaches
returns-clause-approaches c =
    let along = subst (λ ws. AreAlong c.args.layout.now c.args.slow.now c.args.rule ws c.in_ok-routes_along.field-0.items) c.deref.ensures.value c.in_ok-routes_along.ensures in
    derived-approaches c.args.layout.now c.args.slow.now c.args.rule c.in_ok-ways.ways.items c.in_ok-routes_along.field-0.items along
