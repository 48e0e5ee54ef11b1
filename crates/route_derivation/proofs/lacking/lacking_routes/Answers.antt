use Rattle.route_derivation.specs.Derived.{HasDerivedAspect}
use Rattle.route_derivation.specs.Approach.{IsApproach}
use Rattle.route_derivation.proofs.LackingLaws.{are-lacking, lacking-all}
use Rattle.route_derivation.proofs.lacking.lacking_routes.Goals as goal

pub returns-clause-lacking : goal.returns-clause-lacking
returns-clause-lacking c =
    are-lacking c.args.layout.now c.args.entries.now c.in_ok-routes.routes.items c.in_ok-lacking.field-0.items c.in_ok-routes.ensures.derived c.in_ok-lacking.ensures

pub returns-clause-aspects : goal.returns-clause-aspects
returns-clause-aspects c = lacking-all c.args.layout.now (HasDerivedAspect c.args.slow.now) c.in_ok-routes.routes.items c.in_ok-lacking.field-0.items c.in_ok-lacking.ensures c.in_ok-routes.ensures.aspects

pub returns-clause-approaches : goal.returns-clause-approaches
returns-clause-approaches c = lacking-all c.args.layout.now (λ r. IsApproach c.args.layout.now c.args.rule r.entry r.approach) c.in_ok-routes.routes.items c.in_ok-lacking.field-0.items c.in_ok-lacking.ensures c.in_ok-routes.ensures.approaches
