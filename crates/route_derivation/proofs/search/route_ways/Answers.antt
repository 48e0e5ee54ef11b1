use Rattle.route_derivation.proofs.RouteWays.{finds_route_ways, finds_too_many}
use Rattle.route_derivation.proofs.search.route_ways.Goals as goal

pub returns-clause-found : goal.returns-clause-found
returns-clause-found c = finds_route_ways (λ v. v.items) c.args.layout.now c.args.entries.now c.ways_asked.result c.joints.ensures.once c.joints.ensures.station c.ways_asked.ensures

pub returns-clause-too_many : goal.returns-clause-too_many
returns-clause-too_many c = finds_too_many (λ v. v.items) c.args.layout.now c.args.entries.now c.ways_asked.result c.joints.ensures.once c.ways_asked.ensures
