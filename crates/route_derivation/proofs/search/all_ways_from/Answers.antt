use Rattle.route_derivation.proofs.ImpossibleLaws.{finds-many, finds-same}
use Rattle.route_derivation.specs.inside.WaySearch.{ways_from}
use Rattle.std.proofs.Common.{false}
use Rattle.route_derivation.proofs.search.all_ways_from.Goals as goal

pub returns-clause-found : goal.returns-clause-found
returns-clause-found c = finds-same (λ v. v.items) c.ways_alone.result (ways_from false c.args.layout.now c.args.signal) c.ways_alone.ensures

pub returns-clause-many : goal.returns-clause-many
returns-clause-many c = finds-many c.args.layout.now c.joints.ensures.once c.args.signal (λ v. v.items) c.ways_alone.result c.ways_alone.ensures
