use Rattle.route_derivation.proofs.TopologyLaws.{different-ways}
use Rattle.route_derivation.proofs.laws.derived_routes_lead_different_ways.Goals as goal

pub returns : goal.returns
returns c = different-ways
