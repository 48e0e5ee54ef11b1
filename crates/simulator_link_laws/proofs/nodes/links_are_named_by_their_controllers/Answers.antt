use Rattle.simulator_spec.specs.Nodes.{point_link}
use Rattle.simulator_link_laws.proofs.Partners.{below_links, named_at, point_partner, signal_partner}
use Rattle.simulator_link_laws.proofs.nodes.links_are_named_by_their_controllers.Goals as goal

pub returns : goal.returns
returns c = record {
  signal = λ site place entry at. (below_links site place entry.id (signal_partner site place entry at), named_at site place entry.id (signal_partner site place entry at));
  point = λ site place entry at.
      (below_links site (point_link site place) entry.id (point_partner site place entry at), named_at site (point_link site place) entry.id (point_partner site place entry at));
}
