use Rattle.simulator_link_laws.proofs.Named.{are_links}
use Rattle.simulator_link_laws.proofs.stations.layouts_name_their_links.Goals as goal

pub returns : goal.returns
returns c = are_links
