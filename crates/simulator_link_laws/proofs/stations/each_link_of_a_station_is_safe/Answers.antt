use Rattle.simulator_spec.specs.rasta_core.Invariant.{Timely}
use Rattle.simulator_spec.specs.rasta_core.Links.{AreLinks, begun, seen}
use Rattle.simulator_spec.specs.Links.{names_at, starts_at_zero}
use Rattle.simulator_spec.specs.Nodes.{links}
use Rattle.simulator_link_laws.specs.HasLinks.{links_in}
use Rattle.simulator_link_laws.proofs.stations.each_link_of_a_station_is_safe.Goals as goal

pub returns : goal.returns
returns c = λ site world station once has link below.
    let are : AreLinks (links site) (names_at site) = c.layouts_name_their_links.ensures site station once in
    let timely : Timely (names_at site link) (seen link (links_in has))
    = (c.links_keep_time.ensures.run (links site) (names_at site) has.events (begun (names_at site) starts_at_zero) are (c.links_keep_time.ensures.starts (links site) (names_at site) starts_at_zero are) has.may).each link below
    in record {
      safe = c.each_link_is_a_run.ensures.safe (links site) (names_at site) starts_at_zero has.events are has.may link below;
      fresh = λ who bytes connection datagram is some. c.items_are_fresh.ensures (names_at site link) (seen link (links_in has)) who bytes connection datagram (are.each link below) timely is some;
      own = λ who bytes connection datagram is taken. c.own_connection.ensures.taken (names_at site link) (seen link (links_in has)) who bytes connection datagram timely is taken;
      opening = λ who bytes connection datagram is out taken. c.opening_is_new.ensures (names_at site link) (seen link (links_in has)) who bytes connection datagram (are.each link below) timely is out taken;
    }
