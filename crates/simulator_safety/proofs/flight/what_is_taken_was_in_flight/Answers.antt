use Rattle.std.proofs.Common.{ℕ, ◌<◌}
use Rattle.simulator_link_laws.specs.rasta_core.Ends.{Receives}
use Rattle.simulator_link_laws.specs.rasta_core.Events.{MayCall}
use Rattle.simulator_link_laws.specs.rasta_core.Links.{AreLinks, seen}
use Rattle.simulator_link_laws.specs.rasta_core.identity.Role.TheVariants as role
use Rattle.simulator_link_laws.specs.simulator_spec.Links.{names_at}
use Rattle.simulator_link_laws.specs.simulator_spec.Network.{connection_of, copy_of}
use Rattle.simulator_link_laws.specs.simulator_spec.Nodes.{links, point_link}
use Rattle.simulator_safety.proofs.FlightEnds.{FlightLaws}
use Rattle.simulator_safety.proofs.FlightTaken.{TakingLaws, was_in_flight}
use Rattle.simulator_safety.proofs.flight.what_is_taken_was_in_flight.Goals as goal

pub returns : goal.returns
returns c = λ site table node bytes world machine station once represented none.
    let laws : FlightLaws = record {
      signal_end = c.ends_are_those_of_the_nodes.ensures.signal;
      point_end = c.ends_are_those_of_the_nodes.ensures.point;
      begun = c.ends_are_those_of_the_nodes.ensures.begun;
      each = c.lawful_worlds_stay_lawful.ensures.each;
      inside = c.representations_tell_the_connection.ensures.inside;
      outside = c.representations_tell_the_connection.ensures.outside;
      one = c.representations_tell_the_connection.ensures.one;
      flows = c.flows_are_in_order.ensures.flows;
      counts = c.flows_are_in_order.ensures.server;
      before = c.flows_are_in_order.ensures.before;
    }
    in let taking : TakingLaws = record {
      flight = laws;
      kept = c.lawful_links_stay_lawful.ensures.kept;
      safe = c.flows_are_in_order.ensures.safe;
      enters = c.servers_enter_once.ensures;
      nothing = c.outside_until_it_enters.ensures.nothing;
    }
    in let network = represented.network
    in let linked = represented.linked
    in let are : AreLinks (links site) (names_at site) = c.layouts_name_their_links.ensures site station once
    in let connection = connection_of (copy_of bytes world)
    in let may : (link : ℕ) → link < links site → MayCall (names_at site link) role.Server (Receives bytes connection) (seen link network) = λ link below. c.deliveries_may_come.ensures.ends site role.Server bytes connection network are linked.lawful.timely link below
    (c.deliveries_may_come.ensures.links site node bytes world network linked.are none link)
    in record {
      signals = λ place controller at item takes.
          let end = c.ends_are_those_of_the_nodes.ensures.signal site world network linked.whole linked.are place controller at
          in was_in_flight taking site world network linked place end.0 (are.each place end.0) controller end.1 bytes connection (may place end.0) item takes;
      points = λ place controller at item takes.
          let end = c.ends_are_those_of_the_nodes.ensures.point site world network linked.whole linked.are place controller at
          in was_in_flight taking site world network linked (point_link site place) end.0 (are.each (point_link site place) end.0) controller end.1 bytes connection (may (point_link site place) end.0) item takes;
    }
