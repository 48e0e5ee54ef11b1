use Rattle.simulator_safety.proofs.HeldInFlight.{SayingLaws, held_aspects}
use Rattle.simulator_safety.proofs.FlightEnds.{FlightLaws}
use Rattle.simulator_safety.proofs.flight.aspects_in_flight_are_of_held_routes.Goals as goal

pub returns : goal.returns
returns c =
    let laws : FlightLaws = record {
      signal_end = c.ends_are_those_of_the_nodes.ensures.signal;
      point_end = c.ends_are_those_of_the_nodes.ensures.point;
      begun = c.ends_are_those_of_the_nodes.ensures.begun;
      each = c.lawful_worlds_stay_lawful.ensures.each;
      inside = c.representations_tell_the_connection.ensures.inside;
      outside = c.representations_tell_the_connection.ensures.outside;
      one = c.representations_tell_the_connection.ensures.one;
      flows = c.flows_are_in_order.ensures.flows;
      counts = c.flows_are_in_order.ensures.server;
      before = c.flows_are_in_order.ensures.before;
    }
    in let saying : SayingLaws = record { aspects_join = c.items_join.ensures.aspects; moves_join = c.items_join.ensures.moves }
    in λ site table world machine station is represented.
    held_aspects laws saying site table world machine is represented (c.represented_worlds_are_seen.ensures.seen site table world machine station is represented)
