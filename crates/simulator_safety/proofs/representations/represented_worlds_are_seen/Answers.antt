use Rattle.simulator_safety.proofs.Represented.{SeeingLaws, held, represented_is_seen}
use Rattle.simulator_safety.proofs.There.{held_there}
use Rattle.simulator_safety.proofs.representations.represented_worlds_are_seen.Goals as goal

pub returns : goal.returns
returns c =
    let laws : SeeingLaws = record {
      signal_end = c.ends_are_those_of_the_nodes.ensures.signal;
      point_end = c.ends_are_those_of_the_nodes.ensures.point;
      each = c.lawful_worlds_stay_lawful.ensures.each;
      fit = c.lawful_ends_are_fit.ensures.fit;
      shows = c.signal_shows_what_is_seen.ensures;
      driven = c.driven_points_are_seen_driven.ensures;
      held = λ table station frozen machine. c.held_pairs_are_held_routes.ensures table station frozen machine (c.tables_are_sound.ensures table);
    }
    in record {
      seen = λ site table world machine station is represented. represented_is_seen laws site table world machine station is represented;
      frozen = λ site table world machine station is represented. record {
        pairs = held laws site table world machine station is represented;
        there = held_there site table station is world.interlocking world.frozen represented.frozen.there;
      };
    }
