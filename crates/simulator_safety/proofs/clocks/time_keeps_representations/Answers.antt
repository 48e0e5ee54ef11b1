use Rattle.simulator_link_laws.specs.simulator_event.declared.event.Event.TheVariants.{Time}
use Rattle.simulator_link_laws.specs.simulator_move_laws.Rows.{machine_table}
use Rattle.simulator_link_laws.specs.Events.{events_of}
use Rattle.simulator_link_laws.specs.simulator_spec.Happens.{happens}
use Rattle.simulator_link_laws.specs.simulator_spec.Refusals.{refusal}
use Rattle.simulator_safety.proofs.Time.{TimeLaws, clock_within, time_represented}
use Rattle.simulator_safety.proofs.clocks.time_keeps_representations.Goals as goal

pub returns : goal.returns
unfolding happens events_of refusal
returns c =
    let laws : TimeLaws = record {
      ends = record {
        at_end = c.clients_are_seen_at_their_ends.ensures;
        given = c.calls_give_and_take_at_the_ends.ensures.given;
        taken = c.calls_give_and_take_at_the_ends.ensures.taken;
        begun = c.calls_give_and_take_at_the_ends.ensures.begun;
        inside = c.representations_tell_the_connection.ensures.inside;
        signal_stays = c.signals_stay_elsewhere.ensures;
        point_stays = c.points_stay_elsewhere.ensures;
      };
      each = c.lawful_worlds_stay_lawful.ensures.each;
      fit = c.lawful_ends_are_fit.ensures.fit;
      signal_alone = c.signals_pass_time_and_restart.ensures.alone;
      point_alone = c.points_pass_time_and_restart.ensures.alone;
      signals_move = c.moves_of_each_are_moves.ensures.signals;
      points_move = c.moves_of_each_are_moves.ensures.points;
      compose = c.lists_of_moves_compose.ensures.then;
      alike = c.controllers_change_nothing_seen.ensures;
      passing = c.passing_time_is_moves.ensures;
      alone = c.clients_are_alone_after_quiet.ensures;
      known_signal_end = c.ends_are_those_of_the_nodes.ensures.known_signal;
      known_point_end = c.ends_are_those_of_the_nodes.ensures.known_point;
      reached = λ table old new. c.invariant_is_kept.ensures.reached (machine_table table) old new (c.tables_are_sound.ensures table);
    }
    in λ site table elapsed clocks world machine once station represented none. time_represented laws site table elapsed clocks world machine represented (clock_within site elapsed clocks world none)
    (c.networks_follow_their_worlds.ensures site table (Time elapsed clocks) world represented.network station once represented.linked none)
