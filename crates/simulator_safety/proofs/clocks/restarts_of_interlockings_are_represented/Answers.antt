use Rattle.std.proofs.Common.{◌≡◌, Option, sym, subst}
use Rattle.simulator_link_laws.specs.rasta_core.Links.{run_links}
use Rattle.simulator_link_laws.specs.simulator_event.declared.event.Event.TheVariants.{Restart}
use Rattle.simulator_machine.specs.Machine as machine
use Rattle.simulator_link_laws.specs.simulator_move_laws.Rows.{machine_table}
use Rattle.simulator_link_laws.specs.Events.{events_of, restart_events}
use Rattle.simulator_link_laws.specs.simulator_spec.Happens.{happens, made_anew}
use Rattle.simulator_link_laws.specs.simulator_spec.Nodes.{Node}
use Rattle.simulator_link_laws.specs.simulator_spec.Refusals.{refusal}
use Rattle.simulator_safety.specs.Represents.{IsNetworkOf, RepresentsAfter}
use Rattle.simulator_safety.proofs.Restart.{AnewLaws, restart_represented, restart_within}
use Rattle.simulator_safety.proofs.clocks.restarts_of_interlockings_are_represented.Goals as goal

pub returns : goal.returns
unfolding happens events_of refusal
returns c =
    let laws : AnewLaws = record {
      ends = record {
        at_end = c.clients_are_seen_at_their_ends.ensures;
        given = c.calls_give_and_take_at_the_ends.ensures.given;
        taken = c.calls_give_and_take_at_the_ends.ensures.taken;
        begun = c.calls_give_and_take_at_the_ends.ensures.begun;
        inside = c.representations_tell_the_connection.ensures.inside;
        signal_stays = c.signals_stay_elsewhere.ensures;
        point_stays = c.points_stay_elsewhere.ensures;
      };
      node = c.a_node_restarts.ensures;
      closes = c.restarts_of_links_are_moves.ensures.client;
      anew = c.restarts_are_moves.ensures;
      made = c.new_interlockings_are_just_made.ensures;
      frozen = c.represented_worlds_are_seen.ensures.frozen;
      reached = λ table old new. c.invariant_is_kept.ensures.reached (machine_table table) old new (c.tables_are_sound.ensures table);
    }
    in λ site table node clock first world kept once station is represented none at.
    subst (λ (n : Option Node). (after : RepresentsAfter site table kept (made_anew site table (record { clock = clock; first = first }) n world)) × (after.machine ≡ machine.made_anew kept)) (sym at)
    (restart_represented laws site table once station is (record { clock = clock; first = first }) world kept represented (restart_within site node clock none)
    (subst (λ (n : Option Node). IsNetworkOf site (made_anew site table (record { clock = clock; first = first }) n world) (run_links (restart_events site clock first n) represented.network)) at
    (c.networks_follow_their_worlds.ensures site table (Restart node clock first) world represented.network station once represented.linked none)))
