use Rattle.simulator_spec.specs.rasta_core.identity.Role.TheVariants as role
use Rattle.simulator_spec.specs.Happens.{happens}
use Rattle.simulator_link_laws.proofs.AllKept.{event_keeps}
use Rattle.simulator_link_laws.proofs.ByKind.{followed}
use Rattle.simulator_link_laws.proofs.Everything.{AllLaws, event_follows}
use Rattle.simulator_link_laws.specs.Events.{events_of}
use Rattle.simulator_link_laws.proofs.events.events_are_those_of_the_links.Goals as goal

pub returns : goal.returns
returns c =
    let laws : AllLaws = record {
      link = record {
        settles = c.links_are_settled.ensures;
        sees = c.each_link_sees_its_events.ensures.event;
        may = c.each_link_sees_its_events.ensures.may_happen;
        time = c.links_keep_time.ensures.kept;
        run_time = c.links_keep_time.ensures.run;
      };
      calling = record {
        after = c.calls_at_one_clock.ensures.end;
        all = c.calls_may_follow_calls.ensures.all;
        stays = c.outside_until_it_enters.ensures.stays;
        nothing = c.outside_until_it_enters.ensures.nothing;
        partner = c.calls_at_one_clock.ensures.partner role.Server;
        own = c.a_node_of_one_link_makes_a_step.ensures.own;
        others = c.a_node_of_one_link_makes_a_step.ensures.ends;
      };
      serving = record { none = c.calls_of_a_server_are_sent.ensures.none; first = c.calls_of_a_server_are_sent.ensures.first };
      asking = record {
        once = c.clients_ask_where_they_begin.ensures.once;
        none = c.clients_ask_where_they_begin.ensures.none;
        opening = c.opening_is_new.ensures;
        nothing = c.what_is_taken.ensures.nothing;
      };
      node = record {
        end = λ who calls links link. (c.a_node_makes_a_step.ensures.end who calls links link).clock;
        partner = c.a_node_makes_a_step.ensures.partner role.Client;
      };
      restarts = c.a_node_restarts.ensures;
      steps = record {
        receipt = c.step_is_calls.ensures.receipt;
        command = c.step_is_calls.ensures.command;
        tick = c.step_is_calls.ensures.tick;
        written = c.written_is_read.ensures.item;
      };
      detector = record { calls_for = c.step_is_calls-2.ensures.first; made_of = c.step_is_calls-2.ensures.made };
      point = record { calls_for = c.step_is_calls-3.ensures.first; made_of = c.step_is_calls-3.ensures.made };
      signal = record { calls_for = c.step_is_calls-4.ensures.first; made_of = c.step_is_calls-4.ensures.made };
      delivered = c.copies_are_delivered.ensures;
      tested = c.intact_is_tested.ensures;
    }
    in record {
      follow = λ site table happening world before are_links whole timely are none. followed site (events_of site table happening world) (happens site table happening world) before
          (event_follows laws site are_links table before timely happening world whole are none);
      exactly = λ site table happening world before are_links whole timely are none. event_follows laws site are_links table before timely happening world whole are none;
      whole = λ site table happening world before are_links station whole timely are none. event_keeps laws site are_links station table before timely happening world whole are none;
    }
