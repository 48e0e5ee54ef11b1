use Rattle.simulator_spec.specs.rasta_core.identity.Role.TheVariants as role
use Rattle.simulator_link_laws.proofs.Laws.{ClientLaws, LinkLaws}
use Rattle.simulator_link_laws.proofs.Parts.{StepLaws}
use Rattle.simulator_link_laws.proofs.Station.{NodeLaws, may_come, reached}
use Rattle.simulator_link_laws.proofs.nodes.interlockings_call_their_nodes.Goals as goal

pub returns : goal.returns
returns c =
    let link : LinkLaws = record {
      settles = c.links_are_settled.ensures;
      sees = c.each_link_sees_its_events.ensures.event;
      may = c.each_link_sees_its_events.ensures.may_happen;
      time = c.links_keep_time.ensures.kept;
      run_time = c.links_keep_time.ensures.run;
    }
    in let asking : ClientLaws = record {
      once = c.clients_ask_where_they_begin.ensures.once;
      none = c.clients_ask_where_they_begin.ensures.none;
      opening = c.opening_is_new.ensures;
      nothing = c.what_is_taken.ensures.nothing;
    }
    in let node : NodeLaws = record {
      end = λ who calls links link. (c.a_node_makes_a_step.ensures.end who calls links link).clock;
      partner = c.a_node_makes_a_step.ensures.partner role.Client;
    }
    in let steps : StepLaws = record {
      receipt = c.step_is_calls.ensures.receipt;
      command = c.step_is_calls.ensures.command;
      tick = c.step_is_calls.ensures.tick;
      written = c.written_is_read.ensures.item;
    }
    in λ site table input connection world before are_links whole timely are comes.
    (reached link asking node steps site are_links table connection world before whole timely are input (may_come link asking node steps site are_links table connection world before whole timely are input comes)).nodes
