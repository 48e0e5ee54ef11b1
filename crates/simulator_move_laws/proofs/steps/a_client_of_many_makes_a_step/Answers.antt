use Rattle.simulator_move_laws.proofs.Links.NodeSteps.{clients_after}
use Rattle.simulator_move_laws.proofs.steps.a_client_of_many_makes_a_step.Goals as goal

pub returns : goal.returns
returns c = λ count names calls links are timely may. clients_after (record {
  place = record {
    settles = c.links_are_settled.ensures;
    alone = c.alone_after_quiet.ensures.server;
    joined = c.one_connection.ensures.up;
    together = c.one_connection.ensures.server;
  };
  taking = record { opening = c.opening_is_new.ensures; nothing = c.what_is_taken.ensures.nothing; dead = c.alone_after_quiet.ensures.dead };
  time = c.every_event_keeps_time.ensures;
  stays = c.outside_until_it_enters.ensures.stays;
  counted = c.one_connection.ensures.counted;
}) c.each_link_sees_its_events.ensures.event c.each_link_sees_its_events.ensures.may_happen c.links_keep_time.ensures.kept count names are calls links timely may
