use Rattle.simulator_move_laws.proofs.Links.Events.{event_goes}
use Rattle.simulator_move_laws.proofs.Links.Runs.{run_goes, world_goes, worlds_go}
use Rattle.simulator_move_laws.proofs.moves.events_are_moves.Goals as goal

pub returns-clause-event : goal.returns-clause-event
returns-clause-event c = λ names event ends are timely may. (event_goes (record {
  place = record {
    settles = c.links_are_settled.ensures;
    alone = c.alone_after_quiet.ensures.server;
    joined = c.one_connection.ensures.up;
    together = c.one_connection.ensures.server;
  };
  taking = record { opening = c.opening_is_new.ensures; nothing = c.what_is_taken.ensures.nothing; dead = c.alone_after_quiet.ensures.dead };
  time = c.every_event_keeps_time.ensures;
  stays = c.outside_until_it_enters.ensures.stays;
  counted = c.one_connection.ensures.counted;
}) names are ends timely event may).goes

pub returns-clause-run : goal.returns-clause-run
returns-clause-run c = run_goes (record {
  place = record {
    settles = c.links_are_settled.ensures;
    alone = c.alone_after_quiet.ensures.server;
    joined = c.one_connection.ensures.up;
    together = c.one_connection.ensures.server;
  };
  taking = record { opening = c.opening_is_new.ensures; nothing = c.what_is_taken.ensures.nothing; dead = c.alone_after_quiet.ensures.dead };
  time = c.every_event_keeps_time.ensures;
  stays = c.outside_until_it_enters.ensures.stays;
  counted = c.one_connection.ensures.counted;
})

pub returns-clause-world : goal.returns-clause-world
returns-clause-world c = world_goes (record {
  place = record {
    settles = c.links_are_settled.ensures;
    alone = c.alone_after_quiet.ensures.server;
    joined = c.one_connection.ensures.up;
    together = c.one_connection.ensures.server;
  };
  taking = record { opening = c.opening_is_new.ensures; nothing = c.what_is_taken.ensures.nothing; dead = c.alone_after_quiet.ensures.dead };
  time = c.every_event_keeps_time.ensures;
  stays = c.outside_until_it_enters.ensures.stays;
  counted = c.one_connection.ensures.counted;
}) c.each_link_sees_its_events.ensures.event c.each_link_sees_its_events.ensures.may_happen

pub returns-clause-worlds : goal.returns-clause-worlds
returns-clause-worlds c = worlds_go (record {
  place = record {
    settles = c.links_are_settled.ensures;
    alone = c.alone_after_quiet.ensures.server;
    joined = c.one_connection.ensures.up;
    together = c.one_connection.ensures.server;
  };
  taking = record { opening = c.opening_is_new.ensures; nothing = c.what_is_taken.ensures.nothing; dead = c.alone_after_quiet.ensures.dead };
  time = c.every_event_keeps_time.ensures;
  stays = c.outside_until_it_enters.ensures.stays;
  counted = c.one_connection.ensures.counted;
}) c.each_link_sees_its_events.ensures.run c.each_link_sees_its_events.ensures.may_run

pub returns-clause-server : goal.returns-clause-server
returns-clause-server c = λ names event ends are timely may. (event_goes (record {
  place = record {
    settles = c.links_are_settled.ensures;
    alone = c.alone_after_quiet.ensures.server;
    joined = c.one_connection.ensures.up;
    together = c.one_connection.ensures.server;
  };
  taking = record { opening = c.opening_is_new.ensures; nothing = c.what_is_taken.ensures.nothing; dead = c.alone_after_quiet.ensures.dead };
  time = c.every_event_keeps_time.ensures;
  stays = c.outside_until_it_enters.ensures.stays;
  counted = c.one_connection.ensures.counted;
}) names are ends timely event may).told
