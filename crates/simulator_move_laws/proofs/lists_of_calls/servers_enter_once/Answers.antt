use Rattle.simulator_move_laws.proofs.Links.Calls.{enters_rightly}
use Rattle.simulator_move_laws.proofs.lists_of_calls.servers_enter_once.Goals as goal

pub returns : goal.returns
returns c = λ names call entered ends are timely may. enters_rightly (record {
  place = record {
    settles = c.links_are_settled.ensures;
    alone = c.alone_after_quiet.ensures.server;
    joined = c.one_connection.ensures.up;
    together = c.one_connection.ensures.server;
  };
  taking = record { opening = c.opening_is_new.ensures; nothing = c.what_is_taken.ensures.nothing; dead = c.alone_after_quiet.ensures.dead };
  time = c.every_event_keeps_time.ensures;
  stays = c.outside_until_it_enters.ensures.stays;
  counted = c.one_connection.ensures.counted;
}) names are ends timely call entered may
