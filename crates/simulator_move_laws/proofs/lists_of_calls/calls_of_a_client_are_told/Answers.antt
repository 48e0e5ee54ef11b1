use Rattle.rasta_core.specs.identity.Role.TheVariants as role
use Rattle.simulator_move_laws.proofs.Links.Calls.{client_after}
use Rattle.simulator_move_laws.proofs.lists_of_calls.calls_of_a_client_are_told.Goals as goal

pub returns-clause-after : goal.returns-clause-after
returns-clause-after c = λ names calls ends are timely may. client_after (record {
  place = record {
    settles = c.links_are_settled.ensures;
    alone = c.alone_after_quiet.ensures.server;
    joined = c.one_connection.ensures.up;
    together = c.one_connection.ensures.server;
  };
  taking = record { opening = c.opening_is_new.ensures; nothing = c.what_is_taken.ensures.nothing; dead = c.alone_after_quiet.ensures.dead };
  time = c.every_event_keeps_time.ensures;
  stays = c.outside_until_it_enters.ensures.stays;
  counted = c.one_connection.ensures.counted;
}) names are calls ends timely may

pub returns-clause-server : goal.returns-clause-server
returns-clause-server c = c.calls_at_one_clock.ensures.partner role.Client
