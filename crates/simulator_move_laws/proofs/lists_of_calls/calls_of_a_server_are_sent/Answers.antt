use Rattle.rasta_core.specs.Events.{Calls}
use Rattle.rasta_core.specs.identity.Role.TheVariants as role
use Rattle.simulator_move_laws.proofs.Links.ServerSends.{first_after, none_after}
use Rattle.simulator_move_laws.proofs.lists_of_calls.calls_of_a_server_are_sent.Goals as goal

pub returns-clause-none : goal.returns-clause-none
returns-clause-none c = λ names calls ends are timely may none. none_after (record {
  time = λ names call ends are timely may. c.every_event_keeps_time.ensures names (Calls role.Server call) ends are timely may.0;
  stays = c.outside_until_it_enters.ensures.stays;
  nothing = c.outside_until_it_enters.ensures.nothing;
}) names are (c.calls_at_one_clock.ensures.end role.Server) calls ends timely may none

pub returns-clause-first : goal.returns-clause-first
returns-clause-first c = λ names call calls ends are timely may none. first_after (record {
  time = λ names call ends are timely may. c.every_event_keeps_time.ensures names (Calls role.Server call) ends are timely may.0;
  stays = c.outside_until_it_enters.ensures.stays;
  nothing = c.outside_until_it_enters.ensures.nothing;
}) names are (c.calls_at_one_clock.ensures.end role.Server) call calls ends timely may none
