use Rattle.std.proofs.Common.{ap}
use Rattle.rasta_core.specs.Events.{Calls}
use Rattle.rasta_core.specs.Steps.{calls_at}
use Rattle.rasta_core.specs.identity.Identity.{Identity}
use Rattle.rasta_core.specs.identity.Role.TheVariants as role
use Rattle.simulator_move_laws.specs.EndsSeen.{client_of}
use Rattle.simulator_move_laws.proofs.Links.Runs.{calls_go}
use Rattle.simulator_move_laws.proofs.Links.ServerCalls.{first_enters, none_enter}
use Rattle.simulator_move_laws.proofs.lists_of_calls.calls_of_a_server_are_moves.Goals as goal

pub returns-clause-goes : goal.returns-clause-goes
returns-clause-goes c = calls_go c.events_are_moves.ensures.event (c.calls_at_one_clock.ensures.partner role.Server) c.every_event_keeps_time.ensures

pub returns-clause-client : goal.returns-clause-client
returns-clause-client c = λ calls ends. ap client_of (c.calls_at_one_clock.ensures.partner role.Server calls ends)

pub returns-clause-none : goal.returns-clause-none
returns-clause-none c = λ names calls ends are timely may none. none_enter (record {
  place = record {
    settles = c.links_are_settled.ensures;
    alone = c.alone_after_quiet.ensures.server;
    joined = c.one_connection.ensures.up;
    together = c.one_connection.ensures.server;
  };
  time = λ names calls ends are timely may. c.every_run_keeps_time.ensures names (calls_at role.Server calls) ends are timely may;
  goes = calls_go c.events_are_moves.ensures.event (c.calls_at_one_clock.ensures.partner role.Server) c.every_event_keeps_time.ensures;
  client = c.calls_at_one_clock.ensures.partner role.Server;
  stays = c.calls_at_one_clock.ensures.items role.Server;
  told = λ names call ends are timely may. c.events_are_moves.ensures.server names (Calls role.Server call) ends are timely may.0;
  outside = c.outside_until_it_enters.ensures.server;
}) names are calls ends timely may none

pub returns-clause-first : goal.returns-clause-first
returns-clause-first c = λ names call calls ends are timely may none. first_enters (record {
  place = record {
    settles = c.links_are_settled.ensures;
    alone = c.alone_after_quiet.ensures.server;
    joined = c.one_connection.ensures.up;
    together = c.one_connection.ensures.server;
  };
  time = λ names calls ends are timely may. c.every_run_keeps_time.ensures names (calls_at role.Server calls) ends are timely may;
  goes = calls_go c.events_are_moves.ensures.event (c.calls_at_one_clock.ensures.partner role.Server) c.every_event_keeps_time.ensures;
  client = c.calls_at_one_clock.ensures.partner role.Server;
  stays = c.calls_at_one_clock.ensures.items role.Server;
  told = λ names call ends are timely may. c.events_are_moves.ensures.server names (Calls role.Server call) ends are timely may.0;
  outside = c.outside_until_it_enters.ensures.server;
}) names are call calls ends timely (ap (λ (i : Identity). i.role) timely.server.identity) may none
