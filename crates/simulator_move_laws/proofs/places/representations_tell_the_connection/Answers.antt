use Rattle.simulator_move_laws.proofs.Links.Goes.{down_not_in, up_not_before}
use Rattle.simulator_move_laws.proofs.Links.EndsSeen.{all_alive, in_one, inside_in, outside_not_in, seen_up, up_seen}
use Rattle.simulator_move_laws.proofs.places.representations_tell_the_connection.Goals as goal

pub returns-clause-up : goal.returns-clause-up
returns-clause-up c = seen_up c.links_are_settled.ensures

pub returns-clause-is_up : goal.returns-clause-is_up
returns-clause-is_up c = up_seen c.links_are_settled.ensures

pub returns-clause-entered : goal.returns-clause-entered
returns-clause-entered c = up_not_before (record {
  settles = c.links_are_settled.ensures;
  alone = c.alone_after_quiet.ensures.server;
  joined = c.one_connection.ensures.up;
  together = c.one_connection.ensures.server;
})

pub returns-clause-alone : goal.returns-clause-alone
returns-clause-alone c = down_not_in (record {
  settles = c.links_are_settled.ensures;
  alone = c.alone_after_quiet.ensures.server;
  joined = c.one_connection.ensures.up;
  together = c.one_connection.ensures.server;
})

pub returns-clause-inside : goal.returns-clause-inside
returns-clause-inside c = inside_in (record {
  settles = c.links_are_settled.ensures;
  alone = c.alone_after_quiet.ensures.server;
  joined = c.one_connection.ensures.up;
  together = c.one_connection.ensures.server;
})

pub returns-clause-outside : goal.returns-clause-outside
returns-clause-outside c = outside_not_in (record {
  settles = c.links_are_settled.ensures;
  alone = c.alone_after_quiet.ensures.server;
  joined = c.one_connection.ensures.up;
  together = c.one_connection.ensures.server;
})

pub returns-clause-one : goal.returns-clause-one
returns-clause-one c = in_one c.one_connection.ensures.some c.one_connection.ensures.server

pub returns-clause-alive : goal.returns-clause-alive
returns-clause-alive c = all_alive c.links_are_settled.ensures
