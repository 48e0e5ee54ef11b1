use Rattle.simulator_move_laws.proofs.Links.TimePasses.{begins_none, down_stays}
use Rattle.simulator_move_laws.proofs.what_stays.only_calls_begin_connections.Goals as goal

pub returns-clause-begins : goal.returns-clause-begins
returns-clause-begins c = λ names event ends are timely may. begins_none c.links_are_settled.ensures names event ends timely (c.every_event_keeps_time.ensures names event ends are timely may)

pub returns-clause-down : goal.returns-clause-down
returns-clause-down c = down_stays c.links_are_settled.ensures
