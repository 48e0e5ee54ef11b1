use Rattle.rasta_core.specs.Ends.{reading_of}
use Rattle.rasta_core.specs.identity.Role.TheVariants as role
use Rattle.simulator_move_laws.proofs.Links.Requests.{call_asks_none, call_asks_once}
use Rattle.simulator_move_laws.proofs.lists_of_calls.clients_ask_where_they_begin.Goals as goal

pub returns-clause-once : goal.returns-clause-once
returns-clause-once c = λ names call ends timely begun. call_asks_once (reading_of ends.client.clock) call ends.client.link (c.links_are_settled.ensures names ends role.Client timely) begun

pub returns-clause-none : goal.returns-clause-none
returns-clause-none c = call_asks_none
