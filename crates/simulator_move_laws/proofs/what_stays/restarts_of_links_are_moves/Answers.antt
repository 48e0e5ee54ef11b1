use Rattle.rasta_core.specs.Events.{Restarts}
use Rattle.rasta_core.specs.identity.Role.TheVariants as role
use Rattle.simulator_move_laws.proofs.Links.Anew.{client_anew, server_anew}
use Rattle.simulator_move_laws.proofs.what_stays.restarts_of_links_are_moves.Goals as goal

pub returns-clause-client : goal.returns-clause-client
returns-clause-client c = client_anew

pub returns-clause-server : goal.returns-clause-server
returns-clause-server c = λ names clock first ends are timely. server_anew clock first ends
    (c.events_are_moves.ensures.event names (Restarts role.Server clock first) ends are timely tt) (c.events_are_moves.ensures.server names (Restarts role.Server clock first) ends are timely tt)
