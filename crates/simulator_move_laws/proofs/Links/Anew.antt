-- What stays as it was at a link, and an end that is made anew.
use Rattle.std.proofs.Common.{◌≡◌, ℕ, false, List, ◌++◌, refl, ap, subst, ◌∙◌}
use Rattle.std.proofs.lemmas.List.{append-nil}
use Rattle.rasta_core.specs.Ends.{end_after, end_later, end_restarted}
use Rattle.rasta_core.specs.Events.{Calls, Elsewhere, Event, Loses, Passes, Restarts, happened}
use Rattle.rasta_core.specs.Run.{Ends, called, end_of, later, lost, restarted}
use Rattle.rasta_core.specs.State.{is_open}
use Rattle.rasta_core.specs.Calls.{created}
use Rattle.rasta_core.specs.identity.Role.{Role}
use Rattle.rasta_core.specs.identity.Role.TheVariants as role
use Rattle.rasta_core.specs.phase.State.{State}
use Rattle.simulator_machine.specs.Link.{Closes, LinkMove, link_after}
use Rattle.simulator_move_laws.specs.Flows.{KeepsLists, LeavesUncalled}
use Rattle.simulator_move_laws.specs.LinkMoves.{LinkGoes, moves_between, moves_by, server_moves}
use Rattle.simulator_move_laws.specs.EndsSeen.{client_in, client_of, represented, server_of}
use Rattle.simulator_move_laws.proofs.Links.Runs.{client_stays}
use Rattle.simulator_move_laws.proofs.Links.States.{made_quiet}

pub lists_stay : (event : Event) (ends : Ends) (who : Role) → LeavesUncalled who event → KeepsLists (end_of who ends) (end_of who (happened event ends))
unfolding called later lost restarted end_after end_later end_restarted
lists_stay (Calls role.Client call) ends role.Client stays = absurd stays
lists_stay (Calls role.Server call) ends role.Server stays = absurd stays
lists_stay (Calls role.Client call) ends role.Server stays = record { connection = refl; given = refl; taken = refl }
lists_stay (Calls role.Server call) ends role.Client stays = record { connection = refl; given = refl; taken = refl }
lists_stay (Passes elapsed of_client of_server) ends role.Client stays = record { connection = refl; given = refl; taken = refl }
lists_stay (Passes elapsed of_client of_server) ends role.Server stays = record { connection = refl; given = refl; taken = refl }
lists_stay (Loses bytes) ends role.Client stays = record { connection = refl; given = refl; taken = refl }
lists_stay (Loses bytes) ends role.Server stays = record { connection = refl; given = refl; taken = refl }
lists_stay (Restarts role.Client clock first) ends role.Client stays = record { connection = refl; given = refl; taken = refl }
lists_stay (Restarts role.Client clock first) ends role.Server stays = record { connection = refl; given = refl; taken = refl }
lists_stay (Restarts role.Server clock first) ends role.Client stays = record { connection = refl; given = refl; taken = refl }
lists_stay (Restarts role.Server clock first) ends role.Server stays = record { connection = refl; given = refl; taken = refl }
lists_stay (Elsewhere count) ends role.Client stays = record { connection = refl; given = refl; taken = refl }
lists_stay (Elsewhere count) ends role.Server stays = record { connection = refl; given = refl; taken = refl }

pub client_anew : (clock first : ℕ) (ends : Ends) → represented (happened (Restarts role.Client clock first) ends) ≡ link_after Closes (represented ends)
unfolding represented restarted end_restarted
client_anew clock first ends = ap (λ (s : State). record (represented ends) { client = client_in s }) (made_quiet ends.client.link.identity first clock)

pub server_anew : (clock first : ℕ) (ends : Ends)
    → LinkGoes (moves_between (represented ends) (represented (happened (Restarts role.Server clock first) ends))) (represented ends) (represented (happened (Restarts role.Server clock first) ends))
    → server_moves (server_of ends) (server_of (happened (Restarts role.Server clock first) ends)) ≡ moves_by false (is_open ends.server.link.phase) (is_open (happened (Restarts role.Server clock first) ends).server.link.phase)
    → LinkGoes (moves_by false (is_open ends.server.link.phase) false) (represented ends) (represented (happened (Restarts role.Server clock first) ends))
unfolding represented restarted end_restarted created
server_anew clock first ends goes told =
    let new : Ends = happened (Restarts role.Server clock first) ends
    in subst (λ (moves : List LinkMove). LinkGoes moves (represented ends) (represented new))
    (ap (λ (moves : List LinkMove). server_moves (server_of ends) (server_of new) ++ moves) (client_stays (client_of ends.client)) ∙ append-nil (server_moves (server_of ends) (server_of new)) ∙ told) goes
