-- What the machine sees of the ends of a link.
use Rattle.std.proofs.Common.{◌≡◌, ◌≢◌, ℕ, Bool, true, false, nat_lt, Some, sym, ap, ◌∙◌}
use Rattle.rasta_core.specs.Clock.{deadline, settled}
use Rattle.rasta_core.specs.Ends.{reading_of}
use Rattle.rasta_core.specs.Invariant.{Timely}
use Rattle.rasta_core.specs.Names.{Names}
use Rattle.rasta_core.specs.Run.{Ends, end_of}
use Rattle.rasta_core.specs.Sentences.{IsIn}
use Rattle.rasta_core.specs.State.{is_open, is_up}
use Rattle.rasta_core.specs.identity.Role.{Role}
use Rattle.rasta_core.specs.identity.Role.TheVariants as role
use Rattle.simulator_machine.specs.Link.{In, Up}
use Rattle.simulator_move_laws.specs.Flows.{AreInOne}
use Rattle.simulator_move_laws.specs.EndsSeen.{client_of, is_same_connection, server_in, server_of}
use Rattle.simulator_move_laws.proofs.Links.Goes.{PlaceLaws, inside_is, not_inside}
use Rattle.simulator_move_laws.proofs.Links.States.{before_deadline, client_up, up_is_up}

-- every link is settled
abbrev pub AreSettled : Type 0
AreSettled = (names : Names) (ends : Ends) (who : Role) → Timely names ends → settled (reading_of (end_of who ends).clock) (end_of who ends).link ≡ (end_of who ends).link

pub seen_up : AreSettled → (names : Names) (ends : Ends) → Timely names ends → is_up ends.client.link.phase ≡ true → client_of ends.client ≡ Up
seen_up settles names ends timely up = client_up ends.client (settles names ends role.Client timely) up

pub up_seen : AreSettled → (names : Names) (ends : Ends) → Timely names ends → client_of ends.client ≡ Up → is_up ends.client.link.phase ≡ true
up_seen settles names ends timely seen = up_is_up ends.client (settles names ends role.Client timely) seen

pub inside_in : PlaceLaws → (names : Names) (ends : Ends) → Timely names ends → is_open ends.server.link.phase ≡ true → server_of ends ≡ In
inside_in laws names ends timely opened =
    ap (λ (b : Bool). server_in b (is_same_connection ends.client.connection ends.server.connection)) (inside_is laws names ends timely ∙ opened)

pub outside_not_in : PlaceLaws → (names : Names) (ends : Ends) → Timely names ends → is_open ends.server.link.phase ≡ false → server_of ends ≢ In
outside_not_in laws names ends timely shut = not_inside laws names ends timely (is_same_connection ends.client.connection ends.server.connection) (inside_is laws names ends timely ∙ shut)

pub in_one : ((names : Names) (ends : Ends) (who : Role) → Timely names ends → IsIn who ends → (connection : ℕ) × ((end_of who ends).connection ≡ Some connection))
    → ((names : Names) (ends : Ends) → Timely names ends → IsIn role.Server ends → ends.server.connection ≡ ends.client.connection)
    → (names : Names) (ends : Ends) → Timely names ends → is_open ends.server.link.phase ≡ true → AreInOne ends
in_one some together names ends timely opened =
    let within = some names ends role.Server timely opened
    in record { connection = within.0; client = sym (together names ends timely opened) ∙ within.1; server = within.1 }

pub all_alive : AreSettled → (names : Names) (ends : Ends) (who : Role) → Timely names ends → is_open (end_of who ends).link.phase ≡ true
    → nat_lt (reading_of (end_of who ends).clock) (deadline (end_of who ends).link) ≡ true
all_alive settles names ends who timely opened = before_deadline (reading_of (end_of who ends).clock) (end_of who ends).link (settles names ends who timely) opened
