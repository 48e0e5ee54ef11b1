-- The order between two ends, with all that was sent: the flow of each end is just what it sent in the connection.
use Rattle.std.specs.Prelude.{◌≡◌, ℕ, List, [], ◌∷◌, ◌++◌, Some, None, Result, Ok, Err, if◌then◌else◌}
use Rattle.rasta_core_spec.specs.Ends.{Sent}
use Rattle.rasta_core_spec.specs.Given.{is_of}
use Rattle.rasta_core_spec.specs.Names.{Names}
use Rattle.rasta_core_spec.specs.PduRead.{reading}
use Rattle.rasta_core_spec.specs.Run.{Ends}
use Rattle.rasta_core_spec.specs.identity.Role.{Role}
use Rattle.rasta_core_spec.specs.identity.Role.TheVariants as role
use Rattle.rasta_core_spec.specs.pdu.Pdu.{Pdu}
use Rattle.rasta_core_spec.specs.pdu_fault.PduFault.{PduFault}
use Rattle.rasta_core.specs.EndFlow.{EndFlow}
use Rattle.rasta_core.specs.FirstPdus.{IsEarly, PlaysEarly}
use Rattle.rasta_core.specs.LinkAndFlow.{Plays}
use Rattle.rasta_core.specs.Order.{InOrder}

abbrev pub pdus_in : Result Pdu PduFault → List Pdu
pdus_in (Ok pdu) = pdu ∷ []
pdus_in (Err fault) = []

-- the PDUs that an end sent in a connection, oldest first
abbrev pub pdus_of : Names → Role → ℕ → List Sent → List Pdu
pdus_of names who connection [] = []
pdus_of names who connection (first ∷ later) =
    (if is_of who connection first then pdus_in (reading names.key first.bytes) else []) ++ pdus_of names who connection later

-- The client has begun its last connection, and the server hasn't entered it.
pub record IsAlone (names : Names) (ends : Ends) : Type 0 where
  pub connection : ℕ
  pub client : EndFlow
  pub of_client : ends.client.connection ≡ Some connection
  pub not_of_server : ends.server.connection ≡ Some connection → ⊥
  pub early : IsEarly client
  pub plays : PlaysEarly ends.client.link client
  pub flow : pdus_of names role.Client connection ends.sent ≡ client.flow

-- The last connection of both ends is the same, and in order.
pub record AreTogether (names : Names) (ends : Ends) : Type 0 where
  pub connection : ℕ
  pub client : EndFlow
  pub server : EndFlow
  pub of_client : ends.client.connection ≡ Some connection
  pub of_server : ends.server.connection ≡ Some connection
  pub order : InOrder client server
  pub client_plays : Plays ends.client.link client server
  pub server_plays : Plays ends.server.link server client
  pub client_given : client.given ≡ ends.client.given
  pub client_taken : client.taken ≡ ends.client.taken
  pub server_given : server.given ≡ ends.server.given
  pub server_taken : server.taken ≡ ends.server.taken
  pub client_flow : pdus_of names role.Client connection ends.sent ≡ client.flow
  pub server_flow : pdus_of names role.Server connection ends.sent ≡ server.flow

-- how far the connection has come that the client began last
pub data Exact (names : Names) (ends : Ends) : Type 0 where
  unbegun : ends.client.connection ≡ None → Exact names ends
  alone : IsAlone names ends → Exact names ends
  together : AreTogether names ends → Exact names ends
