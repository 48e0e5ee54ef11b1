-- The order of items between two ends, joined to what is kept of them: who is in which connection, and what was sent.
use Rattle.std.specs.Prelude.{◌≡◌, ℕ, ◌≤◌, List, [], length, Some, None, Ok}
use Rattle.rasta_core_spec.specs.identity.Role.{Role}
use Rattle.rasta_core_spec.specs.identity.Role.TheVariants as role
use Rattle.rasta_core_spec.specs.Ends.{Sent}
use Rattle.rasta_core_spec.specs.Run.{Ends}
use Rattle.rasta_core.specs.EndFlow.{EndFlow, IsOf}
use Rattle.rasta_core.specs.Order.{InOrder}
use Rattle.rasta_core.specs.LinkAndFlow.{Plays}
use Rattle.rasta_core.specs.FirstPdus.{IsEarly, PlaysEarly}
use Rattle.rasta_core_spec.specs.Each.{Each}
use Rattle.rasta_core_spec.specs.Names.{Names}
use Rattle.rasta_core_spec.specs.pdu.Pdu.{Pdu}
use Rattle.rasta_core_spec.specs.PduRead.{reading}

-- a datagram that this end sent in this connection spells a PDU of this flow
abbrev pub IsSpelledIn : Names → Role → ℕ → List Pdu → Sent → Type 0
IsSpelledIn names who connection flow sent =
    sent.sender ≡ who → sent.connection ≡ connection → (pdu : Pdu) → reading names.key sent.bytes ≡ Ok pdu → IsOf pdu flow

-- The client has begun its last connection, and the server hasn't entered it.
pub record IsAlone (names : Names) (ends : Ends) : Type 0 where
  pub connection : ℕ
  pub client : EndFlow
  pub of_client : ends.client.connection ≡ Some connection
  pub not_of_server : ends.server.connection ≡ Some connection → ⊥
  pub early : IsEarly client
  pub plays : PlaysEarly ends.client.link client
  pub given : ends.client.given ≡ []
  pub taken : ends.client.taken ≡ []
  pub flow : Each (IsSpelledIn names role.Client connection client.flow) ends.sent

-- The last connection of both ends is the same, and in order.
pub record AreTogether (names : Names) (ends : Ends) : Type 0 where
  pub connection : ℕ
  pub client : EndFlow
  pub server : EndFlow
  pub of_client : ends.client.connection ≡ Some connection
  pub of_server : ends.server.connection ≡ Some connection
  pub order : InOrder client server
  pub client_plays : Plays ends.client.link client server
  pub server_plays : Plays ends.server.link server client
  pub client_given : client.given ≡ ends.client.given
  pub client_taken : client.taken ≡ ends.client.taken
  pub server_given : server.given ≡ ends.server.given
  pub server_taken : server.taken ≡ ends.server.taken
  -- each of the items that an end gave has a PDU of its own
  pub client_few : length client.given ≤ length client.flow
  pub server_few : length server.given ≤ length server.flow
  pub client_flow : Each (IsSpelledIn names role.Client connection client.flow) ends.sent
  pub server_flow : Each (IsSpelledIn names role.Server connection server.flow) ends.sent

-- how far the connection has come that the client began last
pub data Ordered (names : Names) (ends : Ends) : Type 0 where
  unbegun : ends.client.connection ≡ None → Ordered names ends
  alone : IsAlone names ends → Ordered names ends
  together : AreTogether names ends → Ordered names ends
