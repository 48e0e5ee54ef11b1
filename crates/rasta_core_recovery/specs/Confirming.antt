-- How few items of a client wait whose server answers: it never gives more than so many items beyond those that it has taken.
use Rattle.std.specs.Prelude.{◌≡◌, ℕ, ◌+◌, ◌-◌, ◌≤◌, ◌<◌, true, false, length, Some, Ok, if◌then◌else◌}
use Rattle.rasta_core_spec.specs.Each.{Each}
use Rattle.rasta_core_spec.specs.Ends.{Sent}
use Rattle.rasta_core_spec.specs.Names.{Names}
use Rattle.rasta_core_spec.specs.Run.{Ends}
use Rattle.rasta_core_spec.specs.Sequence.{wire}
use Rattle.rasta_core_spec.specs.State.{LinkState, is_asking, is_open}
use Rattle.rasta_core_spec.specs.identity.Role.TheVariants as role
use Rattle.rasta_core_spec.specs.PduRead.{reading}
use Rattle.rasta_core_spec.specs.pdu.Pdu.{Pdu}
use Rattle.rasta_core.specs.EndFlow.{later as waiting_from}
use Rattle.rasta_core.specs.Order.{IsClosing}

-- both ends are in a connection, which is one (`one_connection`)
pub record AreIn (ends : Ends) : Type 0 where
  pub client : is_open ends.client.link.phase ≡ true
  pub server : is_open ends.server.link.phase ≡ true

-- The server has given so many items at most beyond those that it has taken.
abbrev pub Answers : ℕ → Ends → Type 0
Answers spare ends = length ends.server.given ≤ length ends.server.taken + spare

-- Of the client's items so many at most wait beyond those that it has given more than it has taken.
abbrev pub FewWait : ℕ → Ends → Type 0
FewWait spare ends = length ends.client.taken + length ends.client.link.waiting ≤ length ends.client.given + spare

-- which of the server's PDUs a client has come to: the response is taken already
abbrev pub reached_by : LinkState → ℕ
reached_by link = if is_asking link then 1 else link.expected

-- A PDU of the server that the client may still take, of this number in its connection: when the server sent it, it had taken some
-- items of the client, and these the PDU confirms; and by then the server had given so many more at most.
pub record Confirms (spare : ℕ) (ends : Ends) (place : ℕ) (pdu : Pdu) : Type 0 where
  -- which of the client's PDUs the server expected then
  pub expecting : ℕ
  pub some : 1 ≤ expecting
  pub most : expecting ≤ ends.client.link.sent
  pub confirmed : pdu.confirmed_sequence_number ≡ wire ends.client.link.own_first (expecting - 1)
  -- and how many items it had taken
  pub had : ℕ
  pub few : had ≤ length ends.server.taken
  pub waits : had + waiting_from expecting ends.client.link.waiting ≤ length ends.client.given
  pub answers : length ends.server.given ≤ had + spare + waiting_from (place + 1) ends.server.link.waiting

-- a PDU of the server
pub record IsNumbered (spare : ℕ) (ends : Ends) (pdu : Pdu) : Type 0 where
  pub place : ℕ
  pub number : pdu.sequence_number ≡ wire ends.server.link.own_first place
  pub sent : place < ends.server.link.sent
  pub confirms : reached_by ends.client.link ≤ place → Confirms spare ends place pdu

-- each datagram that the server sent in its connection spells such a PDU, unless this closes
abbrev pub IsSaid : Names → ℕ → Ends → Sent → Type 0
IsSaid names spare ends datagram =
    datagram.sender ≡ role.Server → ends.server.connection ≡ Some datagram.connection → (pdu : Pdu) → reading names.key datagram.bytes ≡ Ok pdu
    → (IsClosing pdu.body → ⊥) → IsNumbered spare ends pdu

pub record IsConfirmed (names : Names) (spare : ℕ) (ends : Ends) : Type 0 where
  pub few : FewWait spare ends
  pub said : Each (IsSaid names spare ends) ends.sent

-- so it is while both ends are in a connection
abbrev pub Confirming : Names → ℕ → Ends → Type 0
Confirming names spare ends = AreIn ends → IsConfirmed names spare ends

-- ---- a client whose server has left

-- The server has given so many items at most beyond those that the client has taken.
abbrev pub Owes : ℕ → Ends → Type 0
Owes owed ends = length ends.server.given ≤ length ends.client.taken + owed

-- a client is in a connection that its server has left
pub record HasLeft (ends : Ends) : Type 0 where
  pub client : is_open ends.client.link.phase ≡ true
  pub server : is_open ends.server.link.phase ≡ false
  pub same : ends.server.connection ≡ ends.client.connection

-- Then what waits of its items, with all that the server gave, is no more than what the client has given, and so many.
abbrev pub FewLeft : ℕ → Ends → Type 0
FewLeft spare ends = HasLeft ends → length ends.server.given + length ends.client.link.waiting ≤ length ends.client.given + spare
