-- How few items of a server wait whose client awaits answers: it never gives more than so many items beyond those that it has taken.
use Rattle.std.specs.Prelude.{◌≡◌, ℕ, ◌+◌, ◌≤◌, true, false, length, Some, Ok}
use Rattle.rasta_core_spec.specs.Each.{Each}
use Rattle.rasta_core_spec.specs.Ends.{Sent}
use Rattle.rasta_core_spec.specs.Names.{Names}
use Rattle.rasta_core_spec.specs.Run.{Ends}
use Rattle.rasta_core_spec.specs.State.{is_open}
use Rattle.rasta_core_spec.specs.identity.Role.TheVariants as role
use Rattle.rasta_core_spec.specs.PduRead.{reading}
use Rattle.rasta_core_spec.specs.pdu.Pdu.{Pdu}
use Rattle.rasta_core.specs.Order.{IsClosing}
use Rattle.rasta_core_recovery.specs.Confirming.{AreIn, IsNumbered}

-- The client has given so many items at most beyond those that it has taken.
abbrev pub AwaitsAnswers : ℕ → Ends → Type 0
AwaitsAnswers spare ends = length ends.client.given ≤ length ends.client.taken + spare

-- Of the server's items so many at most wait beyond those that it has given more than it has taken.
abbrev pub FewOfServerWait : ℕ → Ends → Type 0
FewOfServerWait spare ends = length ends.server.taken + length ends.server.link.waiting ≤ length ends.server.given + spare

-- the two ends, each in the place of the other
abbrev pub exchanged : Ends → Ends
exchanged ends = record ends { client = ends.server; server = ends.client }

-- each datagram that the client sent in its connection spells a PDU that is to the server what a server's is to its client, unless this closes
abbrev pub IsSaidByClient : Names → ℕ → Ends → Sent → Type 0
IsSaidByClient names spare ends datagram =
    datagram.sender ≡ role.Client → ends.client.connection ≡ Some datagram.connection → (pdu : Pdu) → reading names.key datagram.bytes ≡ Ok pdu
    → (IsClosing pdu.body → ⊥) → IsNumbered spare (exchanged ends) pdu

pub record ServerIsConfirmed (names : Names) (spare : ℕ) (ends : Ends) : Type 0 where
  pub few : FewOfServerWait spare ends
  pub said : Each (IsSaidByClient names spare ends) ends.sent

-- so it is while both ends are in a connection
abbrev pub ServerConfirming : Names → ℕ → Ends → Type 0
ServerConfirming names spare ends = AreIn ends → ServerIsConfirmed names spare ends

-- ---- a server whose client has left

-- The client has given so many items at most beyond those that the server has taken.
abbrev pub ClientOwes : ℕ → Ends → Type 0
ClientOwes owed ends = length ends.client.given ≤ length ends.server.taken + owed

-- a server is in a connection that its client has left: it is the client's last (`one_connection`)
pub record ClientHasLeft (ends : Ends) : Type 0 where
  pub client : is_open ends.client.link.phase ≡ false
  pub server : is_open ends.server.link.phase ≡ true

-- Then what waits of its items, with all that the client gave, is no more than what the server has given, and so many.
abbrev pub FewOfServerLeft : ℕ → Ends → Type 0
FewOfServerLeft spare ends = ClientHasLeft ends → length ends.client.given + length ends.server.link.waiting ≤ length ends.server.given + spare
