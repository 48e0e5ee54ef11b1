-- What the parts of hearing a PDU are given, and that they have done what the definitions say.
use Rattle.std.specs.Prelude.{◌≡◌, ℕ, ◌<◌, ◌≤◌, List, [], IsTrue}
use Rattle.rasta_core_link.specs.Outbox.{HasRoomFor, OutboxState, posted}
use Rattle.rasta_core_link.specs.Parameters.{connection_limit, sequence_range}
use Rattle.rasta_core_link.specs.Receipt.{Receipt, ahead, behind}
use Rattle.rasta_core_link.specs.State.{LinkState, is_open}
use Rattle.rasta_core_link.specs.declared.verdict.Verdict.{Verdict}
use Rattle.rasta_pdu.specs.declared.pdu.Pdu.{Pdu}

-- an end in a connection, with room for all that a PDU may bring: answers in its outbox, and items in its inbox
pub record IsReady (link : LinkState) (box : OutboxState) (inbox : List (List ℕ)) : Type 0 where
  pub connected : IsTrue (is_open link.phase)
  pub below : link.sent < connection_limit
  pub room : HasRoomFor 22 box
  pub empty : inbox ≡ []

-- the numbers of a PDU passed the tests: its own is in range, and it confirms a PDU that was sent
pub record IsTested (pdu : Pdu) (link : LinkState) : Type 0 where
  pub in_range : ahead pdu link ≤ sequence_range
  pub confirmed : behind pdu link < link.sent

-- what a receipt says was done: the link, what was handed out, the items for the user, and the verdict
pub record IsDone (receipt : Receipt) (old new : LinkState) (old_box new_box : OutboxState) (inbox : List (List ℕ)) (answer : Verdict) : Type 0 where
  pub link : new ≡ receipt.link
  pub handed_out : new_box ≡ posted old.identity.key receipt.pdus old_box
  pub items : inbox ≡ receipt.items
  pub verdict : answer ≡ receipt.verdict
