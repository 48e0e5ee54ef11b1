-- What a client does in a step, as a list of calls of its link, and which items it acts on.
use Rattle.std.specs.Prelude.{◌≡◌, ℕ, true, false, List, [], ◌∷◌, ◌++◌, Option, Some, None, Result, Ok, Err}
use Rattle.sci_telegram.specs.TelegramRead.{reading}
use Rattle.sci_telegram.specs.declared.fault.SciFault.{SciFault}
use Rattle.sci_telegram.specs.declared.telegram.Telegram.{Telegram}
use Rattle.rasta_core.specs.Calls.{receiving}
use Rattle.rasta_core.specs.Outbox.{OutboxState, posted}
use Rattle.rasta_core.specs.State.{LinkState, is_open}
use Rattle.ixl_client.specs.Client.{PeerState}
use Rattle.ixl_client.specs.Meaning.{place_of, state_in}
use Rattle.ixl_client.specs.ClientSoFar.{LinkCall, Opens, Ticks, Closes, Sends, Receives, ClientSoFar, call_made}
use Rattle.ixl_client.specs.declared.indication.Indication.{Indication}
use Rattle.ixl_client.specs.declared.indication.ObjectState.{ObjectState}

-- the link after a list of calls at a clock reading, one after another, and the outbox
unfoldable pub link_after : ℕ → List LinkCall → LinkState → LinkState
link_after now [] link = link
link_after now (first ∷ others) link = link_after now others (call_made now first link).link

unfoldable pub outbox_after : ℕ → List LinkCall → LinkState → OutboxState → OutboxState
outbox_after now [] link outbox = outbox
outbox_after now (first ∷ others) link outbox =
    outbox_after now others (call_made now first link).link (posted link.identity.key (call_made now first link).pdus outbox)

-- a call that takes nothing from the partner
abbrev pub IsOwn : LinkCall → Type 0
IsOwn (Receives bytes) = ⊥
IsOwn Opens = Unit {0}
IsOwn Ticks = Unit {0}
IsOwn (Closes why) = Unit {0}
IsOwn (Sends item) = Unit {0}

abbrev pub AreOwn : List LinkCall → Type 0
AreOwn [] = Unit {0}
AreOwn (first ∷ others) = IsOwn first × AreOwn others

-- A part of a step makes these calls: they are what it does to the link and hands out.
pub record Makes (now : ℕ) (calls : List LinkCall) (before after : ClientSoFar) : Type 0 where
  pub calls_are : after.calls ≡ before.calls ++ calls
  pub link_is : after.client.link ≡ link_after now calls before.client.link
  pub outbox_is : after.outbox ≡ outbox_after now calls before.client.link before.outbox

-- a part of a step that takes nothing
abbrev pub MakesOwn : ℕ → ClientSoFar → ClientSoFar → Type 0
MakesOwn now before after = (calls : List LinkCall) × Makes now calls before after × AreOwn calls

-- and one that receives a datagram first
abbrev pub MakesAfterReceipt : ℕ → List ℕ → ClientSoFar → ClientSoFar → Type 0
MakesAfterReceipt now bytes before after = (calls : List LinkCall) × Makes now (Receives bytes ∷ calls) before after × AreOwn calls

-- what an item tells of an object, whenever it comes
abbrev pub told_of : Option ℕ → Option ObjectState → List Indication
told_of (Some place) (Some state) = record { place = place; state = state } ∷ []
told_of _ _ = []

abbrev pub told_by : PeerState → Result Telegram SciFault → List Indication
told_by peer (Ok telegram) = told_of (place_of peer telegram.sender) (state_in telegram.message)
told_by peer (Err fault) = []

unfoldable pub told_by_all : PeerState → List (List ℕ) → List Indication
told_by_all peer [] = []
told_by_all peer (first ∷ others) = told_by peer (reading first) ++ told_by_all peer others

-- The items acted on are a beginning of those that the datagram brought, and all of them where the link stays open. What
-- is heard is what they tell, each once and in order.
pub record ActsOn (now : ℕ) (bytes : List ℕ) (before after : ClientSoFar) : Type 0 where
  pub items : List (List ℕ)
  pub acted : after.acted ≡ before.acted ++ items
  pub dropped : List (List ℕ)
  pub beginning : (receiving now bytes before.client.link).items ≡ items ++ dropped
  pub whole : is_open after.client.link.phase ≡ true → dropped ≡ []
  pub heard : after.heard ≡ before.heard ++ told_by_all before.client.peer items
