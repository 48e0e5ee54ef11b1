-- What contracts see of the parts of a pair, and what is always true of them.
use Rattle.std.specs.Prelude.{◌≡◌, ℕ, ◌+◌, ◌*◌, ◌≤◌, []}
use Rattle.std.specs.Vec.{vec_len, vec_capacity}
use Rattle.rasta_core.specs.Run.{Ends}
use Rattle.rasta_core.specs.Ordered.{Ordered}
use Rattle.rasta_core.specs.Invariant.{Timely}
use Rattle.rasta_pdu.specs.Items.{IsItem}
use Rattle.simulator_pair.specs.Pair.{PairState}
use Rattle.simulator_pair.specs.Events.{clock_limit}
use Rattle.simulator_pair.specs.inside.Order.{AreInOrder}
use Rattle.simulator_pair.specs.inside.Indexed.{keys_of}
use Rattle.simulator_pair.specs.inside.Seen.{seen_end, IsAtClock, HasLists, KeepsLists}
use Rattle.simulator_pair.specs.inside.Lit.{IsLit}
use Rattle.simulator_pair.specs.Theorem.{names}
use Rattle.simulator_pair.specs.declared.parts.Parts.{Parts}
use Rattle.simulator_pair.specs.declared.event.PairEvent.{PairEvent}
use Rattle.simulator_pair.specs.declared.event.PairEvent.TheVariants as event

unfoldable pub seen_ends : Parts → Ends
seen_ends parts = record {
  time = parts.time;
  client = seen_end parts.client;
  server = seen_end parts.server;
  sent = parts.sent.items;
  moment = vec_len parts.sent;
}

unfoldable pub seen : Parts → PairState
seen parts = record { ends = seen_ends parts; lamp = parts.lamp }

-- what is true of the parts between calls
pub record AreSound (parts : Parts) : Type 0 where
  pub client_clock : IsAtClock parts.client
  pub server_clock : IsAtClock parts.server
  pub nothing_out : parts.outbox.datagrams ≡ []
  pub outbox_room : 24 ≤ parts.outbox.capacity
  pub nothing_in : parts.inbox.items ≡ []
  pub in_order : AreInOrder parts.time parts.sent.items
  pub indexed : parts.index.keys ≡ keys_of parts.sent.items
  pub time_within : parts.time ≤ clock_limit
  pub client_within : parts.client.clock ≤ clock_limit
  pub server_within : parts.server.clock ≤ clock_limit

-- the memory of so many calls is there: each sends at most 24 datagrams and adds at most 3 items to a list
pub record HaveRoom (calls : ℕ) (parts : Parts) : Type 0 where
  pub client_lists : HasLists (3 * calls) parts.client
  pub server_lists : HasLists (3 * calls) parts.server
  pub sent : vec_len parts.sent + 24 * calls ≤ vec_capacity parts.sent
  pub index : 24 * calls ≤ parts.index.room

-- and it stays, but for what so many calls may use
pub record KeepRoom (calls : ℕ) (old new : Parts) : Type 0 where
  pub client_lists : KeepsLists (3 * calls) old.client new.client
  pub server_lists : KeepsLists (3 * calls) old.server new.server
  pub sent_memory : vec_capacity old.sent ≤ vec_capacity new.sent
  pub sent_more : vec_len new.sent ≤ vec_len old.sent + 24 * calls
  pub sent_stays : vec_len old.sent ≤ vec_len new.sent
  pub index_more : old.index.room ≤ new.index.room + 24 * calls
  pub room : new.room ≡ old.room

-- what is always true of a pair: an event makes at most two calls
pub record IsPair (parts : Parts) : Type 0 where
  pub sound : AreSound parts
  pub room : HaveRoom (2 * parts.room) parts

-- the invariant of the link theorem
pub record IsLinked (ends : Ends) : Type 0 where
  pub timely : Timely names ends
  pub ordered : Ordered names ends

-- an item that is given has 1 to 61 bytes
abbrev pub GivesItem : PairEvent → Type 0
GivesItem (event.Give who item) = IsItem item
GivesItem _ = Unit {0}

-- the link theorem's invariant holds of its two ends, and the lamp was told what the server took
pub record IsLinkedPair (parts : Parts) : Type 0 where
  pub whole : IsPair parts
  pub linked : IsLinked (seen_ends parts)
  pub lit : IsLit (seen parts)
