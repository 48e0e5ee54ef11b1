-- The network of a world: true time, and every datagram that was sent.
use Rattle.std.specs.Prelude.{◌≡◌, ℕ, ◌<◌, true, List, length, map, Option, Some, None, slice_index_or, slice_set}
use Rattle.simulator_spec.specs.rasta_core.Bag.{has_copy}
use Rattle.simulator_spec.specs.rasta_core.Ends.{Sent}
use Rattle.simulator_spec.specs.rasta_core.Links.{OnLink, without_oldest_of_all}
use Rattle.simulator_field.specs.declared.sent_on.SentOn.{SentOn}

pub record NetworkState : Type 0 where
  -- true time, in microseconds
  pub time : ℕ
  -- every datagram that was sent, with its link, oldest first; those not lost are the bag
  pub sent : List OnLink
  -- how many datagrams have their memory already
  pub room : ℕ

abbrev pub datagrams : List OnLink → List Sent
datagrams sent = map (λ one. one.datagram) sent

-- the connection in which the copy that is delivered was sent; damaged bytes are no copy
abbrev pub connection_of : Option Sent → ℕ
connection_of None = 0
connection_of (Some sent) = sent.connection

-- a datagram as it is lent
abbrev pub lent : SentOn → OnLink
lent one = record {
  link = one.link;
  datagram = record { bytes = one.bytes.now; at = one.at; sender = one.sender; connection = one.connection; is_lost = one.is_lost };
}

-- a datagram that the network has lost
abbrev pub lost : OnLink → OnLink
lost one = record one { datagram = record one.datagram { is_lost = true } }

-- The oldest copy of these bytes stands at a place of those that were sent.
pub record IsOldestCopy (place : ℕ) (bytes : List ℕ) (sent : List OnLink) : Type 0 where
  pub one : OnLink
  pub below : place < length sent
  pub there : one ≡ slice_index_or sent place one
  pub found : has_copy bytes (datagrams sent) ≡ true
  pub without : without_oldest_of_all bytes sent ≡ slice_set sent place (lost one)
