-- What goes over the network of a station as a recorded session is applied to it.
use Rattle.std.specs.Prelude.{ℕ, List, [], ◌∷◌, ◌++◌, length, map, drop, Option, Some, None}
use Rattle.replay.specs.replay_lines.declared.session.Entry.{Entry}
use Rattle.replay.specs.rasta_core.Links.{OnLink}
use Rattle.replay.specs.rasta_core.Names.{partner_of}
use Rattle.replay.specs.rasta_core.identity.Role.{Role}
use Rattle.replay.specs.simulator_event.declared.event.Event.{Event}
use Rattle.replay.specs.simulator_event.declared.event.Event.TheVariants as event
use Rattle.replay.specs.simulator_event.layout.declared.ids.NodeId.{NodeId}
use Rattle.replay.specs.simulator_event.refused.Refused.{Refused}
use Rattle.replay.specs.World.{Played, after, receiver, refusal_of}
use Rattle.station_record.specs.declared.fate.Fate.{Fate}
use Rattle.station_record.specs.declared.fate.Fate.TheVariants.{Sent, Delivered, Lost}

-- What becomes of a datagram, at which true time in microseconds.
pub record OnWire : Type 0 where
  pub time : ℕ
  pub fate : Fate
  pub bytes : List ℕ

-- ---- what is sent

-- the node that sent on a link: the one that its partner would have sent to
abbrev pub sender : Role → ℕ → NodeId
sender who link = receiver (partner_of who) link

-- a datagram that was sent on a link
abbrev pub sent_on : OnLink → OnWire
sent_on one = record {
  time = one.datagram.at;
  fate = Sent (sender one.datagram.sender one.link) (receiver one.datagram.sender one.link);
  bytes = one.datagram.bytes;
}

-- those after so many
abbrev pub sent_behind : ℕ → List OnLink → List OnWire
sent_behind count sent = map sent_on (drop count sent)

-- ---- what is delivered and lost

-- what an event does to a datagram at a true time, where it is refused so
abbrev pub done_by : ℕ → Option Refused → Event → Option OnWire
done_by time refused (event.Deliver node bytes) = Some (record { time = time; fate = Delivered node refused; bytes = bytes })
done_by time refused (event.Lose bytes) = Some (record { time = time; fate = Lost refused; bytes = bytes })
done_by time refused other = None

-- the datagram to which something was done, if there is one, and those that were sent
abbrev pub with_done : Option OnWire → List OnWire → List OnWire
with_done None sent = sent
with_done (Some one) sent = one ∷ sent

-- ---- a session

-- an event delivers or loses a datagram, or does neither, and then nodes send some
abbrev pub by_event : Event → Played → List OnWire
by_event happening world =
    let sent = sent_behind (length world.run.sent) (after world happening).run.sent
    in with_done (done_by world.run.time (refusal_of happening world) happening) sent

-- one event after the other
abbrev pub traffic : Played → List Entry → List OnWire
traffic world [] = []
traffic world (entry ∷ more) = by_event entry.event world ++ traffic (after world entry.event) more

-- the world after them
abbrev pub left_by : Played → List Entry → Played
left_by world [] = world
left_by world (entry ∷ more) = left_by (after world entry.event) more
