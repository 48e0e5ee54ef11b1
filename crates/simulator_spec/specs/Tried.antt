-- A station to which events are tried one after another: what it answers, how it is after that, and what is seen of it.
use Rattle.std.specs.Prelude.{ℕ, ◌+◌, ◌-◌, ◌^◌, min, nat_lt, if◌then◌else◌, List, length, map, slice_get, Bool, true, false, Option, Some, None, Result, Ok, Err}
use Rattle.ixl_spec.specs.Table.{SitedTable}
use Rattle.ixl_spec.specs.layout.declared.ids.PointId.{PointId}
use Rattle.ixl_spec.specs.rasta_core.Links.{OnLink}
use Rattle.ixl_spec.specs.rasta_core.identity.Role.{Role}
use Rattle.ixl_spec.specs.rasta_core.identity.Role.TheVariants.{Client, Server}
use Rattle.ixl_spec.specs.sci_telegram.declared.message.Side.{Side}
use Rattle.simulator_event.specs.declared.event.Event.{Event}
use Rattle.simulator_event.specs.layout.declared.ids.NodeId.{NodeId}
use Rattle.simulator_event.specs.declared.reply.Answer.{Answer}
use Rattle.simulator_event.specs.refused.Refused.{Refused}
use Rattle.simulator_event.specs.Station.{Behaviour}
use Rattle.simulator_spec.specs.Happens.{answered, happens}
use Rattle.simulator_spec.specs.Refusals.{driven_at, refusal}
use Rattle.simulator_spec.specs.State.{WorldState}

-- its engineering data, and its state
pub record Played : Type 0 where
  pub sited : SitedTable
  pub run : WorldState

abbrev pub refusal_of : Event → Played → Option Refused
refusal_of event world = refusal world.sited.site event world.run

-- what an event leaves: the world as it is where the event can't happen, or else the world after it
abbrev pub world_where : Option Refused → Played → Played → Played
world_where (Some why) now behind = now
world_where None now behind = behind

abbrev pub after : Played → Event → Played
after world event =
    world_where (refusal_of event world) world (record world { run = happens world.sited.site world.sited.table event world.run })

-- what is answered: why an event can't happen, or the answer where it happens
abbrev pub answer_where : Option Refused → Answer → Result Answer Refused
answer_where (Some why) answer = Err why
answer_where None answer = Ok answer

-- what an event is answered
abbrev pub answer : Played → Event → Result Answer Refused
answer world event = answer_where (refusal_of event world) (answered world.sited.site world.sited.table event world.run)

-- The node at the other end of a link: the interlocking is 0, and the controller of a link stands after it at the link's place.
-- A number ends at the greatest of a machine word.
abbrev pub receiver : Role → ℕ → NodeId
receiver Client link = record { 0 = min (link + 1) (2 ^ 64 - 1) }
receiver Server link = record { 0 = 0 }

-- a datagram, with the node that it is for
abbrev pub addressed : OnLink → NodeId × List ℕ
addressed one = (receiver one.datagram.sender one.link, one.datagram.bytes)

-- the same, unless it is lost
abbrev pub arriving_if : Bool → OnLink → Option (NodeId × List ℕ)
arriving_if true one = None
arriving_if false one = Some (addressed one)

abbrev pub arriving : Option OnLink → Option (NodeId × List ℕ)
arriving None = None
arriving (Some one) = arriving_if one.datagram.is_lost one

-- the datagram that was sent at a place, with the node that it is for: none where it is lost, or none was sent there
abbrev pub arrival_in : Played → ℕ → Option (NodeId × List ℕ)
arrival_in world place = arriving (slice_get world.run.sent place)

-- the side to which a point is driven, if there is such a point
abbrev pub driven : Played → PointId → Option Side
driven world point = if nat_lt point.0 (length world.sited.site.points) then driven_at point.0 world.run.points else None

-- ---- how it behaves

-- Whole stations answer events so. Each datagram that was sent, lost or not, is for the other end of its link.
abbrev pub worlds : Behaviour Played
worlds = record {
  answer = answer;
  after = after;
  sent = λ world. map addressed world.run.sent;
  arrival = arrival_in;
  driven = λ world place. driven_at place world.run.points;
}
