-- How a station behaves that is played.
use Rattle.std.specs.Prelude.{◌≡◌, ℕ, List, Option, Result, Ok, Err}
use Rattle.ixl_spec.specs.sci_telegram.declared.message.Side.{Side}
use Rattle.simulator_event.specs.declared.event.Event.{Event}
use Rattle.simulator_event.specs.layout.declared.ids.NodeId.{NodeId}
use Rattle.simulator_event.specs.declared.reply.Answer.{Answer}
use Rattle.simulator_event.specs.declared.reply.Reply.{Reply}
use Rattle.simulator_event.specs.refused.Refused.{Refused}
use Rattle.simulator_event.specs.refused.Refused.TheVariants.{OutOfMemory}

-- how a station behaves to which events happen
pub record Behaviour (State : Type 0) : Type 0 where
  -- what it answers to an event, and how it is after that
  pub answer : State → Event → Result Answer Refused
  pub after : State → Event → State
  -- every datagram that was sent so far, oldest first, with the node to which it goes
  pub sent : State → List (NodeId × List ℕ)
  -- the datagram at a place of these; none where it is lost, or none was sent there
  pub arrival : State → ℕ → Option (NodeId × List ℕ)
  -- the side to which a point is driven, by its place
  pub driven : State → ℕ → Option Side

-- what is kept of a reply: all but how many datagrams were sent
abbrev pub recorded : Result Reply Refused → Result Answer Refused
recorded (Ok reply) = Ok reply.answer
recorded (Err why) = Err why

-- an event is answered and happens, or memory is lacking and nothing happens
abbrev pub Applies : {State : Type 0} → Behaviour State → Event → State → Result Reply Refused → State → Type 0
Applies does event old (Err OutOfMemory) new = new ≡ old
Applies does event old reply new = (recorded reply ≡ does.answer old event) × (new ≡ does.after old event)
