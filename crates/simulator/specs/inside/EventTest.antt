-- What the test of an event finds.
use Rattle.std.specs.Prelude.{◌≡◌, Some, None, Result, Ok, Err}
use Rattle.ixl_state.specs.layout.Entries.{Site}
use Rattle.simulator_spec.specs.simulator_event.declared.event.Event.{Event}
use Rattle.simulator_spec.specs.simulator_event.declared.event.Event.TheVariants as event
use Rattle.simulator_spec.specs.simulator_event.refused.Refused.{Refused}
use Rattle.simulator_field.specs.Network.{IsOldestCopy}
use Rattle.simulator_spec.specs.Network.{connection_of, copy_of}
use Rattle.simulator_spec.specs.Refusals.{refusal}
use Rattle.simulator_spec.specs.State.{WorldState}
use Rattle.simulator.specs.declared.found.Found.{Found}
use Rattle.simulator.specs.declared.found.Found.TheVariants as found

-- of a delivery the connection in which the bytes were sent, and of a loss the place of the datagram
abbrev pub Finds : Found → Event → WorldState → Type 0
Finds (found.Connection connection) (event.Deliver node bytes) world = connection ≡ connection_of (copy_of bytes world)
Finds (found.Place place) (event.Lose bytes) world = IsOldestCopy place bytes world.sent
Finds _ (event.Deliver node bytes) world = ⊥
Finds _ (event.Lose bytes) world = ⊥
Finds _ _ world = Unit {0}

-- what was found of an event that can happen, or why it can't
abbrev pub Tells : Site → Event → WorldState → Result Found Refused → Type 0
Tells site event world (Ok found) = (refusal site event world ≡ None) × Finds found event world
Tells site event world (Err why) = refusal site event world ≡ Some why
