-- A list of events applied to a world, one after another.
use Rattle.std.specs.Prelude.{◌≡◌, ℕ, ◌+◌, ◌≤◌, ◌<◌, IsTrue, List, [], ◌∷◌, Some, None}
use Rattle.simulator_spec.specs.simulator_event.declared.event.Event.{Event}
use Rattle.simulator_spec.specs.simulator_event.refused.Refused.{Refused}
use Rattle.simulator_spec.specs.Happens.{happens, is_restart}
use Rattle.simulator_spec.specs.Refusals.{refusal}
use Rattle.simulator.specs.World.{View}

-- An event was refused or lacked memory: nothing has changed, but there may be more room.
pub record Stays (old new : View) : Type 0 where
  pub sited : new.sited ≡ old.sited
  pub run : new.run ≡ old.run
  pub room : old.room ≤ new.room

-- An event happened, which took the memory of one step at most.
pub record Goes (event : Event) (old new : View) : Type 0 where
  pub sited : new.sited ≡ old.sited
  pub run : new.run ≡ happens old.sited.site old.sited.table event old.run
  pub room : old.room ≤ new.room + 1

-- So many of the events are accepted. Those that can't happen change nothing, and neither do those for which memory is
-- lacking: restarts, and others only where there was no room for a step.
pub data Runs : List Event → View → ℕ → View → Type 0 where
  stops : {world : View} → Runs [] world 0 world
  refuses : {event : Event} {later : List Event} {world next last : View} {count : ℕ} {why : Refused} → refusal world.sited.site event world.run ≡ Some why → Stays world next → Runs later next count last → Runs (event ∷ later) world count last
  lacks_memory : {event : Event} {later : List Event} {world next last : View} {count : ℕ} → refusal world.sited.site event world.run ≡ None → (0 < world.room → IsTrue (is_restart event)) → Stays world next → Runs later next count last → Runs (event ∷ later) world count last
  accepts : {event : Event} {later : List Event} {world next last : View} {count : ℕ} → refusal world.sited.site event world.run ≡ None → Goes event world next → Runs later next count last → Runs (event ∷ later) world (count + 1) last
