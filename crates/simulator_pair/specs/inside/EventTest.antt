-- What the test of an event finds, which the event then uses.
use Rattle.std.specs.Prelude.{◌≡◌, ℕ, ◌<◌, true, List, length, slice_index_or, slice_set}
use Rattle.rasta_core.specs.Ends.{Sent}
use Rattle.rasta_core.specs.Run.{Ends}
use Rattle.rasta_core.specs.Bag.{without_oldest}
use Rattle.simulator_pair.specs.Events.{connection_of, copy_of}
use Rattle.simulator_pair.specs.declared.event.PairEvent.{PairEvent}
use Rattle.simulator_pair.specs.declared.event.PairEvent.TheVariants as event

-- The oldest copy of bytes stands at a place of those that were sent.
pub record StandsAt (place : ℕ) (bytes : List ℕ) (sent : List Sent) : Type 0 where
  pub copy : Sent
  pub below : place < length sent
  pub there : copy ≡ slice_index_or sent place copy
  pub lost : without_oldest bytes sent ≡ slice_set sent place (record copy { is_lost = true })

-- the connection of the copy that is delivered, or the place of the one that is lost; other events need nothing
abbrev pub Finds : ℕ → PairEvent → Ends → Type 0
Finds found (event.Deliver who bytes) ends = found ≡ connection_of (copy_of bytes.items ends)
Finds found (event.Lose bytes) ends = StandsAt found bytes.items ends.sent
Finds found _ ends = Unit {0}
