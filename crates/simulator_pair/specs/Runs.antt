-- A list of events applied to a pair, one after the other.
use Rattle.std.specs.Prelude.{◌≡◌, ℕ, ◌+◌, ◌≤◌, ◌<◌, IsTrue, List, [], ◌∷◌, Some, None}
use Rattle.simulator_pair.specs.Events.{happens, is_restart, refusal}
use Rattle.simulator_pair.specs.Pair.{PairView}
use Rattle.simulator_pair.specs.Theorem.{HappensRightly}
use Rattle.simulator_pair.specs.declared.event.PairEvent.{PairEvent}
use Rattle.simulator_refused.specs.declared.refused.Refused.{Refused}

-- So many of the events are accepted, and what each of these brings is taken rightly. Those that can't happen change
-- nothing, and neither do those for which memory is lacking: restarts, and others only where there was no room for
-- an event. A refused event may have made room, and an accepted one takes at most that of one event.
pub data Runs : List PairEvent → PairView → ℕ → PairView → Type 0 where
  stops : {pair : PairView} → Runs [] pair 0 pair
  refuses : {event : PairEvent} {later : List PairEvent} {pair next last : PairView} {count : ℕ} {why : Refused} → refusal event pair.run.ends ≡ Some why → next.run ≡ pair.run → pair.room ≤ next.room → Runs later next count last → Runs (event ∷ later) pair count last
  lacks_memory : {event : PairEvent} {later : List PairEvent} {pair next last : PairView} {count : ℕ} → refusal event pair.run.ends ≡ None → (0 < pair.room → IsTrue (is_restart event)) → next.run ≡ pair.run → pair.room ≤ next.room → Runs later next count last → Runs (event ∷ later) pair count last
  accepts : {event : PairEvent} {later : List PairEvent} {pair next last : PairView} {count : ℕ} → refusal event pair.run.ends ≡ None → HappensRightly event pair.run.ends → next.run ≡ happens event pair.run → pair.room ≤ next.room + 1 → Runs later next count last → Runs (event ∷ later) pair (count + 1) last
