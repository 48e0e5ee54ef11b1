-- What the lamp of a pair shows, by what its server took.
use Rattle.std.specs.Prelude.{◌≡◌, ℕ, ◌<◌, List, ◌∷◌, ◌++◌, length, Some, if◌then◌else◌}
use Rattle.rasta_core.specs.State.{confirmed_items, is_open}
use Rattle.rasta_core.specs.Clock.{alive_until}
use Rattle.rasta_core.specs.Ends.{EndState, reading_of}
use Rattle.signal_ctl.specs.Lamp.{standing}
use Rattle.sci_telegram.specs.declared.message.Aspect.{Aspect}
use Rattle.sci_telegram.specs.declared.message.Aspect.TheVariants.{Stop, Proceed}
use Rattle.simulator_pair.specs.Pair.{PairState, indicated_after, proceed_item, shown, stop_item}

-- the last aspect among these items, stop where there is none
abbrev pub last_aspect : List (List ℕ) → Aspect
last_aspect items = indicated_after items Stop

-- the last aspect that an end took since its link was lost last: none of an earlier connection counts, and none
-- outside one
abbrev pub aspect_taken : EndState → Aspect
aspect_taken end = if is_open end.link.phase then last_aspect end.taken else Stop

-- proceed where that is the aspect and the end's clock is below the end of its link's time, and stop otherwise
abbrev pub aspect_due : EndState → Aspect
aspect_due end = standing (aspect_taken end) (alive_until end.link) (reading_of end.clock)

-- Where the client counts a stop as confirmed, the lamp shows proceed only if the server took a later proceed.
abbrev pub StopHolds : PairState → Type 0
StopHolds pair = (connection : ℕ) → pair.ends.client.connection ≡ Some connection → pair.ends.server.connection ≡ Some connection
    → (earlier later : List (List ℕ)) → pair.ends.client.given ≡ earlier ++ stop_item ∷ later → length earlier < confirmed_items pair.ends.client.link
    → shown pair ≡ Proceed
    → (between rest : List (List ℕ)) × (pair.ends.server.taken ≡ earlier ++ stop_item ∷ (between ++ proceed_item ∷ rest))
