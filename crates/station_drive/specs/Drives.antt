-- Rounds that an engine made, and a station that was driven for some time.
use Rattle.std.specs.Prelude.{◌≡◌, ◌<◌, ◌≤◌, ◌-◌, ◌/◌, ℕ, Bool, List, [], ◌∷◌, ◌++◌, length, map, replicate, Option, Some, None}
use Rattle.std.specs.List.{AllByRecursion}
use Rattle.control_table.specs.layout.Entries.{Site}
use Rattle.replay_lines.specs.Names.{node_names}
use Rattle.simulator_event.specs.declared.event.Event.{Event}
use Rattle.station_drive.specs.Told.{Call, Grows}
use Rattle.station_drive.specs.Doings.{Behaviour, EngineState, Performs, Stops}
use Rattle.station_drive.specs.Rounds.{Hearing, RoundHeard, RunSoFar, round, rounds}

-- no line of the script was applied, and no point was seen driven
abbrev pub beginning : Site → List (ℕ × Event) → ℕ → RunSoFar
beginning site script first = record { first = first; reading = first; left = script; drives = replicate (length site.points) None }

-- An engine made a round at a reading, in which each node heard something, these events were asked for, and these points were jammed.
pub record MakesRound {State Net : Type 0} (does : Behaviour State) (carries : Net → Call → Net → Type 0)
    (run : RunSoFar) (reading : ℕ) (asked : List Event) (jammed : List Bool) (old new : EngineState State Net) : Type 0 where
  pub heard : List Hearing
  pub each : length heard ≡ length (node_names old.site)
  pub performs : Performs does carries (round old.site run (record { reading = reading; heard = heard; asked = asked; jammed = jammed })) old new

-- It began such a round, and gave it up.
pub record BreaksRound {State Net : Type 0} (does : Behaviour State) (carries : Net → Call → Net → Type 0)
    (run : RunSoFar) (reading : ℕ) (asked : List Event) (jammed : List Bool) (old new : EngineState State Net) : Type 0 where
  pub heard : List Hearing
  pub each : length heard ≡ length (node_names old.site)
  pub stops : Stops does carries (round old.site run (record { reading = reading; heard = heard; asked = asked; jammed = jammed })) old new

-- In a round of a drive each node heard, nothing was asked for beside the script, and each point could reach its end position.
pub record IsPlain (site : Site) (one : RoundHeard) : Type 0 where
  pub whole : length one.heard ≡ length (node_names site)
  pub unasked : one.asked ≡ []
  pub unjammed : one.jammed ≡ []

-- After a first reading each further one made a round, up to and with the first that was `for_ms` or more after it.
pub record Driven {State Net : Type 0} (does : Behaviour State) (carries : Net → Call → Net → Type 0) (script : List (ℕ × Event)) (for_ms : ℕ)
    (readings_old readings_new : Option (List ℕ)) (old new : EngineState State Net) : Type 0 where
  pub first : ℕ
  pub earlier : List RoundHeard
  pub last : RoundHeard
  pub read : Grows readings_old readings_new (first ∷ map (λ one. one.reading) (earlier ++ last ∷ []))
  pub plain : AllByRecursion (IsPlain old.site) (earlier ++ last ∷ [])
  pub goes_on : AllByRecursion (λ one. (one.reading - first) / 1000 < for_ms) earlier
  pub over : for_ms ≤ (last.reading - first) / 1000
  pub performs : Performs does carries (rounds does old.site old.state (beginning old.site script first) (earlier ++ last ∷ [])) old new

-- the rounds that were made, and the one that was broken off, if one had begun
abbrev pub begun : List RoundHeard → Option RoundHeard → List RoundHeard
begun made None = made
begun made (Some broken) = made ++ broken ∷ []

-- The same drive, cut off by a fault. After a first reading each further one began a round. All rounds before the last were made
-- whole, and none of them was `for_ms` after the first. What was done is a beginning of what these rounds do: what a node would hear
-- after the cut doesn't count.
pub record CutOff {State Net : Type 0} (does : Behaviour State) (carries : Net → Call → Net → Type 0) (script : List (ℕ × Event)) (for_ms : ℕ)
    (readings_old readings_new : Option (List ℕ)) (old new : EngineState State Net) : Type 0 where
  pub first : ℕ
  pub made : List RoundHeard
  pub broken : Option RoundHeard
  pub read : Grows readings_old readings_new (first ∷ map (λ one. one.reading) (begun made broken))
  pub plain : AllByRecursion (IsPlain old.site) (begun made broken)
  pub goes_on : AllByRecursion (λ one. (one.reading - first) / 1000 < for_ms) made
  pub stops : Stops does carries (rounds does old.site old.state (beginning old.site script first) (begun made broken)) old new
  pub all_made : length (rounds does old.site old.state (beginning old.site script first) made) ≤ stops.count
