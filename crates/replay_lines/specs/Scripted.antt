-- The events that a script may have.
use Rattle.std.specs.Prelude.{ℕ, ◌||◌, Bool, if◌then◌else◌, List, [], ◌∷◌, codes, Result, Err}
use Rattle.std.specs.Str.{bytes_eq}
use Rattle.replay_words.specs.declared.fault.Fault.{Fault}
use Rattle.replay_words.specs.declared.fault.Fault.TheVariants.{Words}
use Rattle.ixl_spec.specs.layout.Entries.{Site}
use Rattle.simulator_event.specs.declared.event.Event.{Event}
use Rattle.replay_lines.specs.Events.{event}

-- commands, occupancies and restarts, by their first word
abbrev pub is_scripted : List ℕ → Bool
is_scripted word =
    bytes_eq word (codes "set") || bytes_eq word (codes "cancel") || bytes_eq word (codes "resume")
    || bytes_eq word (codes "release") || bytes_eq word (codes "move") || bytes_eq word (codes "close") || bytes_eq word (codes "open")
    || bytes_eq word (codes "occupy") || bytes_eq word (codes "clear") || bytes_eq word (codes "restart")

-- the event that words say in a script
abbrev pub script_event : Site → List (List ℕ) → Result Event Fault
script_event site (first ∷ rest) = if is_scripted first then event site (first ∷ rest) else Err Words
script_event site [] = Err Words
