-- What a script says: on each line `at`, a time in milliseconds and an event, which is a command, an occupancy or a
-- restart. Times don't fall. No line is passed over.
use Rattle.std.specs.Prelude.{ℕ, nat_le, if◌then◌else◌, List, [], ◌∷◌, codes, Result, Ok, Err}
use Rattle.std.specs.List.{enumerate_from}
use Rattle.std.specs.Str.{bytes_eq}
use Rattle.replay_words.specs.declared.fault.Fault.{Fault}
use Rattle.replay_words.specs.declared.fault.Fault.TheVariants.{Words, Order}
use Rattle.replay_words.specs.Fault.{both, number_of, ◌>>=◌}
use Rattle.replay_words.specs.Cut.{lines, words}
use Rattle.replay_words.specs.Read.{decimal}
use Rattle.ixl_spec.specs.layout.Entries.{Site}
use Rattle.simulator_event.specs.declared.event.Event.{Event}
use Rattle.replay_lines.specs.declared.text.SessionFault.{SessionFault}
use Rattle.replay_lines.specs.Scripted.{script_event}
use Rattle.replay_lines.specs.Text.{at_line}

-- a time and an event, or the lowest fault of the words
abbrev pub timed : Site → List (List ℕ) → Result (ℕ × Event) Fault
timed site (at ∷ time ∷ happening) =
    if bytes_eq at (codes "at") then both (decimal time) (script_event site happening) else Err Words
timed site other = Err Words

-- what stands after a line of this time
abbrev pub in_order : ℕ → ℕ × Event → Result (ℕ × Event) Fault
in_order latest this = if nat_le latest this.0 then Ok this else Err Order

abbrev pub timed_line : Site → ℕ → List ℕ → Result (ℕ × Event) Fault
timed_line site latest line = do
  this ← timed site (words line)
  in_order latest this

-- what a line says before those after it, or its fault
abbrev pub before : ℕ → Result (ℕ × Event) Fault → (ℕ → Result (List (ℕ × Event)) SessionFault) → Result (List (ℕ × Event)) SessionFault
before number (Ok this) more = at_line number (Ok this) (more this.0)
before number (Err fault) more = Err (record { line = number; number = number_of fault })

-- the events of numbered lines after one of this time, or the fault of the first faulty line
abbrev pub script_from : Site → ℕ → List (ℕ × List ℕ) → Result (List (ℕ × Event)) SessionFault
script_from site latest [] = Ok []
script_from site latest (l ∷ more) = before l.0 (timed_line site latest l.1) (λ time. script_from site time more)

-- the events of a text
abbrev pub script : Site → List ℕ → Result (List (ℕ × Event)) SessionFault
script site text = script_from site 0 (enumerate_from 1 (lines text))
