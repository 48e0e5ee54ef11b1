-- What contracts inside the crate say of a script's lines. No promise names any of it.
use Rattle.std.specs.Prelude.{ℕ, nat_le, nat_lt, Bool, true, false, if◌then◌else◌, List, [], ◌∷◌, Option, Some, None}
use Rattle.simulator_event.specs.declared.event.Event.{Event}
use Rattle.station_drive.specs.Rounds.{not_due}

-- whether the times of lines don't fall, from this time on
abbrev pub rises : ℕ → List (ℕ × Event) → Bool
rises time [] = true
rises time (line ∷ more) = if nat_le time line.0 then rises line.0 more else false

-- the lines that wait, where those up to a time were applied
abbrev pub waiting : Option ℕ → List (ℕ × Event) → List (ℕ × Event)
waiting None lines = lines
waiting (Some applied) lines = not_due applied lines

-- whether a line of this time waits
abbrev pub waits : Option ℕ → ℕ → Bool
waits None time = true
waits (Some applied) time = nat_lt applied time

-- up to which time lines were applied, where those up to `passed` were applied too
abbrev pub applied_to : Option ℕ → ℕ → ℕ
applied_to None passed = passed
applied_to (Some applied) passed = if nat_le passed applied then applied else passed
