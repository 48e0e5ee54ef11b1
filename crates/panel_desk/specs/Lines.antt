-- What a board shows, and what it is told.
use Rattle.std.specs.Prelude.{ℕ, ◌+◌, ◌-◌, ◌^◌, min, nat_le, if◌then◌else◌, List, [], ◌∷◌, ◌++◌, length, drop, map, replicate, slice_get, slice_set, Option, Some, None}
use Rattle.std.specs.List.{remove}
use Rattle.std.specs.Str.{bytes_eq}

-- a line, and the number at which it was told
pub record NotedView : Type 0 where
  pub text : List ℕ
  pub since : ℕ

pub record BoardView : Type 0 where
  -- how often all lines were told anew
  pub number : ℕ
  -- the lines that are shown, each at its place
  pub shown : List NotedView
  -- the last lines of the log, oldest first
  pub log : List NotedView

-- a board at none of whose places anything was told
abbrev pub blank : ℕ → BoardView
blank places = record { number = 0; shown = replicate places (record { text = []; since = 0 }); log = [] }

-- what follows is told at the next number, of 64 bits
abbrev pub numbered : BoardView → BoardView
numbered board = record board { number = min (board.number + 1) (2 ^ 64 - 1) }

-- a line that stands where it stood keeps its number
abbrev pub told_over : ℕ → List ℕ → NotedView → NotedView
told_over number line before = if bytes_eq before.text line then before else record { text = line; since = number }

abbrev pub told_at : ℕ → ℕ → List ℕ → Option NotedView → List NotedView → List NotedView
told_at number place line (Some before) shown = slice_set shown place (told_over number line before)
told_at number place line None shown = shown

-- a line is shown at a place
abbrev pub told : ℕ → List ℕ → BoardView → BoardView
told place line board = record board { shown = told_at board.number place line (slice_get board.shown place) board.shown }

-- the last 255 lines of a log, and one more
abbrev pub log_with : NotedView → List NotedView → List NotedView
log_with one log = (if nat_le 256 (length log) then remove log 0 else log) ++ one ∷ []

-- a line is noted after the others of the log
abbrev pub noted_at : List ℕ → BoardView → BoardView
noted_at line board = record board { log = log_with (record { text = line; since = board.number }) board.log }
