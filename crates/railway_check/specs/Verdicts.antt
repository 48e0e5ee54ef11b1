-- What a check says of a text.
use Rattle.std.specs.Prelude.{ℕ, ◌==◌, Bool, true, false, List, []}

-- the status with which it ends, what it writes to standard output, and what it tells to be wrong
pub record VerdictState : Type 0 where
  pub status : ℕ
  pub out : List ℕ
  pub err : List ℕ

-- nothing is wrong
abbrev pub is_sound : VerdictState → Bool
is_sound verdict = verdict.status == 0

-- the status of a check
abbrev pub status_of : Bool → ℕ
status_of true = 0
status_of false = 1

-- a text that is told under a condition
abbrev pub told_if : Bool → List ℕ → List ℕ
told_if true text = text
told_if false text = []
