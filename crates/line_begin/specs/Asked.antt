-- What is asked where a line is to begin, and why it doesn't.
use Rattle.std.specs.Prelude.{ℕ, List, ◌++◌, Option, Some, None, Result, Ok, Err, codes, if◌then◌else◌}
use Rattle.std.specs.Str.{bytes_eq}
use Rattle.line_laws.specs.declared.words.Side.{Side}
use Rattle.line_laws.specs.declared.words.Side.TheVariants.{First, Second}
use Rattle.line_begin.specs.declared.asked.Asked.{Asked}
use Rattle.line_begin.specs.declared.asked.Asked.TheVariants.{New, Again}
use Rattle.line_begin.specs.declared.asked.NotBegun.{NotBegun}
use Rattle.line_begin.specs.declared.asked.NotBegun.TheVariants.{Refused, NotKept}
use Rattle.line_begin.specs.declared.asked.Refusal.{Refusal}
use Rattle.line_begin.specs.declared.asked.Refusal.TheVariants as refusals
use Rattle.line_begin.specs.declared.sight.There.{There}
use Rattle.line_begin.specs.declared.sight.There.TheVariants as there

-- what is to be typed before a line of this name begins again
abbrev pub confirmation : (name : List ℕ) → List ℕ
confirmation name = codes "no route onto or from line " ++ (name ++ codes " is set, their lamps are dark, and both ends are stopped")

-- A new line begins where no file is there.
abbrev pub refusal_at : Side → There → Option Refusal
refusal_at side there.Nothing = None
refusal_at side there.File = Some (refusals.There side)
refusal_at side there.Unseen = Some (refusals.Unseen side)

abbrev pub first_refusal : (first second : Option Refusal) → Option Refusal
first_refusal (Some cause) second = Some cause
first_refusal None second = second

-- why a line of this name isn't begun, if it isn't
abbrev pub why_refused : (name : List ℕ) → Asked → Option Refusal
why_refused name (New first second) = first_refusal (refusal_at First first) (refusal_at Second second)
why_refused name (Again typed) = if bytes_eq typed.now (confirmation name) then None else Some refusals.Unconfirmed

-- why it was refused, if it was
abbrev pub refusal_of : {T : Type 0} → Result T NotBegun → Option Refusal
refusal_of (Ok done) = None
refusal_of (Err (Refused cause)) = Some cause
refusal_of (Err (NotKept side not_kept)) = None
