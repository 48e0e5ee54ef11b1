-- The calls by which the file is read and written.
use Rattle.std.specs.Prelude.{ℕ, Bool, List, [], ◌∷◌, ◌++◌, Option, Some, None, Result, Ok, Err}

pub data Call : Type 0 where
  -- what was found: nothing where it couldn't be read, no text where no file was there
  Reads : (found : Option (Option (List ℕ))) → Call
  -- whether it was done
  Writes : (text : List ℕ) → (done : Bool) → Call

-- The calls that are told when one more was made. None claims nothing: a disk doesn't tell its calls.
abbrev pub recorded : Call → Option (List Call) → Option (List Call)
recorded call None = None
recorded call (Some calls) = Some (calls ++ call ∷ [])

-- what a read found
abbrev pub found_of : {E : Type 0} → Result (Option (List ℕ)) E → Option (Option (List ℕ))
found_of (Ok found) = Some found
found_of (Err error) = None
