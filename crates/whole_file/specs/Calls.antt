-- The calls by which a file is kept.
use Rattle.std.specs.Prelude.{ℕ, Bool, true, false, List, [], ◌∷◌, ◌++◌, Option, Some, None, Result, Ok, Err}
use Rattle.whole_file.specs.declared.call.Call.{Call}
use Rattle.whole_file.specs.declared.call.Call.TheVariants.{Write, Sync, Replace, SyncFolder}
use Rattle.whole_file.specs.declared.call.NotKept.{NotKept}

-- A call that was made, and whether it was done.
pub data Made : Type 0 where
  -- the new file has these bytes
  Writes : (bytes : List ℕ) → (done : Bool) → Made
  -- they outlive a cut of the power
  Syncs : (done : Bool) → Made
  -- the new file stands in the place of the old one
  Replaces : (done : Bool) → Made
  -- and does so after a cut of the power
  SyncsFolder : (done : Bool) → Made

-- The calls that a place tells of, when these were made. None claims nothing: a disk doesn't tell its calls.
abbrev pub recorded : List Made → Option (List Made) → Option (List Made)
recorded made None = None
recorded made (Some calls) = Some (calls ++ made)

-- The calls of a keep: all four are done, or this one failed and was the last.
abbrev pub keep_calls : List ℕ → Option Call → List Made
keep_calls bytes None = Writes bytes true ∷ Syncs true ∷ Replaces true ∷ SyncsFolder true ∷ []
keep_calls bytes (Some Write) = Writes bytes false ∷ []
keep_calls bytes (Some Sync) = Writes bytes true ∷ Syncs false ∷ []
keep_calls bytes (Some Replace) = Writes bytes true ∷ Syncs true ∷ Replaces false ∷ []
keep_calls bytes (Some SyncFolder) = Writes bytes true ∷ Syncs true ∷ Replaces true ∷ SyncsFolder false ∷ []

-- the call that failed, none where all were done
abbrev pub failed_call : {T : Type 0} → Result T NotKept → Option Call
failed_call (Ok done) = None
failed_call (Err not_kept) = Some not_kept.call
