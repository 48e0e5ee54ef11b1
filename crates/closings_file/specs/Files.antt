-- What is found in a file of closings, and how it is kept.
use Rattle.std.specs.Prelude.{ℕ, Bool, false, List, [], Option, Some, None, Result, Ok, Err, if◌then◌else◌}
use Rattle.std.specs.Str.{bytes_eq}
use Rattle.closings.specs.layout.Entries.{Site}
use Rattle.closings.specs.Auxiliaries.{none_counted}
use Rattle.closings.specs.Closed.{all_track}
use Rattle.whole_file.specs.Calls.{Made, keep_calls}
use Rattle.closings_file.specs.declared.fault.FileFault.{FileFault}
use Rattle.closings_file.specs.declared.fault.FileFault.TheVariants.{Missing}
use Rattle.closings_file.specs.declared.found.Found.{Found}
use Rattle.closings_file.specs.declared.found.Said.{Said}
use Rattle.closings_file.specs.declared.unkept.Unkept.{Unkept}
use Rattle.closings_file.specs.declared.unkept.Unkept.TheVariants.{OutOfMemory, Failed}
use Rattle.closings_file.specs.Texts.{reading}

-- ---- what is found

-- a file that says less than what is closed closes all track, and tells no counts
abbrev pub found_of : Site → Result Said FileFault → Found
found_of l (Ok said) = record { closings = said.closings; counts = said.counts; fault = None }
found_of l (Err fault) = record { closings = all_track l; counts = none_counted; fault = Some fault }

-- What is closed and counted when a process begins, where its file has these bytes; none where no file is there.
abbrev pub found_in : Site → (head : List ℕ) → Option (List ℕ) → Found
found_in l head None = found_of l (Err Missing)
found_in l head (Some bytes) = found_of l (reading l head bytes)

-- ---- how it is kept

pub record KeeperState : Type 0 where
  -- the first line of the file
  pub head : List ℕ
  -- what the file has, where that is known
  pub known : Option (List ℕ)

abbrev pub is_known : (text : List ℕ) → (known : Option (List ℕ)) → Bool
is_known text None = false
is_known text (Some known) = bytes_eq known text

-- the file is known to have a text
abbrev pub has : (text : List ℕ) → KeeperState → Bool
has text keeper = is_known text keeper.known

-- the calls of a keep that answers this
abbrev pub tried_calls : {T : Type 0} → (text : List ℕ) → Result T Unkept → List Made
tried_calls text (Ok done) = keep_calls text None
tried_calls text (Err OutOfMemory) = []
tried_calls text (Err (Failed not_kept)) = keep_calls text (Some not_kept.call)

-- none where the file is known to have the text
abbrev pub file_calls : {T : Type 0} → (text : List ℕ) → KeeperState → Result T Unkept → List Made
file_calls text keeper result = if has text keeper then [] else tried_calls text result

-- what the file has behind a call that failed isn't known
abbrev pub after_keep : {T : Type 0} → (text : List ℕ) → KeeperState → Result T Unkept → KeeperState
after_keep text keeper (Ok done) = record keeper { known = Some text }
after_keep text keeper (Err OutOfMemory) = keeper
after_keep text keeper (Err (Failed not_kept)) = record keeper { known = None }
