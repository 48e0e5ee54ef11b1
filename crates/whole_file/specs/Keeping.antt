-- A file that is kept again and again, by processes that may fail, be ended, and lose their power at any moment.
use Rattle.std.specs.Prelude.{◌≡◌, ◌⊎◌, ⊤, ℕ, Bool, true, false, List, [], ◌∷◌, ◌++◌, Option, Some, None, if◌then◌else◌}
use Rattle.whole_file.specs.declared.call.Call.{Call}
use Rattle.whole_file.specs.declared.call.Call.TheVariants.{Write, Sync, Replace, SyncFolder}
use Rattle.whole_file.specs.Calls.{Made, Writes, Syncs, Replaces, SyncsFolder}
use Rattle.whole_file.specs.Disk.{DiskFile, Disk, written, synced, replaced, settled, cut}

-- How far a keep of these bytes is: which of its calls were done.
pub data Progress : Type 0 where
  Idle : Progress
  Begun : (bytes : List ℕ) → Progress
  Written : (bytes : List ℕ) → Progress
  Synced : (bytes : List ℕ) → Progress
  Replaced : (bytes : List ℕ) → Progress

pub record Kept : Type 0 where
  pub disk : Disk
  pub progress : Progress
  -- What may be found: the bytes of the last keep that answered Ok, and of those begun after it, newest first. None is
  -- a file that isn't there.
  pub candidates : List (Option (List ℕ))

-- ---- what can happen

pub data Move : Type 0 where
  -- a keep of these bytes begins
  Begins : (bytes : List ℕ) → Move
  -- its next call is done
  Goes : Move
  -- Its next call fails, and the keep answers so. A write has left this of the new file; where the old file was to be
  -- replaced, that may have happened all the same.
  Fails : (left : Option DiskFile) → (happened : Bool) → Move
  -- the process ends
  Stops : Move
  -- the own name leads after a cut to what it leads to now, without a call
  Settles : Move
  -- The power is cut. The new name may lead to anything then, and bytes that weren't synced may have become any.
  Cuts : (fresh : Option DiskFile) → (any : List ℕ) → Move

-- ---- what it leaves

-- where all four calls were done, the keep answers Ok
abbrev pub gone : Progress → Kept → Kept
gone Idle kept = kept
gone (Begun bytes) kept = record kept { disk = written bytes kept.disk; progress = Written bytes }
gone (Written bytes) kept = record kept { disk = synced kept.disk; progress = Synced bytes }
gone (Synced bytes) kept = record kept { disk = replaced kept.disk; progress = Replaced bytes }
gone (Replaced bytes) kept = record { disk = settled kept.disk; progress = Idle; candidates = Some bytes ∷ [] }

abbrev pub failed : Option DiskFile → Bool → Progress → Disk → Disk
failed left happened Idle disk = disk
failed left happened (Begun bytes) disk = record disk { fresh = left }
failed left happened (Written bytes) disk = disk
failed left happened (Synced bytes) disk = if happened then replaced disk else disk
failed left happened (Replaced bytes) disk = disk

abbrev pub after : Move → Kept → Kept
after (Begins bytes) kept = record kept { progress = Begun bytes; candidates = Some bytes ∷ kept.candidates }
after Goes kept = gone kept.progress kept
after (Fails left happened) kept = record kept { disk = failed left happened kept.progress kept.disk; progress = Idle }
after Stops kept = record kept { progress = Idle }
after Settles kept = record kept { disk = settled kept.disk }
after (Cuts fresh any) kept = record kept { disk = cut fresh any kept.disk; progress = Idle }

-- a list of moves, oldest first
abbrev pub run : List Move → Kept → Kept
run [] kept = kept
run (move ∷ moves) kept = run moves (after move kept)

-- ---- how it begins

abbrev pub whole : Option (List ℕ) → Option DiskFile
whole None = None
whole (Some bytes) = Some (record { bytes = bytes; synced = true })

-- A file of these bytes is there, or none is, and anything is under the new name.
abbrev pub begins : Option DiskFile → Option (List ℕ) → Kept
begins fresh file =
    record { disk = record { fresh = fresh; own = whole file; durable = whole file }; progress = Idle; candidates = file ∷ [] }

-- ---- what is promised

abbrev pub IsOneOf : Option (List ℕ) → List (Option (List ℕ)) → Type 0
IsOneOf found [] = ⊥
IsOneOf found (file ∷ files) = (found ≡ file) ⊎ IsOneOf found files

-- A program finds these bytes, now and after a cut of the power.
pub record IsOnDisk (bytes : List ℕ) (disk : Disk) : Type 0 where
  pub now : disk.own ≡ whole (Some bytes)
  pub after_cut : disk.durable ≡ whole (Some bytes)

-- no keep begins
abbrev pub is_quiet : Move → Bool
is_quiet (Begins bytes) = false
is_quiet Goes = true
is_quiet (Fails left happened) = true
is_quiet Stops = true
is_quiet Settles = true
is_quiet (Cuts fresh any) = true

abbrev pub AreQuiet : List Move → Type 0
AreQuiet [] = ⊤
AreQuiet (move ∷ moves) = (is_quiet move ≡ true) × AreQuiet moves

-- ---- the moves of a keep in the code

abbrev pub call_made : Progress → (done : Bool) → List Made
call_made Idle done = []
call_made (Begun bytes) done = Writes bytes done ∷ []
call_made (Written bytes) done = Syncs done ∷ []
call_made (Synced bytes) done = Replaces done ∷ []
call_made (Replaced bytes) done = SyncsFolder done ∷ []

abbrev pub move_calls : Move → Progress → List Made
move_calls (Begins bytes) progress = []
move_calls Goes progress = call_made progress true
move_calls (Fails left happened) progress = call_made progress false
move_calls Stops progress = []
move_calls Settles progress = []
move_calls (Cuts fresh any) progress = []

-- the calls that are made in a list of moves
abbrev pub calls_of : List Move → Kept → List Made
calls_of [] kept = []
calls_of (move ∷ moves) kept = move_calls move kept.progress ++ calls_of moves (after move kept)

-- a keep that does all calls, or fails at this one
abbrev pub keep_moves : List ℕ → Option DiskFile → Bool → Option Call → List Move
keep_moves bytes left happened None = Begins bytes ∷ Goes ∷ Goes ∷ Goes ∷ Goes ∷ []
keep_moves bytes left happened (Some Write) = Begins bytes ∷ Fails left happened ∷ []
keep_moves bytes left happened (Some Sync) = Begins bytes ∷ Goes ∷ Fails left happened ∷ []
keep_moves bytes left happened (Some Replace) = Begins bytes ∷ Goes ∷ Goes ∷ Fails left happened ∷ []
keep_moves bytes left happened (Some SyncFolder) = Begins bytes ∷ Goes ∷ Goes ∷ Goes ∷ Fails left happened ∷ []
