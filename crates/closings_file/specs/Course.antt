-- An interlocking with the file of its closings, whatever happens to its process, its file and its power.
use Rattle.std.specs.Prelude.{⊤, ℕ, Bool, true, false, IsTrue, ◌&&◌, List, [], ◌∷◌, ◌++◌, Option, Some, None, if◌then◌else◌}
use Rattle.closings.specs.layout.Entries.{Site}
use Rattle.closings.specs.declared.auxiliary.Auxiliary.{Auxiliary}
use Rattle.closings.specs.declared.auxiliary.AuxiliaryCounts.{AuxiliaryCounts}
use Rattle.closings.specs.declared.closed.Closings.{Closings}
use Rattle.closings.specs.declared.thing.Thing.{Thing}
use Rattle.closings.specs.declared.thing.Named.{Named}
use Rattle.closings.specs.Things.{Names}
use Rattle.closings.specs.Auxiliaries.{AreCounted, counted_by, none_counted}
use Rattle.closings.specs.Closed.{either, is_closed, nothing, with_named, without_named}
use Rattle.whole_file.specs.declared.call.Call.{Call}
use Rattle.whole_file.specs.declared.call.Call.TheVariants.{Write, Sync, Replace, SyncFolder}
use Rattle.whole_file.specs.Calls.{Made}
use Rattle.whole_file.specs.Disk.{Disk, DiskFile, bytes_of}
use Rattle.whole_file.specs.Keeping.{Kept, Progress, Idle, Begun, Written, Synced, Replaced}
use Rattle.whole_file.specs.Keeping as file
use Rattle.closings_file.specs.Texts.{writing}
use Rattle.closings_file.specs.Files.{found_in, is_known}

pub record Course : Type 0 where
  -- what is closed in the interlocking
  pub closed : Closings
  -- what set routes lock, where that is to be kept too
  pub locks : Closings
  -- the auxiliary commands that were accepted
  pub counts : AuxiliaryCounts
  -- what its process knows the file to have
  pub known : Option (List ℕ)
  -- the file, and how far a keep of it is
  pub file : Kept
  -- What was closed or locked when a keep answered Ok, and has been so since. Of this it was told that it is kept.
  pub kept : Thing → Bool
  -- the auxiliary commands that were counted when a keep answered Ok
  pub counted : AuxiliaryCounts

-- ---- what can happen

pub data Move : Type 0 where
  -- a command that was accepted takes effect in the interlocking
  Closes : (named : Named) → Move
  Opens : (named : Named) → Move
  -- set routes lock this from now on
  Locks : (locks : Closings) → Move
  -- an auxiliary command was accepted
  Counts : (of : Auxiliary) → Move
  -- a keep begins; where the file is known to have all, it answers Ok at once
  Keeps : Move
  -- its next call is done; where it was the last, the keep answers Ok
  Goes : Move
  -- its next call fails, and the keep answers so
  Fails : (left : Option DiskFile) → (happened : Bool) → Move
  -- what the name leads to outlives a cut of the power from now on, without a call
  Settles : Move
  -- the process ends, between any two calls, and a new one begins from what it finds
  Restarts : Move
  -- the power is cut, and then a new process begins from what it finds
  PowerFails : (fresh : Option DiskFile) → (any : List ℕ) → Move

-- ---- what it leaves

-- what the file is to have
abbrev pub wanted : Course → Closings
wanted course = either course.closed course.locks

-- what isn't closed or locked any more isn't kept any more
abbrev pub still_kept : Course → Course
still_kept course = record course { kept = λ t. course.kept t && is_closed (wanted course) t }

-- a keep answers Ok
abbrev pub all_kept : Course → Course
all_kept course = record course { kept = is_closed (wanted course); counted = course.counts }

-- no keep is on its way
abbrev pub is_idle : Progress → Bool
is_idle Idle = true
is_idle (Begun bytes) = false
is_idle (Written bytes) = false
is_idle (Synced bytes) = false
is_idle (Replaced bytes) = false

-- a process does one thing after the other
abbrev pub if_idle : (next course : Course) → Course
if_idle next course = if is_idle course.file.progress then next else course

abbrev pub with_file : file.Move → Course → Course
with_file move course = record course { file = file.after move course.file }

abbrev pub kept_by : Site → (head : List ℕ) → Course → Course
kept_by l head course =
    let text = writing l head course.counts (wanted course)
    in if is_known text course.known then all_kept course else with_file (file.Begins text) (record course { known = None })

abbrev pub gone : Progress → Course → Course
gone Idle course = course
gone (Begun bytes) course = course
gone (Written bytes) course = course
gone (Synced bytes) course = course
gone (Replaced bytes) course = record (all_kept course) { known = Some bytes }

-- a new process closes what it finds, counts on from there, and has no set route
abbrev pub begun : Site → (head : List ℕ) → Course → Course
begun l head course =
    let found = found_in l head (bytes_of course.file.disk.own)
    in record course { closed = found.closings; locks = nothing; counts = found.counts; known = None }

abbrev pub after : Site → (head : List ℕ) → Move → Course → Course
after l head (Closes named) course = if_idle (still_kept (record course { closed = with_named course.closed named })) course
after l head (Opens named) course = if_idle (still_kept (record course { closed = without_named course.closed named })) course
after l head (Locks locks) course = if_idle (still_kept (record course { locks = locks })) course
after l head (Counts of) course = if_idle (record course { counts = counted_by of course.counts }) course
after l head Keeps course = if_idle (kept_by l head course) course
after l head Goes course = gone course.file.progress (with_file file.Goes course)
after l head (Fails left happened) course = with_file (file.Fails left happened) course
after l head Settles course = with_file file.Settles course
after l head Restarts course = begun l head (with_file file.Stops course)
after l head (PowerFails fresh any) course = begun l head (with_file (file.Cuts fresh any) course)

-- a list of moves, oldest first
abbrev pub run : Site → (head : List ℕ) → List Move → Course → Course
run l head [] course = course
run l head (move ∷ moves) course = run l head moves (after l head move course)

-- ---- how it begins

-- The first process begins with a file of these bytes, or with none, and anything is under the new name.
abbrev pub starts : Site → (head : List ℕ) → Option DiskFile → Option (List ℕ) → Course
starts l head fresh bytes =
    begun l head (record { closed = nothing; locks = nothing; counts = none_counted; known = None; file = file.begins fresh bytes; kept = λ t. false; counted = none_counted })

-- ---- what is promised

-- no move of a list opens a thing
abbrev pub OpensNot : Thing → Move → Type 0
OpensNot t (Closes named) = ⊤
OpensNot t (Opens named) = Names named t → ⊥
OpensNot t (Locks locks) = ⊤
OpensNot t (Counts of) = ⊤
OpensNot t Keeps = ⊤
OpensNot t Goes = ⊤
OpensNot t (Fails left happened) = ⊤
OpensNot t Settles = ⊤
OpensNot t Restarts = ⊤
OpensNot t (PowerFails fresh any) = ⊤

abbrev pub NoneOpens : Thing → List Move → Type 0
NoneOpens t [] = ⊤
NoneOpens t (move ∷ moves) = OpensNot t move × NoneOpens t moves

-- a process that finds the file now closes a thing
abbrev pub FindsClosed : Site → (head : List ℕ) → Disk → Thing → Type 0
FindsClosed l head disk t = IsTrue (is_closed (found_in l head (bytes_of disk.own)).closings t)

-- a process that finds the file now counts on from as many as these, or more
abbrev pub FindsCounted : Site → (head : List ℕ) → Disk → AuxiliaryCounts → Type 0
FindsCounted l head disk counts = AreCounted counts (found_in l head (bytes_of disk.own)).counts

-- ---- the moves of a keep in the code

abbrev pub move_calls : Move → Progress → List Made
move_calls (Closes named) progress = []
move_calls (Opens named) progress = []
move_calls (Locks locks) progress = []
move_calls (Counts of) progress = []
move_calls Keeps progress = []
move_calls Goes progress = file.call_made progress true
move_calls (Fails left happened) progress = file.call_made progress false
move_calls Settles progress = []
move_calls Restarts progress = []
move_calls (PowerFails fresh any) progress = []

-- the calls that are made in a list of moves
abbrev pub calls_of : Site → (head : List ℕ) → List Move → Course → List Made
calls_of l head [] course = []
calls_of l head (move ∷ moves) course = move_calls move course.file.progress ++ calls_of l head moves (after l head move course)

-- a keep that does all calls, or fails at this one
abbrev pub keep_moves : Option DiskFile → Bool → Option Call → List Move
keep_moves left happened None = Keeps ∷ Goes ∷ Goes ∷ Goes ∷ Goes ∷ []
keep_moves left happened (Some Write) = Keeps ∷ Fails left happened ∷ []
keep_moves left happened (Some Sync) = Keeps ∷ Goes ∷ Fails left happened ∷ []
keep_moves left happened (Some Replace) = Keeps ∷ Goes ∷ Goes ∷ Fails left happened ∷ []
keep_moves left happened (Some SyncFolder) = Keeps ∷ Goes ∷ Goes ∷ Goes ∷ Fails left happened ∷ []
