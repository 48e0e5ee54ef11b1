-- A line that begins, by a process that may fail, be ended, and lose its power, at any moment.
use Rattle.std.specs.Prelude.{◌≡◌, ◌&&◌, ℕ, Bool, true, false, List, [], ◌∷◌, ◌++◌, Option, Some, None, Result, Ok, Err}
use Rattle.line_laws.specs.declared.words.Side.{Side}
use Rattle.line_laws.specs.declared.words.Side.TheVariants.{First, Second}
use Rattle.line_laws.specs.End.{File}
use Rattle.line_file.specs.declared.fault.FileFault.{FileFault}
use Rattle.line_file.specs.EndFiles.{reading}
use Rattle.whole_file.specs.declared.call.Call.{Call}
use Rattle.whole_file.specs.declared.call.Call.TheVariants.{Write, Sync, Replace, SyncFolder}
use Rattle.whole_file.specs.Calls.{Made}
use Rattle.whole_file.specs.Disk.{DiskFile, bytes_of}
use Rattle.whole_file.specs.Keeping.{Kept, Progress, Idle, Written, Synced, Replaced, call_made}
use Rattle.whole_file.specs.Keeping as keeping
use Rattle.line_begin.specs.Files.{Outcome, Refused, Failed, Begun, end_text}

-- How far it is: the file of this end is being kept, both are kept, or it was given up.
pub data Stage : Type 0 where
  At : Side → Stage
  Done : Stage
  GivenUp : Stage

-- with the two files, each at its place
pub record Course : Type 0 where
  pub stage : Stage
  pub first : Kept
  pub second : Kept

-- What stands at a place before: a file or none under its name, and anything under the new name.
pub record Before : Type 0 where
  pub fresh : Option DiskFile
  pub file : Option (List ℕ)

-- the file of the second end comes first
abbrev pub begins : (name : List ℕ) → (first second : Before) → Course
begins name first second = record {
  stage = At Second;
  first = keeping.begins first.fresh first.file;
  second = keeping.after (keeping.Begins (end_text name Second)) (keeping.begins second.fresh second.file);
}

-- ---- what can happen

pub data Event : Type 0 where
  -- the next call is done
  Goes : Event
  -- it fails, and leaves this or happens all the same, as with any file that is kept
  Fails : (left : Option DiskFile) → (happened : Bool) → Event
  -- the process ends
  Stops : Event
  -- the name of this end's file leads after a cut to what it leads to now, without a call
  Settles : Side → Event
  -- The power is cut. Each new name may lead to anything then, and bytes that weren't synced may have become any.
  Cuts : (first_fresh : Option DiskFile) → (first_any : List ℕ) → (second_fresh : Option DiskFile) → (second_any : List ℕ) → Event

-- ---- what it leaves

-- with the last call at the second end's file the first end's begins
abbrev pub second_gone : (name : List ℕ) → Progress → Course → Course
second_gone name (Replaced bytes) course = record {
  stage = At First;
  first = keeping.after (keeping.Begins (end_text name First)) course.first;
  second = keeping.after keeping.Goes course.second;
}
second_gone name Idle course = course
second_gone name (keeping.Begun bytes) course = record course { second = keeping.after keeping.Goes course.second }
second_gone name (Written bytes) course = record course { second = keeping.after keeping.Goes course.second }
second_gone name (Synced bytes) course = record course { second = keeping.after keeping.Goes course.second }

-- and with the last at the first end's it is done
abbrev pub first_gone : Progress → Course → Course
first_gone (Replaced bytes) course = record course { stage = Done; first = keeping.after keeping.Goes course.first }
first_gone Idle course = course
first_gone (keeping.Begun bytes) course = record course { first = keeping.after keeping.Goes course.first }
first_gone (Written bytes) course = record course { first = keeping.after keeping.Goes course.first }
first_gone (Synced bytes) course = record course { first = keeping.after keeping.Goes course.first }

abbrev pub gone : (name : List ℕ) → Stage → Course → Course
gone name (At Second) course = second_gone name course.second.progress course
gone name (At First) course = first_gone course.first.progress course
gone name Done course = course
gone name GivenUp course = course

abbrev pub failed : Option DiskFile → Bool → Stage → Course → Course
failed left happened (At Second) course = record course { stage = GivenUp; second = keeping.after (keeping.Fails left happened) course.second }
failed left happened (At First) course = record course { stage = GivenUp; first = keeping.after (keeping.Fails left happened) course.first }
failed left happened Done course = course
failed left happened GivenUp course = course

-- what is done stays so when the process ends
abbrev pub ended : Stage → Stage
ended (At side) = GivenUp
ended Done = Done
ended GivenUp = GivenUp

abbrev pub settled : Side → Course → Course
settled First course = record course { first = keeping.after keeping.Settles course.first }
settled Second course = record course { second = keeping.after keeping.Settles course.second }

abbrev pub after : (name : List ℕ) → Event → Course → Course
after name Goes course = gone name course.stage course
after name (Fails left happened) course = failed left happened course.stage course
after name Stops course =
    record { stage = ended course.stage; first = keeping.after keeping.Stops course.first; second = keeping.after keeping.Stops course.second }
after name (Settles side) course = settled side course
after name (Cuts first_fresh first_any second_fresh second_any) course = record {
  stage = ended course.stage;
  first = keeping.after (keeping.Cuts first_fresh first_any) course.first;
  second = keeping.after (keeping.Cuts second_fresh second_any) course.second;
}

-- a list of events, oldest first
abbrev pub run : (name : List ℕ) → List Event → Course → Course
run name [] course = course
run name (event ∷ events) course = run name events (after name event course)

-- ---- what is promised

-- an end that is made from what was read has the token
abbrev pub has_read_token : Result File FileFault → Bool
has_read_token (Ok file) = file.token
has_read_token (Err fault) = false

-- so has one that is made from what is found under the name of its file
abbrev pub has_token : (name : List ℕ) → Side → Option (List ℕ) → Bool
has_token name side None = false
has_token name side (Some bytes) = has_read_token (reading name side bytes)

abbrev pub found : Kept → Option (List ℕ)
found kept = bytes_of kept.disk.own

-- not both ends have the token that are made from these
abbrev pub AtMostOne : (name : List ℕ) → (first second : Option (List ℕ)) → Type 0
AtMostOne name first second = (has_token name First first && has_token name Second second) ≡ false

-- the file of the second end is kept
abbrev pub IsSecondKept : Stage → Type 0
IsSecondKept (At Second) = ⊥
IsSecondKept (At First) = Unit {0}
IsSecondKept Done = Unit {0}
IsSecondKept GivenUp = ⊥

-- both files are found as they were written
pub record HasBoth (name : List ℕ) (course : Course) : Type 0 where
  pub first : found course.first ≡ Some (end_text name First)
  pub second : found course.second ≡ Some (end_text name Second)

-- ---- the events of a beginning in the code

abbrev pub call_at : Side → Stage → Course → (done : Bool) → List Made
call_at Second (At Second) course done = call_made course.second.progress done
call_at First (At First) course done = call_made course.first.progress done
call_at First (At Second) course done = []
call_at Second (At First) course done = []
call_at side Done course done = []
call_at side GivenUp course done = []

abbrev pub event_calls : Side → Event → Course → List Made
event_calls side Goes course = call_at side course.stage course true
event_calls side (Fails left happened) course = call_at side course.stage course false
event_calls side Stops course = []
event_calls side (Settles end) course = []
event_calls side (Cuts first_fresh first_any second_fresh second_any) course = []

-- the calls at the place of an end's file in a list of events
abbrev pub calls_of : (name : List ℕ) → Side → List Event → Course → List Made
calls_of name side [] course = []
calls_of name side (event ∷ events) course = event_calls side event course ++ calls_of name side events (after name event course)

-- a keep that does all calls
abbrev pub all_go : List Event
all_go = Goes ∷ Goes ∷ Goes ∷ Goes ∷ []

-- a keep that fails at this one
abbrev pub fails_at : Option DiskFile → Bool → Call → List Event
fails_at left happened Write = Fails left happened ∷ []
fails_at left happened Sync = Goes ∷ Fails left happened ∷ []
fails_at left happened Replace = Goes ∷ Goes ∷ Fails left happened ∷ []
fails_at left happened SyncFolder = Goes ∷ Goes ∷ Goes ∷ Fails left happened ∷ []

abbrev pub begin_events : Option DiskFile → Bool → Outcome → List Event
begin_events left happened Refused = []
begin_events left happened (Failed Second call) = fails_at left happened call
begin_events left happened (Failed First call) = all_go ++ fails_at left happened call
begin_events left happened Begun = all_go ++ all_go
