-- The file of what is closed through the lives of processes, call by call.
use Rattle.std.specs.Prelude.{◌≡◌, ◌⊎◌, ℕ, ◌&&◌, ◌||◌, not, if◌then◌else◌, Bool, true, false, List, [], ◌∷◌, ◌++◌, codes, min, take, Option, Some, None}
use Rattle.node_kinds.specs.simulator_spec.layout.Entries.{Site}
use Rattle.node_kinds.specs.simulator_spec.ixl_spec.closings.declared.auxiliary.AuxiliaryCounts.{AuxiliaryCounts}
use Rattle.node_kinds.specs.simulator_spec.ixl_spec.closings.declared.thing.Thing.{Thing}
use Rattle.node_kinds.specs.simulator_spec.ixl_spec.closings.Auxiliaries.{AreNumbers}
use Rattle.node_kinds.specs.simulator_spec.ixl_spec.closings.Closed.{is_closed}
use Rattle.node_kinds.specs.declared.keeping.Keeping.{Keeping}
use Rattle.node_kinds.specs.declared.keeping.Keeping.TheVariants as keeping
use Rattle.node_kinds.specs.simulator_spec.Nodes.{Node}
use Rattle.node_kinds.specs.node_drive.Calls.{Call, Keeps, Told}
use Rattle.node_kinds.specs.node_drive.declared.outside.ToKeep.{ToKeep}
use Rattle.node_kinds.specs.Processes.{Process, ProcessCut}
use Rattle.node_network.specs.Records.{counts_words}
use Rattle.whole_file.specs.declared.call.Call.{Call as FileCall}
use Rattle.whole_file.specs.Calls.{Made, keep_calls, recorded}
use Rattle.whole_file.specs.Disk.{Disk, DiskFile, bytes_of, cut}
use Rattle.whole_file.specs.Keeping.{Cuts, Kept, Move, Stops, keep_moves, run}
use Rattle.closings_file.specs.Course.{FindsClosed, FindsCounted}
use Rattle.closings_file.specs.Files.{KeeperState, is_known}
use Rattle.closings_file.specs.Texts.{writing}
use Rattle.station_node.specs.Takeover.{TakenOver, all_to_keep, found_where, taken_after, taken_over}

-- ---- the words

-- what the first line of a record says of what is kept, and of how many auxiliary commands were counted before
abbrev pub keeps_words : Keeping → AuxiliaryCounts → List ℕ
keeps_words keeping.Nothing counts = []
keeps_words keeping.Closings counts = codes " keeps closings " ++ counts_words counts
keeps_words keeping.Locks counts = codes " keeps locks " ++ counts_words counts

-- A process of a station ran, or was cut off, and it counted auxiliary commands on from so many.
abbrev pub CountsOn : Site → AuxiliaryCounts → Type 0
CountsOn site counts =
    (node : Option Node) × (keeping : Keeping) × (first : ℕ) × (for_ms : ℕ) × (old : Told) × (new : Told)
    × (Process site node keeping counts first for_ms old new ⊎ ProcessCut site node keeping counts first for_ms old new)

-- ---- one keep

-- How a keep goes: memory for its text is refused; or it fails at this call and leaves this of the new file, where the old one may have
-- been replaced all the same; or it fails at none.
pub record Outcome : Type 0 where
  pub refused : Bool
  pub left : Option DiskFile
  pub happened : Bool
  pub failing : Option FileCall

abbrev pub known_after : (text : List ℕ) → Option FileCall → Option (List ℕ)
known_after text None = Some text
known_after text (Some call) = None

abbrev pub is_done : Option FileCall → Bool
is_done None = true
is_done (Some call) = false

-- of a text, by what the file is known to have
module _ (text : List ℕ) (outcome : Outcome) (known : Option (List ℕ)) where
  -- no call is made where memory is refused, nor where the file is known to have the text
  abbrev pub makes_none : Bool
  makes_none = outcome.refused || is_known text known

  abbrev pub calls_of_keep : List Made
  calls_of_keep = if makes_none then [] else keep_calls text outcome.failing

  -- what these calls do to the file
  abbrev pub moves_of_keep : List Move
  moves_of_keep = if makes_none then [] else keep_moves text outcome.left outcome.happened outcome.failing

  abbrev pub known_behind : Option (List ℕ)
  known_behind = if makes_none then known else known_after text outcome.failing

  -- whether the file has the text on disk
  abbrev pub answer_of_keep : Bool
  answer_of_keep = not outcome.refused && (is_known text known || is_done outcome.failing)

-- the text of the file that is to have this
abbrev pub text_to_keep : Site → (head : List ℕ) → TakenOver → ToKeep → List ℕ
text_to_keep l head taken all = writing l head all.counts (all_to_keep taken all).closings

-- A process is asked to keep all this: its calls on the disk, what it knows of the file then, and what it answers.
pub record IsKept (l : Site) (taken : TakenOver) (all : ToKeep) (before after : KeeperState) (made made_then : Option (List Made)) (kept : Bool) : Type 0 where
  pub outcome : Outcome
  pub calls : made_then ≡ recorded (calls_of_keep (text_to_keep l before.head taken all) outcome before.known) made
  pub keeper : after ≡ record before { known = known_behind (text_to_keep l before.head taken all) outcome before.known }
  pub answer : kept ≡ answer_of_keep (text_to_keep l before.head taken all) outcome before.known

-- ---- the lives of processes, call by call

-- What happens to the processes of an interlocking, one after another, and to the disk. Each new one can read the file, or it can't.
pub data Moment : Type 0 where
  -- a process makes a call; where that keeps anything, it goes so on the disk
  Makes : (call : Call) → (outcome : Outcome) → Moment
  -- a process ends between two calls, and a new one begins
  Ends : (readable : Bool) → Moment
  -- it ends within a keep that would go so, when so many moves were made of it, and a new one begins
  EndsWithin : (all : ToKeep) → (outcome : Outcome) → (made : ℕ) → (readable : Bool) → Moment
  -- the power is cut, and then a new process begins; the new name may lead to anything, and bytes that weren't synced may be any
  PowerFails : (fresh : Option DiskFile) → (any : List ℕ) → (readable : Bool) → Moment

-- a process and its file: what it knows that the file has, what it has taken over, and the file
pub record Held : Type 0 where
  pub known : Option (List ℕ)
  pub taken : TakenOver
  pub file : Kept

-- no process ends within these moments
abbrev pub IsOneLife : List Moment → Type 0
IsOneLife [] = Unit {0}
IsOneLife (Makes call outcome ∷ more) = IsOneLife more
IsOneLife (moment ∷ more) = ⊥

abbrev pub calls_in : List Moment → List Call
calls_in [] = []
calls_in (Makes call outcome ∷ more) = call ∷ calls_in more
calls_in (moment ∷ more) = calls_in more

-- whether what was to be kept last by these calls was kept, where this is so before them
abbrev pub is_kept_last : Bool → List Call → Bool
is_kept_last before [] = before
is_kept_last before (Keeps all kept ∷ calls) = is_kept_last kept calls
is_kept_last before (call ∷ calls) = is_kept_last before calls

-- ---- what the calls say of the file

-- of what is closed: what a keep makes sure, and what is left by one that may not have been done
abbrev pub closed_by : ToKeep → Thing → Bool
closed_by all = is_closed all.closings

abbrev pub closed_by_both : (Thing → Bool) → ToKeep → Thing → Bool
closed_by_both closed all = λ t. closed t && is_closed all.closings t

-- the same of how many auxiliary commands were counted
abbrev pub counted_by : ToKeep → AuxiliaryCounts
counted_by all = all.counts

abbrev pub fewest : AuxiliaryCounts → AuxiliaryCounts → AuxiliaryCounts
fewest one other = record { releases = min one.releases other.releases; opens = min one.opens other.opens }

abbrev pub counted_by_both : AuxiliaryCounts → ToKeep → AuxiliaryCounts
counted_by_both counts all = fewest counts all.counts

module _ (l : Site) (head : List ℕ) where
  -- a process begins with a file that it can read or not, and knows nothing of it
  abbrev pub begun : (readable : Bool) → Kept → Held
  begun readable file = record { known = None; taken = taken_over l (found_where l head readable (bytes_of file.disk.own)); file = file }

  -- the text of a keep of such a process
  abbrev pub text_in : Held → ToKeep → List ℕ
  text_in held all = text_to_keep l head held.taken all

  abbrev pub after_keep : ToKeep → Outcome → Held → Held
  after_keep all outcome held =
      record held {
        known = known_behind (text_in held all) outcome held.known;
        file = run (moves_of_keep (text_in held all) outcome held.known) held.file;
      }

  -- no other call changes the file
  abbrev pub after_call : Call → Outcome → Held → Held
  after_call (Keeps all kept) outcome held = after_keep all outcome held
  after_call call outcome held = record held { taken = taken_after call held.taken }

  abbrev pub after_moment : Moment → Held → Held
  after_moment (Makes call outcome) held = after_call call outcome held
  after_moment (Ends readable) held = begun readable (run (Stops ∷ []) held.file)
  after_moment (EndsWithin all outcome made readable) held = begun readable (run (take made (moves_of_keep (text_in held all) outcome held.known) ++ Stops ∷ []) held.file)
  after_moment (PowerFails fresh any readable) held = begun readable (run (Cuts fresh any ∷ []) held.file)

  abbrev pub after_all : List Moment → Held → Held
  after_all [] held = held
  after_all (moment ∷ more) held = after_all more (after_moment moment held)

  -- each keep is answered as it went, and its counts are numbers of 64 bits
  abbrev pub IsAnswered : Moment → Held → Type 0
  IsAnswered (Makes (Keeps all kept) outcome) held = AreNumbers all.counts × (kept ≡ answer_of_keep (text_in held all) outcome held.known)
  IsAnswered (EndsWithin all outcome made readable) held = AreNumbers all.counts
  IsAnswered moment held = Unit {0}

  abbrev pub AreAnswered : List Moment → Held → Type 0
  AreAnswered [] held = Unit {0}
  AreAnswered (moment ∷ more) held = IsAnswered moment held × AreAnswered more (after_moment moment held)

  -- ---- what surely is so

  module _ {What : Type 0} (of : ToKeep → What) (both : What → ToKeep → What) where
    -- What surely is so for a process that begins after a moment, where this is so before it: what a keep makes sure that was done, and
    -- what is left by one that may not have been done. As long as a process takes over, it keeps what it found, too.
    abbrev pub sure_behind : Moment → Held → What → What
    sure_behind (Makes (Keeps all true) outcome) held what = of (all_to_keep held.taken all)
    sure_behind (Makes (Keeps all false) outcome) held what = both what (all_to_keep held.taken all)
    sure_behind (EndsWithin all outcome made readable) held what = both what (all_to_keep held.taken all)
    sure_behind moment held what = what

    abbrev pub sure_after : List Moment → Held → What → What
    sure_after [] held what = what
    sure_after (moment ∷ more) held what = sure_after more (after_moment moment held) (sure_behind moment held what)

  -- what surely is closed: what the last keep wrote that was done, as far as each later one wrote it too
  abbrev pub surely : List Moment → Held → (Thing → Bool) → Thing → Bool
  surely moments held closed = sure_after closed_by closed_by_both moments held closed

  -- how many auxiliary commands surely are counted: as many as the last keep told that was done, or a later one where that told less
  abbrev pub surely_counted : List Moment → Held → AuxiliaryCounts → AuxiliaryCounts
  surely_counted moments held counts = sure_after counted_by counted_by_both moments held counts

  -- ---- what is promised

  -- A process that begins now closes a thing, and so does one that begins after a cut of the power.
  pub record IsFound (disk : Disk) (t : Thing) : Type 0 where
    pub now : FindsClosed l head disk t
    pub after_cut : (left : Option DiskFile) (any : List ℕ) → FindsClosed l head (cut left any disk) t

  -- It counts on from as many auxiliary commands as these, or from more, and so does one that begins after a cut of the power.
  pub record IsCounted (disk : Disk) (counts : AuxiliaryCounts) : Type 0 where
    pub now : FindsCounted l head disk counts
    pub after_cut : (left : Option DiskFile) (any : List ℕ) → FindsCounted l head (cut left any disk) counts
