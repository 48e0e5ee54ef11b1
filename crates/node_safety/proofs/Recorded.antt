-- What a process records of its node.
use Rattle.std.proofs.Common.{◌≡◌, ◌∙◌, ℕ, Bool, true, false, List, [], ◌∷◌, ◌++◌, Option, Some, refl, sym}
use Rattle.node_kinds.specs.simulator_spec.ixl_spec.Table.{Table}
use Rattle.node_kinds.specs.simulator_spec.layout.Entries.{Site}
use Rattle.node_kinds.specs.node_drive.Ages.{SendsBy}
use Rattle.node_kinds.specs.node_drive.Beginning.{first_course}
use Rattle.node_kinds.specs.node_drive.Calls.{Call, Reads, Told}
use Rattle.node_kinds.specs.node_drive.Drives.{CutOff, broken_in, in_rounds}
use Rattle.node_kinds.specs.node_drive.Kinds.{Kind}
use Rattle.node_kinds.specs.node_drive.Lives.{came}
use Rattle.node_kinds.specs.node_drive.Rounds.{Coming, CourseState, all_come}
use Rattle.node_kinds.specs.node_drive.Seen.{nothing_seen}
use Rattle.node_kinds.specs.Interlockings.{interlocking_kind}
use Rattle.node_kinds.specs.Openings.{Equipment, Opening, opening_kind, rest_order, untold}
use Rattle.node_kinds.specs.declared.keeping.Keeping.{Keeping}
use Rattle.node_kinds.specs.simulator_spec.ixl_spec.closings.declared.auxiliary.AuxiliaryCounts.{AuxiliaryCounts}
use Rattle.node_kinds.specs.Processes.{Controls, waited, lived, ControlsCut, waiting, opened, living, unmade, cut, Lives, Opens, ReadsAt, StationRuns, StationCut, not_made, cut_off, interlocking_made, left_of, standing}
use Rattle.node_safety.specs.Records.{Records, WasCalled, WasHandedOut, calls_in, made_before, made_in, station_before}
use Rattle.node_safety.proofs.Calls.{calls_then}
use Rattle.node_safety.proofs.Opened.{run_hands_none, run_rests}
use Rattle.node_safety.proofs.Sent.{AllInTime, opening_sends, record_sends}

-- ---- a controller

module _ {State Input Contacts : Type 0} (kind : Kind State Input) (site : Site) (equipment : Equipment) (told : Opening → Option Contacts) (made : Contacts → ℕ → State) (for_ms begins : ℕ) (old new : Told)
    -- a new node's equipment has to rest
    (new_rests : (contacts : Contacts) (now : ℕ) → kind.order (made contacts now) ≡ rest_order equipment) (before_in_time : AllInTime opening_kind) (in_time : AllInTime kind) where
  module _ (opening : Opening) (before : CourseState) (then : Told) (contacts : Contacts) (opens : Opens site equipment for_ms begins opening before old then) where
    rests : (now : ℕ) → before.order ≡ kind.order (made contacts now)
    rests now = run_rests site equipment opening before opens.ran ∙ sym (new_rests contacts now)

    -- what the process called before
    abbrev called_before : List Call
    called_before = (all_come opening_kind (in_rounds (opens.ran.earlier ++ opens.ran.last ∷ [])) (standing (untold site equipment) first_course)).0

    sends : (ended : Bool) (read : Told) (now : ℕ) (comings : List (ℕ × Coming)) (called : WasCalled ended read new (all_come kind comings (standing (made contacts now) before)).0)
        → SendsBy (WasHandedOut kind (came kind comings (standing (made contacts now) before)) (made contacts now)) nothing_seen
        ((called_before ++ Reads now ∷ []) ++ calls_in ended read new (all_come kind comings (standing (made contacts now) before)).0 called)
    sends ended read now comings called =
        record_sends kind in_time comings (standing (made contacts now) before) (run_hands_none site equipment opening before opens.ran) ended read new now called_before called
        (opening_sends before_in_time (WasHandedOut kind (came kind comings (standing (made contacts now) before)) (made contacts now)) site equipment (in_rounds (opens.ran.earlier ++ opens.ran.last ∷ [])))

    it_lived : (after : CourseState) (lives : Lives kind (made contacts) for_ms begins before after then new) → Records kind made true (Some (contacts, lives.now)) old new
    it_lived after lives = (
      record { first = standing (made contacts lives.now) before; comings = in_rounds (lives.ran.earlier ++ lives.ran.last ∷ []) },
      record {
        first_is = refl;
        told = rests lives.now;
        earlier = called_before;
        read = lives.read;
        reads = calls_then opens.ran.performs.called lives.reads;
        called = lives.ran.performs.called;
      },
      sends true lives.read lives.now (in_rounds (lives.ran.earlier ++ lives.ran.last ∷ [])) lives.ran.performs.called,
    )

    it_was_cut : (now : ℕ) (read : Told) → ReadsAt now then read → CutOff kind (left_of for_ms begins now) now (standing (made contacts now) before) read new → Records kind made false (Some (contacts, now)) old new
    it_was_cut now read reads stopped = (
      record { first = standing (made contacts now) before; comings = in_rounds stopped.made ++ broken_in stopped.broken },
      record {
        first_is = refl;
        told = rests now;
        earlier = called_before;
        read = read;
        reads = calls_then opens.ran.performs.called reads;
        called = stopped.stops.cut;
      },
      sends false read now (in_rounds stopped.made ++ broken_in stopped.broken) stopped.stops.cut,
    )

  pub recorded : (after : CourseState) (ran : Controls kind site equipment told made for_ms begins after old new) → Records kind made true (made_in ran) old new
  recorded after (waited opens none) = tt
  recorded after (lived {opening = opening} {opened = before} {then = then} {contacts = contacts} opens all lives) = it_lived opening before then contacts opens after lives

  pub recorded_before : (stopped : ControlsCut kind site equipment told made for_ms begins old new) → Records kind made false (made_before stopped) old new
  recorded_before (waiting stopped) = tt
  recorded_before (opened opens) = tt
  recorded_before (living opens all (unmade reads)) = tt
  recorded_before (living {opening = opening} {after = before} {then = then} {contacts = contacts} opens all (cut {now = now} {read = read} reads stopped)) = it_was_cut opening before then contacts opens now read reads stopped

-- ---- the interlocking

module _ (in_time : AllInTime interlocking_kind) (site : Site) (keeping : Keeping) (counts : AuxiliaryCounts) (first for_ms begins : ℕ) (old new : Told) where
  sends_of : (ended : Bool) (table : Table) (read : Told) (now : ℕ) (comings : List (ℕ × Coming)) (called : WasCalled ended read new (all_come interlocking_kind comings (standing (interlocking_made site first keeping counts table now) first_course)).0)
      → SendsBy (WasHandedOut interlocking_kind (came interlocking_kind comings (standing (interlocking_made site first keeping counts table now) first_course)) (interlocking_made site first keeping counts table now)) nothing_seen
      (Reads now ∷ calls_in ended read new (all_come interlocking_kind comings (standing (interlocking_made site first keeping counts table now) first_course)).0 called)
  sends_of ended table read now comings called = record_sends interlocking_kind in_time comings (standing (interlocking_made site first keeping counts table now) first_course) refl ended read new now [] called tt

  pub station_recorded : (after : CourseState) (ran : StationRuns site keeping counts first for_ms begins after old new) → Records interlocking_kind (interlocking_made site first keeping counts) true (Some (ran.table, ran.lives.now)) old new
  station_recorded after ran = (
    record { first = standing (interlocking_made site first keeping counts ran.table ran.lives.now) first_course; comings = in_rounds (ran.lives.ran.earlier ++ ran.lives.ran.last ∷ []) },
    record { first_is = refl; told = refl; earlier = []; read = ran.lives.read; reads = ran.lives.reads; called = ran.lives.ran.performs.called },
    sends_of true ran.table ran.lives.read ran.lives.now (in_rounds (ran.lives.ran.earlier ++ ran.lives.ran.last ∷ [])) ran.lives.ran.performs.called,
  )

  pub station_recorded_before : (stopped : StationCut site keeping counts first for_ms begins old new) → Records interlocking_kind (interlocking_made site first keeping counts) false (station_before stopped) old new
  station_recorded_before (not_made reads) = tt
  station_recorded_before (cut_off {table = table} {now = now} {read = read} is_table reads stopped) = (
    record { first = standing (interlocking_made site first keeping counts table now) first_course; comings = in_rounds stopped.made ++ broken_in stopped.broken },
    record { first_is = refl; told = refl; earlier = []; read = read; reads = reads; called = stopped.stops.cut },
    sends_of false table read now (in_rounds stopped.made ++ broken_in stopped.broken) stopped.stops.cut,
  )
