-- What every event keeps of a line that begins, and what follows from it.
use Rattle.std.proofs.Common.{◌≡◌, ◌⊎◌, ◌&&◌, ℕ, Bool, true, false, List, [], ◌∷◌, ◌++◌, Option, Some, refl, sym, ap, subst, ◌∙◌, inl, inr}
use Rattle.std.specs.Prelude.{Ok}
use Rattle.line_laws.specs.declared.words.Side.{Side}
use Rattle.line_laws.specs.declared.words.Side.TheVariants.{First, Second}
use Rattle.line_laws.specs.End.{File}
use Rattle.line_laws.specs.Run.{first_file}
use Rattle.line_laws.specs.Step.{is_first}
use Rattle.line_file.specs.EndFiles.{reading, writing}
use Rattle.whole_file.specs.declared.call.Call.TheVariants.{Write, Sync, Replace, SyncFolder}
use Rattle.whole_file.specs.Disk.{Disk, DiskFile, bytes_of}
use Rattle.whole_file.specs.Keeping.{Kept, Progress, Idle, Written, Synced, Replaced, IsOneOf}
use Rattle.whole_file.specs.Keeping as keeping
use Rattle.line_begin.specs.Files.{Outcome, Refused, Failed, Begun, calls_at, end_text}
use Rattle.line_begin.specs.Course.{Stage, At, Done, GivenUp, Course, Before, begins, Event, Goes, Fails, Stops, Settles, Cuts, second_gone, first_gone, gone, failed, ended, after, run, has_read_token, has_token, found, AtMostOne, IsSecondKept, HasBoth, begin_events, calls_of}

-- ---- the moves of one file

one_more : (moves : List keeping.Move) (move : keeping.Move) (kept : Kept) → keeping.run (moves ++ move ∷ []) kept ≡ keeping.after move (keeping.run moves kept)
one_more [] move kept = refl
one_more (m ∷ moves) move kept = one_more moves move (keeping.after m kept)

-- a file is as some moves left it
abbrev HasRun : Before → Kept → Type 0
HasRun before kept = (moves : List keeping.Move) × (keeping.run moves (keeping.begins before.fresh before.file) ≡ kept)

goes_on : (before : Before) (kept : Kept) (move : keeping.Move) → HasRun before kept → HasRun before (keeping.after move kept)
goes_on before kept move (moves, is) = (moves ++ move ∷ [], one_more moves move (keeping.begins before.fresh before.file) ∙ ap (keeping.after move) is)

-- these bytes are being kept
abbrev IsOf : List ℕ → Progress → Type 0
IsOf text Idle = Unit {0}
IsOf text (keeping.Begun bytes) = bytes ≡ text
IsOf text (Written bytes) = bytes ≡ text
IsOf text (Synced bytes) = bytes ≡ text
IsOf text (Replaced bytes) = bytes ≡ text

module _ (name : List ℕ) (first second : Before) where
  abbrev first_text : List ℕ
  first_text = end_text name First

  abbrev second_text : List ℕ
  second_text = end_text name Second

  -- what may be found at each place
  abbrev IsKnown : Stage → Kept → Kept → Type 0
  IsKnown (At Second) one two = (one.candidates ≡ first.file ∷ []) × (two.candidates ≡ Some second_text ∷ second.file ∷ []) × IsOf second_text two.progress
  IsKnown (At First) one two = (two.candidates ≡ Some second_text ∷ []) × IsOf first_text one.progress
  IsKnown Done one two = (one.candidates ≡ Some first_text ∷ []) × (two.candidates ≡ Some second_text ∷ [])
  IsKnown GivenUp one two =
      ((one.candidates ≡ first.file ∷ []) × (two.candidates ≡ Some second_text ∷ second.file ∷ [])) ⊎ (two.candidates ≡ Some second_text ∷ [])

  record IsCourse (course : Course) : Type 0 where
    first_run : HasRun first course.first
    second_run : HasRun second course.second
    known : IsKnown course.stage course.first course.second

  abbrev at_stage : Stage → Kept → Kept → Course
  at_stage stage one two = record { stage = stage; first = one; second = two }

  abbrev with_progress : Progress → Kept → Kept
  with_progress progress kept = record kept { progress = progress }

  -- ---- a call that is done

  second_goes : (progress : Progress) (one two : Kept) → HasRun first one → HasRun second (with_progress progress two) → IsKnown (At Second) one (with_progress progress two)
      → IsCourse (second_gone name progress (at_stage (At Second) one (with_progress progress two)))
  second_goes Idle one two r1 r2 known = record { first_run = r1; second_run = r2; known = known }
  second_goes (keeping.Begun bytes) one two r1 r2 known = record { first_run = r1; second_run = goes_on second (with_progress (keeping.Begun bytes) two) keeping.Goes r2; known = known }
  second_goes (Written bytes) one two r1 r2 known = record { first_run = r1; second_run = goes_on second (with_progress (Written bytes) two) keeping.Goes r2; known = known }
  second_goes (Synced bytes) one two r1 r2 known = record { first_run = r1; second_run = goes_on second (with_progress (Synced bytes) two) keeping.Goes r2; known = known }
  second_goes (Replaced bytes) one two r1 r2 known = record {
    first_run = goes_on first one (keeping.Begins first_text) r1;
    second_run = goes_on second (with_progress (Replaced bytes) two) keeping.Goes r2;
    known = (ap (λ (text : List ℕ). Some text ∷ []) known.2, refl);
  }

  first_goes : (progress : Progress) (one two : Kept) → HasRun first (with_progress progress one) → HasRun second two → IsKnown (At First) (with_progress progress one) two
      → IsCourse (first_gone progress (at_stage (At First) (with_progress progress one) two))
  first_goes Idle one two r1 r2 known = record { first_run = r1; second_run = r2; known = known }
  first_goes (keeping.Begun bytes) one two r1 r2 known = record { first_run = goes_on first (with_progress (keeping.Begun bytes) one) keeping.Goes r1; second_run = r2; known = known }
  first_goes (Written bytes) one two r1 r2 known = record { first_run = goes_on first (with_progress (Written bytes) one) keeping.Goes r1; second_run = r2; known = known }
  first_goes (Synced bytes) one two r1 r2 known = record { first_run = goes_on first (with_progress (Synced bytes) one) keeping.Goes r1; second_run = r2; known = known }
  first_goes (Replaced bytes) one two r1 r2 known = record {
    first_run = goes_on first (with_progress (Replaced bytes) one) keeping.Goes r1;
    second_run = r2;
    known = (ap (λ (text : List ℕ). Some text ∷ []) known.1, known.0);
  }

  goes : (stage : Stage) (one two : Kept) → HasRun first one → HasRun second two → IsKnown stage one two → IsCourse (gone name stage (at_stage stage one two))
  goes (At Second) one two r1 r2 known = second_goes two.progress one two r1 r2 known
  goes (At First) one two r1 r2 known = first_goes one.progress one two r1 r2 known
  goes Done one two r1 r2 known = record { first_run = r1; second_run = r2; known = known }
  goes GivenUp one two r1 r2 known = record { first_run = r1; second_run = r2; known = known }

  -- ---- all else

  fails : (left : Option DiskFile) (happened : Bool) (stage : Stage) (one two : Kept) → HasRun first one → HasRun second two → IsKnown stage one two
      → IsCourse (failed left happened stage (at_stage stage one two))
  fails left happened (At Second) one two r1 r2 known = record { first_run = r1; second_run = goes_on second two (keeping.Fails left happened) r2; known = inl (known.0, known.1) }
  fails left happened (At First) one two r1 r2 known = record { first_run = goes_on first one (keeping.Fails left happened) r1; second_run = r2; known = inr known.0 }
  fails left happened Done one two r1 r2 known = record { first_run = r1; second_run = r2; known = known }
  fails left happened GivenUp one two r1 r2 known = record { first_run = r1; second_run = r2; known = known }

  -- nothing is being kept any more
  abbrev idle : Disk → Kept → Kept
  idle disk kept = record { disk = disk; progress = Idle; candidates = kept.candidates }

  ends : (stage : Stage) (one two : Kept) (first_disk second_disk : Disk) → IsKnown stage one two → IsKnown (ended stage) (idle first_disk one) (idle second_disk two)
  ends (At Second) one two d1 d2 known = inl (known.0, known.1)
  ends (At First) one two d1 d2 known = inr known.0
  ends Done one two d1 d2 known = known
  ends GivenUp one two d1 d2 known = known

  abbrev on_disk : Disk → Kept → Kept
  on_disk disk kept = record kept { disk = disk }

  settles : (stage : Stage) (one two : Kept) (first_disk second_disk : Disk) → IsKnown stage one two → IsKnown stage (on_disk first_disk one) (on_disk second_disk two)
  settles (At Second) one two d1 d2 known = known
  settles (At First) one two d1 d2 known = known
  settles Done one two d1 d2 known = known
  settles GivenUp one two d1 d2 known = known

  goes_after : (event : Event) (course : Course) → IsCourse course → IsCourse (after name event course)
  goes_after Goes course is = goes course.stage course.first course.second is.first_run is.second_run is.known
  goes_after (Fails left happened) course is = fails left happened course.stage course.first course.second is.first_run is.second_run is.known
  goes_after Stops course is = record {
    first_run = goes_on first course.first keeping.Stops is.first_run;
    second_run = goes_on second course.second keeping.Stops is.second_run;
    known = ends course.stage course.first course.second course.first.disk course.second.disk is.known;
  }
  goes_after (Settles First) course is = record {
    first_run = goes_on first course.first keeping.Settles is.first_run;
    second_run = is.second_run;
    known = settles course.stage course.first course.second (keeping.after keeping.Settles course.first).disk course.second.disk is.known;
  }
  goes_after (Settles Second) course is = record {
    first_run = is.first_run;
    second_run = goes_on second course.second keeping.Settles is.second_run;
    known = settles course.stage course.first course.second course.first.disk (keeping.after keeping.Settles course.second).disk is.known;
  }
  goes_after (Cuts f1 a1 f2 a2) course is = record {
    first_run = goes_on first course.first (keeping.Cuts f1 a1) is.first_run;
    second_run = goes_on second course.second (keeping.Cuts f2 a2) is.second_run;
    known = ends course.stage course.first course.second (keeping.after (keeping.Cuts f1 a1) course.first).disk (keeping.after (keeping.Cuts f2 a2) course.second).disk is.known;
  }

  runs : (events : List Event) (course : Course) → IsCourse course → IsCourse (run name events course)
  runs [] course is = is
  runs (event ∷ events) course is = runs events (after name event course) (goes_after event course is)

  begins_so : IsCourse (begins name first second)
  begins_so = record { first_run = ([], refl); second_run = (keeping.Begins second_text ∷ [], refl); known = (refl, refl, refl) }

  course_of : (events : List Event) → IsCourse (run name events (begins name first second))
  course_of events = runs events (begins name first second) begins_so

  -- ---- once the second end's file is kept

  -- its text alone may be found at its place
  abbrev IsLate : Stage → Kept → Type 0
  IsLate (At Second) two = ⊥
  IsLate (At First) two = two.candidates ≡ Some second_text ∷ []
  IsLate Done two = two.candidates ≡ Some second_text ∷ []
  IsLate GivenUp two = two.candidates ≡ Some second_text ∷ []

  record IsLateCourse (course : Course) : Type 0 where
    second_run : HasRun second course.second
    late : IsLate course.stage course.second

  late_goes_first : (progress : Progress) (one two : Kept) → HasRun second two → two.candidates ≡ Some second_text ∷ []
      → IsLateCourse (first_gone progress (at_stage (At First) (with_progress progress one) two))
  late_goes_first Idle one two r2 late = record { second_run = r2; late = late }
  late_goes_first (keeping.Begun bytes) one two r2 late = record { second_run = r2; late = late }
  late_goes_first (Written bytes) one two r2 late = record { second_run = r2; late = late }
  late_goes_first (Synced bytes) one two r2 late = record { second_run = r2; late = late }
  late_goes_first (Replaced bytes) one two r2 late = record { second_run = r2; late = late }

  late_goes : (stage : Stage) (one two : Kept) → HasRun second two → IsLate stage two → IsLateCourse (gone name stage (at_stage stage one two))
  late_goes (At Second) one two r2 late = absurd late
  late_goes (At First) one two r2 late = late_goes_first one.progress one two r2 late
  late_goes Done one two r2 late = record { second_run = r2; late = late }
  late_goes GivenUp one two r2 late = record { second_run = r2; late = late }

  late_fails : (left : Option DiskFile) (happened : Bool) (stage : Stage) (one two : Kept) → HasRun second two → IsLate stage two
      → IsLateCourse (failed left happened stage (at_stage stage one two))
  late_fails left happened (At Second) one two r2 late = absurd late
  late_fails left happened (At First) one two r2 late = record { second_run = r2; late = late }
  late_fails left happened Done one two r2 late = record { second_run = r2; late = late }
  late_fails left happened GivenUp one two r2 late = record { second_run = r2; late = late }

  late_ends : (stage : Stage) (two : Kept) (disk : Disk) → IsLate stage two → IsLate (ended stage) (idle disk two)
  late_ends (At Second) two disk late = absurd late
  late_ends (At First) two disk late = late
  late_ends Done two disk late = late
  late_ends GivenUp two disk late = late

  late_settles : (stage : Stage) (two : Kept) (disk : Disk) → IsLate stage two → IsLate stage (on_disk disk two)
  late_settles (At Second) two disk late = absurd late
  late_settles (At First) two disk late = late
  late_settles Done two disk late = late
  late_settles GivenUp two disk late = late

  late_after : (event : Event) (course : Course) → IsLateCourse course → IsLateCourse (after name event course)
  late_after Goes course is = late_goes course.stage course.first course.second is.second_run is.late
  late_after (Fails left happened) course is = late_fails left happened course.stage course.first course.second is.second_run is.late
  late_after Stops course is = record { second_run = goes_on second course.second keeping.Stops is.second_run; late = late_ends course.stage course.second course.second.disk is.late }
  late_after (Settles First) course is = record { second_run = is.second_run; late = is.late }
  late_after (Settles Second) course is = record {
    second_run = goes_on second course.second keeping.Settles is.second_run;
    late = late_settles course.stage course.second (keeping.after keeping.Settles course.second).disk is.late;
  }
  late_after (Cuts f1 a1 f2 a2) course is = record {
    second_run = goes_on second course.second (keeping.Cuts f2 a2) is.second_run;
    late = late_ends course.stage course.second (keeping.after (keeping.Cuts f2 a2) course.second).disk is.late;
  }

  late_runs : (events : List Event) (course : Course) → IsLateCourse course → IsLateCourse (run name events course)
  late_runs [] course is = is
  late_runs (event ∷ events) course is = late_runs events (after name event course) (late_after event course is)

  late_of : (stage : Stage) (one two : Kept) → IsKnown stage one two → IsSecondKept stage → IsLate stage two
  late_of (At Second) one two known kept = absurd kept
  late_of (At First) one two known kept = known.0
  late_of Done one two known kept = known.1
  late_of GivenUp one two known kept = absurd kept

  late_alone : (stage : Stage) (two : Kept) → IsLate stage two → two.candidates ≡ Some second_text ∷ []
  late_alone (At Second) two late = absurd late
  late_alone (At First) two late = late
  late_alone Done two late = late
  late_alone GivenUp two late = late

  -- ---- what is found

  module _ (law : (fresh : Option DiskFile) (file : Option (List ℕ)) (moves : List keeping.Move)
      → let kept = keeping.run moves (keeping.begins fresh file) in IsOneOf (bytes_of kept.disk.own) kept.candidates) where
    found_among : (before : Before) (kept : Kept) (files : List (Option (List ℕ))) → HasRun before kept → kept.candidates ≡ files → IsOneOf (found kept) files
    found_among before kept files (moves, is) are =
        subst (IsOneOf (found kept)) are (subst (λ (k : Kept). IsOneOf (found k) k.candidates) is (law before.fresh before.file moves))

    found_alone : (before : Before) (kept : Kept) (file : Option (List ℕ)) → HasRun before kept → kept.candidates ≡ file ∷ [] → found kept ≡ file
    found_alone before kept file ran are = alone (found kept) file (found_among before kept (file ∷ []) ran are)
      where
        alone : (it file : Option (List ℕ)) → IsOneOf it (file ∷ []) → it ≡ file
        alone it file (inl is) = is
        alone it file (inr none) = absurd none

    -- where it is done, both are as they were written
    both_done : (stage : Stage) (one two : Kept) → HasRun first one → HasRun second two → IsKnown stage one two → stage ≡ Done → HasBoth name (at_stage stage one two)
    both_done stage one two r1 r2 known is =
        let known : IsKnown Done one two = subst (λ (s : Stage). IsKnown s one two) is known in
        record { first = found_alone first one (Some first_text) r1 known.0; second = found_alone second two (Some second_text) r2 known.1 }

    pub has_both : (events : List Event) → let course = run name events (begins name first second) in course.stage ≡ Done → HasBoth name course
    has_both events is =
        let so = course_of events in
        let course = run name events (begins name first second) in
        both_done course.stage course.first course.second so.first_run so.second_run so.known is

    -- ---- tokens

    module _ (again : (name : List ℕ) (side : Side) (kept : File) → reading name side (writing name side kept) ≡ Ok kept) where
      second_away : has_token name Second (Some second_text) ≡ false
      second_away = ap has_read_token (again name Second (first_file (is_first Second)))

      second_lacks : (file : Option (List ℕ)) → file ≡ Some second_text → has_token name Second file ≡ false
      second_lacks file is = ap (has_token name Second) is ∙ second_away

      lacks_both : (here there : Bool) → there ≡ false → (here && there) ≡ false
      lacks_both true there is = is
      lacks_both false there is = refl

      abbrev NotBoth : Kept → Kept → Type 0
      NotBoth one two = AtMostOne name (found one) (found two)

      by_second : (one two : Kept) → HasRun second two → two.candidates ≡ Some second_text ∷ [] → NotBoth one two
      by_second one two r2 are = lacks_both (has_token name First (found one)) (has_token name Second (found two)) (second_lacks (found two) (found_alone second two (Some second_text) r2 are))

      -- the first end's file is as before, and the second's is as before or has no token
      by_old : (one two : Option (List ℕ)) → one ≡ first.file → IsOneOf two (Some second_text ∷ second.file ∷ []) → AtMostOne name first.file second.file → AtMostOne name one two
      by_old one two is (inl new) before = lacks_both (has_token name First one) (has_token name Second two) (second_lacks two new)
      by_old one two is (inr (inl old)) before =
          subst (λ (o : Option (List ℕ)). AtMostOne name o two) (sym is) (subst (λ (o : Option (List ℕ)). AtMostOne name first.file o) (sym old) before)
      by_old one two is (inr (inr none)) before = absurd none

      by_before : (one two : Kept) → HasRun first one → HasRun second two → one.candidates ≡ first.file ∷ [] → two.candidates ≡ Some second_text ∷ second.file ∷ []
          → AtMostOne name first.file second.file → NotBoth one two
      by_before one two r1 r2 c1 c2 before =
          by_old (found one) (found two) (found_alone first one first.file r1 c1) (found_among second two (Some second_text ∷ second.file ∷ []) r2 c2) before

      not_both : (stage : Stage) (one two : Kept) → HasRun first one → HasRun second two → IsKnown stage one two → AtMostOne name first.file second.file → NotBoth one two
      not_both (At Second) one two r1 r2 known before = by_before one two r1 r2 known.0 known.1 before
      not_both (At First) one two r1 r2 known before = by_second one two r2 known.0
      not_both Done one two r1 r2 known before = by_second one two r2 known.1
      not_both GivenUp one two r1 r2 (inl known) before = by_before one two r1 r2 known.0 known.1 before
      not_both GivenUp one two r1 r2 (inr known) before = by_second one two r2 known

      pub no_second : (events : List Event) → AtMostOne name first.file second.file
          → let course = run name events (begins name first second) in AtMostOne name (found course.first) (found course.second)
      no_second events before =
          let so = course_of events in
          let course = run name events (begins name first second) in
          not_both course.stage course.first course.second so.first_run so.second_run so.known before

      pub second_kept : (events later : List Event)
          → let course = run name events (begins name first second) in IsSecondKept course.stage
          → has_token name Second (found (run name later course).second) ≡ false
      second_kept events later kept =
          let so = course_of events in
          let course = run name events (begins name first second) in
          let last = run name later course in
          let late : IsLateCourse last =
          late_runs later course (record { second_run = so.second_run; late = late_of course.stage course.first course.second so.known kept }) in
          second_lacks (found last.second) (found_alone second last.second (Some second_text) late.second_run (late_alone last.stage last.second late.late))

-- ---- the calls

pub makes_these_events : (name : List ℕ) (first second : Before) (side : Side) (left : Option DiskFile) (happened : Bool) (outcome : Outcome)
    → calls_of name side (begin_events left happened outcome) (begins name first second) ≡ calls_at name side outcome
makes_these_events name first second First left happened Refused = refl
makes_these_events name first second Second left happened Refused = refl
makes_these_events name first second First left happened (Failed First Write) = refl
makes_these_events name first second First left happened (Failed First Sync) = refl
makes_these_events name first second First left happened (Failed First Replace) = refl
makes_these_events name first second First left happened (Failed First SyncFolder) = refl
makes_these_events name first second Second left happened (Failed First Write) = refl
makes_these_events name first second Second left happened (Failed First Sync) = refl
makes_these_events name first second Second left happened (Failed First Replace) = refl
makes_these_events name first second Second left happened (Failed First SyncFolder) = refl
makes_these_events name first second First left happened (Failed Second Write) = refl
makes_these_events name first second First left happened (Failed Second Sync) = refl
makes_these_events name first second First left happened (Failed Second Replace) = refl
makes_these_events name first second First left happened (Failed Second SyncFolder) = refl
makes_these_events name first second Second left happened (Failed Second Write) = refl
makes_these_events name first second Second left happened (Failed Second Sync) = refl
makes_these_events name first second Second left happened (Failed Second Replace) = refl
makes_these_events name first second Second left happened (Failed Second SyncFolder) = refl
makes_these_events name first second First left happened Begun = refl
makes_these_events name first second Second left happened Begun = refl
