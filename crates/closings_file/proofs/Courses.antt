-- What each move keeps of an interlocking with its file.
use Rattle.std.proofs.Common.{◌≡◌, ◌⊎◌, ◌↔◌, ◌∙◌, ℕ, ◌^◌, ◌<◌, ◌≤◌, ◌&&◌, Bool, true, false, cond, IsTrue, List, [], ◌∷◌, ◌++◌, Option, Some, None, refl, sym, ap, subst, inl, inr, ⊎_elim, arith}
use Rattle.std.specs.Bool.{⊤}
use Rattle.std.proofs.lemmas.Bool.{false≢true}
use Rattle.std.proofs.lemmas.Slice.Eq.{bytes_eq-Decides}
use Rattle.closings.specs.layout.Entries.{Site}
use Rattle.closings.specs.declared.auxiliary.Auxiliary.{Auxiliary}
use Rattle.closings.specs.declared.auxiliary.Auxiliary.TheVariants.{Release, Open}
use Rattle.closings.specs.declared.auxiliary.AuxiliaryCounts.{AuxiliaryCounts}
use Rattle.closings.specs.declared.closed.Closings.{Closings}
use Rattle.closings.specs.declared.thing.Thing.{Thing}
use Rattle.closings.specs.declared.thing.Named.{Named}
use Rattle.closings.specs.Things.{HasThing, Names}
use Rattle.closings.specs.Auxiliaries.{AreCounted, AreNumbers, counted_by, none_counted}
use Rattle.closings.specs.Closed.{IsClosed, either, is_closed, nothing, with_named, without_named}
use Rattle.whole_file.specs.Disk.{DiskFile, bytes_of, cut}
use Rattle.whole_file.specs.Keeping.{Kept, Progress, Idle, Begun, Written, Synced, Replaced, IsOneOf}
use Rattle.whole_file.specs.Keeping as file
use Rattle.closings_file.specs.Texts.{writing}
use Rattle.closings_file.specs.Files.{found_in, is_known}
use Rattle.closings_file.specs.Course.{Course, FindsClosed, FindsCounted, Move, NoneOpens, OpensNot, after, all_kept, begun, gone, if_idle, is_idle, kept_by, run, starts, still_kept, wanted, with_file}
use Rattle.closings_file.specs.Course.{Closes, Opens, Locks, Counts, Keeps, Goes, Fails, Settles, Restarts, PowerFails}
use Rattle.closings_file.proofs.FoundNumbers.{found_numbers}

both : (a b : Bool) → (a && b) ≡ true → (a ≡ true) × (b ≡ true)
both true b e = (refl, e)
both false b e = absurd (false≢true e)

-- ---- files

-- a file that was reached from one that began
record IsReached (kept : Kept) : Type 0 where
  fresh : Option DiskFile
  bytes : Option (List ℕ)
  moves : List file.Move
  is : kept ≡ file.run moves (file.begins fresh bytes)

run_more : (moves : List file.Move) (move : file.Move) (kept : Kept) → file.run (moves ++ move ∷ []) kept ≡ file.after move (file.run moves kept)
run_more [] move kept = refl
run_more (first ∷ moves) move kept = run_more moves move (file.after first kept)

reached_more : (kept : Kept) (move : file.Move) → IsReached kept → IsReached (file.after move kept)
reached_more kept move reached = record {
  fresh = reached.fresh;
  bytes = reached.bytes;
  moves = reached.moves ++ move ∷ [];
  is = ap (file.after move) reached.is ∙ sym (run_more reached.moves move (file.begins reached.fresh reached.bytes));
}

-- the text that a keep writes
abbrev Writes : (text : List ℕ) → Progress → Type 0
Writes text Idle = ⊤
Writes text (Begun bytes) = bytes ≡ text
Writes text (Written bytes) = bytes ≡ text
Writes text (Synced bytes) = bytes ≡ text
Writes text (Replaced bytes) = bytes ≡ text

idle_writes : (text : List ℕ) (progress : Progress) → is_idle progress ≡ true → Writes text progress
idle_writes text Idle is = tt
idle_writes text (Begun bytes) is = absurd (false≢true is)
idle_writes text (Written bytes) is = absurd (false≢true is)
idle_writes text (Synced bytes) is = absurd (false≢true is)
idle_writes text (Replaced bytes) is = absurd (false≢true is)

known_is : (text : List ℕ) (known : Option (List ℕ)) → is_known text known ≡ true → known ≡ Some text
known_is text None is = absurd (false≢true is)
known_is text (Some known) is = ap (λ (t : List ℕ). Some t) ((bytes_eq-Decides known text).0 is)

-- ---- counts

same_counted : (counts : AuxiliaryCounts) → AreCounted counts counts
same_counted counts = record { releases = omega arith; opens = omega arith }

-- one more is no fewer
more_counted : (of : Auxiliary) (fewer counts : AuxiliaryCounts) → AreNumbers counts → AreCounted fewer counts → AreCounted fewer (counted_by of counts)
more_counted Release fewer counts are counted =
    let small = are.releases in let least = counted.releases in record { releases = omega (arith, small, least); opens = counted.opens }
more_counted Open fewer counts are counted =
    let small = are.opens in let least = counted.opens in record { releases = counted.releases; opens = omega (arith, small, least) }

more_numbers : (of : Auxiliary) (counts : AuxiliaryCounts) → AreNumbers counts → AreNumbers (counted_by of counts)
more_numbers Release counts are = record { releases = omega arith; opens = are.opens }
more_numbers Open counts are = record { releases = are.releases; opens = omega arith }

-- what laws of closings and of files say
pub record Laws (l : Site) (head : List ℕ) : Type 0 where
  pub read : (counts : AuxiliaryCounts) (c : Closings) (t : Thing) → AreNumbers counts → HasThing l t → IsClosed c t
      → IsClosed (found_in l head (Some (writing l head counts c))).closings t
  pub counted : (counts : AuxiliaryCounts) (c : Closings) → AreNumbers counts → (found_in l head (Some (writing l head counts c))).counts ≡ counts
  pub found : (fresh : Option DiskFile) (bytes : Option (List ℕ)) (moves : List file.Move)
      → let kept = file.run moves (file.begins fresh bytes) in IsOneOf (bytes_of kept.disk.own) kept.candidates
  pub either : (c d : Closings) (t : Thing) → IsClosed (either c d) t ↔ (IsClosed c t ⊎ IsClosed d t)

module _ (l : Site) (head : List ℕ) (laws : Laws l head) where
  -- all that is kept is closed
  abbrev Covers : (Thing → Bool) → Closings → Type 0
  Covers kept c = (t : Thing) → HasThing l t → IsTrue (kept t) → IsClosed c t

  -- by each text that may be found
  abbrev AllCover : (Thing → Bool) → List (Option (List ℕ)) → Type 0
  AllCover kept [] = ⊤
  AllCover kept (bytes ∷ others) = Covers kept (found_in l head bytes).closings × AllCover kept others

  -- as many are counted by each text that may be found, or more
  abbrev AllCount : AuxiliaryCounts → List (Option (List ℕ)) → Type 0
  AllCount counts [] = ⊤
  AllCount counts (bytes ∷ others) = AreCounted counts (found_in l head bytes).counts × AllCount counts others

  -- what is counted
  record IsCounted (course : Course) : Type 0 where
    found : AllCount course.counted course.file.candidates
    counts : AreCounted course.counted course.counts
    numbers : AreNumbers course.counts

  record IsWell (course : Course) : Type 0 where
    reached : IsReached course.file
    covered : AllCover course.kept course.file.candidates
    closed : Covers course.kept (wanted course)
    counted : IsCounted course
    writes : Writes (writing l head course.counts (wanted course)) course.file.progress
    known : (bytes : List ℕ) → course.known ≡ Some bytes → course.file.candidates ≡ Some bytes ∷ []

  one_covers : (kept : Thing → Bool) (candidates : List (Option (List ℕ))) (bytes : Option (List ℕ)) → AllCover kept candidates → IsOneOf bytes candidates
      → Covers kept (found_in l head bytes).closings
  one_covers kept [] bytes covered one = absurd one
  one_covers kept (first ∷ others) bytes covered one =
      ⊎_elim (λ same. subst (λ (b : Option (List ℕ)). Covers kept (found_in l head b).closings) (sym same) covered.0) (λ later. one_covers kept others bytes covered.1 later) one

  one_counts : (counts : AuxiliaryCounts) (candidates : List (Option (List ℕ))) (bytes : Option (List ℕ)) → AllCount counts candidates → IsOneOf bytes candidates
      → AreCounted counts (found_in l head bytes).counts
  one_counts counts [] bytes all one = absurd one
  one_counts counts (first ∷ others) bytes all one =
      ⊎_elim (λ same. subst (λ (b : Option (List ℕ)). AreCounted counts (found_in l head b).counts) (sym same) all.0) (λ later. one_counts counts others bytes all.1 later) one

  fewer_covered : (kept fewer : Thing → Bool) (candidates : List (Option (List ℕ))) → ((t : Thing) → IsTrue (fewer t) → IsTrue (kept t)) → AllCover kept candidates → AllCover fewer candidates
  fewer_covered kept fewer [] less covered = tt
  fewer_covered kept fewer (first ∷ others) less covered = (λ t there is. covered.0 t there (less t is), fewer_covered kept fewer others less covered.1)

  -- what a process finds is one of the texts that may be found
  is_candidate : (kept : Kept) → IsReached kept → IsOneOf (bytes_of kept.disk.own) kept.candidates
  is_candidate kept reached =
      subst (λ (k : Kept). IsOneOf (bytes_of k.disk.own) k.candidates) (sym reached.is) (laws.found reached.fresh reached.bytes reached.moves)

  -- what a process finds closes what is kept
  finds : (course : Course) (kept : Kept) → IsReached kept → AllCover course.kept kept.candidates → Covers course.kept (found_in l head (bytes_of kept.disk.own)).closings
  finds course kept reached covered =
      one_covers course.kept kept.candidates (bytes_of kept.disk.own) covered
      (is_candidate kept reached)

  -- it counts on from what is counted, or from more
  counts_on : (counts : AuxiliaryCounts) (kept : Kept) → IsReached kept → AllCount counts kept.candidates → AreCounted counts (found_in l head (bytes_of kept.disk.own)).counts
  counts_on counts kept reached all = one_counts counts kept.candidates (bytes_of kept.disk.own) all (is_candidate kept reached)

  -- ---- moves

  still_well : (course : Course) (kept : Thing → Bool) → IsReached course.file → AllCover kept course.file.candidates → IsCounted course → is_idle course.file.progress ≡ true
      → ((bytes : List ℕ) → course.known ≡ Some bytes → course.file.candidates ≡ Some bytes ∷ []) → IsWell (still_kept (record course { kept = kept }))
  still_well course kept reached covered counted idle known = record {
    reached = reached;
    covered = fewer_covered kept (λ t. kept t && is_closed (wanted course) t) course.file.candidates (λ t is. (both (kept t) (is_closed (wanted course) t) is).0) covered;
    closed = λ t there is. (both (kept t) (is_closed (wanted course) t) is).1;
    counted = record { found = counted.found; counts = counted.counts; numbers = counted.numbers };
    writes = idle_writes (writing l head course.counts (wanted course)) course.file.progress idle;
    known = known;
  }

  if_idle_well : (next course : Course) → (is_idle course.file.progress ≡ true → IsWell next) → IsWell course → IsWell (if_idle next course)
  if_idle_well next course on well = by (is_idle course.file.progress) refl
    where
      by : (v : Bool) → is_idle course.file.progress ≡ v → IsWell (cond v next course)
      by true is = on is
      by false is = well

  -- all is kept by each text that may be found, if there is one and it is that of all
  all_covered : (course : Course) (candidates : List (Option (List ℕ))) (bytes : List ℕ) → AreNumbers course.counts → candidates ≡ Some bytes ∷ []
      → bytes ≡ writing l head course.counts (wanted course) → AllCover (is_closed (wanted course)) candidates
  all_covered course candidates bytes are one is =
      subst (λ (c : List (Option (List ℕ))). AllCover (is_closed (wanted course)) c) (sym one)
      (subst (λ (b : List ℕ). AllCover (is_closed (wanted course)) (Some b ∷ [])) (sym is) (λ t there closed. laws.read course.counts (wanted course) t are there closed, tt))

  -- and all is counted
  found_counted : (counts fewer : AuxiliaryCounts) (c : Closings) → AreNumbers counts → AreCounted fewer counts → AreCounted fewer (found_in l head (Some (writing l head counts c))).counts
  found_counted counts fewer c are counted = subst (λ (n : AuxiliaryCounts). AreCounted fewer n) (sym (laws.counted counts c are)) counted

  all_counted : (course : Course) (candidates : List (Option (List ℕ))) (bytes : List ℕ) → AreNumbers course.counts → candidates ≡ Some bytes ∷ []
      → bytes ≡ writing l head course.counts (wanted course) → AllCount course.counts candidates
  all_counted course candidates bytes are one is =
      subst (λ (c : List (Option (List ℕ))). AllCount course.counts c) (sym one)
      (subst (λ (b : List ℕ). AllCount course.counts (Some b ∷ [])) (sym is) (found_counted course.counts course.counts (wanted course) are (same_counted course.counts), tt))

  keeps_well : (course : Course) → IsWell course → is_idle course.file.progress ≡ true → IsWell (kept_by l head course)
  keeps_well course well idle = by (is_known text course.known) refl
    where
      text : List ℕ
      text = writing l head course.counts (wanted course)

      are : AreNumbers course.counts
      are = well.counted.numbers

      one : is_known text course.known ≡ true → course.file.candidates ≡ Some text ∷ []
      one is = well.known text (known_is text course.known is)

      by : (v : Bool) → is_known text course.known ≡ v → IsWell (cond v (all_kept course) (with_file (file.Begins text) (record course { known = None })))
      by true is = record {
        reached = well.reached;
        covered = all_covered course course.file.candidates text are (one is) refl;
        closed = λ t there closed. closed;
        counted = record { found = all_counted course course.file.candidates text are (one is) refl; counts = same_counted course.counts; numbers = are };
        writes = well.writes;
        known = well.known;
      }
      by false is = record {
        reached = reached_more course.file (file.Begins text) well.reached;
        covered = (λ t there kept. laws.read course.counts (wanted course) t are there (well.closed t there kept), well.covered);
        closed = well.closed;
        counted = record { found = (found_counted course.counts course.counted (wanted course) are well.counted.counts, well.counted.found); counts = well.counted.counts; numbers = are };
        writes = refl;
        known = λ bytes none. absurd (cc (none));
      }

  goes_well : (progress : Progress) (course : Course) → course.file.progress ≡ progress → IsWell course → IsWell (gone progress (record course { file = file.gone progress course.file }))
  goes_well progress course is well =
      on progress
      (subst (λ (p : Progress). IsReached (file.gone p course.file)) is (reached_more course.file file.Goes well.reached))
      (subst (λ (p : Progress). Writes (writing l head course.counts (wanted course)) p) is well.writes)
    where
      are : AreNumbers course.counts
      are = well.counted.numbers

      on : (progress : Progress) → IsReached (file.gone progress course.file) → Writes (writing l head course.counts (wanted course)) progress
          → IsWell (gone progress (record course { file = file.gone progress course.file }))
      on Idle reached writes = record { reached = reached; covered = well.covered; closed = well.closed; counted = record { found = well.counted.found; counts = well.counted.counts; numbers = are }; writes = well.writes; known = well.known }
      on (Begun bytes) reached writes = record { reached = reached; covered = well.covered; closed = well.closed; counted = record { found = well.counted.found; counts = well.counted.counts; numbers = are }; writes = writes; known = well.known }
      on (Written bytes) reached writes = record { reached = reached; covered = well.covered; closed = well.closed; counted = record { found = well.counted.found; counts = well.counted.counts; numbers = are }; writes = writes; known = well.known }
      on (Synced bytes) reached writes = record { reached = reached; covered = well.covered; closed = well.closed; counted = record { found = well.counted.found; counts = well.counted.counts; numbers = are }; writes = writes; known = well.known }
      on (Replaced bytes) reached writes = record {
        reached = reached;
        covered = all_covered course (Some bytes ∷ []) bytes are refl writes;
        closed = λ t there closed. closed;
        counted = record { found = all_counted course (Some bytes ∷ []) bytes are refl writes; counts = same_counted course.counts; numbers = are };
        writes = tt;
        known = λ other same. ap (λ (k : Option (List ℕ)). k ∷ []) same;
      }

  -- a new process begins
  begun_well : (course : Course) → IsReached course.file → AllCover course.kept course.file.candidates → AllCount course.counted course.file.candidates
      → course.file.progress ≡ Idle → IsWell (begun l head course)
  begun_well course reached covered counted idle =
      let bytes = bytes_of course.file.disk.own in
      let found = (found_in l head bytes).closings in
      let counts = (found_in l head bytes).counts in
      record {
        reached = reached;
        covered = covered;
        closed = λ t there kept. (laws.either found nothing t).1 (inl (finds course course.file reached covered t there kept));
        counted = record { found = counted; counts = counts_on course.counted course.file reached counted; numbers = found_numbers l head bytes };
        writes = subst (λ (p : Progress). Writes (writing l head counts (either found nothing)) p) (sym idle) tt;
        known = λ bytes none. absurd (cc (none));
      }

  after_well : (move : Move) (course : Course) → IsWell course → IsWell (after l head move course)
  after_well (Closes named) course well =
      if_idle_well (still_kept (record course { closed = with_named course.closed named })) course
      (λ idle. still_well (record course { closed = with_named course.closed named }) course.kept well.reached well.covered (record { found = well.counted.found; counts = well.counted.counts; numbers = well.counted.numbers }) idle well.known) well
  after_well (Opens named) course well =
      if_idle_well (still_kept (record course { closed = without_named course.closed named })) course
      (λ idle. still_well (record course { closed = without_named course.closed named }) course.kept well.reached well.covered (record { found = well.counted.found; counts = well.counted.counts; numbers = well.counted.numbers }) idle well.known) well
  after_well (Locks locks) course well =
      if_idle_well (still_kept (record course { locks = locks })) course
      (λ idle. still_well (record course { locks = locks }) course.kept well.reached well.covered (record { found = well.counted.found; counts = well.counted.counts; numbers = well.counted.numbers }) idle well.known) well
  after_well (Counts of) course well =
      if_idle_well (record course { counts = counted_by of course.counts }) course
      (λ idle. record {
        reached = well.reached;
        covered = well.covered;
        closed = well.closed;
        counted = record {
          found = well.counted.found;
          counts = more_counted of course.counted course.counts well.counted.numbers well.counted.counts;
          numbers = more_numbers of course.counts well.counted.numbers;
        };
        writes = idle_writes (writing l head (counted_by of course.counts) (wanted course)) course.file.progress idle;
        known = well.known;
      }) well
  after_well Keeps course well = if_idle_well (kept_by l head course) course (keeps_well course well) well
  after_well Goes course well = goes_well course.file.progress course refl well
  after_well (Fails left happened) course well = record {
    reached = reached_more course.file (file.Fails left happened) well.reached;
    covered = well.covered;
    closed = well.closed;
    counted = record { found = well.counted.found; counts = well.counted.counts; numbers = well.counted.numbers };
    writes = tt;
    known = well.known;
  }
  after_well Settles course well = record {
    reached = reached_more course.file file.Settles well.reached;
    covered = well.covered;
    closed = well.closed;
    counted = record { found = well.counted.found; counts = well.counted.counts; numbers = well.counted.numbers };
    writes = well.writes;
    known = well.known;
  }
  after_well Restarts course well = begun_well (with_file file.Stops course) (reached_more course.file file.Stops well.reached) well.covered well.counted.found refl
  after_well (PowerFails fresh any) course well =
      begun_well (with_file (file.Cuts fresh any) course) (reached_more course.file (file.Cuts fresh any) well.reached) well.covered well.counted.found refl

  run_well : (moves : List Move) (course : Course) → IsWell course → IsWell (run l head moves course)
  run_well [] course well = well
  run_well (move ∷ moves) course well = run_well moves (after l head move course) (after_well move course well)

  starts_well : (fresh : Option DiskFile) (bytes : Option (List ℕ)) → IsWell (starts l head fresh bytes)
  starts_well fresh bytes =
      begun_well (record { closed = nothing; locks = nothing; counts = none_counted; known = None; file = file.begins fresh bytes; kept = λ t. false; counted = none_counted })
      (record { fresh = fresh; bytes = bytes; moves = []; is = refl }) (λ t there is. absurd (false≢true is), tt) (record { releases = omega arith; opens = omega arith }, tt) refl

  reached_well : (fresh : Option DiskFile) (bytes : Option (List ℕ)) (moves : List Move) → IsWell (run l head moves (starts l head fresh bytes))
  reached_well fresh bytes moves = run_well moves (starts l head fresh bytes) (starts_well fresh bytes)

  -- ---- what follows

  pub kept_closed : (fresh : Option DiskFile) (bytes : Option (List ℕ)) (moves : List Move) (t : Thing) → HasThing l t
      → let course = run l head moves (starts l head fresh bytes) in IsTrue (course.kept t) → IsClosed (wanted course) t
  kept_closed fresh bytes moves t there kept = (reached_well fresh bytes moves).closed t there kept

  pub kept_found : (fresh : Option DiskFile) (bytes : Option (List ℕ)) (moves : List Move) (t : Thing) → HasThing l t
      → let course = run l head moves (starts l head fresh bytes) in IsTrue (course.kept t) → FindsClosed l head course.file.disk t
  kept_found fresh bytes moves t there kept =
      let course = run l head moves (starts l head fresh bytes) in
      let well = reached_well fresh bytes moves in finds course course.file well.reached well.covered t there kept

  pub kept_after_cut : (fresh : Option DiskFile) (bytes : Option (List ℕ)) (moves : List Move) (t : Thing) (left : Option DiskFile) (any : List ℕ) → HasThing l t
      → let course = run l head moves (starts l head fresh bytes) in IsTrue (course.kept t) → FindsClosed l head (cut left any course.file.disk) t
  kept_after_cut fresh bytes moves t left any there kept =
      let course = run l head moves (starts l head fresh bytes) in
      let well = reached_well fresh bytes moves in
      finds course (file.after (file.Cuts left any) course.file) (reached_more course.file (file.Cuts left any) well.reached) well.covered t there kept

  -- ---- what is counted

  pub counted_less : (fresh : Option DiskFile) (bytes : Option (List ℕ)) (moves : List Move)
      → let course = run l head moves (starts l head fresh bytes) in AreCounted course.counted course.counts
  counted_less fresh bytes moves = (reached_well fresh bytes moves).counted.counts

  pub counted_found : (fresh : Option DiskFile) (bytes : Option (List ℕ)) (moves : List Move)
      → let course = run l head moves (starts l head fresh bytes) in FindsCounted l head course.file.disk course.counted
  counted_found fresh bytes moves =
      let course = run l head moves (starts l head fresh bytes) in
      let well = reached_well fresh bytes moves in counts_on course.counted course.file well.reached well.counted.found

  pub counted_after_cut : (fresh : Option DiskFile) (bytes : Option (List ℕ)) (moves : List Move) (left : Option DiskFile) (any : List ℕ)
      → let course = run l head moves (starts l head fresh bytes) in FindsCounted l head (cut left any course.file.disk) course.counted
  counted_after_cut fresh bytes moves left any =
      let course = run l head moves (starts l head fresh bytes) in
      let well = reached_well fresh bytes moves in
      counts_on course.counted (file.after (file.Cuts left any) course.file) (reached_more course.file (file.Cuts left any) well.reached) well.counted.found

  -- ---- until it is opened

  module _ (closing : (c : Closings) (n : Named) (t : Thing) → IsClosed (with_named c n) t ↔ (Names n t ⊎ IsClosed c t))
      (opening : (c : Closings) (n : Named) (t : Thing) → IsClosed (without_named c n) t ↔ ((Names n t → ⊥) × IsClosed c t)) where
    -- a thing is closed, and that is kept
    record IsShut (course : Course) (t : Thing) : Type 0 where
      kept : IsTrue (course.kept t)
      closed : IsClosed course.closed t

    still_shut : (course : Course) (t : Thing) → IsTrue (course.kept t) → IsClosed course.closed t → IsShut (still_kept course) t
    still_shut course t kept closed = record {
      kept = ap (λ v. v && is_closed (wanted course) t) kept ∙ (laws.either course.closed course.locks t).1 (inl closed);
      closed = closed;
    }

    if_idle_shut : (next course : Course) (t : Thing) → IsShut next t → IsShut course t → IsShut (if_idle next course) t
    if_idle_shut next course t on shut = by (is_idle course.file.progress)
      where
        by : (v : Bool) → IsShut (cond v next course) t
        by true = on
        by false = shut

    all_shut : (course : Course) (t : Thing) → IsShut course t → IsShut (all_kept course) t
    all_shut course t shut = record { kept = (laws.either course.closed course.locks t).1 (inl shut.closed); closed = shut.closed }

    keeps_shut : (course : Course) (t : Thing) → IsShut course t → IsShut (kept_by l head course) t
    keeps_shut course t shut = by (is_known (writing l head course.counts (wanted course)) course.known)
      where
        by : (v : Bool) → IsShut (cond v (all_kept course) (with_file (file.Begins (writing l head course.counts (wanted course))) (record course { known = None }))) t
        by true = all_shut course t shut
        by false = record { kept = shut.kept; closed = shut.closed }

    goes_shut : (progress : Progress) (course : Course) (t : Thing) → IsShut course t → IsShut (gone progress course) t
    goes_shut Idle course t shut = shut
    goes_shut (Begun bytes) course t shut = shut
    goes_shut (Written bytes) course t shut = shut
    goes_shut (Synced bytes) course t shut = shut
    goes_shut (Replaced bytes) course t shut =
        let all = all_shut course t shut in record { kept = all.kept; closed = all.closed }

    begun_shut : (course : Course) (t : Thing) → HasThing l t → IsReached course.file → AllCover course.kept course.file.candidates → IsTrue (course.kept t) → IsShut (begun l head course) t
    begun_shut course t there reached covered kept = record { kept = kept; closed = finds course course.file reached covered t there kept }

    after_shut : (move : Move) (course : Course) (t : Thing) → HasThing l t → IsWell course → IsShut course t → OpensNot t move → IsShut (after l head move course) t
    after_shut (Closes named) course t there well shut not =
        if_idle_shut (still_kept (record course { closed = with_named course.closed named })) course t
        (still_shut (record course { closed = with_named course.closed named }) t shut.kept ((closing course.closed named t).1 (inr shut.closed))) shut
    after_shut (Opens named) course t there well shut not =
        if_idle_shut (still_kept (record course { closed = without_named course.closed named })) course t
        (still_shut (record course { closed = without_named course.closed named }) t shut.kept ((opening course.closed named t).1 (not, shut.closed))) shut
    after_shut (Locks locks) course t there well shut not =
        if_idle_shut (still_kept (record course { locks = locks })) course t (still_shut (record course { locks = locks }) t shut.kept shut.closed) shut
    after_shut (Counts of) course t there well shut not =
        if_idle_shut (record course { counts = counted_by of course.counts }) course t (record { kept = shut.kept; closed = shut.closed }) shut
    after_shut Keeps course t there well shut not = if_idle_shut (kept_by l head course) course t (keeps_shut course t shut) shut
    after_shut Goes course t there well shut not = goes_shut course.file.progress (with_file file.Goes course) t (record { kept = shut.kept; closed = shut.closed })
    after_shut (Fails left happened) course t there well shut not = record { kept = shut.kept; closed = shut.closed }
    after_shut Settles course t there well shut not = record { kept = shut.kept; closed = shut.closed }
    after_shut Restarts course t there well shut not =
        begun_shut (with_file file.Stops course) t there (reached_more course.file file.Stops well.reached) well.covered shut.kept
    after_shut (PowerFails fresh any) course t there well shut not =
        begun_shut (with_file (file.Cuts fresh any) course) t there (reached_more course.file (file.Cuts fresh any) well.reached) well.covered shut.kept

    run_shut : (moves : List Move) (course : Course) (t : Thing) → HasThing l t → IsWell course → IsShut course t → NoneOpens t moves → IsShut (run l head moves course) t
    run_shut [] course t there well shut none = shut
    run_shut (move ∷ moves) course t there well shut none =
        run_shut moves (after l head move course) t there (after_well move course well) (after_shut move course t there well shut none.0) none.1

    pub shut_until : (fresh : Option DiskFile) (bytes : Option (List ℕ)) (moves later : List Move) (t : Thing) → HasThing l t
        → let course = run l head moves (starts l head fresh bytes) in IsTrue (course.kept t) → IsClosed course.closed t → NoneOpens t later → IsClosed (run l head later course).closed t
    shut_until fresh bytes moves later t there kept closed none =
        let course = run l head moves (starts l head fresh bytes) in
        (run_shut later course t there (reached_well fresh bytes moves) (record { kept = kept; closed = closed }) none).closed
