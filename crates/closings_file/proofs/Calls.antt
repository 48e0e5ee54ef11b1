-- The calls of a keep, by its moves.
use Rattle.std.proofs.Common.{◌≡◌, ◌∙◌, ℕ, Bool, true, false, cond, IsTrue, List, [], ◌∷◌, Option, Some, None, refl, sym, ap, subst}
use Rattle.std.proofs.lemmas.Bool.{false≢true}
use Rattle.closings.specs.layout.Entries.{Site}
use Rattle.closings.specs.declared.thing.Thing.{Thing}
use Rattle.closings.specs.Closed.{IsClosed}
use Rattle.whole_file.specs.declared.call.Call.{Call}
use Rattle.whole_file.specs.declared.call.Call.TheVariants.{Write, Sync, Replace, SyncFolder}
use Rattle.whole_file.specs.Calls.{keep_calls}
use Rattle.whole_file.specs.Disk.{DiskFile}
use Rattle.whole_file.specs.Keeping.{Progress, Idle, Begun, Written, Synced, Replaced}
use Rattle.whole_file.specs.Keeping as file
use Rattle.closings_file.specs.Texts.{writing}
use Rattle.closings_file.specs.Files.{is_known}
use Rattle.closings_file.specs.Course.{Course, after, all_kept, calls_of, gone, is_idle, keep_moves, kept_by, run, wanted, with_file}
use Rattle.closings_file.specs.Course.{Fails, Goes}

-- a keep that isn't known has begun, or all is kept at once
begun_so : (l : Site) (head : List ℕ) (course : Course) → is_idle course.file.progress ≡ true → is_known (writing l head course.counts (wanted course)) course.known ≡ false
    → cond (is_idle course.file.progress) (kept_by l head course) course ≡ with_file (file.Begins (writing l head course.counts (wanted course))) (record course { known = None })
begun_so l head course idle unknown =
    ap (λ (v : Bool). cond v (kept_by l head course) course) idle
    ∙ ap (λ (v : Bool). cond v (all_kept course) (with_file (file.Begins (writing l head course.counts (wanted course))) (record course { known = None }))) unknown

known_so : (l : Site) (head : List ℕ) (course : Course) → is_idle course.file.progress ≡ true → is_known (writing l head course.counts (wanted course)) course.known ≡ true
    → cond (is_idle course.file.progress) (kept_by l head course) course ≡ all_kept course
known_so l head course idle known =
    ap (λ (v : Bool). cond v (kept_by l head course) course) idle
    ∙ ap (λ (v : Bool). cond v (all_kept course) (with_file (file.Begins (writing l head course.counts (wanted course))) (record course { known = None }))) known

pub makes_these_moves : (l : Site) (head : List ℕ) (left : Option DiskFile) (happened : Bool) (failing : Option Call) (course : Course)
    → IsTrue (is_idle course.file.progress) → is_known (writing l head course.counts (wanted course)) course.known ≡ false
    → calls_of l head (keep_moves left happened failing) course ≡ keep_calls (writing l head course.counts (wanted course)) failing
makes_these_moves l head left happened None course idle unknown =
    ap (λ (c : Course). calls_of l head (Goes ∷ Goes ∷ Goes ∷ Goes ∷ []) c) (begun_so l head course idle unknown)
makes_these_moves l head left happened (Some Write) course idle unknown =
    ap (λ (c : Course). calls_of l head (Fails left happened ∷ []) c) (begun_so l head course idle unknown)
makes_these_moves l head left happened (Some Sync) course idle unknown =
    ap (λ (c : Course). calls_of l head (Goes ∷ Fails left happened ∷ []) c) (begun_so l head course idle unknown)
makes_these_moves l head left happened (Some Replace) course idle unknown =
    ap (λ (c : Course). calls_of l head (Goes ∷ Goes ∷ Fails left happened ∷ []) c) (begun_so l head course idle unknown)
makes_these_moves l head left happened (Some SyncFolder) course idle unknown =
    ap (λ (c : Course). calls_of l head (Goes ∷ Goes ∷ Goes ∷ Fails left happened ∷ []) c) (begun_so l head course idle unknown)

-- ---- where it answers Ok

-- a thing is kept, and no keep is on its way
record IsSettled (course : Course) (t : Thing) : Type 0 where
  kept : IsTrue (course.kept t)
  idle : course.file.progress ≡ Idle

idle_is : (progress : Progress) → is_idle progress ≡ true → progress ≡ Idle
idle_is Idle is = refl
idle_is (Begun bytes) is = absurd (false≢true is)
idle_is (Written bytes) is = absurd (false≢true is)
idle_is (Synced bytes) is = absurd (false≢true is)
idle_is (Replaced bytes) is = absurd (false≢true is)

goes_settled : (l : Site) (head : List ℕ) (course : Course) (t : Thing) → IsSettled course t → IsSettled (after l head Goes course) t
goes_settled l head course t settled = on course.file.progress settled.idle
  where
    on : (progress : Progress) → progress ≡ Idle → IsSettled (gone progress (record course { file = file.gone progress course.file })) t
    on Idle is = record { kept = settled.kept; idle = settled.idle }
    on (Begun bytes) is = absurd (false≢true (ap is_idle is))
    on (Written bytes) is = absurd (false≢true (ap is_idle is))
    on (Synced bytes) is = absurd (false≢true (ap is_idle is))
    on (Replaced bytes) is = absurd (false≢true (ap is_idle is))

pub all_is_kept : (l : Site) (head : List ℕ) (left : Option DiskFile) (happened : Bool) (course : Course) (t : Thing)
    → IsTrue (is_idle course.file.progress) → IsClosed (wanted course) t → IsTrue ((run l head (keep_moves left happened None) course).kept t)
all_is_kept l head left happened course t idle closed = by (is_known (writing l head course.counts (wanted course)) course.known) refl
  where
    by : (v : Bool) → is_known (writing l head course.counts (wanted course)) course.known ≡ v → IsTrue ((run l head (keep_moves left happened None) course).kept t)
    by true known =
        let begun : IsSettled (all_kept course) t = record { kept = closed; idle = idle_is course.file.progress idle } in
        let more = λ (next : Course) (settled : IsSettled next t). goes_settled l head next t settled in
        let first = more (all_kept course) begun in
        let second = more (after l head Goes (all_kept course)) first in
        let third = more (after l head Goes (after l head Goes (all_kept course))) second in
        let last = more (after l head Goes (after l head Goes (after l head Goes (all_kept course)))) third in
        subst (λ (c : Course). IsTrue ((run l head (Goes ∷ Goes ∷ Goes ∷ Goes ∷ []) c).kept t)) (sym (known_so l head course idle known)) last.kept
    by false unknown = subst (λ (c : Course). IsTrue ((run l head (Goes ∷ Goes ∷ Goes ∷ Goes ∷ []) c).kept t)) (sym (begun_so l head course idle unknown)) closed
