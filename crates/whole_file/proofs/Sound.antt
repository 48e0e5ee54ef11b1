-- What every move keeps of a file, and what follows from it.
use Rattle.std.proofs.Common.{◌≡◌, ℕ, Bool, true, false, List, [], ◌∷◌, Option, Some, None, refl, sym, ap, subst, inl, inr}
use Rattle.std.specs.Bool.{⊤}
use Rattle.whole_file.specs.declared.call.Call.{Call}
use Rattle.whole_file.specs.declared.call.Call.TheVariants.{Write, Sync, Replace, SyncFolder}
use Rattle.whole_file.specs.Calls.{keep_calls}
use Rattle.whole_file.specs.Disk.{DiskFile, bytes_of, synced_file, after_cut}
use Rattle.whole_file.specs.Keeping.{Progress, Idle, Begun, Written, Synced, Replaced, Kept, Move, Begins, Goes, Fails, Stops, Settles, Cuts, gone, failed, after, run, whole, begins, IsOneOf, IsOnDisk, is_quiet, AreQuiet, calls_of, keep_moves}

-- what stands under a name is synced, and one of these
record IsGood (candidates : List (Option (List ℕ))) (file : Option DiskFile) : Type 0 where
  found : IsOneOf (bytes_of file) candidates
  synced : file ≡ whole (bytes_of file)

-- How far a keep is shows on the disk.
abbrev IsAsFar : Progress → Kept → Type 0
IsAsFar Idle kept = ⊤
IsAsFar (Begun bytes) kept = IsOneOf (Some bytes) kept.candidates
IsAsFar (Written bytes) kept = IsOneOf (Some bytes) kept.candidates × (kept.disk.fresh ≡ Some (record { bytes = bytes; synced = false }))
IsAsFar (Synced bytes) kept = IsOneOf (Some bytes) kept.candidates × (kept.disk.fresh ≡ whole (Some bytes))
IsAsFar (Replaced bytes) kept = IsOneOf (Some bytes) kept.candidates × (kept.disk.own ≡ whole (Some bytes))

record IsSound (kept : Kept) : Type 0 where
  own : IsGood kept.candidates kept.disk.own
  durable : IsGood kept.candidates kept.disk.durable
  progress : IsAsFar kept.progress kept

-- ---- files

good_of : {candidates : List (Option (List ℕ))} {bytes : List ℕ} (file : Option DiskFile) → file ≡ whole (Some bytes) → IsOneOf (Some bytes) candidates → IsGood candidates file
good_of {candidates} {bytes} file is one = subst (λ (f : Option DiskFile). IsGood candidates f) (sym is) (record { found = one; synced = refl })

later_good : {candidates : List (Option (List ℕ))} {file : Option DiskFile} (next : Option (List ℕ)) → IsGood candidates file → IsGood (next ∷ candidates) file
later_good next good = record { found = inr good.found; synced = good.synced }

whole_good : {candidates : List (Option (List ℕ))} (found : Option (List ℕ)) → IsOneOf found candidates → IsGood candidates (whole found)
whole_good None one = record { found = one; synced = refl }
whole_good (Some bytes) one = record { found = one; synced = refl }

whole_cut : (any : List ℕ) (found : Option (List ℕ)) → after_cut any (whole found) ≡ whole found
whole_cut any None = refl
whole_cut any (Some bytes) = refl

good_cut : {candidates : List (Option (List ℕ))} {file : Option DiskFile} (any : List ℕ) → IsGood candidates file → IsGood candidates (after_cut any file)
good_cut {candidates} {file} any good =
    subst (λ (f : Option DiskFile). IsGood candidates (after_cut any f)) (sym good.synced)
    (subst (λ (f : Option DiskFile). IsGood candidates f) (sym (whole_cut any (bytes_of file))) (whole_good (bytes_of file) good.found))

-- ---- moves

gone_sound : (progress : Progress) (kept : Kept) → IsGood kept.candidates kept.disk.own → IsGood kept.candidates kept.disk.durable → IsAsFar progress kept
    → IsSound (gone progress (record kept { progress = progress }))
gone_sound Idle kept own durable far = record { own = own; durable = durable; progress = far }
gone_sound (Begun bytes) kept own durable far = record { own = own; durable = durable; progress = (far, refl) }
gone_sound (Written bytes) kept own durable (one, fresh) = record { own = own; durable = durable; progress = (one, ap synced_file fresh) }
gone_sound (Synced bytes) kept own durable (one, fresh) = record { own = good_of kept.disk.fresh fresh one; durable = durable; progress = (one, fresh) }
gone_sound (Replaced bytes) kept own durable (one, is) = record { own = good_of kept.disk.own is (inl refl); durable = good_of kept.disk.own is (inl refl); progress = record {} }

failed_own : (left : Option DiskFile) (happened : Bool) (progress : Progress) (kept : Kept) → IsGood kept.candidates kept.disk.own → IsAsFar progress kept
    → IsGood kept.candidates (failed left happened progress kept.disk).own
failed_own left happened Idle kept own far = own
failed_own left happened (Begun bytes) kept own far = own
failed_own left happened (Written bytes) kept own far = own
failed_own left true (Synced bytes) kept own (one, fresh) = good_of kept.disk.fresh fresh one
failed_own left false (Synced bytes) kept own far = own
failed_own left happened (Replaced bytes) kept own far = own

failed_durable : (left : Option DiskFile) (happened : Bool) (progress : Progress) (kept : Kept) → IsGood kept.candidates kept.disk.durable
    → IsGood kept.candidates (failed left happened progress kept.disk).durable
failed_durable left happened Idle kept durable = durable
failed_durable left happened (Begun bytes) kept durable = durable
failed_durable left happened (Written bytes) kept durable = durable
failed_durable left true (Synced bytes) kept durable = durable
failed_durable left false (Synced bytes) kept durable = durable
failed_durable left happened (Replaced bytes) kept durable = durable

settled_far : (progress : Progress) (kept : Kept) → IsAsFar progress kept → IsAsFar progress (record kept { disk = record kept.disk { durable = kept.disk.own } })
settled_far Idle kept far = far
settled_far (Begun bytes) kept far = far
settled_far (Written bytes) kept far = far
settled_far (Synced bytes) kept far = far
settled_far (Replaced bytes) kept far = far

after_sound : (move : Move) (kept : Kept) → IsSound kept → IsSound (after move kept)
after_sound (Begins bytes) kept sound = record { own = later_good (Some bytes) sound.own; durable = later_good (Some bytes) sound.durable; progress = inl refl }
after_sound Goes kept sound = gone_sound kept.progress kept sound.own sound.durable sound.progress
after_sound (Fails left happened) kept sound =
    record { own = failed_own left happened kept.progress kept sound.own sound.progress; durable = failed_durable left happened kept.progress kept sound.durable; progress = record {} }
after_sound Stops kept sound = record { own = sound.own; durable = sound.durable; progress = record {} }
after_sound Settles kept sound = record { own = sound.own; durable = sound.own; progress = settled_far kept.progress kept sound.progress }
after_sound (Cuts fresh any) kept sound = record { own = good_cut any sound.durable; durable = good_cut any sound.durable; progress = record {} }

run_sound : (moves : List Move) (kept : Kept) → IsSound kept → IsSound (run moves kept)
run_sound [] kept sound = sound
run_sound (move ∷ moves) kept sound = run_sound moves (after move kept) (after_sound move kept sound)

begins_sound : (fresh : Option DiskFile) (file : Option (List ℕ)) → IsSound (begins fresh file)
begins_sound fresh file = record { own = whole_good file (inl refl); durable = whole_good file (inl refl); progress = record {} }

pub found_was_kept : (fresh : Option DiskFile) (file : Option (List ℕ)) (moves : List Move)
    → let kept = run moves (begins fresh file) in IsOneOf (bytes_of kept.disk.own) kept.candidates
found_was_kept fresh file moves = (run_sound moves (begins fresh file) (begins_sound fresh file)).own.found

-- ---- after a keep that answered Ok

-- nothing is being kept, and these bytes are on disk
record IsResting (bytes : List ℕ) (kept : Kept) : Type 0 where
  disk : IsOnDisk bytes kept.disk
  idle : kept.progress ≡ Idle

quiet_rests : {bytes : List ℕ} (move : Move) (kept : Kept) → is_quiet move ≡ true → IsResting bytes kept → IsResting bytes (after move kept)
quiet_rests (Begins new) kept quiet rests = absurd (cc (quiet))
quiet_rests {bytes} Goes kept quiet rests = subst (λ (p : Progress). IsResting bytes (gone p kept)) (sym rests.idle) rests
quiet_rests {bytes} (Fails left happened) kept quiet rests =
    record { disk = subst (λ (p : Progress). IsOnDisk bytes (failed left happened p kept.disk)) (sym rests.idle) rests.disk; idle = refl }
quiet_rests Stops kept quiet rests = record { disk = rests.disk; idle = refl }
quiet_rests Settles kept quiet rests = record { disk = record { now = rests.disk.now; after_cut = rests.disk.now }; idle = rests.idle }
quiet_rests (Cuts fresh any) kept quiet rests =
    let found = ap (after_cut any) rests.disk.after_cut in record { disk = record { now = found; after_cut = found }; idle = refl }

all_rest : {bytes : List ℕ} (moves : List Move) (kept : Kept) → AreQuiet moves → IsResting bytes kept → IsResting bytes (run moves kept)
all_rest [] kept quiet rests = rests
all_rest (move ∷ moves) kept (quiet, later) rests = all_rest moves (after move kept) later (quiet_rests move kept quiet rests)

rests_then : {bytes : List ℕ} (kept : Kept) → IsAsFar (Replaced bytes) kept → IsResting bytes (gone (Replaced bytes) kept)
rests_then kept (one, is) = record { disk = record { now = is; after_cut = is }; idle = refl }

pub leaves_on_disk : (fresh : Option DiskFile) (file : Option (List ℕ)) (moves later : List Move) (bytes : List ℕ)
    → let kept = run moves (begins fresh file) in kept.progress ≡ Replaced bytes → AreQuiet later → IsOnDisk bytes (run later (after Goes kept)).disk
leaves_on_disk fresh file moves later bytes is quiet =
    let kept = run moves (begins fresh file)
    in let far = subst (λ (p : Progress). IsAsFar p kept) is (run_sound moves (begins fresh file) (begins_sound fresh file)).progress
    in let rests = subst (λ (p : Progress). IsResting bytes (gone p kept)) (sym is) (rests_then kept far)
    in (all_rest later (after Goes kept) quiet rests).disk

-- ---- the calls of a keep

pub makes_these_moves : (bytes : List ℕ) (left : Option DiskFile) (happened : Bool) (failing : Option Call) (kept : Kept)
    → calls_of (keep_moves bytes left happened failing) kept ≡ keep_calls bytes failing
makes_these_moves bytes left happened None kept = refl
makes_these_moves bytes left happened (Some Write) kept = refl
makes_these_moves bytes left happened (Some Sync) kept = refl
makes_these_moves bytes left happened (Some Replace) kept = refl
makes_these_moves bytes left happened (Some SyncFolder) kept = refl
