-- What surely is so is told by each text that may be found in the file.
use Rattle.std.proofs.Common.{◌≡◌, ◌∙◌, ℕ, zero, suc, ◌&&◌, ◌||◌, not, Bool, true, false, cond, IsTrue, List, [], ◌∷◌, ◌++◌, Option, Some, None, refl, sym, ap, subst, take, ⊎_elim, arith}
use Rattle.std.specs.Bool.{⊤}
use Rattle.std.proofs.lemmas.Bool.{false≢true}
use Rattle.std.proofs.lemmas.Slice.Eq.{bytes_eq-Decides}
use Rattle.node_kinds.specs.simulator_spec.layout.Entries.{Site}
use Rattle.node_kinds.specs.simulator_spec.ixl_spec.closings.Auxiliaries.{AreCounted, AreNumbers}
use Rattle.node_kinds.specs.simulator_spec.ixl_spec.closings.declared.auxiliary.AuxiliaryCounts.{AuxiliaryCounts}
use Rattle.node_kinds.specs.simulator_spec.ixl_spec.closings.declared.thing.Thing.{Thing}
use Rattle.node_kinds.specs.simulator_spec.ixl_spec.closings.Closed.{IsClosed, is_closed}
use Rattle.node_kinds.specs.simulator_spec.ixl_spec.closings.Things.{HasThing}
use Rattle.node_kinds.specs.node_drive.Calls.{Rests, Reads, AsksListener, AsksLine, AsksDatagram, ThrowsAway, Writes, BreaksOff, Sends, Complains, Keeps}
use Rattle.node_kinds.specs.node_drive.declared.outside.ToKeep.{ToKeep}
use Rattle.whole_file.specs.declared.call.Call.{Call as FileCall}
use Rattle.whole_file.specs.declared.call.Call.TheVariants as call
use Rattle.whole_file.specs.Disk.{DiskFile, bytes_of, cut}
use Rattle.whole_file.specs.Keeping.{Begins, Begun, Cuts, Fails, Goes, Idle, IsOneOf, Kept, Move, Progress, Replaced, Settles, Stops, Synced, Written, after, begins, gone, keep_moves, run}
use Rattle.closings_file.specs.Files.{found_in, is_known}
use Rattle.closings_file.specs.Texts.{writing}
use Rattle.station_node.specs.Closings.{AreAnswered, Ends, EndsWithin, Held, IsAnswered, IsCounted, IsFound, Makes, Moment, Outcome, PowerFails, after_all, after_moment, answer_of_keep, begun, closed_by, closed_by_both, counted_by, counted_by_both, fewest, is_done, known_after, known_behind, makes_none, moves_of_keep, sure_after, sure_behind, surely, surely_counted}
use Rattle.station_node.specs.Takeover.{TakenOver, all_to_keep, taken_after}

both_so : (a b : Bool) → (a && b) ≡ true → (a ≡ true) × (b ≡ true)
both_so true b e = (refl, e)
both_so false b e = absurd (false≢true e)

-- ---- files

-- a file that was reached from one that began
record IsReached (fresh : Option DiskFile) (bytes : Option (List ℕ)) (kept : Kept) : Type 0 where
  moves : List Move
  is : kept ≡ run moves (begins fresh bytes)

run-append : (xs ys : List Move) (kept : Kept) → run (xs ++ ys) kept ≡ run ys (run xs kept)
run-append [] ys kept = refl
run-append (x ∷ xs) ys kept = run-append xs ys (after x kept)

reached_more : (fresh : Option DiskFile) (bytes : Option (List ℕ)) (kept : Kept) (moves : List Move) → IsReached fresh bytes kept → IsReached fresh bytes (run moves kept)
reached_more fresh bytes kept moves reached = record {
  moves = reached.moves ++ moves;
  is = ap (run moves) reached.is ∙ sym (run-append reached.moves moves (begins fresh bytes));
}

known_is : (text : List ℕ) (known : Option (List ℕ)) → is_known text known ≡ true → known ≡ Some text
known_is text None is = absurd (false≢true is)
known_is text (Some known) is = ap (λ (t : List ℕ). Some t) ((bytes_eq-Decides known text).0 is)

-- ---- the moves of one keep

-- the text that a keep on its way writes
abbrev IsOf : (text : List ℕ) → Progress → Type 0
IsOf text Idle = ⊤
IsOf text (Begun bytes) = bytes ≡ text
IsOf text (Written bytes) = bytes ≡ text
IsOf text (Synced bytes) = bytes ≡ text
IsOf text (Replaced bytes) = bytes ≡ text

idle_is_of : (text : List ℕ) (progress : Progress) → progress ≡ Idle → IsOf text progress
idle_is_of text progress idle = subst (IsOf text) (sym idle) tt

abbrev AreOf : (text : List ℕ) → List Move → Type 0
AreOf text [] = ⊤
AreOf text (Begins bytes ∷ moves) = (bytes ≡ text) × AreOf text moves
AreOf text (Goes ∷ moves) = AreOf text moves
AreOf text (Fails left happened ∷ moves) = AreOf text moves
AreOf text (Stops ∷ moves) = ⊥
AreOf text (Settles ∷ moves) = ⊥
AreOf text (Cuts fresh any ∷ moves) = ⊥

keep_is_of : (text : List ℕ) (left : Option DiskFile) (happened : Bool) (failing : Option FileCall) → AreOf text (keep_moves text left happened failing)
keep_is_of text left happened None = (refl, tt)
keep_is_of text left happened (Some call.Write) = (refl, tt)
keep_is_of text left happened (Some call.Sync) = (refl, tt)
keep_is_of text left happened (Some call.Replace) = (refl, tt)
keep_is_of text left happened (Some call.SyncFolder) = (refl, tt)

are-take : (text : List ℕ) (count : ℕ) (moves : List Move) → AreOf text moves → AreOf text (take count moves)
are-take text zero moves are = tt
are-take text (suc count) [] are = tt
are-take text (suc count) (Begins bytes ∷ moves) are = (are.0, are-take text count moves are.1)
are-take text (suc count) (Goes ∷ moves) are = are-take text count moves are
are-take text (suc count) (Fails left happened ∷ moves) are = are-take text count moves are
are-take text (suc count) (Stops ∷ moves) are = absurd are
are-take text (suc count) (Settles ∷ moves) are = absurd are
are-take text (suc count) (Cuts fresh any ∷ moves) are = absurd are

-- a keep ends with its moves
keep_idle : (text : List ℕ) (left : Option DiskFile) (happened : Bool) (failing : Option FileCall) (kept : Kept) → (run (keep_moves text left happened failing) kept).progress ≡ Idle
keep_idle text left happened None kept = refl
keep_idle text left happened (Some call.Write) kept = refl
keep_idle text left happened (Some call.Sync) kept = refl
keep_idle text left happened (Some call.Replace) kept = refl
keep_idle text left happened (Some call.SyncFolder) kept = refl

-- Of a file something may be told: what all that was kept makes sure, and what is left of that where something else may be there too.
-- What laws of closings and of files say of it.
pub record Laws (l : Site) (head : List ℕ) {What : Type 0} (Tells : What → Option (List ℕ) → Type 0) (of : ToKeep → What) (both : What → ToKeep → What) : Type 0 where
  pub writes : (all : ToKeep) → AreNumbers all.counts → Tells (of all) (Some (writing l head all.counts all.closings))
  pub first : (what : What) (all : ToKeep) (file : Option (List ℕ)) → Tells what file → Tells (both what all) file
  pub second : (what : What) (all : ToKeep) (file : Option (List ℕ)) → Tells (of all) file → Tells (both what all) file
  pub found : (fresh : Option DiskFile) (bytes : Option (List ℕ)) (moves : List Move)
      → let kept = run moves (begins fresh bytes) in IsOneOf (bytes_of kept.disk.own) kept.candidates

module _ (l : Site) (head : List ℕ) {What : Type 0} (Tells : What → Option (List ℕ) → Type 0) (of : ToKeep → What) (both : What → ToKeep → What) (laws : Laws l head Tells of both) where
  abbrev text_of : ToKeep → List ℕ
  text_of all = writing l head all.counts all.closings

  -- by each text that may be found
  abbrev AllTell : What → List (Option (List ℕ)) → Type 0
  AllTell what [] = ⊤
  AllTell what (file ∷ others) = Tells what file × AllTell what others

  one_tells : (what : What) (candidates : List (Option (List ℕ))) (file : Option (List ℕ)) → AllTell what candidates → IsOneOf file candidates → Tells what file
  one_tells what [] file told one = absurd one
  one_tells what (first ∷ others) file told one =
      ⊎_elim (λ same. subst (Tells what) (sym same) told.0) (λ later. one_tells what others file told.1 later) one

  -- what is left of it
  less_told : (what : What) (all : ToKeep) (candidates : List (Option (List ℕ))) → AllTell what candidates → AllTell (both what all) candidates
  less_told what all [] told = tt
  less_told what all (first ∷ others) told = (laws.first what all first told.0, less_told what all others told.1)

  -- whatever moves of a keep are made, what was told before is told by each text that may be found, as far as the keep wants it too
  module _ (all : ToKeep) (fit : AreNumbers all.counts) (what : What) where
    own_tells : (bytes : List ℕ) → bytes ≡ text_of all → Tells (both what all) (Some bytes)
    own_tells bytes is = subst (λ (b : List ℕ). Tells (both what all) (Some b)) (sym is) (laws.second what all (Some (text_of all)) (laws.writes all fit))

    goes_tell : (kept : Kept) → IsOf (text_of all) kept.progress → AllTell (both what all) kept.candidates → IsOf (text_of all) (after Goes kept).progress × AllTell (both what all) (after Goes kept).candidates
    goes_tell kept is_of told = by kept.progress refl is_of
      where
        by : (progress : Progress) → kept.progress ≡ progress → IsOf (text_of all) progress → IsOf (text_of all) (gone progress kept).progress × AllTell (both what all) (gone progress kept).candidates
        by Idle is is_of = (idle_is_of (text_of all) kept.progress is, told)
        by (Begun bytes) is is_of = (is_of, told)
        by (Written bytes) is is_of = (is_of, told)
        by (Synced bytes) is is_of = (is_of, told)
        by (Replaced bytes) is is_of = (tt, (own_tells bytes is_of, tt))

    moves_tell : (moves : List Move) (kept : Kept) → AreOf (text_of all) moves → IsOf (text_of all) kept.progress → AllTell (both what all) kept.candidates → AllTell (both what all) (run moves kept).candidates
    moves_tell [] kept are is_of told = told
    moves_tell (Begins bytes ∷ moves) kept are is_of told = moves_tell moves (after (Begins bytes) kept) are.1 are.0 (own_tells bytes are.0, told)
    moves_tell (Goes ∷ moves) kept are is_of told =
        let next = goes_tell kept is_of told in moves_tell moves (after Goes kept) are next.0 next.1
    moves_tell (Fails left happened ∷ moves) kept are is_of told = moves_tell moves (after (Fails left happened) kept) are tt told
    moves_tell (Stops ∷ moves) kept are is_of told = absurd are
    moves_tell (Settles ∷ moves) kept are is_of told = absurd are
    moves_tell (Cuts fresh any ∷ moves) kept are is_of told = absurd are

  -- ---- moments

  record IsWell (fresh : Option DiskFile) (bytes : Option (List ℕ)) (what : What) (held : Held) : Type 0 where
    reached : IsReached fresh bytes held.file
    told : AllTell what held.file.candidates
    idle : held.file.progress ≡ Idle
    known : (text : List ℕ) → held.known ≡ Some text → held.file.candidates ≡ Some text ∷ []

  module _ (fresh : Option DiskFile) (bytes : Option (List ℕ)) where
    -- a process begins that knows nothing of the file
    begun_well : (what : What) (readable : Bool) (file : Kept) → IsReached fresh bytes file → AllTell what file.candidates → file.progress ≡ Idle → IsWell fresh bytes what (begun l head readable file)
    begun_well what readable file reached told idle = record { reached = reached; told = told; idle = idle; known = λ text none. absurd (cc (none)) }

    -- what was taken over changes nothing of the file
    taken_well : (what : What) (held : Held) (taken : TakenOver) → IsWell fresh bytes what held → IsWell fresh bytes what (record held { taken = taken })
    taken_well what held taken well = record { reached = well.reached; told = well.told; idle = well.idle; known = well.known }

    -- a keep whose calls were made, as far as one failed
    tried_well : (all : ToKeep) (outcome : Outcome) (what : What) (held : Held) (failing : Option FileCall) → AreNumbers all.counts → IsWell fresh bytes what held
        → IsWell fresh bytes (cond (is_done failing) (of all) (both what all))
        (record held { known = known_after (text_of all) failing; file = run (keep_moves (text_of all) outcome.left outcome.happened failing) held.file })
    tried_well all outcome what held None fit well = record {
      reached = reached_more fresh bytes held.file (keep_moves (text_of all) outcome.left outcome.happened None) well.reached;
      told = (laws.writes all fit, tt);
      idle = refl;
      known = λ text is. ap (λ (k : Option (List ℕ)). k ∷ []) is;
    }
    tried_well all outcome what held (Some failed) fit well = record {
      reached = reached_more fresh bytes held.file (keep_moves (text_of all) outcome.left outcome.happened (Some failed)) well.reached;
      told = moves_tell all fit what (keep_moves (text_of all) outcome.left outcome.happened (Some failed)) held.file
          (keep_is_of (text_of all) outcome.left outcome.happened (Some failed)) (idle_is_of (text_of all) held.file.progress well.idle)
          (less_told what all held.file.candidates well.told);
      idle = keep_idle (text_of all) outcome.left outcome.happened (Some failed) held.file;
      known = λ text none. absurd (cc (none));
    }

    -- a keep that makes no call, since memory is refused
    refused_well : (all : ToKeep) (what : What) (held : Held) (kept : Bool) → kept ≡ false → IsWell fresh bytes what held
        → IsWell fresh bytes (cond kept (of all) (both what all)) (record held { known = held.known; file = held.file })
    refused_well all what held kept failed well =
        subst (λ (v : Bool). IsWell fresh bytes (cond v (of all) (both what all)) (record held { known = held.known; file = held.file })) (sym failed)
        (record { reached = well.reached; told = less_told what all held.file.candidates well.told; idle = well.idle; known = well.known })

    -- a keep that makes none, since the file is known to have its text
    known_well : (all : ToKeep) (what : What) (held : Held) (kept : Bool) → AreNumbers all.counts → kept ≡ true → is_known (text_of all) held.known ≡ true → IsWell fresh bytes what held
        → IsWell fresh bytes (cond kept (of all) (both what all)) (record held { known = held.known; file = held.file })
    known_well all what held kept fit done is well =
        let one = well.known (text_of all) (known_is (text_of all) held.known is) in
        subst (λ (v : Bool). IsWell fresh bytes (cond v (of all) (both what all)) (record held { known = held.known; file = held.file })) (sym done)
        (record { reached = well.reached; told = subst (AllTell (of all)) (sym one) (laws.writes all fit, tt); idle = well.idle; known = well.known })

    -- a keep that is answered so
    keep_well : (all : ToKeep) (outcome : Outcome) (what : What) (held : Held) (kept : Bool) → AreNumbers all.counts → kept ≡ answer_of_keep (text_of all) outcome held.known → IsWell fresh bytes what held
        → IsWell fresh bytes (cond kept (of all) (both what all))
        (record held { known = known_behind (text_of all) outcome held.known; file = run (moves_of_keep (text_of all) outcome held.known) held.file })
    keep_well all outcome what held kept fit answered well = by outcome.refused (is_known (text_of all) held.known) refl answered
      where
        by : (refused known : Bool) → is_known (text_of all) held.known ≡ known → kept ≡ (not refused && (known || is_done outcome.failing))
            → IsWell fresh bytes (cond kept (of all) (both what all))
            (record held {
              known = cond (refused || known) held.known (known_after (text_of all) outcome.failing);
              file = run (cond (refused || known) [] (keep_moves (text_of all) outcome.left outcome.happened outcome.failing)) held.file;
            })
        by true known is failed = refused_well all what held kept failed well
        by false true is done = known_well all what held kept fit done is well
        by false false is so =
            subst
            (λ (v : Bool). IsWell fresh bytes (cond v (of all) (both what all))
            (record held { known = known_after (text_of all) outcome.failing; file = run (keep_moves (text_of all) outcome.left outcome.happened outcome.failing) held.file }))
            (sym so)
            (tried_well all outcome what held outcome.failing fit well)

    -- a keep within which its process ends
    within_well : (all : ToKeep) (outcome : Outcome) (made : ℕ) (readable : Bool) (what : What) (held : Held) → AreNumbers all.counts → IsWell fresh bytes what held
        → IsWell fresh bytes (both what all) (begun l head readable (run (take made (moves_of_keep (text_of all) outcome held.known) ++ Stops ∷ []) held.file))
    within_well all outcome made readable what held fit well = by (makes_none (text_of all) outcome held.known)
      where
        told : AllTell (both what all) held.file.candidates
        told = less_told what all held.file.candidates well.told

        ends : (moves : List Move) → AreOf (text_of all) moves → IsWell fresh bytes (both what all) (begun l head readable (run (take made moves ++ Stops ∷ []) held.file))
        ends moves are =
            let file = run (take made moves) held.file in
            subst (λ (k : Kept). IsWell fresh bytes (both what all) (begun l head readable k)) (sym (run-append (take made moves) (Stops ∷ []) held.file))
            (begun_well (both what all) readable (after Stops file)
            (reached_more fresh bytes file (Stops ∷ []) (reached_more fresh bytes held.file (take made moves) well.reached))
            (moves_tell all fit what (take made moves) held.file (are-take (text_of all) made moves are) (idle_is_of (text_of all) held.file.progress well.idle) told)
            refl)

        by : (none : Bool) → IsWell fresh bytes (both what all) (begun l head readable (run (take made (cond none [] (keep_moves (text_of all) outcome.left outcome.happened outcome.failing)) ++ Stops ∷ []) held.file))
        by true = ends [] tt
        by false = ends (keep_moves (text_of all) outcome.left outcome.happened outcome.failing) (keep_is_of (text_of all) outcome.left outcome.happened outcome.failing)

    moment_well : (moment : Moment) (what : What) (held : Held) → IsAnswered l head moment held → IsWell fresh bytes what held
        → IsWell fresh bytes (sure_behind l head of both moment held what) (after_moment l head moment held)
    moment_well (Makes Rests outcome) what held answered well = taken_well what held (taken_after Rests held.taken) well
    moment_well (Makes (Reads reading) outcome) what held answered well = taken_well what held (taken_after (Reads reading) held.taken) well
    moment_well (Makes (AsksListener began) outcome) what held answered well = taken_well what held (taken_after (AsksListener began) held.taken) well
    moment_well (Makes (AsksLine heard) outcome) what held answered well = taken_well what held (taken_after (AsksLine heard) held.taken) well
    moment_well (Makes (AsksDatagram heard) outcome) what held answered well = taken_well what held (taken_after (AsksDatagram heard) held.taken) well
    moment_well (Makes (ThrowsAway count empty) outcome) what held answered well = taken_well what held (taken_after (ThrowsAway count empty) held.taken) well
    moment_well (Makes (Writes text) outcome) what held answered well = taken_well what held (taken_after (Writes text) held.taken) well
    moment_well (Makes (BreaksOff text) outcome) what held answered well = taken_well what held (taken_after (BreaksOff text) held.taken) well
    moment_well (Makes (Sends to datagram) outcome) what held answered well = taken_well what held (taken_after (Sends to datagram) held.taken) well
    moment_well (Makes (Complains line fault) outcome) what held answered well = taken_well what held (taken_after (Complains line fault) held.taken) well
    moment_well (Makes (Keeps all true) outcome) what held answered well = keep_well (all_to_keep held.taken all) outcome what held true answered.0 answered.1 well
    moment_well (Makes (Keeps all false) outcome) what held answered well = keep_well (all_to_keep held.taken all) outcome what held false answered.0 answered.1 well
    moment_well (Ends readable) what held answered well = begun_well what readable (after Stops held.file) (reached_more fresh bytes held.file (Stops ∷ []) well.reached) well.told refl
    moment_well (EndsWithin all outcome made readable) what held answered well = within_well (all_to_keep held.taken all) outcome made readable what held answered well
    moment_well (PowerFails left any readable) what held answered well =
        begun_well what readable (after (Cuts left any) held.file) (reached_more fresh bytes held.file (Cuts left any ∷ []) well.reached) well.told refl

    all_well : (moments : List Moment) (what : What) (held : Held) → AreAnswered l head moments held → IsWell fresh bytes what held
        → IsWell fresh bytes (sure_after l head of both moments held what) (after_all l head moments held)
    all_well [] what held answered well = well
    all_well (moment ∷ more) what held answered well =
        all_well more (sure_behind l head of both moment held what) (after_moment l head moment held) answered.1 (moment_well moment what held answered.0 well)

    first_well : (what : What) (readable : Bool) → Tells what bytes → IsWell fresh bytes what (begun l head readable (begins fresh bytes))
    first_well what readable told = begun_well what readable (begins fresh bytes) (record { moves = []; is = refl }) (told, tt) refl

    -- what a process finds tells what surely is so
    finds : (what : What) (kept : Kept) → IsReached fresh bytes kept → AllTell what kept.candidates → Tells what (bytes_of kept.disk.own)
    finds what kept reached told =
        one_tells what kept.candidates (bytes_of kept.disk.own) told
        (subst (λ (k : Kept). IsOneOf (bytes_of k.disk.own) k.candidates) (sym reached.is) (laws.found fresh bytes reached.moves))

    -- of a process that begins now, and of one that begins after a cut of the power
    pub all_found : (readable : Bool) (moments : List Moment) (what : What) → Tells what bytes → let first = begun l head readable (begins fresh bytes) in AreAnswered l head moments first
        → let disk = (after_all l head moments first).file.disk
        in let sure = sure_after l head of both moments first what
        in Tells sure (bytes_of disk.own) × ((left : Option DiskFile) (any : List ℕ) → Tells sure (bytes_of (cut left any disk).own))
    all_found readable moments what told answered =
        let first = begun l head readable (begins fresh bytes) in
        let held = after_all l head moments first in
        let well = all_well moments what first answered (first_well what readable told) in
        let sure = sure_after l head of both moments first what in (
          finds sure held.file well.reached well.told,
          λ left any. finds sure (after (Cuts left any) held.file) (reached_more fresh bytes held.file (Cuts left any ∷ []) well.reached) well.told,
        )

-- ---- what is closed

abbrev ClosesAll : Site → List ℕ → (Thing → Bool) → Option (List ℕ) → Type 0
ClosesAll l head closed file = (t : Thing) → HasThing l t → IsTrue (closed t) → IsClosed (found_in l head file).closings t

pub closed_found : (l : Site) (head : List ℕ) → ((all : ToKeep) (t : Thing) → AreNumbers all.counts → HasThing l t → IsClosed all.closings t → IsClosed (found_in l head (Some (writing l head all.counts all.closings))).closings t)
    → ((fresh : Option DiskFile) (bytes : Option (List ℕ)) (moves : List Move) → let kept = run moves (begins fresh bytes) in IsOneOf (bytes_of kept.disk.own) kept.candidates)
    → (fresh : Option DiskFile) (bytes : Option (List ℕ)) (readable : Bool) (moments : List Moment) (t : Thing) → HasThing l t → let first = begun l head readable (begins fresh bytes) in AreAnswered l head moments first
    → IsTrue (surely l head moments first (is_closed (found_in l head bytes).closings) t) → IsFound l head (after_all l head moments first).file.disk t
closed_found l head read found fresh bytes readable moments t there answered is =
    let laws : Laws l head (ClosesAll l head) closed_by closed_by_both = record {
      writes = λ all fit u has closed. read all u fit has closed;
      first = λ closed all file told u has closes. told u has (both_so (closed u) (is_closed all.closings u) closes).0;
      second = λ closed all file told u has closes. told u has (both_so (closed u) (is_closed all.closings u) closes).1;
      found = found;
    } in
    let finds = all_found l head (ClosesAll l head) closed_by closed_by_both laws fresh bytes readable moments (is_closed (found_in l head bytes).closings) (λ u has closes. closes) answered in
    record { now = finds.0 t there is; after_cut = λ left any. finds.1 left any t there is }

-- ---- what was counted

abbrev CountsAll : Site → List ℕ → AuxiliaryCounts → Option (List ℕ) → Type 0
CountsAll l head counts file = AreCounted counts (found_in l head file).counts

all_counted : (counts : AuxiliaryCounts) → AreCounted counts counts
all_counted counts = record { releases = omega arith; opens = omega arith }

fewest_first : (one other counts : AuxiliaryCounts) → AreCounted one counts → AreCounted (fewest one other) counts
fewest_first one other counts are = record { releases = omega (arith, are.releases); opens = omega (arith, are.opens) }

fewest_second : (one other counts : AuxiliaryCounts) → AreCounted other counts → AreCounted (fewest one other) counts
fewest_second one other counts are = record { releases = omega (arith, are.releases); opens = omega (arith, are.opens) }

pub counted_found : (l : Site) (head : List ℕ) → ((all : ToKeep) → AreNumbers all.counts → (found_in l head (Some (writing l head all.counts all.closings))).counts ≡ all.counts)
    → ((fresh : Option DiskFile) (bytes : Option (List ℕ)) (moves : List Move) → let kept = run moves (begins fresh bytes) in IsOneOf (bytes_of kept.disk.own) kept.candidates)
    → (fresh : Option DiskFile) (bytes : Option (List ℕ)) (readable : Bool) (moments : List Moment) → let first = begun l head readable (begins fresh bytes) in AreAnswered l head moments first
    → IsCounted l head (after_all l head moments first).file.disk (surely_counted l head moments first (found_in l head bytes).counts)
counted_found l head read found fresh bytes readable moments answered =
    let laws : Laws l head (CountsAll l head) counted_by counted_by_both = record {
      writes = λ all fit. subst (AreCounted all.counts) (sym (read all fit)) (all_counted all.counts);
      first = λ counts all file told. fewest_first counts all.counts (found_in l head file).counts told;
      second = λ counts all file told. fewest_second counts all.counts (found_in l head file).counts told;
      found = found;
    } in
    let finds = all_found l head (CountsAll l head) counted_by counted_by_both laws fresh bytes readable moments (found_in l head bytes).counts (all_counted (found_in l head bytes).counts) answered in
    record { now = finds.0; after_cut = finds.1 }
