-- A course whose datagrams changed.
use Rattle.std.proofs.Common.{◌≡◌, ◌++◌, ◌∙◌, ◌∷◌, [], ℕ, Bool, true, false, cond, List, ap, sym, refl}
use Rattle.node_drive.specs.Calls.{Call, Calls, Reads, Told}
use Rattle.node_drive.specs.Rounds.{CourseState, read_for, released, sent, with_calls, with_datagrams}
use Rattle.node_drive.specs.Waiting.{Addressed, Waiting, leaving, none_waits, waiting_of, waiting_on}
use Rattle.node_drive.proofs.Calls.{calls_none, calls_same, calls_then}

-- those of a step wait after the others
pub added_is : (old seen : CourseState) → seen ≡ old → (now : ℕ) (handed : List Addressed) (waiting : List Waiting) → waiting ≡ seen.waiting ++ waiting_of seen.written now handed
    → record seen { waiting = waiting } ≡ with_datagrams now handed old
added_is old seen e now handed waiting f = ap (λ (w : List Waiting). record seen { waiting = w }) f ∙ ap (with_datagrams now handed) e

-- what a list of waiting datagrams tells of those that leave and those that are left
abbrev leaves_with : ℕ → CourseState → Bool → CourseState
leaves_with now course none = record (with_calls (cond none [] (Reads now ∷ [])) course) { waiting = waiting_on now course.in_force course.waiting }

-- the clock was read, and those that may leave left
pub left_is : (old read seen : CourseState) → none_waits old.waiting ≡ false → (now : ℕ) → read ≡ with_calls (Reads now ∷ []) old → seen ≡ read → (waiting : List Waiting) → waiting ≡ waiting_on now seen.in_force seen.waiting
    → record seen { waiting = waiting } ≡ (released now old).1
left_is old read seen some now noted e waiting f =
    ap (λ (w : List Waiting). record seen { waiting = w }) f
    ∙ ap (λ (s : CourseState). record s { waiting = waiting_on now s.in_force s.waiting }) (e ∙ noted)
    ∙ ap (leaves_with now old) (sym some)

pub left_calls : {ta tb tc : Told} (old read seen : CourseState) → none_waits old.waiting ≡ false → (now : ℕ) → read ≡ with_calls (Reads now ∷ []) old → seen ≡ read → Calls ta tb (Reads now ∷ [])
    → Calls tb tc (sent (leaving now seen.in_force seen.waiting)) → Calls ta tc (released now old).0
left_calls old read seen some now noted e reads p =
    calls_same
    (ap (λ (s : CourseState). Reads now ∷ sent (leaving now s.in_force s.waiting)) (e ∙ noted)
    ∙ ap (λ (none : Bool). cond none [] (Reads now ∷ []) ++ sent (leaving now old.in_force old.waiting)) (sym some))
    (calls_then reads p)

-- nothing waits
nothing_leaves : (now in_force : ℕ) (waiting : List Waiting) → none_waits waiting ≡ true → (waiting ≡ waiting_on now in_force waiting) × ([] ≡ read_for now waiting ++ sent (leaving now in_force waiting)) × ([] ≡ read_for now waiting)
nothing_leaves now in_force [] e = (refl, refl, refl)
nothing_leaves now in_force (one ∷ others) e = cc

pub none_left_is : (now : ℕ) (course : CourseState) → none_waits course.waiting ≡ true → course ≡ (released now course).1
none_left_is now course e =
    let none = nothing_leaves now course.in_force course.waiting e in
    ap (λ (w : List Waiting). record course { waiting = w }) none.0
    ∙ ap (λ (reads : List Call). record (with_calls reads course) { waiting = waiting_on now course.in_force course.waiting }) none.2

pub none_left_calls : (now : ℕ) (course : CourseState) (t : Told) → none_waits course.waiting ≡ true → Calls t t (released now course).0
none_left_calls now course t e = calls_same (nothing_leaves now course.in_force course.waiting e).1 (calls_none t)
