-- Lines of a script that wait.
use Rattle.std.proofs.Common.{◌≡◌, ℕ, zero, suc, ◌<◌, ◌≤◌, List, [], ◌∷◌, Bool, true, false, nat_le, if◌then◌else◌, drop, Option, None, Some, refl, sym, ap, ◌∙◌, arith}
use Rattle.std.specs.List.{AllByRecursion}
use Rattle.std.proofs.lemmas.Bool.{le-leb, lt-leb, leb-true, leb-false, ltb-true, ltb-false}
use Rattle.simulator_event.specs.declared.event.Event.{Event}
use Rattle.station_drive.specs.Inside.{applied_to, rises, waiting, waits}
use Rattle.station_drive.specs.Rounds.{due, not_due}

abbrev Line : Type 0
Line = ℕ × Event

true_false : true ≡ false → ⊥
true_false e = cc

false_true : false ≡ true → ⊥
false_true e = cc

-- ---- one line

-- a line whose time has passed
pub due_more : (passed : ℕ) (line : Line) (more : List Line) → line.0 ≤ passed → due passed (line ∷ more) ≡ line.1 ∷ due passed more
due_more passed line more h = ap (λ (b : Bool). if b then line.1 ∷ due passed more else due passed more) (le-leb line.0 passed h)

pub not_due_more : (passed : ℕ) (line : Line) (more : List Line) → line.0 ≤ passed → not_due passed (line ∷ more) ≡ not_due passed more
not_due_more passed line more h = ap (λ (b : Bool). if b then not_due passed more else line ∷ not_due passed more) (le-leb line.0 passed h)

-- a line whose time has not passed
due_skipped : (passed : ℕ) (line : Line) (more : List Line) → passed < line.0 → due passed (line ∷ more) ≡ due passed more
due_skipped passed line more h = ap (λ (b : Bool). if b then line.1 ∷ due passed more else due passed more) (lt-leb line.0 passed h)

not_due_kept : (passed : ℕ) (line : Line) (more : List Line) → passed < line.0 → not_due passed (line ∷ more) ≡ line ∷ not_due passed more
not_due_kept passed line more h = ap (λ (b : Bool). if b then not_due passed more else line ∷ not_due passed more) (lt-leb line.0 passed h)

-- ---- what is left

abbrev pub Later : ℕ → List Line → Type 0
Later passed lines = AllByRecursion (λ (line : ℕ × Event). passed < line.0) lines

left_of_line : (passed : ℕ) (line : Line) (more : List Line) (b : Bool) → nat_le line.0 passed ≡ b
    → Later passed (not_due passed more) → Later passed (if b then not_due passed more else line ∷ not_due passed more)
left_of_line passed line more true is left = left
left_of_line passed line more false is left = (leb-false line.0 passed is, left)

pub none_left : (passed : ℕ) (script : List Line) → Later passed (not_due passed script)
none_left passed [] = tt
none_left passed (line ∷ more) = left_of_line passed line more (nat_le line.0 passed) refl (none_left passed more)

-- ---- which of those that wait are due

-- a line whose time has passed is next, if it waits
pub due_waiting : (applied : Option ℕ) (passed : ℕ) (line : Line) (more : List Line) (b : Bool) → waits applied line.0 ≡ b → line.0 ≤ passed
    → due passed (waiting applied (line ∷ more)) ≡ (if b then line.1 ∷ due passed (waiting applied more) else due passed (waiting applied more))
due_waiting None passed line more true e h = due_more passed line more h
due_waiting None passed line more false e h = absurd (true_false e)
due_waiting (Some a) passed line more true e h = ap (due passed) (not_due_kept a line more (ltb-true a line.0 e)) ∙ due_more passed line (not_due a more) h
due_waiting (Some a) passed line more false e h = ap (due passed) (not_due_more a line more (ltb-false a line.0 e))

later_of : (a passed : ℕ) (line : Line) (more : List Line) (b : Bool) → nat_le line.0 a ≡ b → passed < line.0
    → due passed (not_due a (line ∷ more)) ≡ due passed (not_due a more)
later_of a passed line more true e h = ap (due passed) (not_due_more a line more (leb-true line.0 a e))
later_of a passed line more false e h = ap (due passed) (not_due_kept a line more (leb-false line.0 a e)) ∙ due_skipped passed line (not_due a more) h

-- a line whose time has not passed is not
pub due_later : (applied : Option ℕ) (passed : ℕ) (line : Line) (more : List Line) → passed < line.0
    → due passed (waiting applied (line ∷ more)) ≡ due passed (waiting applied more)
due_later None passed line more h = due_skipped passed line more h
due_later (Some a) passed line more h = later_of a passed line more (nat_le line.0 a) refl h

-- of no lines none
pub due_of_none : (applied : Option ℕ) (passed : ℕ) → due passed (waiting applied []) ≡ []
due_of_none None passed = refl
due_of_none (Some a) passed = refl

-- ---- lines in order

parts_of : (time : ℕ) (line : Line) (more : List Line) (b : Bool) → nat_le time line.0 ≡ b
    → (if b then rises line.0 more else false) ≡ true → (time ≤ line.0) × (rises line.0 more ≡ true)
parts_of time line more true e r = (leb-true time line.0 e, r)
parts_of time line more false e r = absurd (false_true r)

rises_parts : (time : ℕ) (line : Line) (more : List Line) → rises time (line ∷ more) ≡ true → (time ≤ line.0) × (rises line.0 more ≡ true)
rises_parts time line more r = parts_of time line more (nat_le time line.0) refl r

-- one more line in order, and one that isn't
pub rises_more : (time : ℕ) (line : Line) (more : List Line) → time ≤ line.0 → rises time (line ∷ more) ≡ rises line.0 more
rises_more time line more h = ap (λ (b : Bool). if b then rises line.0 more else false) (le-leb time line.0 h)

pub rises_less : (time : ℕ) (line : Line) (more : List Line) → line.0 < time → rises time (line ∷ more) ≡ false
rises_less time line more h = ap (λ (b : Bool). if b then rises line.0 more else false) (lt-leb time line.0 h)

from_lower : (low time : ℕ) (lines : List Line) → low ≤ time → rises time lines ≡ true → rises low lines ≡ true
from_lower low time [] h r = refl
from_lower low time (line ∷ more) h r =
    let parts = rises_parts time line more r in
    let above = parts.0 in
    rises_more low line more (omega (arith, h, above)) ∙ parts.1

-- the lines after others are in order too
pub rises_drop : (n : ℕ) (lines : List Line) → rises 0 lines ≡ true → rises 0 (drop n lines) ≡ true
rises_drop zero lines r = r
rises_drop (suc n) [] r = refl
rises_drop (suc n) (line ∷ more) r = rises_drop n more (from_lower 0 line.0 more (omega arith) (rises_parts 0 line more r).1)

-- none is due after a time that has not passed
none_due : (applied : Option ℕ) (passed time : ℕ) (lines : List Line) → passed < time → rises time lines ≡ true → due passed (waiting applied lines) ≡ []
none_due applied passed time [] h r = due_of_none applied passed
none_due applied passed time (line ∷ more) h r =
    let parts = rises_parts time line more r in
    let above = parts.0 in
    let later : passed < line.0 = omega (arith, h, above) in
    due_later applied passed line more later ∙ none_due applied passed line.0 more later parts.1

pub none_due_from : (applied : Option ℕ) (passed : ℕ) (line : Line) (more : List Line) → passed < line.0 → rises 0 (line ∷ more) ≡ true
    → due passed (waiting applied (line ∷ more)) ≡ []
none_due_from applied passed line more h r = due_later applied passed line more h ∙ none_due applied passed line.0 more h (rises_parts 0 line more r).1

-- ---- lines that were applied in two rounds

-- lines up to a time, and then those up to an earlier one
earlier_step : (a passed : ℕ) (line : Line) (more : List Line) (b : Bool) → nat_le line.0 a ≡ b → passed ≤ a
    → not_due a more ≡ not_due passed (not_due a more) → not_due a (line ∷ more) ≡ not_due passed (not_due a (line ∷ more))
earlier_step a passed line more true e h so_far =
    let gone = not_due_more a line more (leb-true line.0 a e) in
    gone ∙ (so_far ∙ sym (ap (not_due passed) gone))
earlier_step a passed line more false e h so_far =
    let late = leb-false line.0 a e in
    let kept = not_due_kept a line more late in
    kept ∙ (ap (λ (l : List Line). line ∷ l) so_far
    ∙ sym (ap (not_due passed) kept ∙ not_due_kept passed line (not_due a more) (omega (arith, h, late))))

not_due_earlier : (a passed : ℕ) (lines : List Line) → passed ≤ a → not_due a lines ≡ not_due passed (not_due a lines)
not_due_earlier a passed [] h = refl
not_due_earlier a passed (line ∷ more) h = earlier_step a passed line more (nat_le line.0 a) refl h (not_due_earlier a passed more h)

-- and then those up to a later one
later_step : (a passed : ℕ) (line : Line) (more : List Line) (b c : Bool) → nat_le line.0 a ≡ b → nat_le line.0 passed ≡ c → a ≤ passed
    → not_due passed more ≡ not_due passed (not_due a more) → not_due passed (line ∷ more) ≡ not_due passed (not_due a (line ∷ more))
later_step a passed line more true c e f h so_far =
    let early = leb-true line.0 a e in
    not_due_more passed line more (omega (arith, early, h)) ∙ (so_far ∙ sym (ap (not_due passed) (not_due_more a line more early)))
later_step a passed line more false true e f h so_far =
    not_due_more passed line more (leb-true line.0 passed f)
    ∙ (so_far
    ∙ sym (ap (not_due passed) (not_due_kept a line more (leb-false line.0 a e)) ∙ not_due_more passed line (not_due a more) (leb-true line.0 passed f)))
later_step a passed line more false false e f h so_far =
    not_due_kept passed line more (leb-false line.0 passed f)
    ∙ (ap (λ (l : List Line). line ∷ l) so_far
    ∙ sym (ap (not_due passed) (not_due_kept a line more (leb-false line.0 a e)) ∙ not_due_kept passed line (not_due a more) (leb-false line.0 passed f)))

not_due_later : (a passed : ℕ) (lines : List Line) → a ≤ passed → not_due passed lines ≡ not_due passed (not_due a lines)
not_due_later a passed [] h = refl
not_due_later a passed (line ∷ more) h =
    later_step a passed line more (nat_le line.0 a) (nat_le line.0 passed) refl refl h (not_due_later a passed more h)

twice_of : (a passed : ℕ) (lines : List Line) (b : Bool) → nat_le passed a ≡ b
    → not_due (if b then a else passed) lines ≡ not_due passed (not_due a lines)
twice_of a passed lines true e = not_due_earlier a passed lines (leb-true passed a e)
twice_of a passed lines false e =
    let late = leb-false passed a e in
    not_due_later a passed lines (omega (arith, late))

pub not_due_twice : (applied : Option ℕ) (passed : ℕ) (lines : List Line)
    → not_due (applied_to applied passed) lines ≡ not_due passed (waiting applied lines)
not_due_twice None passed lines = refl
not_due_twice (Some a) passed lines = twice_of a passed lines (nat_le passed a) refl

above_of : (a passed : ℕ) (b : Bool) → nat_le passed a ≡ b → passed ≤ (if b then a else passed)
above_of a passed true e = leb-true passed a e
above_of a passed false e = omega arith

pub applied_above : (applied : Option ℕ) (passed : ℕ) → passed ≤ applied_to applied passed
applied_above None passed = omega arith
applied_above (Some a) passed = above_of a passed (nat_le passed a) refl
