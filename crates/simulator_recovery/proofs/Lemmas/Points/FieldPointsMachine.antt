-- A point of the machine that a held route requires: no move was given in its connection, or each was reported and it was reported at its side last.
use Rattle.simulator_recovery.proofs.Words.Basics.{◌≡◌, ◌⊎◌, inl, inr, ℕ, zero, suc, ◌+◌, ◌≤◌, Bool, true, false, if◌then◌else◌, List, [], ◌∷◌, ◌++◌, append_assoc, length, Some, None, refl, sym, ap, subst, ◌∙◌, arith, false≢true, length-append}
use Rattle.simulator_recovery.proofs.Words.Machine.{MovesTo, Invariant, IsPointSound, Closes, ComesUp, Enters, Leaves, Opens, QuietEnds, changed_at, is_same, last_of, Machine, is_held, with_point, with_route, AtPoint, AtSignal, Authorises, Ends, Frees, FreesPart, GivesAspect, GivesMove, HoldEnds, May, Move, Restarts, Sets, after, DriveEnds, Hears, IsKnownAt, Point, PointLink, PointMay, PointMove, Position, Reaches, RecountsMoves, RecountsReports, Reports, Side, Takes, heard_next, moves_given, point_after, reports_made, Authorised, Ended, Free, Phase, Waiting, has_authority, MayRun, first, right_rules, run, IsSound, Table}
use Rattle.simulator_recovery.proofs.Words.Recovery.{EachKeeps}
use Rattle.std.proofs.lemmas.List.{append-nil}

-- No move was given in the connection; or there is a report for each, and one more, and the last of them tells this side.
abbrev pub Answers : Side → Point → Type 0
Answers side point = (moves_given point ≡ 0) ⊎ ((length (reports_made point) ≡ moves_given point + 1) × (last_of None (reports_made point) ≡ Some side))

-- so it is of each point that a held route requires
abbrev pub HeldAnswer : Table → Machine → Type 0
HeldAnswer table machine = (route point : ℕ) (side : Side) → is_held machine route ≡ true → table.requires route point side ≡ true → Answers side (machine.points point)

-- ---- a point alone

hears_answers : (coming : List Position) (side : Side) (point : Point) → point.coming ≡ coming → Answers side point → Answers side (heard_next coming point)
hears_answers [] side point are is = is
hears_answers (next ∷ later) side point are (inl none) = inl none
hears_answers (next ∷ later) side point are (inr (all, last)) = inr (ap length same ∙ all, ap (last_of None) same ∙ last)
  where
    same : (point.heard ++ next ∷ []) ++ later ≡ reports_made point
    same = append_assoc point.heard (next ∷ []) later ∙ ap (λ (back : List Position). point.heard ++ back) (sym are)

point_answers : (move : PointMove) (side : Side) (point : Point) → PointMay move point → Answers side point → Answers side (point_after move point)
point_answers (PointLink Opens) side point may is = inl (omega arith)
point_answers (PointLink Enters) side point may is = is
point_answers (PointLink ComesUp) side point may is = is
point_answers (PointLink Closes) side point may is = is
point_answers (PointLink Leaves) side point may is = is
point_answers (PointLink QuietEnds) side point may is = is
point_answers (Takes drives) side point may (inl none) = absurd (omega (arith, may.1, none))
point_answers (Takes drives) side point may (inr (all, last)) = inr (omega (arith, all, may.1), last)
point_answers DriveEnds side point may is = is
point_answers (Reaches position) side point may is = is
point_answers (Reports position) side point may (inl none) = inl none
point_answers (Reports position) side point may (inr (all, last)) = absurd (omega (arith, may.owed, all))
point_answers Hears side point may is = hears_answers point.coming side point refl is
point_answers (RecountsMoves taken flight) side point may (inl none) = inl (may.1 ∙ none)
point_answers (RecountsMoves taken flight) side point may (inr (all, last)) = inr (all ∙ ap (λ (n : ℕ). n + 1) (sym may.1), last)
point_answers (RecountsReports heard coming) side point may (inl none) = inl none
point_answers (RecountsReports heard coming) side point may (inr (all, last)) = inr (ap length may ∙ all, ap (last_of None) may ∙ last)

none_left : (list : List Position) → length list ≤ 0 → list ≡ []
none_left [] few = refl
none_left (one ∷ later) few = absurd (omega (arith, few))

known_answers : (side : Side) (point : Point) → IsPointSound point → IsKnownAt side point → Answers side point
known_answers side point sound known = inr (
  ap (λ (coming : List Position). length (point.heard ++ coming)) none_coming ∙ (ap length (append-nil point.heard) ∙ known.answered),
  ap (λ (coming : List Position). last_of None (point.heard ++ coming)) none_coming ∙ (ap (last_of None) (append-nil point.heard) ∙ known.last),
)
  where
    none_coming : point.coming ≡ []
    none_coming = let given = sound.given in let answered = known.answered in let both = length-append point.heard point.coming in none_left point.coming (omega (arith, given, answered, both))

-- a point that is driven took a move in its connection
abbrev pub HasTaken : Point → Type 0
HasTaken point = point.driven ≡ true → 1 ≤ point.taken

hears_taken : (coming : List Position) (point : Point) → HasTaken point → HasTaken (heard_next coming point)
hears_taken [] point took = took
hears_taken (next ∷ later) point took = took

point_takes : (move : PointMove) (point : Point) → IsPointSound point → PointMay move point → HasTaken point → HasTaken (point_after move point)
point_takes (PointLink Opens) point sound may took = λ drives. absurd (sound.link.quiet may (sound.driver drives))
point_takes (PointLink Enters) point sound may took = took
point_takes (PointLink ComesUp) point sound may took = took
point_takes (PointLink Closes) point sound may took = took
point_takes (PointLink Leaves) point sound may took = λ drives. absurd (false≢true drives)
point_takes (PointLink QuietEnds) point sound may took = took
point_takes (Takes begins) point sound may took = λ drives. omega arith
point_takes DriveEnds point sound may took = λ drives. absurd (false≢true drives)
point_takes (Reaches position) point sound may took = took
point_takes (Reports position) point sound may took = took
point_takes Hears point sound may took = hears_taken point.coming point took
point_takes (RecountsMoves taken flight) point sound may took = λ drives. absurd (cc (sym may.0 ∙ sound.driver drives))
point_takes (RecountsReports heard coming) point sound may took = took

-- one whose moves are answered isn't driven
pub undriven : (side : Side) (point : Point) → IsPointSound point → HasTaken point → Answers side point → point.driven ≡ false
undriven side point sound took answers = choose point.driven refl answers
  where
    choose : (b : Bool) → point.driven ≡ b → Answers side point → point.driven ≡ false
    choose false e is = e
    choose true e (inl none) = let some = took e in absurd (omega (arith, some, none))
    choose true e (inr (all, last)) = let owes = sound.owing e in absurd (omega (arith, owes, all))

-- ---- the machine

same_is : (a b : ℕ) → is_same a b ≡ true → a ≡ b
same_is zero zero e = refl
same_is zero (suc b) e = absurd (cc e)
same_is (suc a) zero e = absurd (cc e)
same_is (suc a) (suc b) e = ap suc (same_is a b e)

at_each : {A : Type 0} (P : ℕ → A → Type 0) (place : ℕ) (new : A) (old : ℕ → A) → P place new → ((n : ℕ) → P n (old n)) → (n : ℕ) → P n (changed_at place new old n)
at_each P place new old here there n = go (is_same n place) refl
  where
    go : (test : Bool) → is_same n place ≡ test → P n (if test then new else old n)
    go true e = subst (λ m. P m new) (sym (same_is n place e)) here
    go false e = there n

held_holding : (machine : Machine) (route : ℕ) → machine.holding ≡ true → is_held machine route ≡ machine.frozen route
held_holding machine route e = ap (λ (test : Bool). if test then machine.frozen route else has_authority (machine.routes route)) e

pub held_resumed : (machine : Machine) (route : ℕ) → machine.holding ≡ false → is_held machine route ≡ has_authority (machine.routes route)
held_resumed machine route e = ap (λ (test : Bool). if test then machine.frozen route else has_authority (machine.routes route)) e

module _ (table : Table) (machine : Machine) (kept : Invariant table machine) (answer : HeldAnswer table machine) where
  at_point : (place : ℕ) (new : Point) → ((route : ℕ) (side : Side) → is_held machine route ≡ true → table.requires route place side ≡ true → Answers side new)
      → HeldAnswer table (with_point place new machine)
  at_point place new so route point side held =
      at_each (λ n p. table.requires route n side ≡ true → Answers side p) place new machine.points (so route side held) (λ n. answer route n side held) point

  routed : (place : ℕ) (phase : Phase) → (has_authority phase ≡ true → (point : ℕ) (side : Side) → table.requires place point side ≡ true → Answers side (machine.points point))
      → HeldAnswer table (with_route place phase machine)
  routed place phase so route point side held = go machine.holding refl
    where
      go : (test : Bool) → machine.holding ≡ test → table.requires route point side ≡ true → Answers side (machine.points point)
      go true e = answer route point side (held_holding machine route e ∙ (sym (held_holding (with_route place phase machine) route e) ∙ held))
      go false e = at_each (λ n p. has_authority p ≡ true → table.requires n point side ≡ true → Answers side (machine.points point)) place phase machine.routes
          (λ authority. so authority point side) (λ n authority. answer n point side (held_resumed machine n e ∙ authority)) route (sym (held_resumed (with_route place phase machine) route e) ∙ held)

  move_answers : (move : Move) → May table machine move → HeldAnswer table (after table machine move)
  move_answers (AtSignal place move) may = answer
  move_answers (AtPoint place move) may = at_point place (point_after move (machine.points place))
      (λ route side held required. point_answers move side (machine.points place) may (answer route place side held required))
  move_answers (GivesMove place) may = at_point place _ (λ route side held required. absurd (may.1 route side held required))
  move_answers (Sets route) may = routed route Waiting (λ authority. absurd (false≢true authority))
  move_answers (Authorises route) may = routed route Authorised (λ authority point side required. known_answers side (machine.points point) (kept.points point) (may.1 point side required))
  move_answers (GivesAspect route) may = answer
  move_answers (Ends route) may = routed route (Ended true) (λ authority. absurd (false≢true authority))
  move_answers (FreesPart route) may = routed route (Ended false) (λ authority. absurd (false≢true authority))
  move_answers (Frees route) may = routed route Free (λ authority. absurd (false≢true authority))
  move_answers Restarts may = λ route point side held required. point_answers (PointLink Closes) side (machine.points point) tt (answer route point side held required)
  move_answers HoldEnds may = λ route point side held required. go machine.holding refl route point side held required
    where
      go : (test : Bool) → machine.holding ≡ test → (route point : ℕ) (side : Side) → has_authority (machine.routes route) ≡ true → table.requires route point side ≡ true
          → Answers side (machine.points point)
      go true e route point side held required = absurd (false≢true (sym (ap has_authority (kept.unset e route)) ∙ held))
      go false e route point side held required = answer route point side (held_resumed machine route e ∙ held) required

-- so it is of each point that it took a move where it is driven
abbrev AllTaken : Machine → Type 0
AllTaken machine = (place : ℕ) → HasTaken (machine.points place)

move_takes : (table : Table) (machine : Machine) → Invariant table machine → (move : Move) → May table machine move → AllTaken machine → AllTaken (after table machine move)
move_takes table machine kept (AtSignal place move) may all = all
move_takes table machine kept (AtPoint place move) may all =
    at_each (λ n p. HasTaken p) place (point_after move (machine.points place)) machine.points (point_takes move (machine.points place) (kept.points place) may (all place)) all
move_takes table machine kept (GivesMove place) may all = at_each (λ n p. HasTaken p) place _ machine.points (all place) all
move_takes table machine kept (Sets route) may all = all
move_takes table machine kept (Authorises route) may all = all
move_takes table machine kept (GivesAspect route) may all = all
move_takes table machine kept (Ends route) may all = all
move_takes table machine kept (FreesPart route) may all = all
move_takes table machine kept (Frees route) may all = all
move_takes table machine kept Restarts may all = λ place. point_takes (PointLink Closes) (machine.points place) (kept.points place) tt (all place)
move_takes table machine kept HoldEnds may all = all

-- ---- every list of moves

-- each move keeps the invariant
run_answers : EachKeeps → (table : Table) → IsSound table → (moves : List Move) (machine : Machine) → Invariant table machine → HeldAnswer table machine → MayRun right_rules table moves machine
    → HeldAnswer table (run right_rules table moves machine)
run_answers each table sound [] machine kept answer may = answer
run_answers each table sound (move ∷ moves) machine kept answer may =
    run_answers each table sound moves (after table machine move) (each table machine move sound kept may.0) (move_answers table machine kept answer move may.0) may.1

pub held_answer : EachKeeps → (table : Table) → IsSound table → (positions : ℕ → Position) → Invariant table (first positions) → (machine : Machine) → MovesTo table (first positions) machine
    → HeldAnswer table machine
held_answer each table sound positions begins machine to = subst (HeldAnswer table) to.leads
    (run_answers each table sound to.moves (first positions) begins (λ route point side held required. absurd (false≢true held)) to.may)

run_takes : EachKeeps → (table : Table) → IsSound table → (moves : List Move) (machine : Machine) → Invariant table machine → AllTaken machine → MayRun right_rules table moves machine
    → AllTaken (run right_rules table moves machine)
run_takes each table sound [] machine kept all may = all
run_takes each table sound (move ∷ moves) machine kept all may =
    run_takes each table sound moves (after table machine move) (each table machine move sound kept may.0) (move_takes table machine kept move may.0 all) may.1

pub all_taken : EachKeeps → (table : Table) → IsSound table → (positions : ℕ → Position) → Invariant table (first positions) → (machine : Machine) → MovesTo table (first positions) machine
    → (place : ℕ) → HasTaken (machine.points place)
all_taken each table sound positions begins machine to = subst AllTaken to.leads (run_takes each table sound to.moves (first positions) begins (λ place drives. absurd (false≢true drives)) to.may)
