-- What the tests of points and sections tell.
use Rattle.simulator_recovery.proofs.Words.Basics.{◌≡◌, ℕ, suc, ◌+◌, ◌<◌, ◌≤◌, ◌==◌, Bool, true, false, ◌&&◌, nat_lt, if◌then◌else◌, refl, arith, false≢true, nat_tests, ◌⊎◌, inl, inr, List, Option, Some, None, slice_get, sym, ap, ◌∙◌, not, contains, AllPass-from_list_all}
use Rattle.simulator_recovery.proofs.Words.Controllers.{Side}
use Rattle.simulator_recovery.proofs.Words.Interlockings.{is_available, is_ready, AllClear, AllKnown, IsClear, Known, is_proceed_due, is_waiting, IxlState, KnownDetectorState, RouteState, Need, Row, Table, at, passes, all_clear, all_known, is_at_known_stop, is_clear, is_known, is_side, is_signal_ready}

-- ---- what numbers are by the tests that they pass, and what is so of either of two

pub is_less : (a b : ℕ) → nat_lt a b ≡ true → a < b
is_less a b e = grind (arith, nat_tests)

pub is_not : (a b : ℕ) → nat_lt a b ≡ false → b ≤ a
is_not a b e = grind (arith, nat_tests)

pub same_number : (a b : ℕ) → (a == b) ≡ true → a ≡ b
same_number a b e = grind (arith, nat_tests)

pub first_true : (a b : Bool) → (a && b) ≡ true → a ≡ true
first_true true b e = refl
first_true false b e = absurd (false≢true e)

pub last_true : (a b : Bool) → (a && b) ≡ true → b ≡ true
last_true true b e = e
last_true false b e = absurd (false≢true e)

pub either : {M : Type 0} (P : M → Type 0) (b : Bool) (x y : M) → (b ≡ true → P x) → P y → P (if b then x else y)
either P true x y one other = one refl
either P false x y one other = other

pub same_true : (n : ℕ) → (n == n) ≡ true
same_true n = grind (arith, nat_tests)

pub none_more : (n : ℕ) → n + 0 ≡ n
none_more n = omega arith

pub one_fewer : (taken left : ℕ) → taken + suc left ≡ (taken + 1) + left
one_fewer taken left = omega arith

-- ---- what the tests of points and sections tell

-- ---- what a list has at a place

pub at_shown : {A : Type 0} (list : List A) (place : ℕ) (test : A → Bool) → at list place test ≡ true → (one : A) × (slice_get list place ≡ Some one) × (test one ≡ true)
unfolding at
at_shown {A} list place test holds = by_found (slice_get list place) refl holds
  where
    by_found : (found : Option A) → slice_get list place ≡ found → passes test found ≡ true → (one : A) × (slice_get list place ≡ Some one) × (test one ≡ true)
    by_found None e f = absurd (false≢true f)
    by_found (Some one) e f = (one, e, f)

pub at_tests : {A : Type 0} (list : List A) (place : ℕ) (test : A → Bool) (one : A) → slice_get list place ≡ Some one → test one ≡ true → at list place test ≡ true
unfolding at
at_tests list place test one e holds = ap (passes test) e ∙ holds

-- ---- points

side_shown : (side : Side) (told : Option Side) → is_side side told ≡ true → told ≡ Some side
side_shown side None e = absurd (false≢true e)
side_shown Side.Right (Some Side.Right) e = refl
side_shown Side.Right (Some Side.Left) e = absurd (false≢true e)
side_shown Side.Left (Some Side.Right) e = absurd (false≢true e)
side_shown Side.Left (Some Side.Left) e = refl

side_tests : (side : Side) (told : Option Side) → told ≡ Some side → is_side side told ≡ true
side_tests Side.Right told e = ap (is_side Side.Right) e
side_tests Side.Left told e = ap (is_side Side.Left) e

known_shown : (ixl : IxlState) (point : ℕ) (side : Side) → is_known ixl point side ≡ true → Known ixl point side
unfolding is_known
known_shown ixl point side e =
    let found = at_shown ixl.known_points point (λ known. is_available known.client.stage && is_side side known.side) e
    in (found.0, found.1, (first_true (is_available found.0.client.stage) (is_side side found.0.side) found.2, side_shown side found.0.side (last_true (is_available found.0.client.stage) (is_side side found.0.side) found.2)))

both : (a b : Bool) → a ≡ true → b ≡ true → (a && b) ≡ true
both true true e f = refl
both true false e f = absurd (false≢true f)
both false b e f = absurd (false≢true e)

known_tests : (ixl : IxlState) (point : ℕ) (side : Side) → Known ixl point side → is_known ixl point side ≡ true
unfolding is_known
known_tests ixl point side is = at_tests ixl.known_points point (λ known. is_available known.client.stage && is_side side known.side) is.0 is.1 (both _ _ is.2.0 (side_tests side is.0.side is.2.1))

-- a point is known at a side, or not
pub known_surely : (ixl : IxlState) (point : ℕ) (side : Side) → ((Known ixl point side → ⊥) → ⊥) → Known ixl point side
known_surely ixl point side never = choose (is_known ixl point side) refl
  where
    choose : (b : Bool) → is_known ixl point side ≡ b → Known ixl point side
    choose true e = known_shown ixl point side e
    choose false e = absurd (never (λ known. false≢true (sym e ∙ known_tests ixl point side known)))

pub known_or_not : (ixl : IxlState) (point : ℕ) (side : Side) → Known ixl point side ⊎ (Known ixl point side → ⊥)
known_or_not ixl point side = choose (is_known ixl point side) refl
  where
    choose : (b : Bool) → is_known ixl point side ≡ b → Known ixl point side ⊎ (Known ixl point side → ⊥)
    choose true e = inl (known_shown ixl point side e)
    choose false e = inr (λ known. false≢true (sym e ∙ known_tests ixl point side known))

pub all_known_shown : (ixl : IxlState) (needs : List Need) → all_known ixl needs ≡ true → AllKnown ixl needs
all_known_shown ixl needs e = λ place other within. known_shown ixl _ _ (AllPass-from_list_all (λ (need : Need). is_known ixl need.point need.side) needs e place other within)

pub known_then : (now : ℕ) (table : Table) (ixl : IxlState) (row : Row) (route : RouteState) → is_proceed_due now table ixl row route ≡ true → AllKnown ixl row.needs
known_then now table ixl row route due = all_known_shown ixl row.needs (third (is_waiting route.phase) (not route.cancelled) (all_known ixl row.needs) (all_clear table ixl row.sections) (is_signal_ready ixl row.entry) (is_at_known_stop now ixl row.entry) due)
  where
    third : (a b c d e f : Bool) → (a && b && c && d && e && f) ≡ true → c ≡ true
    third true true true d e f h = refl
    third true true false d e f h = absurd (false≢true h)
    third true false c d e f h = absurd (false≢true h)
    third false b c d e f h = absurd (false≢true h)

-- ---- sections

not_shown : (b : Bool) → not b ≡ true → b ≡ false
not_shown true e = absurd (false≢true e)
not_shown false e = refl

clear_shown : (table : Table) (ixl : IxlState) (section : ℕ) → is_clear table ixl section ≡ true → IsClear table ixl section
unfolding is_clear
clear_shown table ixl section e =
    let reporter = at_shown table.reporters section (λ (r : ℕ × ℕ). at ixl.detectors r.0 (λ (detector : KnownDetectorState). is_ready detector.client.stage && not (contains detector.occupied r.1))) e
    in let detector = at_shown ixl.detectors reporter.0.0 (λ (detector : KnownDetectorState). is_ready detector.client.stage && not (contains detector.occupied reporter.0.1)) reporter.2
    in (
      reporter.0,
      reporter.1,
      (
        detector.0,
        detector.1,
        (
          first_true (is_ready detector.0.client.stage) (not (contains detector.0.occupied reporter.0.1)) detector.2,
          not_shown (contains detector.0.occupied reporter.0.1) (last_true (is_ready detector.0.client.stage) (not (contains detector.0.occupied reporter.0.1)) detector.2),
        ),
      ),
    )

clear_tests : (table : Table) (ixl : IxlState) (section : ℕ) → IsClear table ixl section → is_clear table ixl section ≡ true
unfolding is_clear
clear_tests table ixl section is = at_tests table.reporters section (λ (r : ℕ × ℕ). at ixl.detectors r.0 (λ (detector : KnownDetectorState). is_ready detector.client.stage && not (contains detector.occupied r.1))) is.0 is.1
    (at_tests ixl.detectors is.0.0 (λ (detector : KnownDetectorState). is_ready detector.client.stage && not (contains detector.occupied is.0.1)) is.2.0 is.2.1 (both _ _ is.2.2.0 (ap not is.2.2.1)))

-- a section is clear, or not
pub clear_surely : (table : Table) (ixl : IxlState) (section : ℕ) → ((IsClear table ixl section → ⊥) → ⊥) → IsClear table ixl section
clear_surely table ixl section never = choose (is_clear table ixl section) refl
  where
    choose : (b : Bool) → is_clear table ixl section ≡ b → IsClear table ixl section
    choose true e = clear_shown table ixl section e
    choose false e = absurd (never (λ clear. false≢true (sym e ∙ clear_tests table ixl section clear)))

pub clear_then : (now : ℕ) (table : Table) (ixl : IxlState) (row : Row) (route : RouteState) → is_proceed_due now table ixl row route ≡ true → AllClear table ixl row.sections
clear_then now table ixl row route due = λ place other within. clear_shown table ixl _ (AllPass-from_list_all (is_clear table ixl) row.sections
    (fourth (is_waiting route.phase) (not route.cancelled) (all_known ixl row.needs) (all_clear table ixl row.sections) (is_signal_ready ixl row.entry) (is_at_known_stop now ixl row.entry) due) place other within)
  where
    fourth : (a b c d e f : Bool) → (a && b && c && d && e && f) ≡ true → d ≡ true
    fourth true true true true e f h = refl
    fourth true true true false e f h = absurd (false≢true h)
    fourth true true false d e f h = absurd (false≢true h)
    fourth true false c d e f h = absurd (false≢true h)
    fourth false b c d e f h = absurd (false≢true h)
