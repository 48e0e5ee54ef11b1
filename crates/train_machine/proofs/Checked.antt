-- What a test tells: the move may be made, and the machine stays small.
use Rattle.std.proofs.Common.{◌≡◌, ℕ, zero, suc, ◌+◌, ◌⊎◌, inl, inr, Bool, true, false, not, nat_le, ◌&&◌, ◌||◌, List, [], ◌∷◌, Option, Some, None, refl, sym, ap, subst, ◌∙◌, arith}
use Rattle.std.proofs.lemmas.Bool.{leb-true}
use Rattle.std.specs.Prelude.{◌≢◌, if◌then◌else◌}
use Rattle.train_machine.specs.Lists.{is_same, changed_at, IsOf, without_last}
use Rattle.train_machine.specs.Track.{Side, Left, Right, Track, path}
use Rattle.train_machine.specs.Train.{Under, Nothing, Throat, OnRoute, Train, is_throat, is_in}
use Rattle.train_machine.specs.Section.{Belief, Unknown, Occupied, Clear, Told, Late, Awaited, Came, Gone, is_clear, is_unheard, is_gone, News, Lost, Old, IsOccupied, IsLeft, belief_told, section_entered, section_told}
use Rattle.train_machine.specs.Route.{Phase, Free, Waiting, Proceeding, Withdrawn, Ended, Route, free_route, is_given, withdrawn_phase}
use Rattle.train_machine.specs.Machine.{report_time, lamp_time, Point, Pass, Never, At, Past, Machine, IsIn, with_route, with_train}
use Rattle.train_machine.specs.Moves.{Move, Enters, Passes, Goes, Follows, Turns, Hears, Sets, Authorises, Withdraws, Ends, FreesSection, FreesCancelled, Frees, GivesMove, Steps, Resumes, Acts, Time, IsLed, HasHeadway, MayBeOld, AreFresh, MayFree, May, phase_told, told, come, entering, passed, later_way, followed, turned_train, set_route, authorised, withdrawn, after}
use Rattle.train_machine.proofs.Lists.{same_self, same_is, different, at_each, elsewhere}
use Rattle.train_machine.proofs.Checks.{is_below, all, trains, fours, with_front, is_empty, same_side, is_some, is_none, is_at, may_be_at, is_nothing, is_free_phase, is_waiting, is_withdrawn, is_ended, has_headway, may_be_old, by_leg, stands_for, joins, is_nobody_in, is_unclaimed_by, is_unclaimed, is_unheld, is_fresh_or_unclear, is_fresh, was_entered, is_over, is_unguarded, Can}

-- ---- tests

pub and_left : (a b : Bool) → (a && b) ≡ true → a ≡ true
and_left true b e = refl
and_left false b e = absurd (cc (e))

pub and_right : (a b : Bool) → (a && b) ≡ true → b ≡ true
and_right true b e = e
and_right false b e = absurd (cc (e))

-- not the first, or the second
either : (a b : Bool) → (not a || b) ≡ true → a ≡ true → b ≡ true
either true b e at = e
either false b e at = absurd (cc (at))

pub never : (a : Bool) → not a ≡ true → a ≡ true → ⊥
never true e at = cc (e)
never false e at = cc (at)

one_of : (a b : Bool) → (a || b) ≡ true → (a ≡ true) ⊎ (b ≡ true)
one_of true b e = inl refl
one_of false b e = inr e

false_of : (a : Bool) → not a ≡ true → a ≡ false
false_of true e = absurd (cc (e))
false_of false e = refl

pub all_is : (list : List ℕ) (test : ℕ → Bool) → all list test ≡ true → (n : ℕ) → IsOf n list → test n ≡ true
all_is [] test e n of = absurd of
all_is (first ∷ later) test e n (inl same) = subst (λ (m : ℕ). test m ≡ true) same (and_left (test first) (all later test) e)
all_is (first ∷ later) test e n (inr of) = all_is later test (and_right (test first) (all later test) e) n of

trains_are : (test : ℕ → Bool) → trains test ≡ true → ((n : ℕ) → test (suc (suc (suc n))) ≡ true) → (n : ℕ) → test n ≡ true
trains_are test e rest zero = and_left (test 0) (test 1 && test 2) e
trains_are test e rest (suc zero) = and_left (test 1) (test 2) (and_right (test 0) (test 1 && test 2) e)
trains_are test e rest (suc (suc zero)) = and_right (test 1) (test 2) (and_right (test 0) (test 1 && test 2) e)
trains_are test e rest (suc (suc (suc n))) = rest n

fours_are : (test : ℕ → Bool) → fours test ≡ true → ((n : ℕ) → test (suc (suc (suc (suc n)))) ≡ true) → (n : ℕ) → test n ≡ true
fours_are test e rest zero = and_left (test 0) (test 1 && (test 2 && test 3)) e
fours_are test e rest (suc zero) = and_left (test 1) (test 2 && test 3) (and_right (test 0) (test 1 && (test 2 && test 3)) e)
fours_are test e rest (suc (suc zero)) = and_left (test 2) (test 3) (and_right (test 1) (test 2 && test 3) (and_right (test 0) (test 1 && (test 2 && test 3)) e))
fours_are test e rest (suc (suc (suc zero))) = and_right (test 2) (test 3) (and_right (test 1) (test 2 && test 3) (and_right (test 0) (test 1 && (test 2 && test 3)) e))
fours_are test e rest (suc (suc (suc (suc n)))) = rest n

front_is : (places : List ℕ) (test : ℕ → Bool) → with_front places test ≡ true → (front : ℕ) × (rear : List ℕ) × (places ≡ front ∷ rear) × (test front ≡ true)
front_is [] test e = absurd (cc (e))
front_is (front ∷ rear) test e = (front, rear, refl, e)

empty_is : (list : List ℕ) → is_empty list ≡ true → list ≡ []
empty_is [] e = refl
empty_is (first ∷ later) e = absurd (cc (e))

side_is : (a b : Side) → same_side a b ≡ true → a ≡ b
side_is Left Left e = refl
side_is Left Right e = absurd (cc (e))
side_is Right Left e = absurd (cc (e))
side_is Right Right e = refl

some_is : (n : ℕ) (option : Option ℕ) → is_some n option ≡ true → option ≡ Some n
some_is n None e = absurd (cc (e))
some_is n (Some m) e = ap Some (same_is m n e)

pub none_is : (option : Option ℕ) → is_none option ≡ true → option ≡ None
none_is None e = refl
none_is (Some n) e = absurd (cc (e))

at_is : (side : Side) (lies : Option Side) → is_at side lies ≡ true → lies ≡ Some side
at_is side None e = absurd (cc (e))
at_is side (Some other) e = ap Some (side_is other side e)

may_at : (side : Side) (lies : Option Side) → may_be_at side lies ≡ true → (other : Side) → lies ≡ Some other → other ≡ side
may_at side None e other at = absurd (cc (at))
may_at side (Some there) e other at = cc (at, side_is there side e)

nothing_is : (under : Under) → not (is_nothing under) ≡ true → under ≢ Nothing
nothing_is Nothing e same = cc (e)
nothing_is (Throat border) e same = cc (same)
nothing_is (OnRoute route) e same = cc (same)

free_is : (phase : Phase) → is_free_phase phase ≡ true → phase ≡ Free
free_is Free e = refl
free_is Waiting e = absurd (cc (e))
free_is Proceeding e = absurd (cc (e))
free_is Withdrawn e = absurd (cc (e))
free_is Ended e = absurd (cc (e))

waiting_is : (phase : Phase) → is_waiting phase ≡ true → phase ≡ Waiting
waiting_is Free e = absurd (cc (e))
waiting_is Waiting e = refl
waiting_is Proceeding e = absurd (cc (e))
waiting_is Withdrawn e = absurd (cc (e))
waiting_is Ended e = absurd (cc (e))

ended_is : (phase : Phase) → is_ended phase ≡ true → phase ≡ Ended
ended_is Free e = absurd (cc (e))
ended_is Waiting e = absurd (cc (e))
ended_is Proceeding e = absurd (cc (e))
ended_is Withdrawn e = absurd (cc (e))
ended_is Ended e = refl

clear_is : (belief : Belief) → is_clear belief ≡ true → belief ≡ Clear
clear_is Unknown e = absurd (cc (e))
clear_is Occupied e = absurd (cc (e))
clear_is Clear e = refl

headway_is : (now : ℕ) (pass : Pass) → has_headway now pass ≡ true → HasHeadway now pass
headway_is now Never e = tt
headway_is now (At reading) e = absurd (cc (e))
headway_is now (Past time) e = leb-true (time + lamp_time) now e

old_is : (told : Told) (belief : Belief) → may_be_old told belief ≡ true → MayBeOld told belief
old_is Late belief e = tt
old_is Awaited Unknown e = tt
old_is Awaited Occupied e = absurd (cc (e))
old_is Awaited Clear e = tt
old_is Came belief e = absurd (cc (e))
old_is Gone belief e = absurd (cc (e))

gone_not : (told : Told) → not (is_gone told) ≡ true → told ≢ Gone
gone_not told e gone = cc (ap (λ t. not (is_gone t)) gone, e)

clear_not : (belief : Belief) → not (is_clear belief) ≡ true → belief ≢ Clear
clear_not belief e clear = cc (ap (λ b. not (is_clear b)) clear, e)

leg_is : (over : Option ℕ) (facing : Bool) (points : ℕ → Point) (leg : Side) → by_leg over facing points leg ≡ true
    → (point : ℕ) (side : Side) → over ≡ Some point → facing ≡ true → (points point).lies ≡ Some side → side ≡ leg
leg_is None facing points leg e point side over at lies = absurd (cc (over))
leg_is (Some there) false points leg e point side over at lies = absurd (cc (at))
leg_is (Some there) true points leg e point side over at lies =
    may_at leg (points there).lies e side (ap (λ o. (points (some_or o)).lies) over ∙ lies)
  where
    some_or : Option ℕ → ℕ
    some_or None = 0
    some_or (Some n) = n

stands_lies : (over : Option ℕ) (points : ℕ → Point) (leg : Side) → stands_for over points leg ≡ true → (point : ℕ) → over ≡ Some point
    → ((points point).lies ≡ Some leg) × ((points point).moves ≡ false)
stands_lies None points leg e point over = absurd (cc (over))
stands_lies (Some there) points leg e point over =
    subst (λ (n : ℕ). ((points n).lies ≡ Some leg) × ((points n).moves ≡ false)) (some_same there point over) (
      at_is leg (points there).lies (and_left (is_at leg (points there).lies) (not (points there).moves) e),
      false_of (points there).moves (and_right (is_at leg (points there).lies) (not (points there).moves) e),
    )
  where
    some_same : (a b : ℕ) → Some a ≡ Some b → a ≡ b
    some_same a b e = cc (e)

-- Three trains, and four sections and routes are in use.
pub record IsSmall (machine : Machine) : Type 0 where
  pub absent : (n : ℕ) → (machine.trains (suc (suc (suc n)))).places ≡ []
  pub loose : (n : ℕ) → (machine.trains (suc (suc (suc n)))).under ≡ Nothing
  pub told : (n : ℕ) → (machine.sections (suc (suc (suc (suc n))))).told ≡ Came
  pub entered : (n : ℕ) → (machine.sections (suc (suc (suc (suc n))))).entered ≡ 0
  pub unset : (n section : ℕ) → (machine.routes (suc (suc (suc (suc n))))).holds section ≡ false
  pub free : (n : ℕ) → (machine.routes (suc (suc (suc (suc n))))).phase ≡ Free
  pub unheld : (route n : ℕ) → (machine.routes route).holds (suc (suc (suc (suc n)))) ≡ false

module _ (track : Track) (machine : Machine) (small : IsSmall machine) where
  nobody : (section : ℕ) → is_nobody_in track machine section ≡ true → (train : ℕ) → IsIn track machine train section → ⊥
  nobody section e train = never (is_in track section (machine.trains train).places) (trains_are (λ train. not (is_in track section (machine.trains train).places)) e
      (λ n. ap (λ l. not (is_in track section l)) (small.absent n)) train)

  unclaimed : (section : ℕ) → is_unclaimed track machine section ≡ true → (train from ahead : ℕ) → (machine.trains train).under ≡ Throat from
      → IsOf ahead (machine.trains train).way → track.section ahead ≢ section
  unclaimed section e train from ahead under of same =
      never (is_same (track.section ahead) section) (all_is (machine.trains train).way (λ ahead. not (is_same (track.section ahead) section))
      (either (is_throat (machine.trains train).under) (all (machine.trains train).way (λ ahead. not (is_same (track.section ahead) section)))
      (trains_are (is_unclaimed_by track machine section) e
      (λ n. ap (λ u. not (is_throat u) || all (machine.trains (suc (suc (suc n)))).way (λ ahead. not (is_same (track.section ahead) section))) (small.loose n)) train)
      (ap is_throat under)) ahead of) (subst (λ (n : ℕ). is_same (track.section ahead) n ≡ true) same (same_self (track.section ahead)))

  unheld : (section : ℕ) → is_unheld machine section ≡ true → (route : ℕ) → (machine.routes route).holds section ≡ true → ⊥
  unheld section e route = never ((machine.routes route).holds section)
      (fours_are (λ route. not ((machine.routes route).holds section)) e (λ n. ap not (small.unset n section)) route)

  fresh : fours (is_fresh machine) ≡ true → AreFresh machine
  fresh e section unheard clear =
      leb-true (suc machine.clock) ((machine.sections section).entered + report_time)
      (either (is_clear (machine.sections section).belief) (is_below machine.clock ((machine.sections section).entered + report_time))
      (either (is_unheard (machine.sections section).told) (is_fresh_or_unclear machine.clock (machine.sections section)) (fours_are (is_fresh machine) e
      (λ n. ap (λ t. not (is_unheard t) || is_fresh_or_unclear machine.clock (machine.sections (suc (suc (suc (suc n)))))) (small.told n)) section) unheard) (ap is_clear clear))

  led : (front place : ℕ) → joins track machine place front ≡ true → IsLed track machine front place
  led front place e = record {
    joined = and_left (track.follows front place) (by_leg (track.point place) (track.is_facing place) machine.points (track.leg place)) e;
    by_leg = leg_is (track.point place) (track.is_facing place) machine.points (track.leg place)
        (and_right (track.follows front place) (by_leg (track.point place) (track.is_facing place) machine.points (track.leg place)) e);
  }

  pub can_may : (move : Move) → Can track machine move → May track machine move
  can_may (Enters train border) e = record {
    absent = empty_is (machine.trains train).places e.1;
    empty = λ place other of. nobody (track.section place) (all_is (track.throat border) (λ place. is_nobody_in track machine (track.section place)) e.3 place of) other;
    unclaimed = λ place other from ahead of. unclaimed (track.section place)
        (all_is (track.throat border) (λ place. is_unclaimed track machine (track.section place)) e.4 place of) other from ahead;
    unheld = λ place route of. unheld (track.section place) (all_is (track.throat border) (λ place. is_unheld machine (track.section place)) e.5 place of) route;
  }
  can_may (Passes train route place) e =
      let at = front_is (machine.trains train).places (λ front. joins track machine place front && is_some (track.entry route) (track.signal front)) e.3 in record {
        front = at.0;
        at_front = record { rear = at.1; stands = at.2 };
        led = led at.0 place (and_left (joins track machine place at.0) (is_some (track.entry route) (track.signal at.0)) at.3);
        before = some_is (track.entry route) (track.signal at.0) (and_right (joins track machine place at.0) (is_some (track.entry route) (track.signal at.0)) at.3);
        shown = e.4;
        dark = λ withdrawn. leb-true (suc machine.now) ((machine.routes route).withdrawn_at + lamp_time)
            (either (is_withdrawn (machine.routes route).phase) (is_below machine.now ((machine.routes route).withdrawn_at + lamp_time)) e.5 (ap is_withdrawn withdrawn));
        headway = headway_is machine.now (machine.passes (track.entry route)) e.6;
      }
  can_may (Goes train place) e =
      let at = front_is (machine.trains train).places (λ front. joins track machine place front && is_none (track.signal front)) e.2 in record {
        front = at.0;
        at_front = record { rear = at.1; stands = at.2 };
        led = led at.0 place (and_left (joins track machine place at.0) (is_none (track.signal at.0)) at.3);
        unsignalled = none_is (track.signal at.0) (and_right (joins track machine place at.0) (is_none (track.signal at.0)) at.3);
        let_go = nothing_is (machine.trains train).under e.3;
      }
  can_may (Follows train) e = tt
  can_may (Turns train) e = tt
  can_may (Hears section Lost) e = tt
  can_may (Hears section (Old belief)) e = old_is (machine.sections section).told belief e.1
  can_may (Hears section IsOccupied) e = gone_not (machine.sections section).told e.1
  can_may (Hears section IsLeft) e = (
    nobody section e.1,
    λ unheard. clear_not (machine.sections section).belief
        (either (is_unheard (machine.sections section).told) (not (is_clear (machine.sections section).belief)) e.2 unheard),
  )
  can_may (Sets route) e = record {
    fresh = fresh e.1;
    free = free_is (machine.routes route).phase e.2;
    clear = λ place of. clear_is (machine.sections (track.section place)).belief
        (all_is (path track route) (λ place. is_clear (machine.sections (track.section place)).belief) e.4 place of);
    unheld = λ place other of. unheld (track.section place) (all_is (path track route) (λ place. is_unheld machine (track.section place)) e.5 place of) other;
    entered = λ place of inlet. leb-true ((machine.sections (track.section place)).entered + report_time) machine.clock
        (either (machine.sections (track.section place)).inlet (was_entered machine (track.section place))
        (all_is (path track route) (λ place. not (machine.sections (track.section place)).inlet || was_entered machine (track.section place)) e.6 place of) inlet);
    unclaimed = λ place train from ahead of. unclaimed (track.section place)
        (all_is (path track route) (λ place. is_unclaimed track machine (track.section place)) e.7 place of) train from ahead;
  }
  can_may (Authorises route) e = record {
    waiting = waiting_is (machine.routes route).phase e.1;
    clear = λ place of. clear_is (machine.sections (track.section place)).belief
        (all_is (path track route) (λ place. is_clear (machine.sections (track.section place)).belief) e.2 place of);
    stands = λ place point of over. (stands_lies (track.point place) machine.points (track.leg place)
        (all_is (path track route) (λ place. stands_for (track.point place) machine.points (track.leg place)) e.3 place of) point over).0;
    undriven = λ place point of over. (stands_lies (track.point place) machine.points (track.leg place)
        (all_is (path track route) (λ place. stands_for (track.point place) machine.points (track.leg place)) e.3 place of) point over).1;
  }
  can_may (Withdraws route) e = tt
  can_may (Ends route) e = e.1
  can_may (FreesSection route section) e = record {
    ended = ended_is (machine.routes route).phase e.1;
    seen = e.2;
    clear = clear_is (machine.sections section).belief e.3;
  }
  can_may (FreesCancelled route) e = record {
    fresh = fresh e.1;
    ended = ended_is (machine.routes route).phase e.2;
    over = leb-true ((machine.routes route).ended + report_time) machine.clock e.3;
    unseen = λ place of. false_of ((machine.routes route).seen (track.section place))
        (all_is (path track route) (λ place. not ((machine.routes route).seen (track.section place))) e.4 place of);
    clear = λ place of. clear_is (machine.sections (track.section place)).belief
        (all_is (path track route) (λ place. is_clear (machine.sections (track.section place)).belief) e.5 place of);
    since = λ place of. leb-true ((machine.sections (track.section place)).since + report_time) machine.clock
        (all_is (path track route) (λ place. nat_le ((machine.sections (track.section place)).since + report_time) machine.clock) e.6 place of);
  }
  can_may (Frees route) e = go (one_of (is_waiting (machine.routes route).phase)
      (is_ended (machine.routes route).phase && fours (λ section. not ((machine.routes route).holds section))) e.1)
    where
      go : (is_waiting (machine.routes route).phase ≡ true) ⊎ ((is_ended (machine.routes route).phase && fours (λ section. not ((machine.routes route).holds section))) ≡ true)
          → MayFree (machine.routes route)
      go (inl waiting) = inl (waiting_is (machine.routes route).phase waiting)
      go (inr ended) = inr (
        ended_is (machine.routes route).phase (and_left (is_ended (machine.routes route).phase) (fours (λ section. not ((machine.routes route).holds section))) ended),
        (λ section. never ((machine.routes route).holds section) (fours_are (λ section. not ((machine.routes route).holds section))
            (and_right (is_ended (machine.routes route).phase) (fours (λ section. not ((machine.routes route).holds section))) ended)
            (λ n. ap not (small.unheld route n)) section)),
      )
  can_may (GivesMove point) e = record {
    fresh = fresh e.0;
    clear = clear_is (machine.sections (track.own point)).belief e.1;
    unheld = λ route place given of over. never ((machine.routes route).holds (track.section place))
        (either (is_some point (track.point place)) (not ((machine.routes route).holds (track.section place)))
        (all_is (path track route) (is_over track machine point route)
        (either (is_given (machine.routes route).phase) (all (path track route) (is_over track machine point route))
        (fours_are (is_unguarded track machine point) e.2
        (λ n. ap (λ p. not (is_given p) || all (path track (suc (suc (suc (suc n))))) (is_over track machine point (suc (suc (suc (suc n)))))) (small.free n)) route) given) place of)
        (ap (is_some point) over ∙ same_self point));
  }
  can_may Steps e = fresh e
  can_may Resumes e = λ section.
      leb-true ((machine.sections section).entered + report_time) machine.clock
      (fours_are (was_entered machine) e.1 (λ n. ap (λ t. nat_le (t + report_time) machine.clock) (small.entered n) ∙ e.0) section)
  can_may (Acts point lies moves) e = e
  can_may (Time now clock) e = (leb-true machine.now now e.0, leb-true machine.clock clock e.1)

-- ---- a small machine stays small

apart3 : (i n : ℕ) → is_below i 3 ≡ true → suc (suc (suc n)) ≢ i
apart3 i n e same = let low = leb-true (suc i) 3 e in omega (arith, low, same)

apart4 : (i n : ℕ) → is_below i 4 ≡ true → suc (suc (suc (suc n))) ≢ i
apart4 i n e same = let low = leb-true (suc i) 4 e in omega (arith, low, same)

in_below : (track : Track) (places : List ℕ) → all places (λ place. is_below (track.section place) 4) ≡ true → (n : ℕ) → is_in track (suc (suc (suc (suc n)))) places ≡ false
in_below track [] e n = refl
in_below track (first ∷ later) e n =
    neither (is_same (track.section first) (suc (suc (suc (suc n))))) (is_in track (suc (suc (suc (suc n)))) later)
    (different (track.section first) (suc (suc (suc (suc n))))
    (λ same. apart4 (track.section first) n (and_left (is_below (track.section first) 4) (all later (λ place. is_below (track.section place) 4)) e) (sym same)))
    (in_below track later (and_right (is_below (track.section first) 4) (all later (λ place. is_below (track.section place) 4)) e) n)
  where
    neither : (a b : Bool) → a ≡ false → b ≡ false → (a || b) ≡ false
    neither a b ea eb = cc (ap (λ t. t || b) ea, eb)

free_stays : (holds : Bool) (belief : Belief) (phase : Phase) → phase ≡ Free → phase_told holds belief phase ≡ Free
free_stays false belief phase free = free
free_stays true Unknown phase free = ap withdrawn_phase free
free_stays true Occupied phase free = ap withdrawn_phase free
free_stays true Clear phase free = free

-- the numbers of a move are those of a small station
abbrev pub IsWithin : Track → Move → Type 0
IsWithin track (Enters train border) = (is_below train 3 ≡ true) × (all (track.throat border) (λ place. is_below (track.section place) 4) ≡ true)
IsWithin track (Passes train route place) = (is_below train 3 ≡ true) × (is_below route 4 ≡ true) × (is_below (track.section place) 4 ≡ true)
IsWithin track (Goes train place) = (is_below train 3 ≡ true) × (is_below (track.section place) 4 ≡ true)
IsWithin track (Follows train) = is_below train 3 ≡ true
IsWithin track (Turns train) = is_below train 3 ≡ true
IsWithin track (Hears section news) = is_below section 4 ≡ true
IsWithin track (Sets route) = (is_below route 4 ≡ true) × (all (path track route) (λ place. is_below (track.section place) 4) ≡ true)
IsWithin track (Authorises route) = is_below route 4 ≡ true
IsWithin track (Withdraws route) = is_below route 4 ≡ true
IsWithin track (Ends route) = is_below route 4 ≡ true
IsWithin track (FreesSection route section) = is_below route 4 ≡ true
IsWithin track (FreesCancelled route) = is_below route 4 ≡ true
IsWithin track (Frees route) = is_below route 4 ≡ true
IsWithin track (GivesMove point) = Unit {0}
IsWithin track Steps = Unit {0}
IsWithin track Resumes = Unit {0}
IsWithin track (Acts point lies moves) = Unit {0}
IsWithin track (Time now clock) = Unit {0}

pub within : (track : Track) (machine : Machine) (move : Move) → Can track machine move → IsWithin track move
within track machine (Enters train border) e = (e.0, e.2)
within track machine (Passes train route place) e = (e.0, e.1, e.2)
within track machine (Goes train place) e = (e.0, e.1)
within track machine (Follows train) e = e
within track machine (Turns train) e = e
within track machine (Hears section Lost) e = e
within track machine (Hears section (Old belief)) e = e.0
within track machine (Hears section IsOccupied) e = e.0
within track machine (Hears section IsLeft) e = e.0
within track machine (Sets route) e = (e.0, e.3)
within track machine (Authorises route) e = e.0
within track machine (Withdraws route) e = e
within track machine (Ends route) e = e.0
within track machine (FreesSection route section) e = e.0
within track machine (FreesCancelled route) e = e.0
within track machine (Frees route) e = e.0
within track machine (GivesMove point) e = tt
within track machine Steps e = tt
within track machine Resumes e = tt
within track machine (Acts point lies moves) e = tt
within track machine (Time now clock) e = tt

module _ (machine : Machine) (small : IsSmall machine) where
  -- one train, or one route, changes
  train_small : (number : ℕ) (new : Train) → is_below number 3 ≡ true → IsSmall (with_train number new machine)
  train_small number new low = record {
    absent = λ n. ap (λ t. t.places) (elsewhere number new machine.trains (suc (suc (suc n))) (apart3 number n low)) ∙ small.absent n;
    loose = λ n. ap (λ t. t.under) (elsewhere number new machine.trains (suc (suc (suc n))) (apart3 number n low)) ∙ small.loose n;
    told = small.told;
    entered = small.entered;
    unset = small.unset;
    free = small.free;
    unheld = small.unheld;
  }

  route_small : (number : ℕ) (new : Route) → is_below number 4 ≡ true → ((n : ℕ) → new.holds (suc (suc (suc (suc n)))) ≡ false) → IsSmall (with_route number new machine)
  route_small number new low unheld = record {
    absent = small.absent;
    loose = small.loose;
    told = small.told;
    entered = small.entered;
    unset = λ n section. ap (λ r. r.holds section) (elsewhere number new machine.routes (suc (suc (suc (suc n)))) (apart4 number n low)) ∙ small.unset n section;
    free = λ n. ap (λ r. r.phase) (elsewhere number new machine.routes (suc (suc (suc (suc n)))) (apart4 number n low)) ∙ small.free n;
    unheld = λ route n. at_each (λ m r. r.holds (suc (suc (suc (suc n)))) ≡ false) number new machine.routes (unheld n) (λ m differs. small.unheld m n) route;
  }

  come_small : (track : Track) (train place : ℕ) (under : Under) (way : List ℕ) → is_below train 3 ≡ true → is_below (track.section place) 4 ≡ true
      → IsSmall (come track train place under way machine)
  come_small track train place under way low low_section = go (is_in track (track.section place) (machine.trains train).places)
    where
      go : (test : Bool) → IsSmall (record machine {
        trains = changed_at train (record { places = place ∷ (machine.trains train).places; under = under; way = way }) machine.trains;
        sections = if test then machine.sections
            else changed_at (track.section place) (section_entered (is_throat under) machine.clock (machine.sections (track.section place))) machine.sections;
      })
      go true = let old = train_small train (record { places = place ∷ (machine.trains train).places; under = under; way = way }) low
          in record { absent = old.absent; loose = old.loose; told = small.told; entered = small.entered; unset = small.unset; free = small.free; unheld = small.unheld }
      go false = let old = train_small train (record { places = place ∷ (machine.trains train).places; under = under; way = way }) low in record {
        absent = old.absent;
        loose = old.loose;
        told = λ n. ap (λ s. s.told) (elsewhere (track.section place) (section_entered (is_throat under) machine.clock (machine.sections (track.section place))) machine.sections
            (suc (suc (suc (suc n)))) (apart4 (track.section place) n low_section)) ∙ small.told n;
        entered = λ n. ap (λ s. s.entered) (elsewhere (track.section place) (section_entered (is_throat under) machine.clock (machine.sections (track.section place))) machine.sections
            (suc (suc (suc (suc n)))) (apart4 (track.section place) n low_section)) ∙ small.entered n;
        unset = small.unset;
        free = small.free;
        unheld = small.unheld;
      }

  pub told_small : (section : ℕ) (news : News) → is_below section 4 ≡ true → IsSmall (told section news machine)
  told_small section news low = record {
    absent = small.absent;
    loose = small.loose;
    told = λ n. ap (λ s. s.told) (elsewhere section (section_told machine.clock news (machine.sections section)) machine.sections (suc (suc (suc (suc n)))) (apart4 section n low)) ∙ small.told n;
    entered = λ n. ap (λ s. s.entered) (elsewhere section (section_told machine.clock news (machine.sections section)) machine.sections (suc (suc (suc (suc n)))) (apart4 section n low)) ∙ small.entered n;
    unset = small.unset;
    free = λ n. free_stays ((machine.routes (suc (suc (suc (suc n))))).holds section) (belief_told news) (machine.routes (suc (suc (suc (suc n))))).phase (small.free n);
    unheld = small.unheld;
  }

-- the owner of a route, and passes, are of no account
passed_small : (track : Track) (train route : ℕ) (machine : Machine) → IsSmall machine → is_below route 4 ≡ true → IsSmall (passed track train route machine)
passed_small track train route machine small low =
    let old = route_small machine small route (record (machine.routes route) { owner = Some train }) low (small.unheld route) in record {
      absent = old.absent;
      loose = old.loose;
      told = old.told;
      entered = old.entered;
      unset = old.unset;
      free = old.free;
      unheld = old.unheld;
    }

entering_small : (track : Track) (train border : ℕ) (machine : Machine) → IsSmall machine → is_below train 3 ≡ true → (throat : List ℕ)
    → all throat (λ place. is_below (track.section place) 4) ≡ true → IsSmall (entering track train border throat machine)
entering_small track train border machine small low [] e = small
entering_small track train border machine small low (place ∷ way) e =
    come_small machine small track train place (Throat border) way low (and_left (is_below (track.section place) 4) (all way (λ place. is_below (track.section place) 4)) e)

freed_holds : (holds : ℕ → Bool) (section n : ℕ) → holds n ≡ false → changed_at section false holds n ≡ false
freed_holds holds section n e = at_each (λ m h. holds m ≡ false → h ≡ false) section false holds (λ f. refl) (λ m differs f. f) n e

pub small_kept : (track : Track) (machine : Machine) → IsSmall machine → (move : Move) → IsWithin track move → IsSmall (after track machine move)
small_kept track machine small (Enters train border) e = entering_small track train border machine small e.0 (track.throat border) e.1
small_kept track machine small (Passes train route place) e =
    come_small (passed track train route machine) (passed_small track train route machine small e.1) track train place (OnRoute route) (track.later route) e.0 e.2
small_kept track machine small (Goes train place) e =
    come_small machine small track train place (machine.trains train).under (later_way (machine.trains train).way) e.0 e.1
small_kept track machine small (Follows train) e = train_small machine small train (followed (without_last (machine.trains train).places) (machine.trains train)) e
small_kept track machine small (Turns train) e = train_small machine small train (turned_train track (machine.trains train)) e
small_kept track machine small (Hears section news) e = told_small machine small section news e
small_kept track machine small (Sets route) e = route_small machine small route (set_route track route) e.0 (in_below track (path track route) e.1)
small_kept track machine small (Authorises route) e = route_small machine small route (authorised (machine.routes route)) e (small.unheld route)
small_kept track machine small (Withdraws route) e = route_small machine small route (withdrawn machine.now (machine.routes route)) e (small.unheld route)
small_kept track machine small (Ends route) e = route_small machine small route (record (machine.routes route) { phase = Ended; ended = machine.clock }) e (small.unheld route)
small_kept track machine small (FreesSection route section) e =
    route_small machine small route (record (machine.routes route) { holds = changed_at section false (machine.routes route).holds }) e
    (λ n. freed_holds (machine.routes route).holds section (suc (suc (suc (suc n)))) (small.unheld route n))
small_kept track machine small (FreesCancelled route) e = route_small machine small route free_route e (λ n. refl)
small_kept track machine small (Frees route) e = route_small machine small route free_route e (λ n. refl)
small_kept track machine small (GivesMove point) e = record {
  absent = small.absent;
  loose = small.loose;
  told = small.told;
  entered = small.entered;
  unset = small.unset;
  free = small.free;
  unheld = small.unheld;
}
small_kept track machine small Steps e = record {
  absent = small.absent;
  loose = small.loose;
  told = small.told;
  entered = small.entered;
  unset = small.unset;
  free = small.free;
  unheld = small.unheld;
}
small_kept track machine small Resumes e = record {
  absent = small.absent;
  loose = λ n. refl;
  told = small.told;
  entered = small.entered;
  unset = λ n section. refl;
  free = λ n. refl;
  unheld = λ route n. refl;
}
small_kept track machine small (Acts point lies moves) e = record {
  absent = small.absent;
  loose = small.loose;
  told = small.told;
  entered = small.entered;
  unset = small.unset;
  free = small.free;
  unheld = small.unheld;
}
small_kept track machine small (Time now clock) e = record {
  absent = small.absent;
  loose = small.loose;
  told = small.told;
  entered = small.entered;
  unset = small.unset;
  free = small.free;
  unheld = small.unheld;
}
