-- The invariant is kept where a point is given a move or goes on, where the interlocking makes a step, and where time
-- passes.
use Rattle.std.proofs.Common.{◌≡◌, ℕ, ◌≤◌, ◌<◌, ◌+◌, ◌⊎◌, inl, inr, Bool, true, false, nat_le, Option, Some, refl, ap, subst, arith}
use Rattle.std.proofs.lemmas.Bool.{leb-true}
use Rattle.std.specs.Prelude.{if◌then◌else◌}
use Rattle.train_machine.specs.Lists.{changed_at, IsOf}
use Rattle.train_machine.specs.Track.{Side, Track, IsSound, path}
use Rattle.train_machine.specs.Section.{Clear, Awaited, Gone, is_unheard}
use Rattle.train_machine.specs.Route.{Proceeding, is_given, is_whole}
use Rattle.train_machine.specs.Machine.{report_time, Point, Pass, Never, At, Past, Machine, IsOn, with_point}
use Rattle.train_machine.specs.Promise.{StandsAt}
use Rattle.train_machine.specs.Moves.{AreFresh, MayGiveMove, pass_stepped}
use Rattle.train_machine.specs.Invariant.{IsOnce, IsRouteSound, HoldsPoint, Invariant}
use Rattle.train_machine.proofs.Lists.{at_each, has_in}
use Rattle.train_machine.proofs.Routes.{told_clear}
use Rattle.train_machine.proofs.Carried.{Carries, carried_kept}

module _ (track : Track) (machine : Machine) (kept : Invariant track machine) where
  -- all but the points and the times stays
  plain : (points : ℕ → Point) (passes : ℕ → Pass) (now clock : ℕ)
      → ((route : ℕ) → IsRouteSound track machine.sections points passes now route (machine.routes route))
      → ((train place point : ℕ) → IsOn machine train place → track.point place ≡ Some point → StandsAt (track.leg place) (points point))
      → machine.clock ≤ clock → Carries track machine machine.sections machine.routes points passes now clock
  plain points passes now clock sound stands later = record {
    sound = sound;
    given = λ route. refl;
    holds = λ route section. refl;
    owner = λ route. refl;
    entered = λ section. refl;
    inlet = λ section. refl;
    gone = kept.gone;
    came = kept.came;
    unheard = λ section unheard. unheard;
    ahead = λ route section gone unseen. (gone, unseen);
    stands = stands;
    runs = later;
  }

  old_stands : (train place point : ℕ) → IsOn machine train place → track.point place ≡ Some point → StandsAt (track.leg place) (machine.points point)
  old_stands train place point on over = (kept.under train place point on over).stands

  -- a route at other points, and later
  with_points : (points : ℕ → Point) (now route : ℕ) → machine.now ≤ now
      → (is_given (machine.routes route).phase ≡ true → (place point : ℕ) → IsOf place (path track route) → track.point place ≡ Some point
      → (machine.routes route).holds (track.section place) ≡ true → StandsAt (track.leg place) (points point))
      → IsRouteSound track machine.sections points machine.passes now route (machine.routes route)
  with_points points now route later settled = let old = kept.routes route in record {
    unset = old.unset;
    on_path = old.on_path;
    whole = old.whole;
    freed = old.freed;
    waits = old.waits;
    unpassed = old.unpassed;
    unpassed_unseen = old.unpassed_unseen;
    clear = old.clear;
    seen_came = old.seen_came;
    unseen_awaited = old.unseen_awaited;
    begun = old.begun;
    went_on = old.went_on;
    once = old.once;
    past = let past = old.past in omega (arith, past, later);
    settled = settled;
  }

  pub time_kept : (now clock : ℕ) → machine.now ≤ now → machine.clock ≤ clock → Invariant track (record machine { now = now; clock = clock })
  time_kept now clock later runs =
      carried_kept track machine kept machine.sections machine.routes machine.points machine.passes now clock
      (plain machine.points machine.passes now clock (λ route. with_points machine.points now route later (kept.routes route).settled) old_stands runs)

  -- a point changes that no route with authority holds, and that is under no train
  point_kept : (point : ℕ) (new : Point)
      → ((side : Side) → StandsAt side (machine.points point) → StandsAt side new)
      ⊎ (((route : ℕ) → HoldsPoint track machine point route → ⊥) × ((train place : ℕ) → IsOn machine train place → track.point place ≡ Some point → ⊥))
      → Invariant track (with_point point new machine)
  point_kept point new how =
      carried_kept track machine kept machine.sections machine.routes (changed_at point new machine.points) machine.passes machine.now machine.clock
      (plain (changed_at point new machine.points) machine.passes machine.now machine.clock
      (λ route. with_points (changed_at point new machine.points) machine.now route (omega arith) (settled route)) stands (omega arith))
    where
      settled : (route : ℕ) → is_given (machine.routes route).phase ≡ true → (place other : ℕ) → IsOf place (path track route) → track.point place ≡ Some other
          → (machine.routes route).holds (track.section place) ≡ true → StandsAt (track.leg place) (changed_at point new machine.points other)
      settled route given place other of over holds =
          at_each (λ n p. track.point place ≡ Some n → StandsAt (track.leg place) p) point new machine.points (λ at. here at how)
          (λ n differs at. (kept.routes route).settled given place n of at holds) other over
        where
          here : track.point place ≡ Some point
              → ((side : Side) → StandsAt side (machine.points point) → StandsAt side new)
              ⊎ (((route : ℕ) → HoldsPoint track machine point route → ⊥) × ((train place : ℕ) → IsOn machine train place → track.point place ≡ Some point → ⊥))
              → StandsAt (track.leg place) new
          here at (inl stays) = stays (track.leg place) ((kept.routes route).settled given place point of at holds)
          here at (inr loose) = absurd (loose.0 route record { place = place; given = given; on_path = of; over = at; holds = holds })

      stands : (train place other : ℕ) → IsOn machine train place → track.point place ≡ Some other → StandsAt (track.leg place) (changed_at point new machine.points other)
      stands train place other on over =
          at_each (λ n p. track.point place ≡ Some n → StandsAt (track.leg place) p) point new machine.points (λ at. here at how)
          (λ n differs at. old_stands train place n on at) other over
        where
          here : track.point place ≡ Some point
              → ((side : Side) → StandsAt side (machine.points point) → StandsAt side new)
              ⊎ (((route : ℕ) → HoldsPoint track machine point route → ⊥) × ((train place : ℕ) → IsOn machine train place → track.point place ≡ Some point → ⊥))
              → StandsAt (track.leg place) new
          here at (inl stays) = stays (track.leg place) (old_stands train place point on at)
          here at (inr loose) = absurd (loose.1 train place on at)

  pub acts_kept : (point : ℕ) (lies : Option Side) (moves : Bool) → (machine.points point).moves ≡ true
      → Invariant track (with_point point (record { lies = lies; moves = moves }) machine)
  acts_kept point lies moves driven = point_kept point (record { lies = lies; moves = moves }) (inl (λ side stands. absurd (cc (driven, stands.undriven))))

  pub gives_move_kept : IsSound track → (point : ℕ) → MayGiveMove track machine point → Invariant track (with_point point (record (machine.points point) { moves = true }) machine)
  gives_move_kept sound point may = point_kept point (record (machine.points point) { moves = true }) (inr (unheld, empty))
    where
      unheld : (route : ℕ) → HoldsPoint track machine point route → ⊥
      unheld route holds = may.unheld route holds.place holds.given holds.on_path holds.over holds.holds

      empty : (train place : ℕ) → IsOn machine train place → track.point place ≡ Some point → ⊥
      empty train place on over = go (kept.under train place point on over).guarded
        where
          clear : (machine.sections (track.section place)).belief ≡ Clear
          clear = subst (λ (n : ℕ). (machine.sections n).belief ≡ Clear) (sound.own place point over) may.clear

          at : (machine.sections (track.section place)).entered + report_time ≤ machine.clock
              → (is_unheard (machine.sections (track.section place)).told ≡ true) ⊎ ((machine.sections (track.section place)).told ≡ Gone) → ⊥
          at past (inl unheard) = let fresh = may.fresh (track.section place) unheard clear in omega (arith, fresh, past)
          at past (inr gone) = kept.gone (track.section place) gone train (has_in track (track.section place) (machine.trains train).places place on refl)

          go : ((route : ℕ) × HoldsPoint track machine point route) ⊎ ((machine.sections (track.section place)).entered + report_time ≤ machine.clock) → ⊥
          go (inl holds) = unheld holds.0 holds.1
          go (inr past) =
              at past (told_clear (machine.sections (track.section place)).told (machine.sections (track.section place)).belief clear (kept.came (track.section place)))

-- ---- a step

module _ (track : Track) (machine : Machine) (kept : Invariant track machine) (fresh : AreFresh machine) (number : ℕ) where
  -- while it proceeds, its entry signal was passed a short time ago
  early : (reading : ℕ) → (machine.routes number).phase ≡ Proceeding
      → (((machine.routes number).phase ≡ Proceeding)
      → ((machine.sections (track.section (track.first number))).told ≡ Awaited) × ((machine.sections (track.section (track.first number))).entered ≡ reading))
      → machine.clock < reading + report_time
  early reading proceeding was =
      let old = kept.routes number in
      let at = was proceeding in
      let holds = old.whole (ap is_whole proceeding) (track.first number) (inl refl) in
      let soon = fresh (track.section (track.first number)) (ap is_unheard at.0) (old.clear proceeding (track.section (track.first number)) holds) in
      let same = at.1 in omega (arith, soon, same)

  once_stepped : (pass : Pass) → IsOnce (machine.routes number).phase (machine.routes number).withdrawn_at (machine.sections (track.section (track.first number))) pass
      → IsOnce (machine.routes number).phase (machine.routes number).withdrawn_at
      (machine.sections (track.section (track.first number))) (pass_stepped machine.now machine.clock pass)
  once_stepped Never once = once
  once_stepped (At reading) once = go (nat_le (reading + report_time) machine.clock) refl
    where
      go : (test : Bool) → nat_le (reading + report_time) machine.clock ≡ test
          → IsOnce (machine.routes number).phase (machine.routes number).withdrawn_at
          (machine.sections (track.section (track.first number))) (if test then Past machine.now else At reading)
      go true e = (
        (λ proceeding. let soon = early reading proceeding once in let late = leb-true (reading + report_time) machine.clock e in omega (arith, soon, late)),
        (kept.routes number).past,
      )
      go false e = once
  once_stepped (Past time) once = once

  stepped_sound : IsRouteSound track machine.sections machine.points (λ signal. pass_stepped machine.now machine.clock (machine.passes signal)) machine.now number
      (machine.routes number)
  stepped_sound = let old = kept.routes number in record {
    unset = old.unset;
    on_path = old.on_path;
    whole = old.whole;
    freed = old.freed;
    waits = old.waits;
    unpassed = old.unpassed;
    unpassed_unseen = old.unpassed_unseen;
    clear = old.clear;
    seen_came = old.seen_came;
    unseen_awaited = old.unseen_awaited;
    begun = old.begun;
    went_on = old.went_on;
    once = λ «open» owned. once_stepped (machine.passes (track.entry number)) (old.once «open» owned);
    past = old.past;
    settled = old.settled;
  }

pub steps_kept : (track : Track) (machine : Machine) → Invariant track machine → AreFresh machine
    → Invariant track (record machine { passes = λ signal. pass_stepped machine.now machine.clock (machine.passes signal) })
steps_kept track machine kept fresh =
    carried_kept track machine kept machine.sections machine.routes machine.points
    (λ signal. pass_stepped machine.now machine.clock (machine.passes signal)) machine.now machine.clock record {
      sound = λ route. stepped_sound track machine kept fresh route;
      given = λ route. refl;
      holds = λ route section. refl;
      owner = λ route. refl;
      entered = λ section. refl;
      inlet = λ section. refl;
      gone = kept.gone;
      came = kept.came;
      unheard = λ section unheard. unheard;
      ahead = λ route section gone unseen. (gone, unseen);
      stands = λ train place point on over. (kept.under train place point on over).stands;
      runs = omega arith;
    }
