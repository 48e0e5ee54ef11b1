-- The invariant is kept where a train passes the signal before it.
use Rattle.std.proofs.Common.{◌≡◌, ℕ, ◌≤◌, ◌⊎◌, inl, inr, Bool, true, false, Option, Some, None, refl, sym, ap, subst, ◌∙◌, arith}
use Rattle.std.specs.Prelude.{◌≢◌, if◌then◌else◌}
use Rattle.train_machine.specs.Lists.{changed_at, IsOf, IsEnd}
use Rattle.train_machine.specs.Track.{Track, IsSound, path}
use Rattle.train_machine.specs.Train.{OnRoute, is_in}
use Rattle.train_machine.specs.Section.{Clear, Awaited, Gone, Section, told_entered, section_entered}
use Rattle.train_machine.specs.Route.{Phase, Free, Waiting, Proceeding, Withdrawn, Ended, is_given, is_open}
use Rattle.train_machine.specs.Machine.{Pass, Never, At, Past, Machine, IsIn}
use Rattle.train_machine.specs.Promise.{LiesFor}
use Rattle.train_machine.specs.Moves.{HasHeadway, MayPass, come, passed}
use Rattle.train_machine.specs.Invariant.{IsOnce, IsRouteSound, IsClaimed, Invariant}
use Rattle.train_machine.proofs.Lists.{at_each, at_it, elsewhere, same_or_not, end_whole}
use Rattle.train_machine.proofs.Routes.{open_given, open_whole}
use Rattle.train_machine.proofs.Come.{arrived, Arrives, arrived_kept}
use Rattle.train_machine.proofs.Entered.{entered_there, entered_not_came, Holder, once_still, entered_sound}
use Rattle.train_machine.proofs.Goes.{led_on}

-- an open route that isn't proceeding is withdrawn
open_withdrawn_now : (phase : Phase) → is_open phase ≡ true → phase ≢ Proceeding → phase ≡ Withdrawn
open_withdrawn_now Free is_opened other = absurd (cc (is_opened))
open_withdrawn_now Waiting is_opened other = absurd (cc (is_opened))
open_withdrawn_now Proceeding is_opened other = absurd (other refl)
open_withdrawn_now Withdrawn is_opened other = refl
open_withdrawn_now Ended is_opened other = absurd (cc (is_opened))

module _ (track : Track) (sound : IsSound track) (machine : Machine) (kept : Invariant track machine) (train route place : ℕ) (may : MayPass track machine train route place) where
  old : IsRouteSound track machine.sections machine.points machine.passes machine.now route (machine.routes route)
  old = kept.routes route

  given : is_given (machine.routes route).phase ≡ true
  given = open_given (machine.routes route).phase may.shown

  holds_path : (q : ℕ) → IsOf q (path track route) → (machine.routes route).holds (track.section q) ≡ true
  holds_path = old.whole (open_whole (machine.routes route).phase may.shown)

  -- the train comes onto the first place of the route
  first_place : track.first route ≡ place
  first_place = led_on track sound machine may.front (track.first route) place (sound.begins route may.front may.before)
      (λ point over. old.settled given (track.first route) point (inl refl) over (holds_path (track.first route) (inl refl))) may.led

  holds_here : (machine.routes route).holds (track.section place) ≡ true
  holds_here = subst (λ (n : ℕ). (machine.routes route).holds (track.section n) ≡ true) first_place (holds_path (track.first route) (inl refl))

  of_path : IsOf place (path track route)
  of_path = inl first_place

  pub passes_way : LiesFor track machine place
  passes_way point over = old.settled given place point of_path over holds_here

  -- no train passed the signal in this setting
  unowned : (machine.routes route).owner ≡ None
  unowned = go (machine.routes route).owner refl
    where
      twice : (pass : Pass) → HasHeadway machine.now pass
          → IsOnce (machine.routes route).phase (machine.routes route).withdrawn_at (machine.sections (track.section (track.first route))) pass → ⊥
      twice Never headway once = once
      twice (At reading) headway once = headway
      twice (Past time) headway once =
          let lit = may.dark (open_withdrawn_now (machine.routes route).phase may.shown once.0) in let late = once.1 in omega (arith, headway, lit, late)

      go : (owner : Option ℕ) → (machine.routes route).owner ≡ owner → (machine.routes route).owner ≡ None
      go None e = e
      go (Some other) e = absurd (twice (machine.passes (track.entry route)) may.headway (old.once may.shown (λ none. cc (none, e))))

  left : (n : ℕ) → (machine.routes route).holds n ≡ true → (machine.sections n).told ≡ Gone
  left = old.unpassed given unowned

  unseen : (n : ℕ) → (machine.routes route).holds n ≡ true → (machine.routes route).seen n ≡ false
  unseen = old.unpassed_unseen given unowned

  only : (other : ℕ) → (machine.routes other).holds (track.section place) ≡ true → other ≡ route
  only other holds = kept.locks other route (track.section place) holds holds_here

  nobody : (other : ℕ) → IsIn track machine other (track.section place) → ⊥
  nobody = kept.gone (track.section place) (left (track.section place) holds_here)

  here : changed_at (track.section place) (section_entered false machine.clock (machine.sections (track.section place))) machine.sections (track.section place)
      ≡ section_entered false machine.clock (machine.sections (track.section place))
  here = at_it (track.section place) (section_entered false machine.clock (machine.sections (track.section place))) machine.sections

  there : (n : ℕ) → n ≢ track.section place
      → changed_at (track.section place) (section_entered false machine.clock (machine.sections (track.section place))) machine.sections n ≡ machine.sections n
  there n differs = elsewhere (track.section place) (section_entered false machine.clock (machine.sections (track.section place))) machine.sections n differs

  still_left : (n : ℕ) → n ≢ track.section place → (machine.routes route).holds n ≡ true
      → (changed_at (track.section place) (section_entered false machine.clock (machine.sections (track.section place))) machine.sections n).told ≡ Gone
  still_left n differs holds = ap (λ s. s.told) (there n differs) ∙ left n holds

  -- the route whose signal the train passes
  own_sound : IsRouteSound track (changed_at (track.section place) (section_entered false machine.clock (machine.sections (track.section place))) machine.sections) machine.points
      (changed_at (track.entry route) (At machine.clock) machine.passes) machine.now route (record (machine.routes route) { owner = Some train })
  own_sound = record {
    unset = old.unset;
    on_path = old.on_path;
    whole = old.whole;
    freed = old.freed;
    waits = λ waiting. absurd (cc (ap is_open waiting, may.shown));
    unpassed = λ e none. absurd (cc (none));
    unpassed_unseen = λ e none. absurd (cc (none));
    clear = λ proceeding. at_each (λ n s. (machine.routes route).holds n ≡ true → s.belief ≡ Clear) (track.section place)
        (section_entered false machine.clock (machine.sections (track.section place))) machine.sections (old.clear proceeding (track.section place)) (λ n differs. old.clear proceeding n);
    seen_came = λ e n holds seen. absurd (cc (seen, unseen n holds));
    unseen_awaited = λ e. at_each (λ n s. (machine.routes route).holds n ≡ true → (machine.routes route).seen n ≡ false → (s.told ≡ Awaited) ⊎ (s.told ≡ Gone)) (track.section place)
        (section_entered false machine.clock (machine.sections (track.section place))) machine.sections
        (λ holds none. inl (ap told_entered (left (track.section place) holds))) (λ n differs holds none. inr (left n holds));
    begun = λ ended. absurd (cc (ap is_open ended, may.shown));
    went_on = λ e a b next differs holds none told_a told_b. absurd (told_b (still_left (track.section b)
        (λ same. sound.not_back route a b next differs (same ∙ sym (ap track.section first_place))) holds));
    once = λ «open» some. subst (IsOnce (machine.routes route).phase (machine.routes route).withdrawn_at
        (changed_at (track.section place) (section_entered false machine.clock (machine.sections (track.section place))) machine.sections (track.section (track.first route))))
        (sym (at_it (track.entry route) (At machine.clock) machine.passes))
        (λ proceeding. subst (λ (n : ℕ). ((changed_at (track.section place) (section_entered false machine.clock (machine.sections (track.section place))) machine.sections n).told ≡ Awaited)
        × ((changed_at (track.section place) (section_entered false machine.clock (machine.sections (track.section place))) machine.sections n).entered ≡ machine.clock))
        (sym (ap track.section first_place))
        (ap (λ s. s.told) here ∙ ap told_entered (left (track.section place) holds_here), ap (λ s. s.entered) here));
    past = old.past;
    settled = old.settled;
  }

  -- any other
  other_sound : (number : ℕ) → number ≢ route
      → IsRouteSound track (changed_at (track.section place) (section_entered false machine.clock (machine.sections (track.section place))) machine.sections) machine.points
      (changed_at (track.entry route) (At machine.clock) machine.passes) machine.now number (machine.routes number)
  other_sound number differs =
      entered_sound track machine kept train (track.section place) false number holder (changed_at (track.entry route) (At machine.clock) machine.passes)
      (λ «open» some. subst (IsOnce (machine.routes number).phase (machine.routes number).withdrawn_at
      (changed_at (track.section place) (section_entered false machine.clock (machine.sections (track.section place))) machine.sections (track.section (track.first number))))
      (sym (elsewhere (track.entry route) (At machine.clock) machine.passes (track.entry number) (apart «open»)))
      (once_still track machine kept train (track.section place) false number holder «open» (whole «open») (machine.passes (track.entry number)) ((kept.routes number).once «open» some)))
    where
      holder : (machine.routes number).holds (track.section place) ≡ true → Holder track machine train (track.section place) number
      holder holds = absurd (differs (only number holds))

      whole : is_open (machine.routes number).phase ≡ true → (machine.routes number).holds (track.section (track.first number)) ≡ true
      whole is_opened = (kept.routes number).whole (open_whole (machine.routes number).phase is_opened) (track.first number) (inl refl)

      apart : is_open (machine.routes number).phase ≡ true → track.entry number ≢ track.entry route
      apart is_opened same =
          differs (only number (subst (λ (n : ℕ). (machine.routes number).holds n ≡ true) (sound.one_begin number route same ∙ ap track.section first_place) (whole is_opened)))

  arrives : Arrives track machine train place (OnRoute route) (track.later route)
      (changed_at (track.section place) (section_entered false machine.clock (machine.sections (track.section place))) machine.sections)
      (changed_at route (record (machine.routes route) { owner = Some train }) machine.routes) (changed_at (track.entry route) (At machine.clock) machine.passes)
  arrives = record {
    alone = λ other inside. absurd (nobody other inside);
    other = there;
    again = λ inside. absurd (nobody train inside);
    there = λ gone. entered_there (machine.sections (track.section place)).told (sym (ap (λ s. s.told) here) ∙ gone);
    came = λ came. absurd (entered_not_came (machine.sections (track.section place)).told (sym (ap (λ s. s.told) here) ∙ came));
    past = subst (λ (s : Section). s.entered ≤ machine.clock) (sym here) (omega arith);
    behind = λ unheard. inl (
      route,
      record {
        given = ap (λ r. is_given r.phase) (at_it route (record (machine.routes route) { owner = Some train }) machine.routes) ∙ given;
        holds = ap (λ r. r.holds (track.section place)) (at_it route (record (machine.routes route) { owner = Some train }) machine.routes) ∙ holds_here;
      },
    );
    sound = at_each (λ n r. IsRouteSound track (changed_at (track.section place) (section_entered false machine.clock (machine.sections (track.section place))) machine.sections) machine.points
        (changed_at (track.entry route) (At machine.clock) machine.passes) machine.now n r) route (record (machine.routes route) { owner = Some train }) machine.routes own_sound other_sound;
    given = at_each (λ n r. is_given r.phase ≡ is_given (machine.routes n).phase) route (record (machine.routes route) { owner = Some train }) machine.routes refl (λ n differs. refl);
    holds = λ number section. at_each (λ n r. r.holds section ≡ (machine.routes n).holds section) route (record (machine.routes route) { owner = Some train }) machine.routes refl
        (λ n differs. refl) number;
    seen = λ number section. at_each (λ n r. r.seen section ≡ (machine.routes n).seen section) route (record (machine.routes route) { owner = Some train }) machine.routes refl
        (λ n differs. refl) number;
    owner = λ number owner. at_each (λ n r. (machine.routes n).owner ≡ Some owner → r.owner ≡ Some owner) route (record (machine.routes route) { owner = Some train }) machine.routes
        (λ e. absurd (cc (e, unowned))) (λ n differs e. e) number;
    own = λ number held. subst (λ (n : ℕ). (changed_at route (record (machine.routes route) { owner = Some train }) machine.routes n).owner ≡ Some train) (sym (only number held.holds))
        (ap (λ r. r.owner) (at_it route (record (machine.routes route) { owner = Some train }) machine.routes));
    unreserved = λ another border ahead differs u of reserved same. reserved.unheld route (subst (λ (n : ℕ). (machine.routes route).holds n ≡ true) (sym same) holds_here);
    apart = λ another border ahead from there differs u of reserved throat. absurd (cc (throat));
    ahead = record { ends = subst (λ (n : ℕ). IsEnd n (track.later route) (path track route)) first_place (end_whole (track.first route) (track.later route)); claims = claims };
    over = λ point over. record {
      stands = passes_way point over;
      guarded = inl (
        route,
        record {
          place = place;
          given = ap (λ r. is_given r.phase) (at_it route (record (machine.routes route) { owner = Some train }) machine.routes) ∙ given;
          on_path = of_path;
          over = over;
          holds = ap (λ r. r.holds (track.section place)) (at_it route (record (machine.routes route) { owner = Some train }) machine.routes) ∙ holds_here;
        },
      );
    };
  }
    where
      claims : (q : ℕ) → IsOf q (track.later route) → IsClaimed track (arrived train place (OnRoute route) (track.later route)
          (changed_at (track.section place) (section_entered false machine.clock (machine.sections (track.section place))) machine.sections)
          (changed_at route (record (machine.routes route) { owner = Some train }) machine.routes) (changed_at (track.entry route) (At machine.clock) machine.passes) machine) train place route q
      claims q of = record {
        given = ap (λ r. is_given r.phase) (at_it route (record (machine.routes route) { owner = Some train }) machine.routes) ∙ given;
        holds = ap (λ r. r.holds (track.section q)) (at_it route (record (machine.routes route) { owner = Some train }) machine.routes) ∙ holds_path q (inr of);
        owner = ap (λ r. r.owner) (at_it route (record (machine.routes route) { owner = Some train }) machine.routes);
        ahead = go (same_or_not (track.section q) (track.section place));
      }
        where
          go : (track.section q ≡ track.section place) ⊎ (track.section q ≢ track.section place)
              → (track.section q ≡ track.section place)
              ⊎ (((changed_at (track.section place) (section_entered false machine.clock (machine.sections (track.section place))) machine.sections (track.section q)).told ≡ Gone)
              × ((changed_at route (record (machine.routes route) { owner = Some train }) machine.routes route).seen (track.section q) ≡ false))
          go (inl same) = inl same
          go (inr differs) = inr (
            still_left (track.section q) differs (holds_path q (inr of)),
            ap (λ r. r.seen (track.section q)) (at_it route (record (machine.routes route) { owner = Some train }) machine.routes) ∙ unseen (track.section q) (holds_path q (inr of)),
          )

  pub passes_kept : Invariant track (come track train place (OnRoute route) (track.later route) (passed track train route machine))
  passes_kept = go (is_in track (track.section place) (machine.trains train).places) refl
    where
      go : (test : Bool) → is_in track (track.section place) (machine.trains train).places ≡ test
          → Invariant track (arrived train place (OnRoute route) (track.later route) (if test then machine.sections
          else changed_at (track.section place) (section_entered false machine.clock (machine.sections (track.section place))) machine.sections)
          (changed_at route (record (machine.routes route) { owner = Some train }) machine.routes) (changed_at (track.entry route) (At machine.clock) machine.passes) machine)
      go true inside = absurd (nobody train inside)
      go false outside =
          arrived_kept track machine kept train place (OnRoute route) (track.later route)
          (changed_at (track.section place) (section_entered false machine.clock (machine.sections (track.section place))) machine.sections)
          (changed_at route (record (machine.routes route) { owner = Some train }) machine.routes) (changed_at (track.entry route) (At machine.clock) machine.passes) arrives
