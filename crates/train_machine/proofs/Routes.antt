-- The invariant is kept where a route is set, given authority, withdrawn, ended and freed.
use Rattle.std.proofs.Common.{◌≡◌, ℕ, ◌≤◌, ◌+◌, ◌⊎◌, inl, inr, true, refl, sym, ap, subst, ◌∙◌, arith}
use Rattle.std.specs.Prelude.{◌≢◌}
use Rattle.train_machine.specs.Lists.{IsOf}
use Rattle.train_machine.specs.Track.{Track, IsSound, path}
use Rattle.train_machine.specs.Train.{Throat}
use Rattle.train_machine.specs.Section.{Belief, Clear, Told, Late, Awaited, Came, Gone, is_unheard}
use Rattle.train_machine.specs.Route.{Phase, Free, Waiting, Proceeding, Withdrawn, Ended, free_route, is_given, is_open, is_whole, withdrawn_phase, withdrawn_time}
use Rattle.train_machine.specs.Machine.{report_time, Pass, Never, At, Past, Machine, with_route}
use Rattle.train_machine.specs.Moves.{MaySet, MayAuthorise, set_route, authorised, withdrawn}
use Rattle.train_machine.specs.Invariant.{IsOnce, IsRouteSound, IsAccounted, Invariant}
use Rattle.train_machine.proofs.Lists.{in_has, has_in}
use Rattle.train_machine.proofs.Frames.{Changes, route_frame, claim_kept}

-- ---- phases

pub given_withdrawn : (phase : Phase) → is_given (withdrawn_phase phase) ≡ is_given phase
given_withdrawn Free = refl
given_withdrawn Waiting = refl
given_withdrawn Proceeding = refl
given_withdrawn Withdrawn = refl
given_withdrawn Ended = refl

pub whole_withdrawn : (phase : Phase) → is_whole (withdrawn_phase phase) ≡ is_whole phase
whole_withdrawn Free = refl
whole_withdrawn Waiting = refl
whole_withdrawn Proceeding = refl
whole_withdrawn Withdrawn = refl
whole_withdrawn Ended = refl

pub open_withdrawn : (phase : Phase) → is_open (withdrawn_phase phase) ≡ is_open phase
open_withdrawn Free = refl
open_withdrawn Waiting = refl
open_withdrawn Proceeding = refl
open_withdrawn Withdrawn = refl
open_withdrawn Ended = refl

pub free_before : (phase : Phase) → withdrawn_phase phase ≡ Free → phase ≡ Free
free_before Free e = refl
free_before Waiting e = absurd (cc (e))
free_before Proceeding e = absurd (cc (e))
free_before Withdrawn e = absurd (cc (e))
free_before Ended e = absurd (cc (e))

pub waiting_before : (phase : Phase) → withdrawn_phase phase ≡ Waiting → phase ≡ Waiting
waiting_before Free e = absurd (cc (e))
waiting_before Waiting e = refl
waiting_before Proceeding e = absurd (cc (e))
waiting_before Withdrawn e = absurd (cc (e))
waiting_before Ended e = absurd (cc (e))

pub ended_before : (phase : Phase) → withdrawn_phase phase ≡ Ended → phase ≡ Ended
ended_before Free e = absurd (cc (e))
ended_before Waiting e = absurd (cc (e))
ended_before Proceeding e = absurd (cc (e))
ended_before Withdrawn e = absurd (cc (e))
ended_before Ended e = refl

pub not_proceeding : (phase : Phase) → withdrawn_phase phase ≢ Proceeding
not_proceeding Free e = cc (e)
not_proceeding Waiting e = cc (e)
not_proceeding Proceeding e = cc (e)
not_proceeding Withdrawn e = cc (e)
not_proceeding Ended e = cc (e)

pub open_given : (phase : Phase) → is_open phase ≡ true → is_given phase ≡ true
open_given Free e = absurd (cc (e))
open_given Waiting e = absurd (cc (e))
open_given Proceeding e = refl
open_given Withdrawn e = refl
open_given Ended e = refl

pub open_whole : (phase : Phase) → is_open phase ≡ true → is_whole phase ≡ true
open_whole Free e = absurd (cc (e))
open_whole Waiting e = absurd (cc (e))
open_whole Proceeding e = refl
open_whole Withdrawn e = refl
open_whole Ended e = absurd (cc (e))

pub time_past : (now before : ℕ) (phase : Phase) → before ≤ now → withdrawn_time now phase before ≤ now
time_past now before Free past = past
time_past now before Waiting past = past
time_past now before Proceeding past = omega arith
time_past now before Withdrawn past = past
time_past now before Ended past = past

pub time_still : (now before : ℕ) (phase : Phase) → phase ≢ Proceeding → withdrawn_time now phase before ≡ before
time_still now before Free other = refl
time_still now before Waiting other = refl
time_still now before Proceeding other = absurd (other refl)
time_still now before Withdrawn other = refl
time_still now before Ended other = refl

-- what is told of a section that is believed clear
pub told_clear : (told : Told) (belief : Belief) → belief ≡ Clear → (told ≡ Came → belief ≢ Clear) → (is_unheard told ≡ true) ⊎ (told ≡ Gone)
told_clear Late belief clear came = inl refl
told_clear Awaited belief clear came = inl refl
told_clear Came belief clear came = absurd (came refl clear)
told_clear Gone belief clear came = inr refl

pub unheard_awaited : (told : Told) → told ≡ Awaited → is_unheard told ≡ true
unheard_awaited told e = ap is_unheard e

-- a route that isn't set
pub free_sound : (track : Track) (machine : Machine) (number : ℕ) → IsRouteSound track machine.sections machine.points machine.passes machine.now number free_route
free_sound track machine number = record {
  unset = λ free section holds. absurd (cc (holds));
  on_path = λ section holds. absurd (cc (holds));
  whole = λ whole. absurd (cc (whole));
  freed = λ given. absurd (cc (given));
  waits = λ waiting. absurd (cc (waiting));
  unpassed = λ given. absurd (cc (given));
  unpassed_unseen = λ given. absurd (cc (given));
  clear = λ proceeding. absurd (cc (proceeding));
  seen_came = λ given. absurd (cc (given));
  unseen_awaited = λ given. absurd (cc (given));
  begun = λ ended. absurd (cc (ended));
  went_on = λ given. absurd (cc (given));
  once = λ «open». absurd (cc («open»));
  past = omega arith;
  settled = λ given. absurd (cc (given));
}

module _ (track : Track) (sound : IsSound track) (machine : Machine) (kept : Invariant track machine) (number : ℕ) where
  old : IsRouteSound track machine.sections machine.points machine.passes machine.now number (machine.routes number)
  old = kept.routes number

  -- each section of a route that may be set was left by each train, and the interlocking knows it
  set_gone : MaySet track machine number → (place : ℕ) → IsOf place (path track number) → (machine.sections (track.section place)).told ≡ Gone
  set_gone may place of =
      go (told_clear (machine.sections (track.section place)).told (machine.sections (track.section place)).belief (may.clear place of) (kept.came (track.section place)))
    where
      stale : is_unheard (machine.sections (track.section place)).told ≡ true → (machine.sections (track.section place)).entered + report_time ≤ machine.clock → ⊥
      stale unheard past = let fresh = may.fresh (track.section place) unheard (may.clear place of) in omega (arith, fresh, past)

      at : is_unheard (machine.sections (track.section place)).told ≡ true → IsAccounted machine (track.section place) → ⊥
      at unheard (inl held) = may.unheld place held.0 of held.1.holds
      at unheard (inr (inl inlet)) = stale unheard (may.entered place of inlet)
      at unheard (inr (inr past)) = stale unheard past

      go : (is_unheard (machine.sections (track.section place)).told ≡ true) ⊎ ((machine.sections (track.section place)).told ≡ Gone)
          → (machine.sections (track.section place)).told ≡ Gone
      go (inl unheard) = absurd (at unheard (kept.behind (track.section place) unheard))
      go (inr gone) = gone

  pub sets_kept : MaySet track machine number → Invariant track (with_route number (set_route track number) machine)
  sets_kept may = route_frame track machine kept number (set_route track number) changes sound
    where
      not_given : is_given (machine.routes number).phase ≡ true → ⊥
      not_given given = cc (given, ap is_given may.free)

      unreserved : (train border place : ℕ) → (machine.trains train).under ≡ Throat border → IsOf place (machine.trains train).way
          → (found : (other : ℕ) × IsOf other (path track number) × (track.section other ≡ track.section place)) → ⊥
      unreserved train border place under of found = may.unclaimed found.0 train border place found.1 under of (sym found.2)

      changes : Changes track machine number (set_route track number)
      changes = record {
        sound = record {
          unset = λ free. absurd (cc (free));
          on_path = λ section holds. in_has track section (path track number) holds;
          whole = λ whole place of. has_in track (track.section place) (path track number) place of refl;
          freed = λ given. absurd (cc (given));
          waits = λ waiting section holds. let found = in_has track section (path track number) holds
              in subst (λ (n : ℕ). (machine.sections n).told ≡ Gone) found.2 (set_gone may found.0 found.1);
          unpassed = λ given. absurd (cc (given));
          unpassed_unseen = λ given. absurd (cc (given));
          clear = λ proceeding. absurd (cc (proceeding));
          seen_came = λ given. absurd (cc (given));
          unseen_awaited = λ given. absurd (cc (given));
          begun = λ ended. absurd (cc (ended));
          went_on = λ given. absurd (cc (given));
          once = λ «open». absurd (cc («open»));
          past = omega arith;
          settled = λ given. absurd (cc (given));
        };
        locks = λ section other holds held. let found = in_has track section (path track number) holds
            in absurd (may.unheld found.0 other found.1 (subst (λ (n : ℕ). (machine.routes other).holds n ≡ true) (sym found.2) held));
        keeps = λ section given. absurd (not_given given);
        owns = λ train section given. absurd (cc (given));
        claims = λ train front place rear way stands under ends of claim. absurd (not_given claim.given);
        unreserved = λ train border place under reserved of holds. unreserved train border place under of (in_has track (track.section place) (path track number) holds);
      }

  pub authorises_kept : MayAuthorise track machine number → Invariant track (with_route number (authorised (machine.routes number)) machine)
  authorises_kept may = route_frame track machine kept number (authorised (machine.routes number)) changes sound
    where
      not_given : is_given (machine.routes number).phase ≡ true → ⊥
      not_given given = cc (given, ap is_given may.waiting)

      holds_path : (place : ℕ) → IsOf place (path track number) → (machine.routes number).holds (track.section place) ≡ true
      holds_path = old.whole (ap is_whole may.waiting)

      changes : Changes track machine number (authorised (machine.routes number))
      changes = record {
        sound = record {
          unset = λ free. absurd (cc (free));
          on_path = old.on_path;
          whole = λ whole. holds_path;
          freed = λ given place of unseen. holds_path place of;
          waits = λ waiting. absurd (cc (waiting));
          unpassed = λ given unowned section holds. old.waits may.waiting section holds;
          unpassed_unseen = λ given unowned section holds. refl;
          clear = λ proceeding section holds. let found = old.on_path section holds
              in subst (λ (n : ℕ). (machine.sections n).belief ≡ Clear) found.2 (may.clear found.0 found.1);
          seen_came = λ given section holds seen. absurd (cc (seen));
          unseen_awaited = λ given section holds unseen. inr (old.waits may.waiting section holds);
          begun = λ ended. absurd (cc (ended));
          went_on = λ given a b follows differs holds unseen gone there. absurd (there (old.waits may.waiting (track.section b) holds));
          once = λ «open» owned. absurd (owned refl);
          past = omega arith;
          settled = λ given place point of over holds. record { lies = may.stands place point of over; undriven = may.undriven place point of over };
        };
        locks = λ section other holds held. kept.locks other number section held holds;
        keeps = λ section given. absurd (not_given given);
        owns = λ train section given holds inside. absurd (kept.gone section (old.waits may.waiting section holds) train inside);
        claims = λ train front place rear way stands under ends of claim. absurd (not_given claim.given);
        unreserved = λ train border place under reserved of holds. reserved.unheld number holds;
      }

  pub withdraws_kept : Invariant track (with_route number (withdrawn machine.now (machine.routes number)) machine)
  withdraws_kept = route_frame track machine kept number (withdrawn machine.now (machine.routes number)) changes sound
    where
      was_given : is_given (withdrawn_phase (machine.routes number).phase) ≡ true → is_given (machine.routes number).phase ≡ true
      was_given given = sym (given_withdrawn (machine.routes number).phase) ∙ given

      once : (pass : Pass) → IsOnce (machine.routes number).phase (machine.routes number).withdrawn_at (machine.sections (track.section (track.first number))) pass
          → IsOnce (withdrawn_phase (machine.routes number).phase) (withdrawn_time machine.now (machine.routes number).phase (machine.routes number).withdrawn_at) (machine.sections (track.section (track.first number))) pass
      once Never none = none
      once (At reading) early = λ proceeding. absurd (not_proceeding (machine.routes number).phase proceeding)
      once (Past time) late = (
        not_proceeding (machine.routes number).phase,
        subst (λ (n : ℕ). n ≤ time) (sym (time_still machine.now (machine.routes number).withdrawn_at (machine.routes number).phase late.0)) late.1,
      )

      changes : Changes track machine number (withdrawn machine.now (machine.routes number))
      changes = record {
        sound = record {
          unset = λ free. old.unset (free_before (machine.routes number).phase free);
          on_path = old.on_path;
          whole = λ whole. old.whole (sym (whole_withdrawn (machine.routes number).phase) ∙ whole);
          freed = λ given. old.freed (was_given given);
          waits = λ waiting. old.waits (waiting_before (machine.routes number).phase waiting);
          unpassed = λ given. old.unpassed (was_given given);
          unpassed_unseen = λ given. old.unpassed_unseen (was_given given);
          clear = λ proceeding. absurd (not_proceeding (machine.routes number).phase proceeding);
          seen_came = λ given. old.seen_came (was_given given);
          unseen_awaited = λ given. old.unseen_awaited (was_given given);
          begun = λ ended. old.begun (ended_before (machine.routes number).phase ended);
          went_on = λ given. old.went_on (was_given given);
          once = λ «open» owned. once (machine.passes (track.entry number)) (old.once (sym (open_withdrawn (machine.routes number).phase) ∙ «open») owned);
          past = time_past machine.now (machine.routes number).withdrawn_at (machine.routes number).phase old.past;
          settled = λ given. old.settled (was_given given);
        };
        locks = λ section other holds held. kept.locks other number section held holds;
        keeps = λ section given holds. inl (given_withdrawn (machine.routes number).phase ∙ given, holds);
        owns = λ train section given holds inside. kept.own train section number record { given = was_given given; holds = holds } inside;
        claims = λ train front place rear way stands under ends of claim.
            claim_kept track machine number (withdrawn machine.now (machine.routes number)) train front place
            (given_withdrawn (machine.routes number).phase ∙ claim.given) claim.holds refl refl claim;
        unreserved = λ train border place under reserved of holds. reserved.unheld number holds;
      }
