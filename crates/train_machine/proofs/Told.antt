-- The invariant is kept where the interlocking is told of a section.
use Rattle.std.proofs.Common.{◌≡◌, ℕ, ◌≤◌, ◌⊎◌, inl, inr, Bool, true, false, List, [], ◌∷◌, refl, sym, ap, subst, ◌∙◌, arith}
use Rattle.std.specs.Prelude.{◌≢◌, if◌then◌else◌}
use Rattle.train_machine.specs.Lists.{changed_at, IsOf, IsNext}
use Rattle.train_machine.specs.Track.{Track, path}
use Rattle.train_machine.specs.Section.{Belief, Unknown, Occupied, Clear, Told, Late, Awaited, Came, Gone, is_clear, is_occupied, is_unheard, News, Lost, Old, IsOccupied, IsLeft, belief_told, told_after, section_told}
use Rattle.train_machine.specs.Route.{Phase, Free, Waiting, Proceeding, Ended, is_given, is_open, is_whole}
use Rattle.train_machine.specs.Machine.{Pass, Never, At, Past, Machine, IsIn}
use Rattle.train_machine.specs.Moves.{MayBeOld, MayHear, phase_told, time_told, route_told, told}
use Rattle.train_machine.specs.Invariant.{IsOnce, IsRouteSound, Invariant}
use Rattle.train_machine.proofs.Lists.{at_each, at_it, elsewhere, same_or_not}
use Rattle.train_machine.proofs.Routes.{given_withdrawn, whole_withdrawn, open_withdrawn, free_before, waiting_before, ended_before, not_proceeding, time_past, time_still}
use Rattle.train_machine.proofs.Freed.{gone_or_not}
use Rattle.train_machine.proofs.Carried.{carried_kept}

-- ---- what a phase becomes

given_told : (holds : Bool) (belief : Belief) (phase : Phase) → is_given (phase_told holds belief phase) ≡ is_given phase
given_told false belief phase = refl
given_told true Unknown phase = given_withdrawn phase
given_told true Occupied phase = given_withdrawn phase
given_told true Clear phase = refl

whole_told : (holds : Bool) (belief : Belief) (phase : Phase) → is_whole (phase_told holds belief phase) ≡ is_whole phase
whole_told false belief phase = refl
whole_told true Unknown phase = whole_withdrawn phase
whole_told true Occupied phase = whole_withdrawn phase
whole_told true Clear phase = refl

open_told : (holds : Bool) (belief : Belief) (phase : Phase) → is_open (phase_told holds belief phase) ≡ is_open phase
open_told false belief phase = refl
open_told true Unknown phase = open_withdrawn phase
open_told true Occupied phase = open_withdrawn phase
open_told true Clear phase = refl

free_told : (holds : Bool) (belief : Belief) (phase : Phase) → phase_told holds belief phase ≡ Free → phase ≡ Free
free_told false belief phase e = e
free_told true Unknown phase e = free_before phase e
free_told true Occupied phase e = free_before phase e
free_told true Clear phase e = e

waiting_told : (holds : Bool) (belief : Belief) (phase : Phase) → phase_told holds belief phase ≡ Waiting → phase ≡ Waiting
waiting_told false belief phase e = e
waiting_told true Unknown phase e = waiting_before phase e
waiting_told true Occupied phase e = waiting_before phase e
waiting_told true Clear phase e = e

ended_told : (holds : Bool) (belief : Belief) (phase : Phase) → phase_told holds belief phase ≡ Ended → phase ≡ Ended
ended_told false belief phase e = e
ended_told true Unknown phase e = ended_before phase e
ended_told true Occupied phase e = ended_before phase e
ended_told true Clear phase e = e

proceeding_told : (holds : Bool) (belief : Belief) (phase : Phase) → phase_told holds belief phase ≡ Proceeding → phase ≡ Proceeding
proceeding_told false belief phase e = e
proceeding_told true Unknown phase e = absurd (not_proceeding phase e)
proceeding_told true Occupied phase e = absurd (not_proceeding phase e)
proceeding_told true Clear phase e = e

-- a route that proceeds still holds no section that isn't clear
still_clear : (holds : Bool) (belief : Belief) (phase : Phase) → phase_told holds belief phase ≡ Proceeding → holds ≡ true → belief ≡ Clear
still_clear false belief phase e held = absurd (cc (held))
still_clear true Unknown phase e held = absurd (not_proceeding phase e)
still_clear true Occupied phase e held = absurd (not_proceeding phase e)
still_clear true Clear phase e held = refl

time_by : (now : ℕ) (holds : Bool) (belief : Belief) (before : ℕ) (phase : Phase) → before ≤ now → time_told now holds belief phase before ≤ now
time_by now false belief before phase past = past
time_by now true Unknown before phase past = time_past now before phase past
time_by now true Occupied before phase past = time_past now before phase past
time_by now true Clear before phase past = past

time_stays : (now : ℕ) (holds : Bool) (belief : Belief) (before : ℕ) (phase : Phase) → phase ≢ Proceeding → time_told now holds belief phase before ≡ before
time_stays now false belief before phase other = refl
time_stays now true Unknown before phase other = time_still now before phase other
time_stays now true Occupied before phase other = time_still now before phase other
time_stays now true Clear before phase other = refl

-- ---- what is seen

abbrev seen_told : Belief → ℕ → (ℕ → Bool) → ℕ → Bool
seen_told belief section seen = if is_occupied belief then changed_at section true seen else seen

seen_other : (belief : Belief) (section : ℕ) (seen : ℕ → Bool) (n : ℕ) → n ≢ section → seen_told belief section seen n ≡ seen n
seen_other Unknown section seen n differs = refl
seen_other Occupied section seen n differs = elsewhere section true seen n differs
seen_other Clear section seen n differs = refl

seen_quiet : (belief : Belief) (section : ℕ) (seen : ℕ → Bool) (n : ℕ) → is_occupied belief ≡ false → seen_told belief section seen n ≡ seen n
seen_quiet Unknown section seen n quiet = refl
seen_quiet Occupied section seen n quiet = absurd (cc (quiet))
seen_quiet Clear section seen n quiet = refl

seen_before : (belief : Belief) (section : ℕ) (seen : ℕ → Bool) (n : ℕ) → seen_told belief section seen n ≡ false → seen n ≡ false
seen_before Unknown section seen n unseen = unseen
seen_before Occupied section seen n unseen = at_each (λ m s. s ≡ false → seen m ≡ false) section true seen (λ e. absurd (cc (e))) (λ m differs e. e) n unseen
seen_before Clear section seen n unseen = unseen

next_of : (a b : ℕ) (list : List ℕ) → IsNext a b list → IsOf a list
next_of a b [] next = absurd next
next_of a b (first ∷ later) (inl e) = inl e.0
next_of a b (first ∷ later) (inr next) = inr (next_of a b later next)

module _ (track : Track) (machine : Machine) (kept : Invariant track machine) (section : ℕ) where
  -- ---- what is told of the section

  gone_after : (news : News) → MayHear track machine section news → told_after (machine.sections section).told news ≡ Gone
      → (train : ℕ) → IsIn track machine train section → ⊥
  gone_after Lost may gone = kept.gone section gone
  gone_after (Old belief) may gone = kept.gone section gone
  gone_after IsOccupied may gone = absurd (cc (gone))
  gone_after IsLeft may gone = may.0

  not_old : (belief : Belief) → MayBeOld (machine.sections section).told belief → (machine.sections section).told ≡ Gone → ⊥
  not_old belief may gone = subst (λ (t : Told). MayBeOld t belief) gone may

  gone_stays : (news : News) → MayHear track machine section news → (machine.sections section).told ≡ Gone
      → told_after (machine.sections section).told news ≡ Gone
  gone_stays Lost may gone = gone
  gone_stays (Old belief) may gone = gone
  gone_stays IsOccupied may gone = absurd (may gone)
  gone_stays IsLeft may gone = refl

  came_after : (news : News) → MayHear track machine section news → told_after (machine.sections section).told news ≡ Came → belief_told news ≢ Clear
  came_after Lost may came = λ e. cc (e)
  came_after (Old belief) may came = absurd (subst (λ (t : Told). MayBeOld t belief) came may)
  came_after IsOccupied may came = λ e. cc (e)
  came_after IsLeft may came = absurd (cc (came))

  unheard_after : (news : News) → is_unheard (told_after (machine.sections section).told news) ≡ true → is_unheard (machine.sections section).told ≡ true
  unheard_after Lost e = e
  unheard_after (Old belief) e = e
  unheard_after IsOccupied e = absurd (cc (e))
  unheard_after IsLeft e = absurd (cc (e))

  gone_unoccupied : (news : News) → MayHear track machine section news → (machine.sections section).told ≡ Gone → is_occupied (belief_told news) ≡ false
  gone_unoccupied Lost may gone = refl
  gone_unoccupied (Old belief) may gone = absurd (not_old belief may gone)
  gone_unoccupied IsOccupied may gone = absurd (may gone)
  gone_unoccupied IsLeft may gone = refl

  module _ (news : News) (may : MayHear track machine section news) where
    gone_still : (n : ℕ) → (machine.sections n).told ≡ Gone → (changed_at section (section_told machine.clock news (machine.sections section)) machine.sections n).told ≡ Gone
    gone_still = at_each (λ n s. (machine.sections n).told ≡ Gone → s.told ≡ Gone) section (section_told machine.clock news (machine.sections section)) machine.sections
        (gone_stays news may) (λ n differs gone. gone)

    same_entered : (n : ℕ) → (changed_at section (section_told machine.clock news (machine.sections section)) machine.sections n).entered ≡ (machine.sections n).entered
    same_entered = at_each (λ n s. s.entered ≡ (machine.sections n).entered) section (section_told machine.clock news (machine.sections section)) machine.sections refl (λ n differs. refl)

    same_inlet : (n : ℕ) → (changed_at section (section_told machine.clock news (machine.sections section)) machine.sections n).inlet ≡ (machine.sections n).inlet
    same_inlet = at_each (λ n s. s.inlet ≡ (machine.sections n).inlet) section (section_told machine.clock news (machine.sections section)) machine.sections refl (λ n differs. refl)

    module _ (number : ℕ) where
      old : IsRouteSound track machine.sections machine.points machine.passes machine.now number (machine.routes number)
      old = kept.routes number

      was_given : is_given (phase_told ((machine.routes number).holds section) (belief_told news) (machine.routes number).phase) ≡ true → is_given (machine.routes number).phase ≡ true
      was_given given = sym (given_told ((machine.routes number).holds section) (belief_told news) (machine.routes number).phase) ∙ given

      -- of a section that it holds, what is told occupied is its last occupation
      seen_here : (news : News) → MayHear track machine section news → is_given (machine.routes number).phase ≡ true → (machine.routes number).holds section ≡ true
          → seen_told (belief_told news) section (machine.routes number).seen section ≡ true → is_unheard (told_after (machine.sections section).told news) ≡ false
      seen_here Lost may given holds seen = old.seen_came given section holds seen
      seen_here (Old Unknown) may given holds seen = old.seen_came given section holds seen
      seen_here (Old Clear) may given holds seen = old.seen_came given section holds seen
      seen_here (Old Occupied) may given holds seen = go (machine.sections section).told refl may
        where
          go : (t : Told) → (machine.sections section).told ≡ t → MayBeOld t Occupied → is_unheard (machine.sections section).told ≡ false
          go Late e may = at ((machine.routes number).seen section) refl
            where
              at : (test : Bool) → (machine.routes number).seen section ≡ test → is_unheard (machine.sections section).told ≡ false
              at true seen = old.seen_came given section holds seen
              at false unseen = absurd (late (old.unseen_awaited given section holds unseen))
                where
                  late : ((machine.sections section).told ≡ Awaited) ⊎ ((machine.sections section).told ≡ Gone) → ⊥
                  late (inl awaited) = cc (awaited, e)
                  late (inr gone) = cc (gone, e)
          go Awaited e may = absurd may
          go Came e may = absurd may
          go Gone e may = absurd may
      seen_here IsOccupied may given holds seen = refl
      seen_here IsLeft may given holds seen = refl

      unseen_here : (news : News) → MayHear track machine section news → is_given (machine.routes number).phase ≡ true → (machine.routes number).holds section ≡ true
          → seen_told (belief_told news) section (machine.routes number).seen section ≡ false
          → (told_after (machine.sections section).told news ≡ Awaited) ⊎ (told_after (machine.sections section).told news ≡ Gone)
      unseen_here Lost may given holds unseen = old.unseen_awaited given section holds unseen
      unseen_here (Old Unknown) may given holds unseen = old.unseen_awaited given section holds unseen
      unseen_here (Old Clear) may given holds unseen = old.unseen_awaited given section holds unseen
      unseen_here (Old Occupied) may given holds unseen = absurd (cc (unseen, at_it section true (machine.routes number).seen))
      unseen_here IsOccupied may given holds unseen = absurd (cc (unseen, at_it section true (machine.routes number).seen))
      unseen_here IsLeft may given holds unseen = inr refl

      -- where it is told unseen that a section was left, this was unknown before, so it is believed clear since now
      since_here : (e : ℕ) → is_given (machine.routes number).phase ≡ true → (machine.routes number).holds section ≡ true → (machine.routes number).seen section ≡ false
          → ((machine.sections section).told ≡ Gone → e ≤ (machine.sections section).since) → e ≤ machine.clock
          → (news : News) → MayHear track machine section news → told_after (machine.sections section).told news ≡ Gone
          → e ≤ (if is_clear (machine.sections section).belief then (machine.sections section).since else machine.clock)
      since_here e given holds unseen before past news may gone = go (gone_or_not (machine.sections section).told)
        where
          stays : (belief : Belief) → e ≤ (machine.sections section).since → e ≤ (if is_clear belief then (machine.sections section).since else machine.clock)
          stays Unknown was = past
          stays Occupied was = past
          stays Clear was = was

          starts : (belief : Belief) → belief ≢ Clear → e ≤ (if is_clear belief then (machine.sections section).since else machine.clock)
          starts Unknown unclear = past
          starts Occupied unclear = past
          starts Clear unclear = absurd (unclear refl)

          awaited : ((machine.sections section).told ≡ Awaited) ⊎ ((machine.sections section).told ≡ Gone) → (machine.sections section).told ≢ Gone → (machine.sections section).told ≡ Awaited
          awaited (inl at) there = at
          awaited (inr at) there = absurd (there at)

          left : (news : News) → MayHear track machine section news → told_after (machine.sections section).told news ≡ Gone → (machine.sections section).told ≢ Gone
              → (machine.sections section).told ≡ Awaited → (machine.sections section).belief ≢ Clear
          left Lost may gone there at = absurd (there gone)
          left (Old belief) may gone there at = absurd (there gone)
          left IsOccupied may gone there at = absurd (cc (gone))
          left IsLeft may gone there at = may.1 (ap is_unheard at)

          go : ((machine.sections section).told ≡ Gone) ⊎ ((machine.sections section).told ≢ Gone)
              → e ≤ (if is_clear (machine.sections section).belief then (machine.sections section).since else machine.clock)
          go (inl was) = stays (machine.sections section).belief (before was)
          go (inr there) = starts (machine.sections section).belief (left news may gone there (awaited (old.unseen_awaited given section holds unseen) there))

      -- the first section of a route that proceeds
      begin_here : (news : News) → MayHear track machine section news → (machine.sections section).belief ≡ Clear → belief_told news ≡ Clear
          → (machine.sections section).told ≡ Awaited → told_after (machine.sections section).told news ≡ Awaited
      begin_here Lost may was is at = absurd (cc (is))
      begin_here (Old belief) may was is at = at
      begin_here IsOccupied may was is at = absurd (cc (is))
      begin_here IsLeft may was is at = absurd (may.1 (ap is_unheard at) was)

      once_told : (pass : Pass) → is_open (machine.routes number).phase ≡ true
          → IsOnce (machine.routes number).phase (machine.routes number).withdrawn_at (machine.sections (track.section (track.first number))) pass
          → IsOnce (phase_told ((machine.routes number).holds section) (belief_told news) (machine.routes number).phase)
          (time_told machine.now ((machine.routes number).holds section) (belief_told news) (machine.routes number).phase (machine.routes number).withdrawn_at)
          (changed_at section (section_told machine.clock news (machine.sections section)) machine.sections (track.section (track.first number))) pass
      once_told Never is_opened once = once
      once_told (At reading) is_opened once =
          λ proceeding. at_each (λ n s. (machine.routes number).holds n ≡ true → (machine.sections n).told ≡ Awaited → (machine.sections n).entered ≡ reading
          → (s.told ≡ Awaited) × (s.entered ≡ reading)) section (section_told machine.clock news (machine.sections section)) machine.sections
          (λ holds at same. (
            begin_here news may (old.clear (was_proceeding proceeding) section holds)
                (still_clear ((machine.routes number).holds section) (belief_told news) (machine.routes number).phase proceeding holds) at,
            same,
          ))
          (λ n differs holds at same. (at, same)) (track.section (track.first number))
          (old.whole (ap is_whole (was_proceeding proceeding)) (track.first number) (inl refl)) (once (was_proceeding proceeding)).0 (once (was_proceeding proceeding)).1
        where
          was_proceeding : phase_told ((machine.routes number).holds section) (belief_told news) (machine.routes number).phase ≡ Proceeding → (machine.routes number).phase ≡ Proceeding
          was_proceeding = proceeding_told ((machine.routes number).holds section) (belief_told news) (machine.routes number).phase
      once_told (Past time) is_opened once = (
        (λ proceeding. once.0 (proceeding_told ((machine.routes number).holds section) (belief_told news) (machine.routes number).phase proceeding)),
        subst (λ (n : ℕ). n ≤ time) (sym (time_stays machine.now ((machine.routes number).holds section) (belief_told news) (machine.routes number).withdrawn_at (machine.routes number).phase once.0)) once.1,
      )

      route_sound : IsRouteSound track (changed_at section (section_told machine.clock news (machine.sections section)) machine.sections) machine.points machine.passes machine.now number
          (route_told machine.now section (belief_told news) (machine.routes number))
      route_sound = record {
        unset = λ free. old.unset (free_told ((machine.routes number).holds section) (belief_told news) (machine.routes number).phase free);
        on_path = old.on_path;
        whole = λ whole. old.whole (sym (whole_told ((machine.routes number).holds section) (belief_told news) (machine.routes number).phase) ∙ whole);
        freed = λ given place of unseen. old.freed (was_given given) place of (seen_before (belief_told news) section (machine.routes number).seen (track.section place) unseen);
        waits = λ waiting n holds. gone_still n (old.waits (waiting_told ((machine.routes number).holds section) (belief_told news) (machine.routes number).phase waiting) n holds);
        unpassed = λ given unowned n holds. gone_still n (old.unpassed (was_given given) unowned n holds);
        unpassed_unseen = λ given unowned n holds. unpassed_unseen n (same_or_not n section) (old.unpassed (was_given given) unowned n holds) (old.unpassed_unseen (was_given given) unowned n holds);
        clear = λ proceeding. at_each (λ n s. (machine.routes number).holds n ≡ true → s.belief ≡ Clear) section (section_told machine.clock news (machine.sections section)) machine.sections
            (still_clear ((machine.routes number).holds section) (belief_told news) (machine.routes number).phase proceeding)
            (λ n differs holds. old.clear (proceeding_told ((machine.routes number).holds section) (belief_told news) (machine.routes number).phase proceeding) n holds);
        seen_came = λ given. at_each (λ n s. (machine.routes number).holds n ≡ true → seen_told (belief_told news) section (machine.routes number).seen n ≡ true → is_unheard s.told ≡ false)
            section (section_told machine.clock news (machine.sections section)) machine.sections (λ holds seen. seen_here news may (was_given given) holds seen)
            (λ n differs holds seen. old.seen_came (was_given given) n holds (sym (seen_other (belief_told news) section (machine.routes number).seen n differs) ∙ seen));
        unseen_awaited = λ given. at_each (λ n s. (machine.routes number).holds n ≡ true → seen_told (belief_told news) section (machine.routes number).seen n ≡ false → (s.told ≡ Awaited) ⊎ (s.told ≡ Gone))
            section (section_told machine.clock news (machine.sections section)) machine.sections (λ holds unseen. unseen_here news may (was_given given) holds unseen)
            (λ n differs holds unseen. old.unseen_awaited (was_given given) n holds (sym (seen_other (belief_told news) section (machine.routes number).seen n differs) ∙ unseen));
        begun = λ ended holds there. subst (λ (e : ℕ). e ≤ (machine.routes number).ended) (sym (same_entered (track.section (track.first number))))
            (old.begun (ended_told ((machine.routes number).holds section) (belief_told news) (machine.routes number).phase ended) holds
            (λ gone. there (gone_still (track.section (track.first number)) gone)));
        went_on = λ given a b next differs holds unseen gone there. subst
            (λ (e : ℕ). e ≤ (changed_at section (section_told machine.clock news (machine.sections section)) machine.sections (track.section a)).since)
            (sym (same_entered (track.section b)))
            (went_on (was_given given) a b next differs holds (seen_before (belief_told news) section (machine.routes number).seen (track.section a) unseen) gone
            (λ was. there (gone_still (track.section b) was)));
        once = λ «open» owned. once_told (machine.passes (track.entry number))
            (sym (open_told ((machine.routes number).holds section) (belief_told news) (machine.routes number).phase) ∙ «open»)
            (old.once (sym (open_told ((machine.routes number).holds section) (belief_told news) (machine.routes number).phase) ∙ «open») owned);
        past = time_by machine.now ((machine.routes number).holds section) (belief_told news) (machine.routes number).withdrawn_at (machine.routes number).phase old.past;
        settled = λ given. old.settled (was_given given);
      }
        where
          unpassed_unseen : (n : ℕ) → (n ≡ section) ⊎ (n ≢ section) → (machine.sections n).told ≡ Gone → (machine.routes number).seen n ≡ false
              → seen_told (belief_told news) section (machine.routes number).seen n ≡ false
          unpassed_unseen n (inl same) gone unseen =
              seen_quiet (belief_told news) section (machine.routes number).seen n (gone_unoccupied news may (subst (λ (m : ℕ). (machine.sections m).told ≡ Gone) same gone)) ∙ unseen
          unpassed_unseen n (inr differs) gone unseen = seen_other (belief_told news) section (machine.routes number).seen n differs ∙ unseen

          went_on : is_given (machine.routes number).phase ≡ true → (a b : ℕ) → IsNext a b (path track number) → track.section a ≢ track.section b
              → (machine.routes number).holds (track.section b) ≡ true → (machine.routes number).seen (track.section a) ≡ false
              → (changed_at section (section_told machine.clock news (machine.sections section)) machine.sections (track.section a)).told ≡ Gone
              → (machine.sections (track.section b)).told ≢ Gone
              → (machine.sections (track.section b)).entered ≤ (changed_at section (section_told machine.clock news (machine.sections section)) machine.sections (track.section a)).since
          went_on given a b next differs holds unseen gone there =
              at_each (λ n s. (machine.routes number).holds n ≡ true → (machine.routes number).seen n ≡ false → s.told ≡ Gone
              → ((machine.sections n).told ≡ Gone → (machine.sections (track.section b)).entered ≤ (machine.sections n).since)
              → (machine.sections (track.section b)).entered ≤ s.since) section (section_told machine.clock news (machine.sections section)) machine.sections
              (λ holds_a unseen_a gone_a before. since_here (machine.sections (track.section b)).entered given holds_a unseen_a before (kept.past (track.section b)) news may gone_a)
              (λ n other holds_a unseen_a gone_a before. before gone_a) (track.section a)
              (old.freed given a (next_of a b (path track number) next) unseen) unseen gone
              (λ was. old.went_on given a b next differs holds unseen was there)

    pub told_kept : Invariant track (told section news machine)
    told_kept =
        carried_kept track machine kept (changed_at section (section_told machine.clock news (machine.sections section)) machine.sections)
        (λ route. route_told machine.now section (belief_told news) (machine.routes route)) machine.points machine.passes machine.now machine.clock record {
          sound = route_sound;
          given = λ route. given_told ((machine.routes route).holds section) (belief_told news) (machine.routes route).phase;
          holds = λ route n. refl;
          owner = λ route. refl;
          entered = same_entered;
          inlet = same_inlet;
          gone = at_each (λ n s. s.told ≡ Gone → (train : ℕ) → IsIn track machine train n → ⊥) section (section_told machine.clock news (machine.sections section)) machine.sections
              (gone_after news may) (λ n differs. kept.gone n);
          came = at_each (λ n s. s.told ≡ Came → s.belief ≢ Clear) section (section_told machine.clock news (machine.sections section)) machine.sections
              (came_after news may) (λ n differs. kept.came n);
          unheard = at_each (λ n s. is_unheard s.told ≡ true → is_unheard (machine.sections n).told ≡ true) section (section_told machine.clock news (machine.sections section)) machine.sections
              (unheard_after news) (λ n differs e. e);
          ahead = λ route n gone unseen. (gone_still n gone, ahead route n (same_or_not n section) gone unseen);
          stands = λ train place point on over. (kept.under train place point on over).stands;
          runs = omega arith;
        }
      where
        ahead : (route n : ℕ) → (n ≡ section) ⊎ (n ≢ section) → (machine.sections n).told ≡ Gone → (machine.routes route).seen n ≡ false
            → seen_told (belief_told news) section (machine.routes route).seen n ≡ false
        ahead route n (inl same) gone unseen =
            seen_quiet (belief_told news) section (machine.routes route).seen n (gone_unoccupied news may (subst (λ (m : ℕ). (machine.sections m).told ≡ Gone) same gone)) ∙ unseen
        ahead route n (inr differs) gone unseen = seen_other (belief_told news) section (machine.routes route).seen n differs ∙ unseen
