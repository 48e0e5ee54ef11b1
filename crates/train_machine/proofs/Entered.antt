-- A route stays sound where a train comes into a section.
use Rattle.std.proofs.Common.{◌≡◌, ℕ, ◌≤◌, ◌⊎◌, inl, Bool, true, false, Some, None, refl, sym, ap, subst, ◌∙◌}
use Rattle.std.specs.Prelude.{◌≢◌}
use Rattle.train_machine.specs.Lists.{changed_at, IsNext}
use Rattle.train_machine.specs.Track.{Track, path}
use Rattle.train_machine.specs.Section.{Clear, Told, Late, Awaited, Came, Gone, Section, is_unheard, told_entered, section_entered}
use Rattle.train_machine.specs.Route.{Waiting, is_given, is_open}
use Rattle.train_machine.specs.Machine.{Pass, Machine}
use Rattle.train_machine.specs.Invariant.{IsOnce, IsRouteSound, Invariant}
use Rattle.train_machine.proofs.Lists.{at_each, elsewhere}

pub entered_there : (told : Told) → told_entered told ≢ Gone
entered_there Late e = cc (e)
entered_there Awaited e = cc (e)
entered_there Came e = cc (e)
entered_there Gone e = cc (e)

pub entered_not_came : (told : Told) → told_entered told ≢ Came
entered_not_came Late e = cc (e)
entered_not_came Awaited e = cc (e)
entered_not_came Came e = cc (e)
entered_not_came Gone e = cc (e)

-- A route holds the section that a train comes into on its way over this route.
pub record Holder (track : Track) (machine : Machine) (train section route : ℕ) : Type 0 where
  pub given : is_given (machine.routes route).phase ≡ true
  pub owner : (machine.routes route).owner ≡ Some train
  pub told : (machine.sections section).told ≡ Gone
  pub unseen : (machine.routes route).seen section ≡ false
  -- it isn't the first one, and the train is in the one before
  pub later : track.section (track.first route) ≢ section
  pub before : (a b : ℕ) → IsNext a b (path track route) → track.section a ≢ track.section b → track.section b ≡ section
      → (machine.sections (track.section a)).told ≢ Gone

module _ (track : Track) (machine : Machine) (kept : Invariant track machine) (train section : ℕ) (inlet : Bool) (number : ℕ)
    (holder : (machine.routes number).holds section ≡ true → Holder track machine train section number) where
  old : IsRouteSound track machine.sections machine.points machine.passes machine.now number (machine.routes number)
  old = kept.routes number

  -- what holds of each section, and of this one with a train come in
  at_entered : (P : ℕ → Section → Type 0) → P section (section_entered inlet machine.clock (machine.sections section)) → ((n : ℕ) → n ≢ section → P n (machine.sections n))
      → (n : ℕ) → P n (changed_at section (section_entered inlet machine.clock (machine.sections section)) machine.sections n)
  at_entered P = at_each P section (section_entered inlet machine.clock (machine.sections section)) machine.sections

  gone : (n : ℕ) → (changed_at section (section_entered inlet machine.clock (machine.sections section)) machine.sections n).told ≡ Gone
      → (n ≢ section) × ((machine.sections n).told ≡ Gone)
  gone = at_entered (λ n s. s.told ≡ Gone → (n ≢ section) × ((machine.sections n).told ≡ Gone)) (λ e. absurd (entered_there (machine.sections section).told e)) (λ n differs e. (differs, e))

  still_gone : (n : ℕ) → n ≢ section → (machine.sections n).told ≡ Gone
      → (changed_at section (section_entered inlet machine.clock (machine.sections section)) machine.sections n).told ≡ Gone
  still_gone n differs e =
      ap (λ s. s.told) (elsewhere section (section_entered inlet machine.clock (machine.sections section)) machine.sections n differs) ∙ e

  -- a section other than this one, held
  not_this : (machine.routes number).owner ≡ None → (n : ℕ) → (machine.routes number).holds n ≡ true → n ≢ section
  not_this unowned n holds same = cc (unowned, (holder (subst (λ (m : ℕ). (machine.routes number).holds m ≡ true) same holds)).owner)

  not_waiting : (machine.routes number).phase ≡ Waiting → (n : ℕ) → (machine.routes number).holds n ≡ true → n ≢ section
  not_waiting waiting n holds same = cc (ap is_given waiting, (holder (subst (λ (m : ℕ). (machine.routes number).holds m ≡ true) same holds)).given)

  pub once_still : is_open (machine.routes number).phase ≡ true → (open_holds : (machine.routes number).holds (track.section (track.first number)) ≡ true) → (pass : Pass)
      → IsOnce (machine.routes number).phase (machine.routes number).withdrawn_at (machine.sections (track.section (track.first number))) pass
      → IsOnce (machine.routes number).phase (machine.routes number).withdrawn_at
      (changed_at section (section_entered inlet machine.clock (machine.sections section)) machine.sections (track.section (track.first number))) pass
  once_still is_opened holds pass once =
      subst (λ (s : Section). IsOnce (machine.routes number).phase (machine.routes number).withdrawn_at s pass)
      (sym (elsewhere section (section_entered inlet machine.clock (machine.sections section)) machine.sections (track.section (track.first number))
      (λ same. (holder (subst (λ (m : ℕ). (machine.routes number).holds m ≡ true) same holds)).later same))) once

  pub entered_sound : (passes : ℕ → Pass)
      → (is_open (machine.routes number).phase ≡ true → (machine.routes number).owner ≢ None → IsOnce (machine.routes number).phase (machine.routes number).withdrawn_at
      (changed_at section (section_entered inlet machine.clock (machine.sections section)) machine.sections (track.section (track.first number))) (passes (track.entry number)))
      → IsRouteSound track (changed_at section (section_entered inlet machine.clock (machine.sections section)) machine.sections) machine.points passes machine.now number (machine.routes number)
  entered_sound passes once = record {
    unset = old.unset;
    on_path = old.on_path;
    whole = old.whole;
    freed = old.freed;
    waits = λ waiting n holds. still_gone n (not_waiting waiting n holds) (old.waits waiting n holds);
    unpassed = λ given unowned n holds. still_gone n (not_this unowned n holds) (old.unpassed given unowned n holds);
    unpassed_unseen = old.unpassed_unseen;
    clear = λ proceeding. at_entered (λ n s. (machine.routes number).holds n ≡ true → s.belief ≡ Clear) (old.clear proceeding section) (λ n differs. old.clear proceeding n);
    seen_came = λ given. at_entered (λ n s. (machine.routes number).holds n ≡ true → (machine.routes number).seen n ≡ true → is_unheard s.told ≡ false)
        (λ holds seen. absurd (cc (seen, (holder holds).unseen))) (λ n differs. old.seen_came given n);
    unseen_awaited = λ given. at_entered (λ n s. (machine.routes number).holds n ≡ true → (machine.routes number).seen n ≡ false → (s.told ≡ Awaited) ⊎ (s.told ≡ Gone))
        (λ holds unseen. inl (ap told_entered (holder holds).told)) (λ n differs. old.unseen_awaited given n);
    begun = λ ended. at_entered (λ n s. n ≡ track.section (track.first number) → (machine.routes number).holds n ≡ true → s.told ≢ Gone → s.entered ≤ (machine.routes number).ended)
        (λ same holds there. absurd ((holder holds).later (sym same)))
        (λ n differs same holds there. subst (λ (m : ℕ). (machine.sections m).entered ≤ (machine.routes number).ended) (sym same)
        (old.begun ended (subst (λ (m : ℕ). (machine.routes number).holds m ≡ true) same holds) (λ gone. there (subst (λ (m : ℕ). (machine.sections m).told ≡ Gone) (sym same) gone))))
        (track.section (track.first number)) refl;
    went_on = went_on;
    once = once;
    past = old.past;
    settled = old.settled;
  }
    where
      since_same : (n : ℕ) → n ≢ section
          → (changed_at section (section_entered inlet machine.clock (machine.sections section)) machine.sections n).since ≡ (machine.sections n).since
      since_same n differs = ap (λ s. s.since) (elsewhere section (section_entered inlet machine.clock (machine.sections section)) machine.sections n differs)

      went_on : is_given (machine.routes number).phase ≡ true → (a b : ℕ) → IsNext a b (path track number) → track.section a ≢ track.section b
          → (machine.routes number).holds (track.section b) ≡ true → (machine.routes number).seen (track.section a) ≡ false
          → (changed_at section (section_entered inlet machine.clock (machine.sections section)) machine.sections (track.section a)).told ≡ Gone
          → (changed_at section (section_entered inlet machine.clock (machine.sections section)) machine.sections (track.section b)).told ≢ Gone
          → (changed_at section (section_entered inlet machine.clock (machine.sections section)) machine.sections (track.section b)).entered
          ≤ (changed_at section (section_entered inlet machine.clock (machine.sections section)) machine.sections (track.section a)).since
      went_on given a b next differs holds unseen told_a there =
          subst (λ (t : ℕ). (changed_at section (section_entered inlet machine.clock (machine.sections section)) machine.sections (track.section b)).entered ≤ t)
          (sym (since_same (track.section a) (gone (track.section a) told_a).0))
          (at_entered (λ n s. n ≡ track.section b → s.told ≢ Gone → s.entered ≤ (machine.sections (track.section a)).since)
          (λ same there. absurd ((holder (subst (λ (m : ℕ). (machine.routes number).holds m ≡ true) (sym same) holds)).before a b next differs (sym same) (gone (track.section a) told_a).1))
          (λ n other same there. subst (λ (m : ℕ). (machine.sections m).entered ≤ (machine.sections (track.section a)).since) (sym same)
          (old.went_on given a b next differs holds unseen (gone (track.section a) told_a).1 (λ e. there (subst (λ (m : ℕ). (machine.sections m).told ≡ Gone) (sym same) e))))
          (track.section b) refl there)
