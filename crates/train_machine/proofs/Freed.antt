-- The invariant is kept where the authority of a route ends, and where a route is freed.
use Rattle.std.proofs.Common.{◌≡◌, ℕ, ◌≤◌, ◌+◌, ◌⊎◌, inl, inr, Bool, true, false, List, [], ◌∷◌, refl, sym, ap, subst, ◌∙◌, arith}
use Rattle.std.specs.Prelude.{◌≢◌}
use Rattle.train_machine.specs.Lists.{changed_at, IsOf, IsNext, IsEnd}
use Rattle.train_machine.specs.Track.{Track, IsSound, path}
use Rattle.train_machine.specs.Train.{is_in}
use Rattle.train_machine.specs.Section.{Told, Late, Awaited, Came, Gone, is_unheard}
use Rattle.train_machine.specs.Route.{Ended, free_route, is_given, is_open, is_whole}
use Rattle.train_machine.specs.Machine.{report_time, Machine, with_route}
use Rattle.train_machine.specs.Moves.{MayFreeSection, MayFreeCancelled, MayFree}
use Rattle.train_machine.specs.Invariant.{IsRouteSound, IsClaimed, Invariant}
use Rattle.train_machine.proofs.Lists.{at_each, elsewhere, same_or_not, has_in, end_of}
use Rattle.train_machine.proofs.Frames.{Changes, route_frame, claim_kept}
use Rattle.train_machine.proofs.Routes.{told_clear, open_given, free_sound}

-- what is still held when one section is freed
pub held_before : (holds : ℕ → Bool) (section other : ℕ) → changed_at section false holds other ≡ true → (other ≢ section) × (holds other ≡ true)
held_before holds section other = at_each (λ n h. h ≡ true → (n ≢ section) × (holds n ≡ true)) section false holds (λ e. absurd (cc (e))) (λ n differs e. (differs, e)) other

pub gone_or_not : (told : Told) → (told ≡ Gone) ⊎ (told ≢ Gone)
gone_or_not Late = inr (λ e. cc (e))
gone_or_not Awaited = inr (λ e. cc (e))
gone_or_not Came = inr (λ e. cc (e))
gone_or_not Gone = inl refl

module _ (track : Track) (sound : IsSound track) (machine : Machine) (kept : Invariant track machine) (number : ℕ) where
  old : IsRouteSound track machine.sections machine.points machine.passes machine.now number (machine.routes number)
  old = kept.routes number

  pub ends_kept : is_open (machine.routes number).phase ≡ true
      → Invariant track (with_route number (record (machine.routes number) { phase = Ended; ended = machine.clock }) machine)
  ends_kept is_opened = route_frame track machine kept number (record (machine.routes number) { phase = Ended; ended = machine.clock }) changes sound
    where
      given : is_given (machine.routes number).phase ≡ true
      given = open_given (machine.routes number).phase is_opened

      changes : Changes track machine number (record (machine.routes number) { phase = Ended; ended = machine.clock })
      changes = record {
        sound = record {
          unset = λ free. absurd (cc (free));
          on_path = old.on_path;
          whole = λ whole. absurd (cc (whole));
          freed = λ e. old.freed given;
          waits = λ waiting. absurd (cc (waiting));
          unpassed = λ e. old.unpassed given;
          unpassed_unseen = λ e. old.unpassed_unseen given;
          clear = λ proceeding. absurd (cc (proceeding));
          seen_came = λ e. old.seen_came given;
          unseen_awaited = λ e. old.unseen_awaited given;
          begun = λ ended holds there. kept.past (track.section (track.first number));
          went_on = λ e. old.went_on given;
          once = λ e. absurd (cc (e));
          past = old.past;
          settled = λ e. old.settled given;
        };
        locks = λ section other holds held. kept.locks other number section held holds;
        keeps = λ section e holds. inl (refl, holds);
        owns = λ train section e holds inside. kept.own train section number record { given = given; holds = holds } inside;
        claims = λ train front place rear way stands under ends of claim.
            claim_kept track machine number (record (machine.routes number) { phase = Ended; ended = machine.clock }) train front place refl claim.holds refl refl claim;
        unreserved = λ train border place under reserved of holds. reserved.unheld number holds;
      }

  pub frees_section_kept : (section : ℕ) → MayFreeSection machine number section
      → Invariant track (with_route number (record (machine.routes number) { holds = changed_at section false (machine.routes number).holds }) machine)
  frees_section_kept section may =
      route_frame track machine kept number (record (machine.routes number) { holds = changed_at section false (machine.routes number).holds }) changes sound
    where
      given : is_given (machine.routes number).phase ≡ true
      given = ap is_given may.ended

      still : (other : ℕ) → changed_at section false (machine.routes number).holds other ≡ true → (other ≢ section) × ((machine.routes number).holds other ≡ true)
      still = held_before (machine.routes number).holds section

      -- its train has left the section
      gone : (machine.routes number).holds section ≡ true → (machine.sections section).told ≡ Gone
      gone holds = go (told_clear (machine.sections section).told (machine.sections section).belief may.clear (kept.came section))
        where
          go : (is_unheard (machine.sections section).told ≡ true) ⊎ ((machine.sections section).told ≡ Gone) → (machine.sections section).told ≡ Gone
          go (inl unheard) = absurd (cc (unheard, old.seen_came given section holds may.seen))
          go (inr left) = left

      -- no train has it before itself
      not_claimed : (train front place : ℕ) (rear : List ℕ) → (machine.trains train).places ≡ front ∷ rear → IsClaimed track machine train front number place
          → track.section place ≢ section
      not_claimed train front place rear stands claim same = go claim.ahead
        where
          left : (machine.sections (track.section place)).told ≡ Gone
          left = subst (λ (n : ℕ). (machine.sections n).told ≡ Gone) (sym same) (gone (subst (λ (n : ℕ). (machine.routes number).holds n ≡ true) same claim.holds))

          go : (track.section place ≡ track.section front) ⊎ (((machine.sections (track.section place)).told ≡ Gone) × ((machine.routes number).seen (track.section place) ≡ false)) → ⊥
          go (inl at_front) =
              kept.gone (track.section place) left train
              (subst (λ (l : List ℕ). is_in track (track.section place) l ≡ true) (sym stands) (has_in track (track.section place) (front ∷ rear) front (inl refl) (sym at_front)))
          go (inr told) = cc (told.1, subst (λ (n : ℕ). (machine.routes number).seen n ≡ true) (sym same) may.seen)

      keeps : (other : ℕ) → (machine.routes number).holds other ≡ true → (other ≡ section) ⊎ (other ≢ section)
          → ((is_given (machine.routes number).phase ≡ true) × (changed_at section false (machine.routes number).holds other ≡ true)) ⊎ ((machine.sections other).told ≡ Gone)
      keeps other holds (inl same) =
          inr (subst (λ (n : ℕ). (machine.sections n).told ≡ Gone) (sym same) (gone (subst (λ (n : ℕ). (machine.routes number).holds n ≡ true) same holds)))
      keeps other holds (inr differs) = inl (given, elsewhere section false (machine.routes number).holds other differs ∙ holds)

      changes : Changes track machine number (record (machine.routes number) { holds = changed_at section false (machine.routes number).holds })
      changes = record {
        sound = record {
          unset = λ free. absurd (cc (free, may.ended));
          on_path = λ other holds. old.on_path other (still other holds).1;
          whole = λ whole. absurd (cc (whole, ap is_whole may.ended));
          freed = λ e place of unseen. elsewhere section false (machine.routes number).holds (track.section place)
              (λ same. cc (unseen, may.seen, ap (machine.routes number).seen same)) ∙ old.freed e place of unseen;
          waits = λ waiting. absurd (cc (waiting, may.ended));
          unpassed = λ e unowned other holds. old.unpassed e unowned other (still other holds).1;
          unpassed_unseen = λ e unowned other holds. old.unpassed_unseen e unowned other (still other holds).1;
          clear = λ proceeding. absurd (cc (proceeding, may.ended));
          seen_came = λ e other holds. old.seen_came e other (still other holds).1;
          unseen_awaited = λ e other holds. old.unseen_awaited e other (still other holds).1;
          begun = λ ended holds. old.begun ended (still (track.section (track.first number)) holds).1;
          went_on = λ e a b follows differs holds. old.went_on e a b follows differs (still (track.section b) holds).1;
          once = λ «open». absurd (cc («open», ap is_open may.ended));
          past = old.past;
          settled = λ e place point of over holds. old.settled e place point of over (still (track.section place) holds).1;
        };
        locks = λ other route holds held. kept.locks route number other held (still other holds).1;
        keeps = λ other e holds. keeps other holds (same_or_not other section);
        owns = λ train other e holds inside. kept.own train other number record { given = e; holds = (still other holds).1 } inside;
        claims = λ train front place rear way stands under ends of claim.
            claim_kept track machine number (record (machine.routes number) { holds = changed_at section false (machine.routes number).holds }) train front place claim.given
            (elsewhere section false (machine.routes number).holds (track.section place) (not_claimed train front place rear stands claim) ∙ claim.holds) refl refl claim;
        unreserved = λ train border place under reserved of holds. reserved.unheld number (still (track.section place) holds).1;
      }

  -- a route that then holds nothing
  all_freed : ((section : ℕ) → is_given (machine.routes number).phase ≡ true → (machine.routes number).holds section ≡ true → (machine.sections section).told ≡ Gone)
      → ((train front place : ℕ) (rear way : List ℕ) → (machine.trains train).places ≡ front ∷ rear → IsEnd front way (path track number)
      → IsClaimed track machine train front number place → ⊥)
      → Invariant track (with_route number free_route machine)
  all_freed gone unclaimed = route_frame track machine kept number free_route record {
    sound = free_sound track machine number;
    locks = λ section other holds. absurd (cc (holds));
    keeps = λ section given holds. inr (gone section given holds);
    owns = λ train section given. absurd (cc (given));
    claims = λ train front place rear way stands under ends of claim. absurd (unclaimed train front place rear way stands ends claim);
    unreserved = λ train border place under reserved of holds. cc (holds);
  } sound

  pub frees_kept : MayFree (machine.routes number) → Invariant track (with_route number free_route machine)
  frees_kept (inl waiting) =
      all_freed (λ section given. absurd (cc (given, ap is_given waiting)))
      (λ train front place rear way stands ends claim. cc (claim.given, ap is_given waiting))
  frees_kept (inr ended) =
      all_freed (λ section given holds. absurd (ended.1 section holds)) (λ train front place rear way stands ends claim. ended.1 (track.section place) claim.holds)

  -- a cancelled route: its train has left each section, and the interlocking knows it
  module _ (may : MayFreeCancelled track machine number) where
    given : is_given (machine.routes number).phase ≡ true
    given = ap is_given may.ended

    holds_path : (place : ℕ) → IsOf place (path track number) → (machine.routes number).holds (track.section place) ≡ true
    holds_path place of = old.freed given place of (may.unseen place of)

    -- it was entered so long ago that it isn't believed clear by an old report
    known : (place : ℕ) → IsOf place (path track number)
        → ((machine.sections (track.section place)).told ≢ Gone → (machine.sections (track.section place)).entered + report_time ≤ machine.clock)
        → (machine.sections (track.section place)).told ≡ Gone
    known place of early = go (gone_or_not (machine.sections (track.section place)).told)
      where
        stale : (machine.sections (track.section place)).told ≢ Gone
            → ((machine.sections (track.section place)).told ≡ Awaited) ⊎ ((machine.sections (track.section place)).told ≡ Gone) → ⊥
        stale there (inl awaited) =
            let fresh = may.fresh (track.section place) (ap is_unheard awaited) (may.clear place of) in let past = early there in omega (arith, fresh, past)
        stale there (inr gone) = there gone

        go : ((machine.sections (track.section place)).told ≡ Gone) ⊎ ((machine.sections (track.section place)).told ≢ Gone) → (machine.sections (track.section place)).told ≡ Gone
        go (inl gone) = gone
        go (inr there) = absurd (stale there (old.unseen_awaited given (track.section place) (holds_path place of) (may.unseen place of)))

    first_gone : (machine.sections (track.section (track.first number))).told ≡ Gone
    first_gone =
        known (track.first number) (inl refl)
        (λ there. let begun = old.begun may.ended (holds_path (track.first number) (inl refl)) there in let over = may.over in omega (arith, begun, over))

    next_gone : (a b : ℕ) → IsNext a b (path track number) → IsOf a (path track number) → IsOf b (path track number)
        → (machine.sections (track.section a)).told ≡ Gone → (machine.sections (track.section b)).told ≡ Gone
    next_gone a b next of_a of_b gone = go (same_or_not (track.section a) (track.section b))
      where
        go : (track.section a ≡ track.section b) ⊎ (track.section a ≢ track.section b) → (machine.sections (track.section b)).told ≡ Gone
        go (inl same) = subst (λ (n : ℕ). (machine.sections n).told ≡ Gone) same gone
        go (inr differs) =
            known b of_b
            (λ there. let went = old.went_on given a b next differs (holds_path b of_b) (may.unseen a of_a) gone there in let since = may.since a of_a in omega (arith, went, since))

    later_gone : (first : ℕ) (later : List ℕ) → ((a b : ℕ) → IsNext a b (first ∷ later) → IsNext a b (path track number))
        → ((a : ℕ) → IsOf a (first ∷ later) → IsOf a (path track number)) → (machine.sections (track.section first)).told ≡ Gone
        → (place : ℕ) → IsOf place (first ∷ later) → (machine.sections (track.section place)).told ≡ Gone
    later_gone first later nexts ofs gone place (inl same) = subst (λ (n : ℕ). (machine.sections (track.section n)).told ≡ Gone) same gone
    later_gone first [] nexts ofs gone place (inr of) = absurd of
    later_gone first (second ∷ later) nexts ofs gone place (inr of) =
        later_gone second later (λ a b next. nexts a b (inr next)) (λ a of. ofs a (inr of))
        (next_gone first second (nexts first second (inl (refl, refl))) (ofs first (inl refl)) (ofs second (inr (inl refl))) gone) place of

    pub frees_cancelled_kept : Invariant track (with_route number free_route machine)
    frees_cancelled_kept = all_freed gone unclaimed
      where
        path_gone : (place : ℕ) → IsOf place (path track number) → (machine.sections (track.section place)).told ≡ Gone
        path_gone = later_gone (track.first number) (track.later number) (λ a b next. next) (λ a of. of) first_gone

        gone : (section : ℕ) → is_given (machine.routes number).phase ≡ true → (machine.routes number).holds section ≡ true → (machine.sections section).told ≡ Gone
        gone section e holds = let found = old.on_path section holds in subst (λ (n : ℕ). (machine.sections n).told ≡ Gone) found.2 (path_gone found.0 found.1)

        unclaimed : (train front place : ℕ) (rear way : List ℕ) → (machine.trains train).places ≡ front ∷ rear → IsEnd front way (path track number)
            → IsClaimed track machine train front number place → ⊥
        unclaimed train front place rear way stands ends claim =
            kept.gone (track.section front) (path_gone front (end_of front way (path track number) ends)) train
            (subst (λ (l : List ℕ). is_in track (track.section front) l ≡ true) (sym stands) (has_in track (track.section front) (front ∷ rear) front (inl refl) refl))
