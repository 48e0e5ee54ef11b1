-- A train that goes on without passing a signal goes on along its way, finds each point as it wants it, and the invariant is
-- kept.
use Rattle.std.proofs.Common.{◌≡◌, ℕ, ◌≤◌, ◌⊎◌, inl, inr, Bool, true, false, List, ◌∷◌, Some, None, refl, sym, ap, subst, ◌∙◌, arith}
use Rattle.std.specs.Prelude.{◌≢◌, if◌then◌else◌}
use Rattle.train_machine.specs.Lists.{changed_at, IsOf, IsNext, IsEnd}
use Rattle.train_machine.specs.Track.{Track, IsFork, IsSound, path}
use Rattle.train_machine.specs.Train.{OnRoute, is_in}
use Rattle.train_machine.specs.Section.{Clear, Came, Gone, Section, section_entered}
use Rattle.train_machine.specs.Machine.{Machine, IsIn}
use Rattle.train_machine.specs.Promise.{StandsAt, LiesFor}
use Rattle.train_machine.specs.Moves.{IsLed, sections_entered}
use Rattle.train_machine.specs.Invariant.{IsRouteSound, IsHeldBy, IsClaimed, IsOnPath, IsUnder, Invariant}
use Rattle.train_machine.proofs.Lists.{at_it, elsewhere, same_or_not, has_in, end_next, end_of, end_later}
use Rattle.train_machine.proofs.Routes.{open_whole}
use Rattle.train_machine.proofs.Come.{arrived, Arrives, arrived_kept}
use Rattle.train_machine.proofs.Entered.{entered_there, entered_not_came, Holder, once_still, entered_sound}

pub some_same : (a b : ℕ) → Some a ≡ Some b → a ≡ b
some_same a b e = cc (e)

-- the place that a train comes onto is the one that its way wants, where the points of this lie for it
pub led_on : (track : Track) (sound : IsSound track) (machine : Machine) (front wanted place : ℕ) → track.follows front wanted ≡ true
    → ((point : ℕ) → track.point wanted ≡ Some point → StandsAt (track.leg wanted) (machine.points point)) → IsLed track machine front place → wanted ≡ place
led_on track sound machine front wanted place follows stands led = go (sound.one_way front wanted place follows led.joined)
  where
    go : (wanted ≡ place) ⊎ IsFork track wanted place → wanted ≡ place
    go (inl same) = same
    go (inr fork) = absurd (fork.legs (led.by_leg fork.point (track.leg wanted) fork.over_b fork.facing (stands fork.point fork.over_a).lies))

module _ (track : Track) (sound : IsSound track) (machine : Machine) (kept : Invariant track machine) (train place : ℕ) (front : ℕ) (rear : List ℕ)
    (stands : (machine.trains train).places ≡ front ∷ rear) (led : IsLed track machine front place) (unsignalled : track.signal front ≡ None) where
  at_front : IsIn track machine train (track.section front)
  at_front = subst (λ (l : List ℕ). is_in track (track.section front) l ≡ true) (sym stands) (has_in track (track.section front) (front ∷ rear) front (inl refl) refl)

  -- ---- on a route

  module _ (route : ℕ) (next : ℕ) (way : List ℕ) (under : (machine.trains train).under ≡ OnRoute route) (on : IsOnPath track machine train front route (next ∷ way)) (same : next ≡ place) where
    claim : IsClaimed track machine train front route place
    claim = subst (λ (n : ℕ). IsClaimed track machine train front route n) same (on.claims next (inl refl))

    ends : IsEnd front (place ∷ way) (path track route)
    ends = subst (λ (n : ℕ). IsEnd front (n ∷ way) (path track route)) same on.ends

    held : IsHeldBy machine (track.section place) route
    held = record { given = claim.given; holds = claim.holds }

    of_path : IsOf place (path track route)
    of_path = end_of place way (path track route) (end_later front place way (path track route) ends)

    only : (other : ℕ) → (machine.routes other).holds (track.section place) ≡ true → other ≡ route
    only other holds = kept.locks other route (track.section place) holds claim.holds

    pub route_lies : LiesFor track machine place
    route_lies point over = (kept.routes route).settled claim.given place point of_path over claim.holds

    -- the way from a new place: the sections before it are the route's, and known to be left
    ahead_of : (sections : ℕ → Section) → ((n : ℕ) → n ≢ track.section place → sections n ≡ machine.sections n)
        → IsOnPath track (arrived train place (OnRoute route) way sections machine.routes machine.passes machine) train place route way
    ahead_of sections other = record { ends = end_later front place way (path track route) ends; claims = claims }
      where
        claims : (q : ℕ) → IsOf q way → IsClaimed track (arrived train place (OnRoute route) way sections machine.routes machine.passes machine) train place route q
        claims q of = let old = on.claims q (inr of) in record { given = old.given; holds = old.holds; owner = old.owner; ahead = go (same_or_not (track.section q) (track.section place)) old.ahead }
          where
            go : (track.section q ≡ track.section place) ⊎ (track.section q ≢ track.section place)
                → (track.section q ≡ track.section front) ⊎ (((machine.sections (track.section q)).told ≡ Gone) × ((machine.routes route).seen (track.section q) ≡ false))
                → (track.section q ≡ track.section place) ⊎ (((sections (track.section q)).told ≡ Gone) × ((machine.routes route).seen (track.section q) ≡ false))
            go (inl here) old = inl here
            go (inr differs) (inl at_front) = inl (at_front ∙ sym (sound.once route front place q way ends of at_front))
            go (inr differs) (inr told) = inr (subst (λ (s : Section). s.told ≡ Gone) (sym (other (track.section q) differs)) told.0, told.1)

    over : (sections : ℕ → Section) (point : ℕ) → track.point place ≡ Some point
        → IsUnder track (arrived train place (OnRoute route) way sections machine.routes machine.passes machine) place point
    over sections point at = record {
      stands = route_lies point at;
      guarded = inl (route, record { place = place; given = claim.given; on_path = of_path; over = at; holds = claim.holds });
    }

    arrives : (sections : ℕ → Section) → ((n : ℕ) → n ≢ track.section place → sections n ≡ machine.sections n)
        → (IsIn track machine train (track.section place) → (sections (track.section place)).entered ≡ (machine.sections (track.section place)).entered)
        → (sections (track.section place)).told ≢ Gone → ((sections (track.section place)).told ≡ Came → (sections (track.section place)).belief ≢ Clear)
        → (sections (track.section place)).entered ≤ machine.clock
        → ((number : ℕ) → IsRouteSound track sections machine.points machine.passes machine.now number (machine.routes number))
        → Arrives track machine train place (OnRoute route) way sections machine.routes machine.passes
    arrives sections other again there came past sounds = record {
      alone = λ another inside. some_same another train (sym (kept.own another (track.section place) route held inside) ∙ claim.owner);
      other = other;
      again = again;
      there = there;
      came = came;
      past = past;
      behind = λ unheard. inl (route, record { given = claim.given; holds = claim.holds });
      sound = sounds;
      given = λ number. refl;
      holds = λ number section. refl;
      seen = λ number section. refl;
      owner = λ number owner e. e;
      own = λ number mine. subst (λ (n : ℕ). (machine.routes n).owner ≡ Some train) (sym (only number mine.holds)) claim.owner;
      unreserved = λ another border ahead differs u of reserved here. reserved.unheld route (subst (λ (n : ℕ). (machine.routes route).holds n ≡ true) (sym here) claim.holds);
      apart = λ another border ahead from there differs u of reserved throat. absurd (cc (throat));
      ahead = ahead_of sections other;
      over = over sections;
    }

    -- the train comes into another section
    module _ (outside : IsIn track machine train (track.section place) → ⊥) where
      new_section : track.section place ≢ track.section front
      new_section here = outside (subst (λ (n : ℕ). IsIn track machine train n) (sym here) at_front)

      fresh_claim : ((machine.sections (track.section place)).told ≡ Gone) × ((machine.routes route).seen (track.section place) ≡ false)
      fresh_claim = go claim.ahead
        where
          go : (track.section place ≡ track.section front) ⊎ (((machine.sections (track.section place)).told ≡ Gone) × ((machine.routes route).seen (track.section place) ≡ false))
              → ((machine.sections (track.section place)).told ≡ Gone) × ((machine.routes route).seen (track.section place) ≡ false)
          go (inl here) = absurd (new_section here)
          go (inr told) = told

      next_place : IsNext front place (path track route)
      next_place = end_next front place way (path track route) ends

      holder : Holder track machine train (track.section place) route
      holder = record {
        given = claim.given;
        owner = claim.owner;
        told = fresh_claim.0;
        unseen = fresh_claim.1;
        later = λ first. sound.not_back route front place next_place (λ e. new_section (sym e)) (sym first);
        before = λ a b follows differs here gone.
            kept.gone (track.section a) gone train
            (subst (λ (n : ℕ). IsIn track machine train n) (sym (sound.one_entrance route a b front place follows next_place here differs (λ e. new_section (sym e)))) at_front);
      }

      holders : (number : ℕ) → (machine.routes number).holds (track.section place) ≡ true → Holder track machine train (track.section place) number
      holders number holds = subst (λ (n : ℕ). Holder track machine train (track.section place) n) (sym (only number holds)) holder

    pub route_goes : Invariant track (arrived train place (OnRoute route) way (sections_entered track machine train place false) machine.routes machine.passes machine)
    route_goes = go (is_in track (track.section place) (machine.trains train).places) refl
      where
        go : (test : Bool) → is_in track (track.section place) (machine.trains train).places ≡ test
            → Invariant track (arrived train place (OnRoute route) way (if test then machine.sections
            else changed_at (track.section place) (section_entered false machine.clock (machine.sections (track.section place))) machine.sections) machine.routes machine.passes machine)
        go true inside =
            arrived_kept track machine kept train place (OnRoute route) way machine.sections machine.routes machine.passes
            (arrives machine.sections (λ n differs. refl) (λ e. refl) (λ gone. kept.gone (track.section place) gone train inside) (kept.came (track.section place))
            (kept.past (track.section place)) kept.routes)
        go false outside =
            arrived_kept track machine kept train place (OnRoute route) way
            (changed_at (track.section place) (section_entered false machine.clock (machine.sections (track.section place))) machine.sections) machine.routes machine.passes
            (arrives (changed_at (track.section place) (section_entered false machine.clock (machine.sections (track.section place))) machine.sections)
            (λ n differs. elsewhere (track.section place) (section_entered false machine.clock (machine.sections (track.section place))) machine.sections n differs)
            (λ inside. absurd (cc (inside, outside)))
            (λ gone. entered_there (machine.sections (track.section place)).told (sym (ap (λ s. s.told) here) ∙ gone))
            (λ came. absurd (entered_not_came (machine.sections (track.section place)).told (sym (ap (λ s. s.told) here) ∙ came)))
            (subst (λ (s : Section). s.entered ≤ machine.clock) (sym here) (omega arith))
            (λ number. entered_sound track machine kept train (track.section place) false number (holders (λ inside. cc (inside, outside)) number) machine.passes
            (λ «open» owned. once_still track machine kept train (track.section place) false number (holders (λ inside. cc (inside, outside)) number) «open»
            ((kept.routes number).whole (open_whole (machine.routes number).phase «open») (track.first number) (inl refl)) (machine.passes (track.entry number))
            ((kept.routes number).once «open» owned))))
          where
            here : changed_at (track.section place) (section_entered false machine.clock (machine.sections (track.section place))) machine.sections (track.section place)
                ≡ section_entered false machine.clock (machine.sections (track.section place))
            here = at_it (track.section place) (section_entered false machine.clock (machine.sections (track.section place))) machine.sections
