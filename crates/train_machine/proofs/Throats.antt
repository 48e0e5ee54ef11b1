-- The invariant is kept where a train comes in, and where it goes on in a throat.
use Rattle.std.proofs.Common.{◌≡◌, ℕ, ◌≤◌, ◌+◌, ◌⊎◌, inl, inr, Bool, true, false, List, [], ◌∷◌, None, refl, sym, ap, subst, ◌∙◌, arith}
use Rattle.std.specs.Prelude.{◌≢◌, if◌then◌else◌}
use Rattle.train_machine.specs.Lists.{changed_at, IsOf, IsFirst, IsEnd}
use Rattle.train_machine.specs.Track.{Track, IsSound, path}
use Rattle.train_machine.specs.Train.{Under, Nothing, Throat, OnRoute, is_in}
use Rattle.train_machine.specs.Section.{Clear, Came, Gone, Section, is_unheard, section_entered}
use Rattle.train_machine.specs.Machine.{report_time, Machine, IsIn}
use Rattle.train_machine.specs.Promise.{LiesFor}
use Rattle.train_machine.specs.Moves.{MayEnter, MayGo, later_way, come, entering, sections_entered}
use Rattle.train_machine.specs.Invariant.{IsRouteSound, IsAccounted, IsOnPath, IsReserved, IsOnThroat, IsOnWay, Invariant}
use Rattle.train_machine.proofs.Lists.{at_each, at_it, elsewhere, end_next, end_of, end_later, end_after_of, end_last, end_whole}
use Rattle.train_machine.proofs.Routes.{open_whole}
use Rattle.train_machine.proofs.Come.{arrived, Arrives, arrived_kept}
use Rattle.train_machine.proofs.Entered.{entered_there, entered_not_came, Holder, once_still, entered_sound}
use Rattle.train_machine.proofs.Goes.{led_on, route_lies, route_goes}

-- A train comes onto a place of a throat, with others before it.
record InThroat (track : Track) (machine : Machine) (train place border : ℕ) (way : List ℕ) : Type 0 where
  ends : IsEnd place way (track.throat border)
  -- the sections of both are no route's, no other train's, and before no other train in a throat
  free : (q : ℕ) → IsOf q (place ∷ way) → IsReserved track machine train q

module _ (track : Track) (sound : IsSound track) (machine : Machine) (kept : Invariant track machine) (train place border : ℕ) (way : List ℕ)
    (into : InThroat track machine train place border way) where
  here_free : IsReserved track machine train place
  here_free = into.free place (inl refl)

  plain : track.point place ≡ None
  plain = sound.throat_plain border place (end_of place way (track.throat border) into.ends)

  claims : (sections : ℕ → Section) (q : ℕ) → IsOf q way → IsReserved track (arrived train place (Throat border) way sections machine.routes machine.passes machine) train q
  claims sections q of = let old = into.free q (inr of) in record {
    unheld = old.unheld;
    empty = at_each (λ n t. is_in track (track.section q) t.places ≡ true → n ≡ train) train
        (record { places = place ∷ (machine.trains train).places; under = Throat border; way = way }) machine.trains (λ inside. refl) (λ n differs. old.empty n);
    unclaimed = λ other from ahead. at_each (λ n t. t.under ≡ Throat from → IsOf ahead t.way → track.section ahead ≡ track.section q → n ≡ train) train
        (record { places = place ∷ (machine.trains train).places; under = Throat border; way = way }) machine.trains (λ u of same. refl)
        (λ n differs. old.unclaimed n from ahead) other;
  }

  throat_arrives : (sections : ℕ → Section) → ((n : ℕ) → n ≢ track.section place → sections n ≡ machine.sections n)
      → (IsIn track machine train (track.section place) → (sections (track.section place)).entered ≡ (machine.sections (track.section place)).entered)
      → (sections (track.section place)).told ≢ Gone → ((sections (track.section place)).told ≡ Came → (sections (track.section place)).belief ≢ Clear)
      → (sections (track.section place)).entered ≤ machine.clock
      → (is_unheard (sections (track.section place)).told ≡ true
      → ((sections (track.section place)).inlet ≡ true) ⊎ ((sections (track.section place)).entered + report_time ≤ machine.clock))
      → ((number : ℕ) → IsRouteSound track sections machine.points machine.passes machine.now number (machine.routes number))
      → Arrives track machine train place (Throat border) way sections machine.routes machine.passes
  throat_arrives sections other again there came past behind sounds = record {
    alone = here_free.empty;
    other = other;
    again = again;
    there = there;
    came = came;
    past = past;
    behind = λ unheard. inr (behind unheard);
    sound = sounds;
    given = λ number. refl;
    holds = λ number section. refl;
    seen = λ number section. refl;
    owner = λ number owner e. e;
    own = λ number held. absurd (here_free.unheld number held.holds);
    unreserved = λ another border ahead differs u of reserved here. differs (here_free.unclaimed another border ahead u of here);
    apart = λ another border ahead from there differs u of reserved throat of_there same.
        differs ((into.free there (inr of_there)).unclaimed another border ahead u of (sym same));
    ahead = record { ends = into.ends; claims = claims sections };
    over = λ point over. absurd (cc (plain, over));
  }

  throat_goes : Invariant track (arrived train place (Throat border) way (sections_entered track machine train place true) machine.routes machine.passes machine)
  throat_goes = go (is_in track (track.section place) (machine.trains train).places) refl
    where
      unheld : (number : ℕ) → (machine.routes number).holds (track.section place) ≡ true → Holder track machine train (track.section place) number
      unheld number holds = absurd (here_free.unheld number holds)

      still : IsAccounted machine (track.section place)
          → ((machine.sections (track.section place)).inlet ≡ true) ⊎ ((machine.sections (track.section place)).entered + report_time ≤ machine.clock)
      still (inl held) = absurd (here_free.unheld held.0 held.1.holds)
      still (inr other) = other

      go : (test : Bool) → is_in track (track.section place) (machine.trains train).places ≡ test
          → Invariant track (arrived train place (Throat border) way (if test then machine.sections
          else changed_at (track.section place) (section_entered true machine.clock (machine.sections (track.section place))) machine.sections) machine.routes machine.passes machine)
      go true inside =
          arrived_kept track machine kept train place (Throat border) way machine.sections machine.routes machine.passes
          (throat_arrives machine.sections (λ n differs. refl) (λ e. refl) (λ gone. kept.gone (track.section place) gone train inside) (kept.came (track.section place))
          (kept.past (track.section place)) (λ unheard. still (kept.behind (track.section place) unheard)) kept.routes)
      go false outside =
          arrived_kept track machine kept train place (Throat border) way
          (changed_at (track.section place) (section_entered true machine.clock (machine.sections (track.section place))) machine.sections) machine.routes machine.passes
          (throat_arrives (changed_at (track.section place) (section_entered true machine.clock (machine.sections (track.section place))) machine.sections)
          (λ n differs. elsewhere (track.section place) (section_entered true machine.clock (machine.sections (track.section place))) machine.sections n differs)
          (λ inside. absurd (cc (inside, outside)))
          (λ gone. entered_there (machine.sections (track.section place)).told (sym (ap (λ s. s.told) here) ∙ gone))
          (λ came. absurd (entered_not_came (machine.sections (track.section place)).told (sym (ap (λ s. s.told) here) ∙ came)))
          (subst (λ (s : Section). s.entered ≤ machine.clock) (sym here) (omega arith))
          (λ unheard. inl (ap (λ s. s.inlet) here))
          (λ number. entered_sound track machine kept train (track.section place) true number (unheld number) machine.passes
          (λ «open» owned. once_still track machine kept train (track.section place) true number (unheld number) «open»
          ((kept.routes number).whole (open_whole (machine.routes number).phase «open») (track.first number) (inl refl)) (machine.passes (track.entry number))
          ((kept.routes number).once «open» owned))))
        where
          here : changed_at (track.section place) (section_entered true machine.clock (machine.sections (track.section place))) machine.sections (track.section place)
              ≡ section_entered true machine.clock (machine.sections (track.section place))
          here = at_it (track.section place) (section_entered true machine.clock (machine.sections (track.section place))) machine.sections

module _ (track : Track) (sound : IsSound track) (machine : Machine) (kept : Invariant track machine) (train : ℕ) where
  pub enters_kept : (border : ℕ) → MayEnter track machine train border → Invariant track (entering track train border (track.throat border) machine)
  enters_kept border may = go (track.throat border) refl
    where
      free : (q : ℕ) → IsOf q (track.throat border) → IsReserved track machine train q
      free q of = record {
        unheld = λ route. may.unheld q route of;
        empty = λ other inside. absurd (may.empty q other of inside);
        unclaimed = λ other from ahead u of_ahead same. absurd (may.unclaimed q other from ahead of u of_ahead same);
      }

      go : (throat : List ℕ) → track.throat border ≡ throat → Invariant track (entering track train border throat machine)
      go [] e = kept
      go (place ∷ way) e = throat_goes track sound machine kept train place border way record {
        ends = subst (λ (l : List ℕ). IsEnd place way l) (sym e) (end_whole place way);
        free = λ q of. free q (subst (λ (l : List ℕ). IsOf q l) (sym e) of);
      }

  pub enters_way : (border place : ℕ) → IsFirst place (track.throat border) → LiesFor track machine place
  enters_way border place first point over = absurd (cc (over, sound.throat_plain border place (go (track.throat border) first)))
    where
      go : (throat : List ℕ) → IsFirst place throat → IsOf place throat
      go [] first = absurd first
      go (head ∷ later) first = inl first

  module _ (place : ℕ) (may : MayGo track machine train place) where
    -- its way begins with a place that follows, and this is where it comes
    route_way : (route : ℕ) (way : List ℕ) → IsOnPath track machine train may.front route way → (next : ℕ) × (later : List ℕ) × (way ≡ next ∷ later) × (next ≡ place)
    route_way route [] on = absurd (sound.ends route may.front place (end_last may.front (path track route) on.ends) may.unsignalled may.led.joined)
    route_way route (next ∷ later) on = (
      next,
      later,
      refl,
      led_on track sound machine may.front next place
          (sound.leads route may.front next (end_next may.front next later (path track route) on.ends))
          (λ point over. (kept.routes route).settled (on.claims next (inl refl)).given next point
          (end_after_of may.front next (next ∷ later) (path track route) on.ends (inl refl)) over (on.claims next (inl refl)).holds) may.led,
    )

    throat_way : (border : ℕ) (way : List ℕ) → IsOnThroat track machine train may.front border way → (next : ℕ) × (later : List ℕ) × (way ≡ next ∷ later) × (next ≡ place)
    throat_way border [] on = absurd (sound.throat_ends border may.front (end_last may.front (track.throat border) on.ends) may.unsignalled)
    throat_way border (next ∷ later) on = (
      next,
      later,
      refl,
      led_on track sound machine may.front next place
          (sound.throat_leads border may.front next (end_next may.front next later (track.throat border) on.ends))
          (λ point over. absurd (cc (over, sound.throat_plain border next (end_after_of may.front next (next ∷ later) (track.throat border) on.ends (inl refl))))) may.led,
    )

    on_way : IsOnWay track machine train may.front (machine.trains train).under (machine.trains train).way
    on_way = kept.ways train may.front may.at_front.rear may.at_front.stands

    pub goes_way : LiesFor track machine place
    goes_way = go (machine.trains train).under (machine.trains train).way refl refl on_way
      where
        go : (under : Under) (way : List ℕ) → (machine.trains train).under ≡ under → (machine.trains train).way ≡ way → IsOnWay track machine train may.front under way
            → LiesFor track machine place
        go Nothing way u w on = absurd (may.let_go u)
        go (Throat border) way u w on = let found = throat_way border way on in λ point over. absurd (cc (
          over,
          sound.throat_plain border place (subst (λ (n : ℕ). IsOf n (track.throat border)) found.3
              (end_after_of may.front found.0 way (track.throat border) on.ends (subst (λ (l : List ℕ). IsOf found.0 l) (sym found.2) (inl refl)))),
        ))
        go (OnRoute route) way u w on = let found = route_way route way on
            in route_lies track sound machine kept train place may.front may.at_front.rear may.at_front.stands may.led may.unsignalled route found.0 found.1 u
            (subst (λ (l : List ℕ). IsOnPath track machine train may.front route l) found.2 on) found.3

    pub goes_kept : Invariant track (come track train place (machine.trains train).under (later_way (machine.trains train).way) machine)
    goes_kept = go (machine.trains train).under (machine.trains train).way refl refl on_way
      where
        go : (under : Under) (way : List ℕ) → (machine.trains train).under ≡ under → (machine.trains train).way ≡ way → IsOnWay track machine train may.front under way
            → Invariant track (come track train place under (later_way way) machine)
        go Nothing way u w on = absurd (may.let_go u)
        go (Throat border) way u w on =
            let found = throat_way border way on in
            subst (λ (l : List ℕ). Invariant track (come track train place (Throat border) (later_way l) machine)) (sym found.2)
            (throat_goes track sound machine kept train place border found.1 (into found.0 found.1 found.2 found.3))
          where
            into : (next : ℕ) (later : List ℕ) → way ≡ next ∷ later → next ≡ place → InThroat track machine train place border later
            into next later e same = record {
              ends = end_later may.front place later (track.throat border)
                  (subst (λ (n : ℕ). IsEnd may.front (n ∷ later) (track.throat border)) same (subst (λ (l : List ℕ). IsEnd may.front l (track.throat border)) e on.ends));
              free = λ q of. on.claims q (subst (λ (l : List ℕ). IsOf q l) (sym e) (subst (λ (n : ℕ). IsOf q (n ∷ later)) (sym same) of));
            }
        go (OnRoute route) way u w on =
            let found = route_way route way on in
            subst (λ (l : List ℕ). Invariant track (come track train place (OnRoute route) (later_way l) machine)) (sym found.2)
            (route_goes track sound machine kept train place may.front may.at_front.rear may.at_front.stands may.led may.unsignalled route found.0 found.1 u
            (subst (λ (l : List ℕ). IsOnPath track machine train may.front route l) found.2 on) found.3)
