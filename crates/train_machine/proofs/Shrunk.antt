-- The invariant is kept where a train's rear follows, where a train turns, and where the interlocking is resumed.
use Rattle.std.proofs.Common.{◌≡◌, ℕ, ◌≤◌, ◌+◌, ◌⊎◌, inl, inr, true, List, [], ◌∷◌, map, Some, refl, sym, ap, subst, ◌∙◌}
use Rattle.train_machine.specs.Lists.{changed_at, IsOf, without_last}
use Rattle.train_machine.specs.Track.{Track, IsSound}
use Rattle.train_machine.specs.Train.{Under, Nothing, Throat, OnRoute, Train, is_in}
use Rattle.train_machine.specs.Route.{free_route}
use Rattle.train_machine.specs.Machine.{report_time, Machine, IsIn, IsOn, with_train}
use Rattle.train_machine.specs.Promise.{StandsAt}
use Rattle.train_machine.specs.Moves.{stopped, followed, turned_train}
use Rattle.train_machine.specs.Invariant.{IsHeldBy, IsAccounted, IsOnWay, HoldsPoint, IsUnder, Invariant}
use Rattle.train_machine.proofs.Lists.{at_each, in_has, has_in, without_of, without_first, turned_of, map_of}
use Rattle.train_machine.proofs.Routes.{free_sound}

-- the element of one place is that of another, and a train lies on it by the same leg
pub record IsSameElement (track : Track) (place other : ℕ) : Type 0 where
  pub section : track.section other ≡ track.section place
  pub point : track.point other ≡ track.point place
  pub leg : track.leg other ≡ track.leg place

-- What is to be shown of a train that only leaves elements.
pub record Shrinks (track : Track) (old new : Train) : Type 0 where
  pub on : (place : ℕ) → IsOf place new.places → (other : ℕ) × IsOf other old.places × IsSameElement track place other
  pub under : (new.under ≡ Nothing)
      ⊎ ((new.under ≡ old.under) × (new.way ≡ old.way) × ((front : ℕ) (rear : List ℕ) → new.places ≡ front ∷ rear → (rest : List ℕ) × (old.places ≡ front ∷ rest)))

module _ (track : Track) (machine : Machine) (kept : Invariant track machine) (number : ℕ) (new : Train) (shrinks : Shrinks track (machine.trains number) new) where
  -- where a train is, it was
  was_in : (train section : ℕ) → is_in track section (changed_at number new machine.trains train).places ≡ true → IsIn track machine train section
  was_in train section =
      at_each (λ n t. is_in track section t.places ≡ true → IsIn track machine n section) number new machine.trains (λ inside. go (in_has track section new.places inside))
      (λ n differs inside. inside) train
    where
      go : (place : ℕ) × IsOf place new.places × (track.section place ≡ section) → IsIn track machine number section
      go found = let old = shrinks.on found.0 found.1
          in has_in track section (machine.trains number).places old.0 old.1 (old.2.section ∙ found.2)

  was_on : (train place : ℕ) → IsOf place (changed_at number new machine.trains train).places
      → (other : ℕ) × IsOn machine train other × IsSameElement track place other
  was_on train place =
      at_each (λ n t. IsOf place t.places → (other : ℕ) × IsOn machine n other × IsSameElement track place other) number new machine.trains (shrinks.on place)
      (λ n differs on. (place, on, record { section = refl; point = refl; leg = refl })) train

  -- what a train has before it in a throat, it had
  had_before : (train border ahead : ℕ) → (changed_at number new machine.trains train).under ≡ Throat border → IsOf ahead (changed_at number new machine.trains train).way
      → ((machine.trains train).under ≡ Throat border) × IsOf ahead (machine.trains train).way
  had_before train border ahead =
      at_each (λ n t. t.under ≡ Throat border → IsOf ahead t.way → ((machine.trains n).under ≡ Throat border) × IsOf ahead (machine.trains n).way) number new machine.trains
      (go shrinks.under) (λ n differs under of. (under, of)) train
    where
      go : (new.under ≡ Nothing)
          ⊎ ((new.under ≡ (machine.trains number).under) × (new.way ≡ (machine.trains number).way)
          × ((front : ℕ) (rear : List ℕ) → new.places ≡ front ∷ rear → (rest : List ℕ) × ((machine.trains number).places ≡ front ∷ rest)))
          → new.under ≡ Throat border → IsOf ahead new.way → ((machine.trains number).under ≡ Throat border) × IsOf ahead (machine.trains number).way
      go (inl nothing) under of = absurd (cc (under, nothing))
      go (inr same) under of = (sym same.0 ∙ under, subst (λ (l : List ℕ). IsOf ahead l) same.1 of)

  still_held : (section route : ℕ) → IsHeldBy machine section route → IsHeldBy (with_train number new machine) section route
  still_held section route old = record { given = old.given; holds = old.holds }

  behind : (section : ℕ) → IsAccounted machine section → IsAccounted (with_train number new machine) section
  behind section (inl held) = inl (held.0, still_held section held.0 held.1)
  behind section (inr other) = inr other

  -- a way that stays
  on_way : (train front : ℕ) (under : Under) (way : List ℕ) → IsOnWay track machine train front under way → IsOnWay track (with_train number new machine) train front under way
  on_way train front Nothing way on = tt
  on_way train front (Throat border) way on = record {
    ends = on.ends;
    claims = λ place of. let old = on.claims place of in record {
      unheld = old.unheld;
      empty = λ other inside. old.empty other (was_in other (track.section place) inside);
      unclaimed = λ other border ahead under of same. let had = had_before other border ahead under of in old.unclaimed other border ahead had.0 had.1 same;
    };
  }
  on_way train front (OnRoute route) way on = record {
    ends = on.ends;
    claims = λ place of. let old = on.claims place of in record { given = old.given; holds = old.holds; owner = old.owner; ahead = old.ahead };
  }

  ways : (train front : ℕ) (rear : List ℕ) → (changed_at number new machine.trains train).places ≡ front ∷ rear
      → IsOnWay track (with_train number new machine) train front (changed_at number new machine.trains train).under (changed_at number new machine.trains train).way
  ways train front rear =
      at_each (λ n t. t.places ≡ front ∷ rear → IsOnWay track (with_train number new machine) n front t.under t.way) number new machine.trains
      (λ stands. here stands shrinks.under) (λ n differs stands. on_way n front (machine.trains n).under (machine.trains n).way (kept.ways n front rear stands)) train
    where
      here : new.places ≡ front ∷ rear
          → (new.under ≡ Nothing)
          ⊎ ((new.under ≡ (machine.trains number).under) × (new.way ≡ (machine.trains number).way)
          × ((front : ℕ) (rear : List ℕ) → new.places ≡ front ∷ rear → (rest : List ℕ) × ((machine.trains number).places ≡ front ∷ rest)))
          → IsOnWay track (with_train number new machine) number front new.under new.way
      here stands (inl nothing) = subst (λ (u : Under). IsOnWay track (with_train number new machine) number front u new.way) (sym nothing) tt
      here stands (inr same) =
          let front_before = same.2 front rear stands in
          subst (λ (u : Under). IsOnWay track (with_train number new machine) number front u new.way) (sym same.0)
          (subst (λ (w : List ℕ). IsOnWay track (with_train number new machine) number front (machine.trains number).under w) (sym same.1)
          (on_way number front (machine.trains number).under (machine.trains number).way (kept.ways number front front_before.0 front_before.1)))

  under : (train place point : ℕ) → IsOf place (changed_at number new machine.trains train).places → track.point place ≡ Some point
      → IsUnder track (with_train number new machine) place point
  under train place point on over =
      let was = was_on train place on in
      let old = kept.under train was.0 point was.1 (was.2.point ∙ over) in record {
        stands = subst (λ side. StandsAt side (machine.points point)) was.2.leg old.stands;
        guarded = go was.0 was.2 old.guarded;
      }
    where
      go : (other : ℕ) → IsSameElement track place other
          → ((route : ℕ) × HoldsPoint track machine point route) ⊎ ((machine.sections (track.section other)).entered + report_time ≤ machine.clock)
          → ((route : ℕ) × HoldsPoint track (with_train number new machine) point route)
          ⊎ ((machine.sections (track.section place)).entered + report_time ≤ machine.clock)
      go other same (inl holds) =
          inl (holds.0, record { place = holds.1.place; given = holds.1.given; on_path = holds.1.on_path; over = holds.1.over; holds = holds.1.holds })
      go other same (inr past) = inr (subst (λ (n : ℕ). (machine.sections n).entered + report_time ≤ machine.clock) same.section past)

  pub shrunk_kept : Invariant track (with_train number new machine)
  shrunk_kept = record {
    routes = kept.routes;
    locks = kept.locks;
    gone = λ section gone train inside. kept.gone section gone train (was_in train section inside);
    came = kept.came;
    past = kept.past;
    behind = λ section unheard. behind section (kept.behind section unheard);
    alone = λ a b section in_a in_b. kept.alone a b section (was_in a section in_a) (was_in b section in_b);
    own = λ train section route held inside. kept.own train section route record { given = held.given; holds = held.holds } (was_in train section inside);
    ways = ways;
    under = under;
  }

module _ (track : Track) (machine : Machine) (kept : Invariant track machine) where
  pub follows_kept : (train : ℕ) → Invariant track (with_train train (followed (without_last (machine.trains train).places) (machine.trains train)) machine)
  follows_kept train = shrunk_kept track machine kept train (followed (without_last (machine.trains train).places) (machine.trains train)) (go (without_last (machine.trains train).places) refl)
    where
      go : (left : List ℕ) → without_last (machine.trains train).places ≡ left → Shrinks track (machine.trains train) (followed left (machine.trains train))
      go [] e = record { on = λ place of. absurd of; under = inl refl }
      go (first ∷ later) e = record {
        on = λ place of. (place, without_of place (machine.trains train).places (subst (λ (l : List ℕ). IsOf place l) (sym e) of), record { section = refl; point = refl; leg = refl });
        under = inr (refl, refl, (λ front rear stands. without_first (machine.trains train).places front rear (e ∙ stands)));
      }

  pub turns_kept : IsSound track → (train : ℕ) → Invariant track (with_train train (turned_train track (machine.trains train)) machine)
  turns_kept sound train = shrunk_kept track machine kept train (turned_train track (machine.trains train)) record {
    on = λ place of. at place (turned_of place (map track.turned (machine.trains train).places) [] of);
    under = inl refl;
  }
    where
      found : (place : ℕ) → (old : ℕ) × IsOf old (machine.trains train).places × (track.turned old ≡ place)
          → (other : ℕ) × IsOf other (machine.trains train).places × IsSameElement track place other
      found place old = (
        old.0,
        old.1,
        record {
          section = sym (sound.turned_section old.0) ∙ ap track.section old.2;
          point = sym (sound.turned_point old.0) ∙ ap track.point old.2;
          leg = sym (sound.turned_leg old.0) ∙ ap track.leg old.2;
        },
      )

      at : (place : ℕ) → IsOf place (map track.turned (machine.trains train).places) ⊎ IsOf place []
          → (other : ℕ) × IsOf other (machine.trains train).places × IsSameElement track place other
      at place (inl of) = found place (map_of track.turned place (machine.trains train).places of)
      at place (inr of) = absurd of

  pub resumes_kept : ((section : ℕ) → (machine.sections section).entered + report_time ≤ machine.clock)
      → Invariant track (record machine { trains = λ train. stopped (machine.trains train); routes = λ route. free_route })
  resumes_kept past = record {
    routes = λ route. free_sound track machine route;
    locks = λ a b section holds. absurd (cc (holds));
    gone = kept.gone;
    came = kept.came;
    past = kept.past;
    behind = λ section unheard. inr (inr (past section));
    alone = kept.alone;
    own = λ train section route held. absurd (cc (held.given));
    ways = λ train front rear stands. tt;
    under = λ train place point on over. record { stands = (kept.under train place point on over).stands; guarded = inr (past (track.section place)) };
  }
