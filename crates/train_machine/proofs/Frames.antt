-- The invariant is kept where one route changes.
use Rattle.std.proofs.Common.{◌≡◌, ℕ, ◌≤◌, ◌+◌, ◌⊎◌, inl, inr, true, false, List, ◌∷◌, Some, refl, sym, ap, subst, ◌∙◌}
use Rattle.std.specs.Prelude.{◌≢◌}
use Rattle.train_machine.specs.Lists.{changed_at, IsOf, IsEnd}
use Rattle.train_machine.specs.Track.{Track, IsSound, path}
use Rattle.train_machine.specs.Train.{Under, Nothing, Throat, OnRoute}
use Rattle.train_machine.specs.Section.{Gone, is_unheard}
use Rattle.train_machine.specs.Route.{Route, is_given}
use Rattle.train_machine.specs.Machine.{report_time, Machine, IsIn, IsOn, with_route}
use Rattle.train_machine.specs.Invariant.{IsRouteSound, IsHeldBy, IsAccounted, IsClaimed, IsOnPath, IsReserved, IsOnWay, HoldsPoint, IsUnder, Invariant}
use Rattle.train_machine.proofs.Lists.{at_each, at_it, elsewhere, same_or_not, has_in}

-- What is to be shown of a route that changes.
pub record Changes (track : Track) (machine : Machine) (number : ℕ) (new : Route) : Type 0 where
  pub sound : IsRouteSound track machine.sections machine.points machine.passes machine.now number new
  -- no other route holds what it then holds
  pub locks : (section other : ℕ) → new.holds section ≡ true → (machine.routes other).holds section ≡ true → other ≡ number
  -- what it held with authority it holds still, or its train has left it
  pub keeps : (section : ℕ) → is_given (machine.routes number).phase ≡ true → (machine.routes number).holds section ≡ true
      → ((is_given new.phase ≡ true) × (new.holds section ≡ true)) ⊎ ((machine.sections section).told ≡ Gone)
  -- a train in what it then holds with authority passed its signal
  pub owns : (train section : ℕ) → is_given new.phase ≡ true → new.holds section ≡ true → IsIn track machine train section → new.owner ≡ Some train
  -- it holds what is before a train on it
  pub claims : (train front place : ℕ) (rear way : List ℕ) → (machine.trains train).places ≡ front ∷ rear → (machine.trains train).under ≡ OnRoute number
      → IsEnd front way (path track number) → IsOf place way → IsClaimed track machine train front number place
      → IsClaimed track (with_route number new machine) train front number place
  -- and nothing that is before a train in a throat
  pub unreserved : (train border place : ℕ) → (machine.trains train).under ≡ Throat border → IsReserved track machine train place
      → IsOf place (machine.trains train).way → new.holds (track.section place) ≡ true → ⊥

module _ (track : Track) (machine : Machine) (kept : Invariant track machine) (number : ℕ) (new : Route) (changes : Changes track machine number new) where
  -- what a route held with authority it holds still, or its train has left it
  held_still : (section route : ℕ) → IsHeldBy machine section route → IsHeldBy (with_route number new machine) section route ⊎ ((machine.sections section).told ≡ Gone)
  held_still section route held = go (same_or_not route number)
    where
      go : (route ≡ number) ⊎ (route ≢ number) → IsHeldBy (with_route number new machine) section route ⊎ ((machine.sections section).told ≡ Gone)
      go (inl same) =
          at (changes.keeps section (subst (λ (n : ℕ). is_given (machine.routes n).phase ≡ true) same held.given)
          (subst (λ (n : ℕ). (machine.routes n).holds section ≡ true) same held.holds))
        where
          at : ((is_given new.phase ≡ true) × (new.holds section ≡ true)) ⊎ ((machine.sections section).told ≡ Gone)
              → IsHeldBy (with_route number new machine) section route ⊎ ((machine.sections section).told ≡ Gone)
          at (inl still) = inl (subst (λ (n : ℕ). IsHeldBy (with_route number new machine) section n) (sym same) record {
            given = ap (λ r. is_given r.phase) (at_it number new machine.routes) ∙ still.0;
            holds = ap (λ r. r.holds section) (at_it number new machine.routes) ∙ still.1;
          })
          at (inr gone) = inr gone
      go (inr differs) = inl record {
        given = ap (λ r. is_given r.phase) (elsewhere number new machine.routes route differs) ∙ held.given;
        holds = ap (λ r. r.holds section) (elsewhere number new machine.routes route differs) ∙ held.holds;
      }

  behind : (section : ℕ) → is_unheard (machine.sections section).told ≡ true → IsAccounted (with_route number new machine) section
  behind section unheard = go (kept.behind section unheard)
    where
      at : (route : ℕ) → IsHeldBy (with_route number new machine) section route ⊎ ((machine.sections section).told ≡ Gone) → IsAccounted (with_route number new machine) section
      at route (inl held) = inl (route, held)
      at route (inr gone) = absurd (cc (unheard, ap is_unheard gone))

      go : IsAccounted machine section → IsAccounted (with_route number new machine) section
      go (inl held) = at held.0 (held_still section held.0 held.1)
      go (inr other) = inr other

  locks : (a b section : ℕ) → (changed_at number new machine.routes a).holds section ≡ true → (changed_at number new machine.routes b).holds section ≡ true → a ≡ b
  locks a b section =
      at_each (λ n r. r.holds section ≡ true → (changed_at number new machine.routes b).holds section ≡ true → n ≡ b) number new machine.routes
      (at_each (λ m r. new.holds section ≡ true → r.holds section ≡ true → number ≡ m) number new machine.routes (λ h k. refl)
      (λ m differs h k. sym (changes.locks section m h k)) b)
      (λ n differs. at_each (λ m r. (machine.routes n).holds section ≡ true → r.holds section ≡ true → n ≡ m) number new machine.routes
      (λ h k. changes.locks section n k h) (λ m other h k. kept.locks n m section h k) b) a

  own : (train section route : ℕ) → IsHeldBy (with_route number new machine) section route → IsIn track machine train section
      → (changed_at number new machine.routes route).owner ≡ Some train
  own train section route held inside =
      at_each (λ n r. is_given r.phase ≡ true → r.holds section ≡ true → r.owner ≡ Some train) number new machine.routes
      (λ given holds. changes.owns train section given holds inside)
      (λ n differs given holds. kept.own train section n record { given = given; holds = holds } inside) route held.given held.holds

  ways : (train front : ℕ) (rear : List ℕ) → (machine.trains train).places ≡ front ∷ rear
      → IsOnWay track (with_route number new machine) train front (machine.trains train).under (machine.trains train).way
  ways train front rear stands = go (machine.trains train).under refl (kept.ways train front rear stands)
    where
      claim : (route place : ℕ) → (machine.trains train).under ≡ OnRoute route → IsOnPath track machine train front route (machine.trains train).way
          → IsOf place (machine.trains train).way → IsClaimed track (with_route number new machine) train front route place
      claim route place under on of = at (same_or_not route number)
        where
          at : (route ≡ number) ⊎ (route ≢ number) → IsClaimed track (with_route number new machine) train front route place
          at (inl same) =
              subst (λ (n : ℕ). IsClaimed track (with_route number new machine) train front n place) (sym same)
              (changes.claims train front place rear (machine.trains train).way stands (under ∙ ap OnRoute same)
              (subst (λ (n : ℕ). IsEnd front (machine.trains train).way (path track n)) same on.ends) of
              (subst (λ (n : ℕ). IsClaimed track machine train front n place) same (on.claims place of)))
          at (inr differs) = let old = on.claims place of in record {
            given = ap (λ r. is_given r.phase) (elsewhere number new machine.routes route differs) ∙ old.given;
            holds = ap (λ r. r.holds (track.section place)) (elsewhere number new machine.routes route differs) ∙ old.holds;
            owner = ap (λ r. r.owner) (elsewhere number new machine.routes route differs) ∙ old.owner;
            ahead = ahead old.ahead;
          }
            where
              ahead : (track.section place ≡ track.section front) ⊎ (((machine.sections (track.section place)).told ≡ Gone) × ((machine.routes route).seen (track.section place) ≡ false))
                  → (track.section place ≡ track.section front)
                  ⊎ (((machine.sections (track.section place)).told ≡ Gone) × ((changed_at number new machine.routes route).seen (track.section place) ≡ false))
              ahead (inl same) = inl same
              ahead (inr told) = inr (told.0, ap (λ r. r.seen (track.section place)) (elsewhere number new machine.routes route differs) ∙ told.1)

      reserved : (border place : ℕ) → (machine.trains train).under ≡ Throat border → IsReserved track machine train place
          → IsOf place (machine.trains train).way → IsReserved track (with_route number new machine) train place
      reserved border place under old of = record {
        unheld = at_each (λ n r. r.holds (track.section place) ≡ true → ⊥) number new machine.routes
            (λ holds. changes.unreserved train border place under old of holds) (λ n differs. old.unheld n);
        empty = old.empty;
        unclaimed = old.unclaimed;
      }

      go : (under : Under) → (machine.trains train).under ≡ under → IsOnWay track machine train front under (machine.trains train).way
          → IsOnWay track (with_route number new machine) train front under (machine.trains train).way
      go Nothing e on = tt
      go (Throat border) e on = record { ends = on.ends; claims = λ place of. reserved border place e (on.claims place of) of }
      go (OnRoute route) e on = record { ends = on.ends; claims = λ place of. claim route place e on of }

  under : IsSound track → (train place point : ℕ) → IsOn machine train place → track.point place ≡ Some point → IsUnder track (with_route number new machine) place point
  under sound train place point on over = let old = kept.under train place point on over in record { stands = old.stands; guarded = go old.guarded }
    where
      at : (route : ℕ) (holds : HoldsPoint track machine point route)
          → IsHeldBy (with_route number new machine) (track.section holds.place) route ⊎ ((machine.sections (track.section holds.place)).told ≡ Gone)
          → ((route : ℕ) × HoldsPoint track (with_route number new machine) point route)
          ⊎ ((machine.sections (track.section place)).entered + report_time ≤ machine.clock)
      at route holds (inl held) = inl (route, record { place = holds.place; given = held.given; on_path = holds.on_path; over = holds.over; holds = held.holds })
      at route holds (inr gone) =
          absurd (kept.gone (track.section holds.place) gone train (has_in track (track.section holds.place) (machine.trains train).places place on
          (sym (sound.own place point over) ∙ sound.own holds.place point holds.over)))

      go : ((route : ℕ) × HoldsPoint track machine point route) ⊎ ((machine.sections (track.section place)).entered + report_time ≤ machine.clock)
          → ((route : ℕ) × HoldsPoint track (with_route number new machine) point route)
          ⊎ ((machine.sections (track.section place)).entered + report_time ≤ machine.clock)
      go (inl holds) = at holds.0 holds.1 (held_still (track.section holds.1.place) holds.0 record { given = holds.1.given; holds = holds.1.holds })
      go (inr past) = inr past

  pub route_frame : IsSound track → Invariant track (with_route number new machine)
  route_frame sound = record {
    routes = at_each (λ n r. IsRouteSound track machine.sections machine.points machine.passes machine.now n r) number new machine.routes changes.sound (λ n differs. kept.routes n);
    locks = locks;
    gone = kept.gone;
    came = kept.came;
    past = kept.past;
    behind = behind;
    alone = kept.alone;
    own = own;
    ways = ways;
    under = under sound;
  }

-- what a train has before it stays held for it by a route that changes, but holds it still
pub claim_kept : (track : Track) (machine : Machine) (number : ℕ) (new : Route) (train front place : ℕ) → is_given new.phase ≡ true
    → new.holds (track.section place) ≡ true → new.owner ≡ (machine.routes number).owner
    → new.seen (track.section place) ≡ (machine.routes number).seen (track.section place)
    → IsClaimed track machine train front number place → IsClaimed track (with_route number new machine) train front number place
claim_kept track machine number new train front place given holds owner seen claim = record {
  given = ap (λ r. is_given r.phase) (at_it number new machine.routes) ∙ given;
  holds = ap (λ r. r.holds (track.section place)) (at_it number new machine.routes) ∙ holds;
  owner = ap (λ r. r.owner) (at_it number new machine.routes) ∙ (owner ∙ claim.owner);
  ahead = ahead claim.ahead;
}
  where
    ahead : (track.section place ≡ track.section front) ⊎ (((machine.sections (track.section place)).told ≡ Gone) × ((machine.routes number).seen (track.section place) ≡ false))
        → (track.section place ≡ track.section front)
        ⊎ (((machine.sections (track.section place)).told ≡ Gone) × ((changed_at number new machine.routes number).seen (track.section place) ≡ false))
    ahead (inl same) = inl same
    ahead (inr told) = inr (told.0, ap (λ r. r.seen (track.section place)) (at_it number new machine.routes) ∙ (seen ∙ told.1))
