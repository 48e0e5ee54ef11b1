-- The invariant is kept where a train's head comes onto a place.
use Rattle.std.proofs.Common.{◌≡◌, ℕ, ◌≤◌, ◌+◌, ◌⊎◌, inl, inr, true, false, List, ◌∷◌, Some, refl, sym, ap, subst, ◌∙◌}
use Rattle.std.specs.Prelude.{◌≢◌}
use Rattle.train_machine.specs.Lists.{is_same, changed_at, IsOf}
use Rattle.train_machine.specs.Track.{Track}
use Rattle.train_machine.specs.Train.{Under, Nothing, Throat, OnRoute, is_in}
use Rattle.train_machine.specs.Section.{Clear, Came, Gone, Section, is_unheard}
use Rattle.train_machine.specs.Route.{Route, is_given}
use Rattle.train_machine.specs.Machine.{report_time, Pass, Machine, IsIn, IsOn}
use Rattle.train_machine.specs.Invariant.{IsRouteSound, IsHeldBy, IsAccounted, IsClaimed, IsReserved, IsOnWay, HoldsPoint, IsUnder, Invariant}
use Rattle.train_machine.proofs.Lists.{at_each, same_or_not, has_in, or_true, same_is}

-- the machine when a train stands on one place more
abbrev pub arrived : (train place : ℕ) → Under → (way : List ℕ) → (ℕ → Section) → (ℕ → Route) → (ℕ → Pass) → Machine → Machine
arrived train place under way sections routes passes machine = record {
  trains = changed_at train (record { places = place ∷ (machine.trains train).places; under = under; way = way }) machine.trains;
  sections = sections;
  routes = routes;
  points = machine.points;
  passes = passes;
  now = machine.now;
  clock = machine.clock;
}

-- What is to be shown of it.
pub record Arrives (track : Track) (machine : Machine) (train place : ℕ) (under : Under) (way : List ℕ) (sections : ℕ → Section) (routes : ℕ → Route) (passes : ℕ → Pass) : Type 0 where
  -- no other train is in the section
  pub alone : (other : ℕ) → IsIn track machine other (track.section place) → other ≡ train
  -- the other sections stay, and this one, where the train is in it already
  pub other : (section : ℕ) → section ≢ track.section place → sections section ≡ machine.sections section
  pub again : IsIn track machine train (track.section place) → (sections (track.section place)).entered ≡ (machine.sections (track.section place)).entered
  pub there : (sections (track.section place)).told ≢ Gone
  pub came : (sections (track.section place)).told ≡ Came → (sections (track.section place)).belief ≢ Clear
  pub past : (sections (track.section place)).entered ≤ machine.clock
  pub behind : is_unheard (sections (track.section place)).told ≡ true
      → IsAccounted (arrived train place under way sections routes passes machine) (track.section place)
  -- of a route no more changes than its owner, who wasn't there before
  pub sound : (route : ℕ) → IsRouteSound track sections machine.points passes machine.now route (routes route)
  pub given : (route : ℕ) → is_given (routes route).phase ≡ is_given (machine.routes route).phase
  pub holds : (route section : ℕ) → (routes route).holds section ≡ (machine.routes route).holds section
  pub seen : (route section : ℕ) → (routes route).seen section ≡ (machine.routes route).seen section
  pub owner : (route owner : ℕ) → (machine.routes route).owner ≡ Some owner → (routes route).owner ≡ Some owner
  -- a route with authority that holds the section is this train's
  pub own : (route : ℕ) → IsHeldBy machine (track.section place) route → (routes route).owner ≡ Some train
  -- what is before another train in a throat isn't here, and not before this train
  pub unreserved : (another border ahead : ℕ) → another ≢ train → (machine.trains another).under ≡ Throat border → IsOf ahead (machine.trains another).way
      → IsReserved track machine another ahead → track.section ahead ≢ track.section place
  pub apart : (another border ahead from there : ℕ) → another ≢ train → (machine.trains another).under ≡ Throat border → IsOf ahead (machine.trains another).way
      → IsReserved track machine another ahead → under ≡ Throat from → IsOf there way → track.section there ≢ track.section ahead
  pub ahead : IsOnWay track (arrived train place under way sections routes passes machine) train place under way
  pub over : (point : ℕ) → track.point place ≡ Some point → IsUnder track (arrived train place under way sections routes passes machine) place point

module _ (track : Track) (machine : Machine) (kept : Invariant track machine) (train place : ℕ) (under : Under) (way : List ℕ) (sections : ℕ → Section)
    (routes : ℕ → Route) (passes : ℕ → Pass) (arrives : Arrives track machine train place under way sections routes passes) where
  -- the sections as they are now, by how they were
  at_sections : (P : ℕ → Section → Type 0) → P (track.section place) (sections (track.section place))
      → ((n : ℕ) → n ≢ track.section place → P n (machine.sections n)) → (n : ℕ) → P n (sections n)
  at_sections P here there n = go (same_or_not n (track.section place))
    where
      go : (n ≡ track.section place) ⊎ (n ≢ track.section place) → P n (sections n)
      go (inl same) = subst (λ (m : ℕ). P m (sections m)) (sym same) here
      go (inr differs) = subst (λ s. P n s) (sym (arrives.other n differs)) (there n differs)

  -- who is in a section was there, or it is this train in this section
  was_in : (other section : ℕ) → is_in track section (changed_at train (record { places = place ∷ (machine.trains train).places; under = under; way = way }) machine.trains other).places ≡ true
      → IsIn track machine other section ⊎ ((other ≡ train) × (section ≡ track.section place))
  was_in other section =
      at_each (λ n t. is_in track section t.places ≡ true → IsIn track machine n section ⊎ ((n ≡ train) × (section ≡ track.section place))) train
      (record { places = place ∷ (machine.trains train).places; under = under; way = way }) machine.trains
      (λ inside. go (or_true (is_same (track.section place) section) (is_in track section (machine.trains train).places) inside))
      (λ n differs inside. inl inside) other
    where
      go : (is_same (track.section place) section ≡ true) ⊎ (is_in track section (machine.trains train).places ≡ true)
          → IsIn track machine train section ⊎ ((train ≡ train) × (section ≡ track.section place))
      go (inl same) = inr (refl, sym (same_is (track.section place) section same))
      go (inr old) = inl old

  held : (section route : ℕ) → IsHeldBy machine section route → IsHeldBy (arrived train place under way sections routes passes machine) section route
  held section route old = record { given = arrives.given route ∙ old.given; holds = arrives.holds route section ∙ old.holds }

  was_held : (section route : ℕ) → IsHeldBy (arrived train place under way sections routes passes machine) section route → IsHeldBy machine section route
  was_held section route new = record { given = sym (arrives.given route) ∙ new.given; holds = sym (arrives.holds route section) ∙ new.holds }

  gone : (section : ℕ) → (sections section).told ≡ Gone → (section ≢ track.section place) × ((machine.sections section).told ≡ Gone)
  gone = at_sections (λ n s. s.told ≡ Gone → (n ≢ track.section place) × ((machine.sections n).told ≡ Gone)) (λ e. absurd (arrives.there e)) (λ n differs e. (differs, e))

  nobody : (section : ℕ) → (sections section).told ≡ Gone → (other : ℕ)
      → is_in track section (changed_at train (record { places = place ∷ (machine.trains train).places; under = under; way = way }) machine.trains other).places ≡ true → ⊥
  nobody section told other inside = go (gone section told) (was_in other section inside)
    where
      go : (section ≢ track.section place) × ((machine.sections section).told ≡ Gone) → IsIn track machine other section ⊎ ((other ≡ train) × (section ≡ track.section place)) → ⊥
      go was (inl old) = kept.gone section was.1 other old
      go was (inr here) = was.0 here.1

  behind : (section : ℕ) → is_unheard (sections section).told ≡ true → IsAccounted (arrived train place under way sections routes passes machine) section
  behind section unheard = go (same_or_not section (track.section place))
    where
      still : section ≢ track.section place → IsAccounted machine section → IsAccounted (arrived train place under way sections routes passes machine) section
      still differs (inl old) = inl (old.0, held section old.0 old.1)
      still differs (inr old) =
          inr (subst (λ (s : Section). (s.inlet ≡ true) ⊎ (s.entered + report_time ≤ machine.clock)) (sym (arrives.other section differs)) old)

      go : (section ≡ track.section place) ⊎ (section ≢ track.section place) → IsAccounted (arrived train place under way sections routes passes machine) section
      go (inl same) =
          subst (λ (n : ℕ). IsAccounted (arrived train place under way sections routes passes machine) n) (sym same)
          (arrives.behind (subst (λ (n : ℕ). is_unheard (sections n).told ≡ true) same unheard))
      go (inr differs) =
          still differs (kept.behind section (subst (λ (s : Section). is_unheard s.told ≡ true) (arrives.other section differs) unheard))

  alone : (a b section : ℕ)
      → is_in track section (changed_at train (record { places = place ∷ (machine.trains train).places; under = under; way = way }) machine.trains a).places ≡ true
      → is_in track section (changed_at train (record { places = place ∷ (machine.trains train).places; under = under; way = way }) machine.trains b).places ≡ true → a ≡ b
  alone a b section in_a in_b = go (was_in a section in_a) (was_in b section in_b)
    where
      go : IsIn track machine a section ⊎ ((a ≡ train) × (section ≡ track.section place)) → IsIn track machine b section ⊎ ((b ≡ train) × (section ≡ track.section place)) → a ≡ b
      go (inl old_a) (inl old_b) = kept.alone a b section old_a old_b
      go (inl old_a) (inr new_b) = arrives.alone a (subst (λ (n : ℕ). IsIn track machine a n) new_b.1 old_a) ∙ sym new_b.0
      go (inr new_a) (inl old_b) = new_a.0 ∙ sym (arrives.alone b (subst (λ (n : ℕ). IsIn track machine b n) new_a.1 old_b))
      go (inr new_a) (inr new_b) = new_a.0 ∙ sym new_b.0

  own : (other section route : ℕ) → IsHeldBy (arrived train place under way sections routes passes machine) section route
      → is_in track section (changed_at train (record { places = place ∷ (machine.trains train).places; under = under; way = way }) machine.trains other).places ≡ true
      → (routes route).owner ≡ Some other
  own other section route new inside = go (was_in other section inside)
    where
      go : IsIn track machine other section ⊎ ((other ≡ train) × (section ≡ track.section place)) → (routes route).owner ≡ Some other
      go (inl old) = arrives.owner route other (kept.own other section route (was_held section route new) old)
      go (inr here) = arrives.own route (subst (λ (n : ℕ). IsHeldBy machine n route) here.1 (was_held section route new)) ∙ ap Some (sym here.0)

  some_same : (a b : ℕ) → Some a ≡ Some b → a ≡ b
  some_same a b e = cc (e)

  -- what another train has before it isn't here
  claim : (another front route ahead : ℕ) → another ≢ train → IsClaimed track machine another front route ahead
      → IsClaimed track (arrived train place under way sections routes passes machine) another front route ahead
  claim another front route ahead differs old = record {
    given = arrives.given route ∙ old.given;
    holds = arrives.holds route (track.section ahead) ∙ old.holds;
    owner = arrives.owner route another old.owner;
    ahead = go old.ahead;
  }
    where
      elsewhere_ahead : track.section ahead ≢ track.section place
      elsewhere_ahead same =
          differs (some_same another train (sym (arrives.owner route another old.owner)
          ∙ arrives.own route record { given = old.given; holds = subst (λ (n : ℕ). (machine.routes route).holds n ≡ true) same old.holds }))

      go : (track.section ahead ≡ track.section front) ⊎ (((machine.sections (track.section ahead)).told ≡ Gone) × ((machine.routes route).seen (track.section ahead) ≡ false))
          → (track.section ahead ≡ track.section front) ⊎ (((sections (track.section ahead)).told ≡ Gone) × ((routes route).seen (track.section ahead) ≡ false))
      go (inl same) = inl same
      go (inr told) =
          inr (subst (λ (s : Section). s.told ≡ Gone) (sym (arrives.other (track.section ahead) elsewhere_ahead)) told.0, arrives.seen route (track.section ahead) ∙ told.1)

  reserved : (another border ahead : ℕ) → another ≢ train → (machine.trains another).under ≡ Throat border → IsOf ahead (machine.trains another).way
      → IsReserved track machine another ahead → IsReserved track (arrived train place under way sections routes passes machine) another ahead
  reserved another border ahead differs is_under of old = record {
    unheld = λ route holds. old.unheld route (sym (arrives.holds route (track.section ahead)) ∙ holds);
    empty = λ other inside. empty other (was_in other (track.section ahead) inside);
    unclaimed = λ other from there. at_each (λ n t. t.under ≡ Throat from → IsOf there t.way → track.section there ≡ track.section ahead → n ≡ another) train
        (record { places = place ∷ (machine.trains train).places; under = under; way = way }) machine.trains
        (λ u of_there same. absurd (arrives.apart another border ahead from there differs is_under of old u of_there same))
        (λ n other u of_there same. old.unclaimed n from there u of_there same) other;
  }
    where
      empty : (other : ℕ) → IsIn track machine other (track.section ahead) ⊎ ((other ≡ train) × (track.section ahead ≡ track.section place)) → other ≡ another
      empty other (inl was) = old.empty other was
      empty other (inr here) = absurd (arrives.unreserved another border ahead differs is_under of old here.1)

  on_way : (another front : ℕ) → another ≢ train → (its : Under) (its_way : List ℕ) → (machine.trains another).under ≡ its → (machine.trains another).way ≡ its_way
      → IsOnWay track machine another front its its_way
      → IsOnWay track (arrived train place under way sections routes passes machine) another front its its_way
  on_way another front differs Nothing its_way u w on = tt
  on_way another front differs (Throat border) its_way u w on = record {
    ends = on.ends;
    claims = λ ahead of. reserved another border ahead differs u (subst (λ (l : List ℕ). IsOf ahead l) (sym w) of) (on.claims ahead of);
  }
  on_way another front differs (OnRoute route) its_way u w on = record { ends = on.ends; claims = λ ahead of. claim another front route ahead differs (on.claims ahead of) }

  cons_same : (a b : ℕ) (x y : List ℕ) → a ∷ x ≡ b ∷ y → a ≡ b
  cons_same a b x y e = cc (e)

  ways : (other front : ℕ) (rear : List ℕ)
      → (changed_at train (record { places = place ∷ (machine.trains train).places; under = under; way = way }) machine.trains other).places ≡ front ∷ rear
      → IsOnWay track (arrived train place under way sections routes passes machine) other front
      (changed_at train (record { places = place ∷ (machine.trains train).places; under = under; way = way }) machine.trains other).under
      (changed_at train (record { places = place ∷ (machine.trains train).places; under = under; way = way }) machine.trains other).way
  ways other front rear =
      at_each (λ n t. t.places ≡ front ∷ rear → IsOnWay track (arrived train place under way sections routes passes machine) n front t.under t.way) train
      (record { places = place ∷ (machine.trains train).places; under = under; way = way }) machine.trains
      (λ stands. subst (λ (f : ℕ). IsOnWay track (arrived train place under way sections routes passes machine) train f under way)
      (cons_same place front (machine.trains train).places rear stands) arrives.ahead)
      (λ n differs stands. on_way n front differs (machine.trains n).under (machine.trains n).way refl refl (kept.ways n front rear stands)) other

  is_under : (other there point : ℕ) → IsOn machine other there → track.point there ≡ Some point
      → IsUnder track (arrived train place under way sections routes passes machine) there point
  is_under other there point on over = let old = kept.under other there point on over in record { stands = old.stands; guarded = go old.guarded }
    where
      inside : IsIn track machine other (track.section there)
      inside = has_in track (track.section there) (machine.trains other).places there on refl

      same_time : (track.section there ≡ track.section place) ⊎ (track.section there ≢ track.section place)
          → (machine.sections (track.section there)).entered + report_time ≤ machine.clock → (sections (track.section there)).entered + report_time ≤ machine.clock
      same_time (inl same) past =
          let here = subst (λ (n : ℕ). IsIn track machine other n) same inside in
          let mine = subst (λ (n : ℕ). IsIn track machine n (track.section place)) (arrives.alone other here) here in
          subst (λ (n : ℕ). (sections n).entered + report_time ≤ machine.clock) (sym same)
          (subst (λ (e : ℕ). e + report_time ≤ machine.clock) (sym (arrives.again mine)) (subst (λ (n : ℕ). (machine.sections n).entered + report_time ≤ machine.clock) same past))
      same_time (inr differs) past =
          subst (λ (s : Section). s.entered + report_time ≤ machine.clock) (sym (arrives.other (track.section there) differs)) past

      go : ((route : ℕ) × HoldsPoint track machine point route) ⊎ ((machine.sections (track.section there)).entered + report_time ≤ machine.clock)
          → ((route : ℕ) × HoldsPoint track (arrived train place under way sections routes passes machine) point route)
          ⊎ ((sections (track.section there)).entered + report_time ≤ machine.clock)
      go (inl old) = inl (
        old.0,
        record {
          place = old.1.place;
          given = arrives.given old.0 ∙ old.1.given;
          on_path = old.1.on_path;
          over = old.1.over;
          holds = arrives.holds old.0 (track.section old.1.place) ∙ old.1.holds;
        },
      )
      go (inr past) = inr (same_time (same_or_not (track.section there) (track.section place)) past)

  pub arrived_kept : Invariant track (arrived train place under way sections routes passes machine)
  arrived_kept = record {
    routes = arrives.sound;
    locks = λ a b section holds_a holds_b. kept.locks a b section (sym (arrives.holds a section) ∙ holds_a) (sym (arrives.holds b section) ∙ holds_b);
    gone = nobody;
    came = at_sections (λ n s. s.told ≡ Came → s.belief ≢ Clear) arrives.came (λ n differs. kept.came n);
    past = at_sections (λ n s. s.entered ≤ machine.clock) arrives.past (λ n differs. kept.past n);
    behind = behind;
    alone = alone;
    own = own;
    ways = ways;
    under = λ other there point on over. at_each (λ n t. IsOf there t.places → IsUnder track (arrived train place under way sections routes passes machine) there point) train
        (record { places = place ∷ (machine.trains train).places; under = under; way = way }) machine.trains (λ of. here there point over of)
        (λ n differs of. is_under n there point of over) other on;
  }
    where
      here : (there point : ℕ) → track.point there ≡ Some point → (place ≡ there) ⊎ IsOf there (machine.trains train).places
          → IsUnder track (arrived train place under way sections routes passes machine) there point
      here there point over (inl same) =
          subst (λ (n : ℕ). IsUnder track (arrived train place under way sections routes passes machine) n point) same
          (arrives.over point (ap track.point same ∙ over))
      here there point over (inr of) = is_under train there point of over
