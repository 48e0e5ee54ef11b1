-- The track of a checked layout is sound.
use Rattle.std.proofs.Common.{◌≡◌, ◌≢◌, ◌⊎◌, ℕ, true, length, List, [], ◌∷◌, Option, Some, None, refl, sym, ap, subst, ◌∙◌, inl, inr, arith}
use Rattle.std.specs.Prelude.{slice_get}
use Rattle.std.specs.Option.{option_map}
use Rattle.control_table.specs.layout.declared.entries.Signal.{Signal}
use Rattle.train_machine.specs.Track.{IsFork, IsSound, path}
use Rattle.control_table.specs.sci_telegram.declared.message.Side.{Side}
use Rattle.control_table.specs.sci_telegram.declared.message.Side.TheVariants as side
use Rattle.control_table.specs.layout.declared.port.Port.{Port}
use Rattle.control_table.specs.layout.Entries.{RouteEntry, Site}
use Rattle.control_table.specs.layout.Once.{Once}
use Rattle.control_table.specs.layout.Station.{IsStation}
use Rattle.control_table.specs.Topology.{Joined, StandsAt, port_of, section_of}
use Rattle.control_table.specs.Path.{Passage}
use Rattle.control_table.specs.Table.{Sound}
use Rattle.station_track.specs.declared.place.Over.TheVariants as over
use Rattle.station_track.specs.declared.place.Place.{Place}
use Rattle.station_track.specs.declared.place.Place.TheVariants as place
use Rattle.station_track.specs.Places.{HasPlace, element_of, place_at, no_place}
use Rattle.station_track.specs.Ports.{front, rear, turned_place}
use Rattle.station_track.specs.Paths.{route_places, entry_number, first_or, route_at}
use Rattle.station_track.specs.Tracks.{place_section, place_point, place_leg, is_place_facing, machine_side, turned_number, track_of}
use Rattle.station_track.proofs.Members.{none-some, some-injective}
use Rattle.station_track.proofs.Joints.{one-beyond}
use Rattle.station_track.proofs.Numbered.{number-at, at-number}
use Rattle.station_track.proofs.Passages.{SameRear, Same, Fork, same-rear, rear-element}
use Rattle.station_track.proofs.Grouped.{grouped-once, grouped-not-back, grouped-entrance}
use Rattle.station_track.proofs.Neighbours.{leads-follows, follows-leads, signal-found}
use Rattle.station_track.proofs.Grouping.{passage-at, section-is, place-in}
use Rattle.station_track.proofs.RoutePaths.{IsPathOf, route-there, sound-path, paths-sane}
use Rattle.station_track.proofs.SaneThroats.{throats-sane}

-- ---- one port is joined to one other

-- no signal stands behind the last
no-signal : (signals : List Signal) (p : Port) → option_map (λ (s : Signal). s.at) (slice_get signals (length signals)) ≡ Some p → ⊥
no-signal [] p e = none-some p e
no-signal (signal ∷ signals) p e = no-signal signals p e

side-differs : (s t : Side) → (s ≡ t) ⊎ (machine_side s ≢ machine_side t)
side-differs side.Left side.Left = inl refl
side-differs side.Right side.Right = inl refl
side-differs side.Left side.Right = inr (λ e. absurd (cc (e)))
side-differs side.Right side.Left = inr (λ e. absurd (cc (e)))

module _ (l : Site) (once : Once l) (station : IsStation l) where
  -- one place has one number
  same-number : (a b : ℕ) (p : Place) → place_at l a ≡ Some p → place_at l b ≡ Some p → a ≡ b
  same-number a b p at there = sym (at-number l a p at).1 ∙ (at-number l b p there).1

  one-way : (n a b : ℕ) → (track_of l).follows n a ≡ true → (track_of l).follows n b ≡ true → (a ≡ b) ⊎ IsFork (track_of l) a b
  one-way n a b to_a to_b =
      let x = follows-leads l n a to_a in
      let y = follows-leads l n b to_b in
      let from : y.place ≡ x.place = some-injective y.place x.place (sym y.at ∙ x.at) in
      let joined : Joined l (front x.place) y.between = subst (λ p. Joined l (front p) y.between) from y.joined in
      let port : x.between ≡ y.between = one-beyond l once (front x.place) x.between y.between x.joined joined in
      by x.next y.next x.behind y.behind (same-rear x.next y.next y.between (x.entered ∙ ap Some port) y.entered)
    where
      by : (p q : Place) → place_at l a ≡ Some p → place_at l b ≡ Some q → SameRear p q → (a ≡ b) ⊎ IsFork (track_of l) a b
      by p q at there (Same e) = inl (same-number a b q (at ∙ ap Some e) there)
      by p q at there (Fork point s t e f) = legs (side-differs s t)
        where
          a_at : place_at l a ≡ Some (place.Point point s over.Tip)
          a_at = at ∙ ap Some e

          b_at : place_at l b ≡ Some (place.Point point t over.Tip)
          b_at = there ∙ ap Some f

          legs : (s ≡ t) ⊎ (machine_side s ≢ machine_side t) → (a ≡ b) ⊎ IsFork (track_of l) a b
          legs (inl same) = inl (same-number a b (place.Point point t over.Tip) (a_at ∙ ap (λ s. Some (place.Point point s over.Tip)) same) b_at)
          legs (inr differ) = inr (record {
            point = point.0;
            over_a = ap place_point a_at;
            over_b = ap place_point b_at;
            facing = ap is_place_facing b_at;
            legs = λ same. differ (sym (ap place_leg a_at) ∙ same ∙ ap place_leg b_at);
          })

  -- ---- the other way round

  turned-there : (p : Place) → HasPlace l p → HasPlace l (turned_place p)
  turned-there (place.Track t way) h = h
  turned-there (place.Point p s way) h = h
  turned-there (place.Outside b) h = h

  turned-keeps : {A : Type 0} (f : Option Place → A) → ((p : Place) → f (Some (turned_place p)) ≡ f (Some p)) → (n : ℕ) → f (place_at l ((track_of l).turned n)) ≡ f (place_at l n)
  turned-keeps {A} f each n = by (place_at l n) refl
    where
      by : (o : Option Place) → place_at l n ≡ o → f (place_at l (turned_number l n (place_at l n))) ≡ f (place_at l n)
      by None e = ap (λ o. f (place_at l (turned_number l n o))) e
      by (Some p) e =
          ap (λ o. f (place_at l (turned_number l n o))) e
          ∙ ap f (number-at l (turned_place p) (turned-there p (at-number l n p e).0))
          ∙ each p ∙ sym (ap f e)

  section-kept : (p : Place) → place_section l (Some (turned_place p)) ≡ place_section l (Some p)
  section-kept (place.Track t way) = refl
  section-kept (place.Point p s way) = refl
  section-kept (place.Outside b) = refl

  point-kept : (p : Place) → place_point (Some (turned_place p)) ≡ place_point (Some p)
  point-kept (place.Track t way) = refl
  point-kept (place.Point p s way) = refl
  point-kept (place.Outside b) = refl

  leg-kept : (p : Place) → place_leg (Some (turned_place p)) ≡ place_leg (Some p)
  leg-kept (place.Track t way) = refl
  leg-kept (place.Point p s way) = refl
  leg-kept (place.Outside b) = refl

  -- ---- a point lies in one section

  own-section : (n m : ℕ) → (track_of l).point n ≡ Some m → (track_of l).own m ≡ (track_of l).section n
  own-section n m h = by (place_at l n) refl h
    where
      of : (p : Place) → place_point (Some p) ≡ Some m → (track_of l).own m ≡ place_section l (Some p)
      of (place.Track t way) h = absurd (none-some m h)
      of (place.Point p s way) h = ap (λ k. (track_of l).own k) (sym (some-injective p.0 m h))
      of (place.Outside b) h = absurd (none-some m h)

      by : (o : Option Place) → place_at l n ≡ o → place_point o ≡ Some m → (track_of l).own m ≡ (track_of l).section n
      by None e h = absurd (none-some m h)
      by (Some p) e h = of p h ∙ ap (place_section l) (sym e)

  -- ---- where routes begin

  module _ (sound : Sound l) where
    -- how a route begins: behind the port at which its signal stands
    record Begins (n : ℕ) : Type 0 where
      pub route : RouteEntry
      pub at : slice_get l.routes n ≡ Some route
      pub from : Port
      pub stands : StandsAt l route.entry from
      pub entered : Port
      pub joined : Joined l from entered
      pub place : Place
      pub first : place_at l ((track_of l).first n) ≡ Some place
      pub behind : rear place ≡ Some entered

    route-begins : (n : ℕ) (r : RouteEntry) → slice_get l.routes n ≡ Some r → Begins n
    route-begins n r at = by (sound-path l once station sound n r at)
      where
        by : (passages : List Passage) × IsPathOf l n r passages → Begins n
        by ([], h) = absurd (h.is.follows.some refl)
        by (g ∷ passages, h) =
            let b = h.is.follows.begins in
            let p = h.placed.0 in
            record {
              route = r;
              at = at;
              from = b.0;
              stands = b.1;
              entered = g.entered;
              joined = b.2.0;
              place = p.place;
              first = ap (λ ns. place_at l (first_or (no_place l) ns)) h.numbers ∙ passage-at l g p;
              behind = p.behind;
            }

    none-there : (n : ℕ) → route_at l n ≡ None → (track_of l).first n ≡ no_place l
    none-there n e = ap (λ o. first_or (no_place l) (route_places l o)) e

    signal-behind : (n a : ℕ) → (track_of l).signal a ≡ Some ((track_of l).entry n) → (track_of l).follows a ((track_of l).first n) ≡ true
    signal-behind n a h = by (route_at l n) refl
      where
        by : (o : Option RouteEntry) → route_at l n ≡ o → (track_of l).follows a ((track_of l).first n) ≡ true
        by None e =
            let s = signal-found l a (length l.signals) (h ∙ ap (λ o. Some (entry_number l o)) e) in
            absurd (no-signal l.signals (front s.0) s.2)
        by (Some r) e =
            let b = route-begins n r e in
            let s = signal-found l a r.entry.0 (h ∙ ap (λ o. Some (entry_number l o)) e) in
            let same : b.route ≡ r = some-injective b.route r (sym b.at ∙ e) in
            let port : b.from ≡ front s.0 = some-injective b.from (front s.0) (sym (ap (λ (x : RouteEntry). port_of l.signals x.entry) (sym same) ∙ b.stands) ∙ s.2) in
            leads-follows l once a ((track_of l).first n) (record {
              place = s.0;
              next = b.place;
              between = b.entered;
              at = s.1;
              behind = b.first;
              joined = subst (λ p. Joined l p b.entered) port b.joined;
              entered = b.behind;
            })

    -- places that are entered by one port lie in one section
    entered-section : (p q : Place) (r : Port) → HasPlace l p → rear p ≡ Some r → rear q ≡ Some r → place_section l (Some p) ≡ place_section l (Some q)
    entered-section p q r there h k =
        let s = place-in l station p r there h in
        let same : element_of q ≡ element_of p = sym (rear-element q r k) ∙ rear-element p r h in
        section-is l p s.0 s.1 ∙ sym (section-is l q s.0 (ap (section_of l) same ∙ s.1))

    one-begin : (a b : ℕ) → (track_of l).entry a ≡ (track_of l).entry b → (track_of l).section ((track_of l).first a) ≡ (track_of l).section ((track_of l).first b)
    one-begin a b h = by (route_at l a) (route_at l b) refl refl
      where
        Goal : Type 0
        Goal = (track_of l).section ((track_of l).first a) ≡ (track_of l).section ((track_of l).first b)

        apart : (n : ℕ) (r : RouteEntry) → slice_get l.routes n ≡ Some r → length l.signals ≡ r.entry.0 → ⊥
        apart n r at same = let within = (route-there l station n r at).entry in omega (arith, within, same)

        by : (o p : Option RouteEntry) → route_at l a ≡ o → route_at l b ≡ p → Goal
        by None None e f = ap (track_of l).section (none-there a e ∙ sym (none-there b f))
        by None (Some r) e f = absurd (apart b r f (sym (ap (entry_number l) e) ∙ h ∙ ap (entry_number l) f))
        by (Some r) None e f = absurd (apart a r e (sym (ap (entry_number l) f) ∙ sym h ∙ ap (entry_number l) e))
        by (Some r) (Some q) e f =
            let x = route-begins a r e in
            let y = route-begins b q f in
            let number : r.entry.0 ≡ q.entry.0 = sym (ap (entry_number l) e) ∙ h ∙ ap (entry_number l) f in
            let signal : r.entry ≡ q.entry = λ i. record { 0 = number i } in
            let from_x : port_of l.signals r.entry ≡ Some x.from = ap (λ (z : RouteEntry). port_of l.signals z.entry) (some-injective r x.route (sym e ∙ x.at)) ∙ x.stands in
            let from_y : port_of l.signals q.entry ≡ Some y.from = ap (λ (z : RouteEntry). port_of l.signals z.entry) (some-injective q y.route (sym f ∙ y.at)) ∙ y.stands in
            let from : y.from ≡ x.from = some-injective y.from x.from (sym from_y ∙ ap (port_of l.signals) (sym signal) ∙ from_x) in
            let entered : y.entered ≡ x.entered = one-beyond l once x.from y.entered x.entered (subst (λ p. Joined l p y.entered) from y.joined) x.joined in
            let there = (at-number l ((track_of l).first a) x.place x.first).0 in
            ap (place_section l) x.first ∙ entered-section x.place y.place x.entered there x.behind (y.behind ∙ ap Some entered) ∙ sym (ap (place_section l) y.first)

    pub layout-sound : IsSound (track_of l)
    layout-sound = record {
      one_way = one-way;
      own = own-section;
      turned_section = turned-keeps (place_section l) section-kept;
      turned_point = turned-keeps place_point point-kept;
      turned_leg = turned-keeps place_leg leg-kept;
      begins = signal-behind;
      leads = λ n. (paths-sane l once station sound n).leads;
      between = λ n. (paths-sane l once station sound n).between;
      ends = λ n. (paths-sane l once station sound n).ends;
      once = λ n place next again after. grouped-once (track_of l).section (path (track_of l) n) (paths-sane l once station sound n).grouped place next again after;
      one_entrance = λ n. grouped-entrance (track_of l).section (path (track_of l) n) (paths-sane l once station sound n).grouped;
      not_back = λ n. grouped-not-back (track_of l).section ((track_of l).first n) ((track_of l).later n) (paths-sane l once station sound n).grouped;
      one_begin = one-begin;
      throat_leads = λ n. (throats-sane l once station n).leads;
      throat_ends = λ n. (throats-sane l once station n).ends;
      throat_plain = λ n. (throats-sane l once station n).plain;
    }
