-- What the numbers mean.
use Rattle.std.proofs.Common.{◌≡◌, ℕ, true, List, [], ◌∷◌, Option, Some, None, refl, sym, ap, subst, ◌∙◌, ⊎_elim}
use Rattle.std.specs.List.{Contains}
use Rattle.control_table.specs.layout.declared.ids.RouteId.{RouteId}
use Rattle.control_table.specs.layout.declared.ids.SignalId.{SignalId}
use Rattle.control_table.specs.layout.declared.port.Element.{Element}
use Rattle.control_table.specs.layout.declared.port.Element.TheVariants as element
use Rattle.control_table.specs.layout.Entries.{RouteEntry, Site}
use Rattle.control_table.specs.layout.Once.{Once}
use Rattle.control_table.specs.layout.Station.{IsStation}
use Rattle.control_table.specs.Topology.{IsRoute, Joined, StandsAt}
use Rattle.control_table.specs.Path.{Passage, Path}
use Rattle.station_track.specs.declared.place.Place.{Place}
use Rattle.station_track.specs.declared.place.Place.TheVariants as place
use Rattle.station_track.specs.Places.{HasPlace, element_of, place_at}
use Rattle.station_track.specs.Ports.{front, rear, turned_place}
use Rattle.station_track.specs.Paths.{number_of, entry_number}
use Rattle.station_track.specs.Tracks.{place_section, place_point, place_leg, is_place_facing, turned_number, track_of}
use Rattle.station_track.specs.Meaning.{IfThere, IsNumberOf, ComesNext, MeansPlace, MeansRoute, IsMadeOn}
use Rattle.station_track.proofs.Members.{none-some, some-injective, contains-none, contains-cases}
use Rattle.station_track.proofs.Numbered.{number-at, at-number}
use Rattle.station_track.proofs.Passages.{HasPassage}
use Rattle.station_track.proofs.Neighbours.{leads-follows, follows-leads, signal-found, before-signal}
use Rattle.station_track.proofs.Grouping.{Placed, section-is}
use Rattle.station_track.proofs.RoutePaths.{path-numbers, path-is}

pub at-is : (l : Site) (n : ℕ) (p : Place) → IsNumberOf l n p → place_at l n ≡ Some p
at-is l n p h = subst (λ m. place_at l m ≡ Some p) h.number (number-at l p h.there)

pub number-is : (l : Site) (n : ℕ) (p : Place) → place_at l n ≡ Some p → IsNumberOf l n p
number-is l n p e = let h = at-number l n p e in record { there = h.0; number = h.1 }

point-of : (p : Place) (m : ℕ) → place_point (Some p) ≡ Some m → element_of p ≡ element.Point (record { 0 = m })
point-of (place.Track t way) m e = absurd (none-some m e)
point-of (place.Point q s way) m e = ap (λ n. element.Point (record { 0 = n })) (some-injective q.0 m e)
point-of (place.Outside b) m e = absurd (none-some m e)

-- the number of a point, or another
abbrev point_or : ℕ → Element → ℕ
point_or none (element.Track t) = none
point_or none (element.Point p) = p.0
point_or none (element.Border b) = none

of-point : (p : Place) (m : ℕ) → element_of p ≡ element.Point (record { 0 = m }) → place_point (Some p) ≡ Some m
of-point (place.Track t way) m e = absurd (cc (e))
of-point (place.Point q s way) m e = ap (λ x. Some (point_or 0 x)) e
of-point (place.Outside b) m e = absurd (cc (e))

turned-there : (l : Site) (p : Place) → HasPlace l p → HasPlace l (turned_place p)
turned-there l (place.Track t way) h = h
turned-there l (place.Point p s way) h = h
turned-there l (place.Outside b) h = h

pub means-place : (l : Site) (n : ℕ) (p : Place) → Once l → IsStation l → IsNumberOf l n p → MeansPlace l n p
means-place l n p once station h = record {
  section = λ s e. ap (place_section l) at ∙ section-is l p s e;
  outside = λ b e. ap (place_section l) (at ∙ ap Some e);
  point = λ m. (λ e. point-of p m (sym (ap place_point at) ∙ e), λ e. ap place_point at ∙ of-point p m e);
  leg = λ q s way e. (ap place_leg (at ∙ ap Some e), ap is_place_facing (at ∙ ap Some e));
  follows = λ m q k. (λ e. forth m q k e, λ e. back m q k e);
  turned = record { there = turned-there l p h.there; number = sym (ap (turned_number l n) at) };
  signal = λ s. (λ e. signal-forth s e, λ e. before-signal l once n p s at e);
}
  where
    at : place_at l n ≡ Some p
    at = at-is l n p h

    forth : (m : ℕ) (q : Place) → IsNumberOf l m q → (track_of l).follows n m ≡ true → ComesNext l p q
    forth m q k e =
        let t = follows-leads l n m e in
        let here : t.place ≡ p = some-injective t.place p (sym t.at ∙ at) in
        let there : t.next ≡ q = some-injective t.next q (sym t.behind ∙ at-is l m q k) in
        record { port = t.between; joined = subst (λ x. Joined l (front x) t.between) here t.joined; behind = ap rear (sym there) ∙ t.entered }

    back : (m : ℕ) (q : Place) → IsNumberOf l m q → ComesNext l p q → (track_of l).follows n m ≡ true
    back m q k c = leads-follows l once n m (record { place = p; next = q; between = c.port; at = at; behind = at-is l m q k; joined = c.joined; entered = c.behind })

    signal-forth : (s : SignalId) → (track_of l).signal n ≡ Some s.0 → StandsAt l s (front p)
    signal-forth s e = let f = signal-found l n s.0 e in subst (λ x. StandsAt l s (front x)) (some-injective f.0 p (sym f.1 ∙ at)) f.2

placed-has : (l : Site) (passages : List Passage) → Placed l passages → (g : Passage) → Contains passages g → HasPassage l g
placed-has l [] placed g c = absurd (contains-none g c)
placed-has l (k ∷ passages) placed g c = ⊎_elim (λ e. subst (HasPassage l) e placed.0) (λ later. placed-has l passages placed.1 g later) (contains-cases k g passages c)

pub means-route : (l : Site) (a : RouteId) (r : RouteEntry) (passages : List Passage) → Once l → IsStation l → IsRoute l a r → Path l r passages → MeansRoute l a r passages
means-route l a r passages once station at is =
    record { entry = ap (entry_number l) at; path = path-is l a.0 r passages (path-numbers l once station a.0 r passages at is) }

pub made-on : (l : Site) (a : RouteId) (r : RouteEntry) (passages : List Passage) → Once l → IsStation l → IsRoute l a r → Path l r passages
    → (g : Passage) → Contains passages g → (p : Place) × IsMadeOn l g p
made-on l a r passages once station at is g c =
    let h = placed-has l passages (path-numbers l once station a.0 r passages at is).placed g c in
    (h.place, record { number = record { there = h.there; number = sym (ap (number_of l) h.found) }; enters = h.behind; leaves = h.before })

-- the place of a number is there, if it has one
pub at-there : (l : Site) (n : ℕ) → IfThere l (place_at l n)
at-there l n = by (place_at l n) refl where
  by : (o : Option Place) → place_at l n ≡ o → IfThere l o
  by None e = tt
  by (Some p) e = (number-is l n p e).there

pub turned-has : (l : Site) (n : ℕ) (p : Place) → place_at l n ≡ Some p → HasPlace l (turned_place p)
turned-has l n p e = turned-there l p (number-is l n p e).there
