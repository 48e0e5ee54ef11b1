-- The path of each route leads on from its signal, without another between, up to its exit.
use Rattle.std.proofs.Common.{◌≡◌, ◌⊎◌, ℕ, zero, suc, true, map, List, [], ◌∷◌, Option, Some, None, All, refl, sym, ap, subst, ◌∙◌, inl, inr, ⊎_elim, arith}
use Rattle.std.specs.Prelude.{slice_get}
use Rattle.std.specs.List.{Contains}
use Rattle.std.proofs.lemmas.List.Elements.{All-contains}
use Rattle.train_machine.specs.Lists.{IsNext, IsLast}
use Rattle.train_machine.specs.Track.{path}
use Rattle.control_table.specs.layout.declared.ids.SignalId.{SignalId}
use Rattle.control_table.specs.layout.declared.port.Port.{Port}
use Rattle.control_table.specs.layout.declared.port.Element.{Element}
use Rattle.control_table.specs.layout.declared.entries.Exit.{Exit}
use Rattle.control_table.specs.layout.declared.entries.Exit.TheVariants as exit
use Rattle.control_table.specs.layout.Entries.{RouteEntry, Site}
use Rattle.control_table.specs.layout.Once.{Distinct, Once}
use Rattle.control_table.specs.layout.Station.{HasPort, IsRouteOf, IsStation}
use Rattle.control_table.specs.Topology.{Joined, StandsAt}
use Rattle.control_table.specs.Path.{Passage, Leads, Path, elements, EndsAt, ExitAt}
use Rattle.control_table.specs.Table.{Sound}
use Rattle.station_track.specs.declared.place.Place.{Place}
use Rattle.station_track.specs.Places.{place_at, no_place}
use Rattle.station_track.specs.Ports.{front, place_between}
use Rattle.station_track.specs.Paths.{number_of, places_from, places_behind, route_places, first_or, later_ones, route_at}
use Rattle.station_track.specs.Tracks.{track_of}
use Rattle.station_track.proofs.Members.{none-some, some-injective, contains-here, contains-there, get-contains, distinct-first, distinct-rest}
use Rattle.station_track.proofs.Joints.{joined-beyond, one-beyond}
use Rattle.station_track.proofs.Numbered.{no-place}
use Rattle.station_track.proofs.Passages.{HasPassage, no-border-behind}
use Rattle.station_track.proofs.Grouped.{IsGrouped}
use Rattle.station_track.proofs.Neighbours.{LeadsTo, leads-follows, follows-leads, before-signal, signal-found}
use Rattle.station_track.proofs.Grouping.{passage_number, passage-at, Placed, leading-placed, path-grouped}

-- ---- the numbers of a path

pub leading-numbers : (l : Site) → Once l → (from : Port) (path : List Passage) → Leads l from path → places_from l from (map (λ g. g.left) path) ≡ map (passage_number l) path
leading-numbers l once from [] leads = refl
leading-numbers l once from (g ∷ path) leads =
    ap (λ o. number_of l (place_between o g.left) ∷ places_from l g.left (map (λ g. g.left) path)) (joined-beyond l once from g.entered leads.0)
    ∙ ap (λ ns. passage_number l g ∷ ns) (leading-numbers l once g.left path leads.2)

pub record IsPathOf (l : Site) (n : ℕ) (r : RouteEntry) (passages : List Passage) : Type 0 where
  pub at : slice_get l.routes n ≡ Some r
  pub is : Path l r passages
  pub placed : Placed l passages
  pub numbers : route_places l (route_at l n) ≡ map (passage_number l) passages

pub route-there : (l : Site) → IsStation l → (n : ℕ) (r : RouteEntry) → slice_get l.routes n ≡ Some r → IsRouteOf l r
route-there l station n r at = All-contains (IsRouteOf l) l.routes r station.routes (get-contains l.routes n r at)

pub path-numbers : (l : Site) → Once l → IsStation l → (n : ℕ) (r : RouteEntry) (passages : List Passage) → slice_get l.routes n ≡ Some r → Path l r passages → IsPathOf l n r passages
path-numbers l once station n r passages at is =
    let b = is.follows.begins in
    record {
      at = at;
      is = is;
      placed = leading-placed l station b.0 passages b.2 (subst (All (HasPort l)) is.follows.ports (route-there l station n r at).path);
      numbers = ap (route_places l) at ∙ ap (λ o. places_behind l o r.path) b.1 ∙ ap (places_from l b.0) is.follows.ports ∙ leading-numbers l once b.0 passages b.2;
    }

pub sound-path : (l : Site) → Once l → IsStation l → Sound l → (n : ℕ) (r : RouteEntry) → slice_get l.routes n ≡ Some r → (passages : List Passage) × IsPathOf l n r passages
sound-path l once station sound n r at =
    let s = sound (record { 0 = n }) r at in
    (s.path, path-numbers l once station n r s.path at s.is_path)

-- ---- what the machine wants of a path

pub record IsSane (l : Site) (places : List ℕ) : Type 0 where
  pub leads : (a b : ℕ) → IsNext a b places → (track_of l).follows a b ≡ true
  pub between : (a b : ℕ) → IsNext a b places → (track_of l).signal a ≡ None
  pub ends : (place next : ℕ) → IsLast place places → (track_of l).signal place ≡ None → (track_of l).follows place next ≡ true → ⊥
  pub grouped : IsGrouped (track_of l).section places

no-next : (a b n : ℕ) → IsNext a b (n ∷ []) → ⊥
no-next a b n (inl h) = absurd h.1
no-next a b n (inr h) = absurd h

nowhere-sane : (l : Site) → IsSane l (no_place l ∷ [])
nowhere-sane l = record {
  leads = λ a b h. absurd (no-next a b (no_place l) h);
  between = λ a b h. absurd (no-next a b (no_place l) h);
  ends = λ n next last dark h. let t = follows-leads l n next h in none-some t.place (sym (ap (place_at l) (sym last) ∙ no-place l) ∙ t.at);
  grouped = (record { stays = λ again next of. absurd of }, tt);
}

module _ (l : Site) (once : Once l) where
  -- neighbours on a path
  leads-on : (from : Port) (path : List Passage) → Placed l path → Leads l from path → (a b : ℕ) → IsNext a b (map (passage_number l) path) → LeadsTo l a b
  leads-on from [] placed leads a b h = absurd h
  leads-on from (g ∷ []) placed leads a b h = absurd (no-next a b (passage_number l g) h)
  leads-on from (g ∷ k ∷ path) placed leads a b (inl h) =
      let p = placed.0 in
      let q = placed.1.0 in
      let To : Port → Type 0 = λ f. Joined l f k.entered in
      let here : LeadsTo l (passage_number l g) (passage_number l k) = record {
        place = p.place;
        next = q.place;
        between = k.entered;
        at = passage-at l g p;
        behind = passage-at l k q;
        joined = subst To (sym p.before) leads.2.0;
        entered = q.behind;
      } in
      subst (λ m. LeadsTo l a m) h.1 (subst (λ n. LeadsTo l n (passage_number l k)) h.0 here)
  leads-on from (g ∷ k ∷ path) placed leads a b (inr h) = leads-on g.left (k ∷ path) placed.1 leads.2 a b h

  -- the passage at which a path ends
  last-at : (x : Exit) (path : List Passage) → EndsAt l x path → (g : Passage) × Contains path g × ExitAt l x g.left
  last-at x [] ends = absurd ends
  last-at x (g ∷ []) ends = (g, contains-here g [], ends)
  last-at x (g ∷ k ∷ path) ends = let on = last-at x (k ∷ path) ends in (on.0, contains-there g on.0 (k ∷ path) on.1, on.2)

  last-is : (x : Exit) (path : List Passage) → EndsAt l x path → Placed l path → (n : ℕ) → IsLast n (map (passage_number l) path)
      → (g : Passage) × HasPassage l g × (passage_number l g ≡ n) × ExitAt l x g.left
  last-is x [] ends placed n h = absurd h
  last-is x (g ∷ []) ends placed n h = (g, placed.0, h, ends)
  last-is x (g ∷ k ∷ path) ends placed n h = last-is x (k ∷ path) ends placed.1 n h

  -- a passage stands before another
  before-next : (path : List Passage) → Placed l path → (a b : ℕ) → IsNext a b (map (passage_number l) path) → (g : Passage) × HasPassage l g × Contains path g × (passage_number l g ≡ a)
  before-next [] placed a b h = absurd h
  before-next (g ∷ path) placed a b (inl h) = (g, placed.0, contains-here g path, h.0)
  before-next (g ∷ path) placed a b (inr h) = let on = before-next path placed.1 a b h in (on.0, on.1, contains-there g on.0 path on.2, on.3)

  element-contained : (path : List Passage) (g : Passage) → Contains path g → Contains (elements path) g.left.element
  element-contained [] g c = absurd (omega (arith, c.1))
  element-contained (k ∷ path) g c =
      let C : Element → Type 0 = λ e. Contains (elements (k ∷ path)) e in
      ⊎_elim (λ e. subst C (ap (λ (x : Passage). x.left.element) e) (contains-here k.left.element (elements path)))
      (λ later. contains-there k.left.element g.left.element (elements path) (element-contained path g later)) (cases k g path c)
    where
      cases : (x y : Passage) (xs : List Passage) → Contains (x ∷ xs) y → (x ≡ y) ⊎ Contains xs y
      cases x y xs (zero, lt, at) = inl at
      cases x y xs (suc k, lt, at) = inr (k, omega (arith, lt), at)

  -- the signal at which a path ends doesn't stand before
  exit-not-before : (s : SignalId) (path : List Passage) → Placed l path → Distinct (elements path) → EndsAt l (exit.Signal s) path → (a b : ℕ) → IsNext a b (map (passage_number l) path)
      → (p : Place) → place_at l a ≡ Some p → StandsAt l s (front p) → ⊥
  exit-not-before s [] placed d ends a b h p at stands = absurd h
  exit-not-before s (g ∷ []) placed d ends a b h p at stands = absurd (no-next a b (passage_number l g) h)
  exit-not-before s (g ∷ k ∷ path) placed d ends a b (inl h) p at stands =
      let q = placed.0 in
      let last = last-at (exit.Signal s) (k ∷ path) ends in
      let same : q.place ≡ p = some-injective q.place p (sym (passage-at l g q) ∙ ap (place_at l) h.0 ∙ at) in
      let port : g.left ≡ last.0.left = some-injective g.left last.0.left (ap Some (sym q.before ∙ ap front same) ∙ sym stands ∙ last.2) in
      distinct-first g.left.element last.0.left.element (elements (k ∷ path)) d (element-contained (k ∷ path) last.0 last.1) (ap (λ (x : Port). x.element) port)
  exit-not-before s (g ∷ k ∷ path) placed d ends a b (inr h) p at stands =
      exit-not-before s (k ∷ path) placed.1 (distinct-rest g.left.element (elements (k ∷ path)) d) ends a b h p at stands

  module _ (n : ℕ) (r : RouteEntry) (passages : List Passage) (h : IsPathOf l n r passages) where
    none-between : (a b : ℕ) → IsNext a b (map (passage_number l) passages) → (track_of l).signal a ≡ None
    none-between a b next = by ((track_of l).signal a) refl
      where
        by : (o : Option ℕ) → (track_of l).signal a ≡ o → (track_of l).signal a ≡ None
        by None e = e
        by (Some s) e =
            let found = signal-found l a s e in
            let g = before-next passages h.placed a b next in
            let same : g.1.place ≡ found.0 = some-injective g.1.place found.0 (sym (passage-at l g.0 g.1) ∙ ap (place_at l) g.3 ∙ found.1) in
            let stands : StandsAt l (record { 0 = s }) g.0.left = subst (StandsAt l (record { 0 = s })) (sym (ap front same) ∙ g.1.before) found.2 in
            let out : r.exit ≡ exit.Signal (record { 0 = s }) = h.is.signals.between g.0 (record { 0 = s }) g.2 stands in
            absurd (exit-not-before (record { 0 = s }) passages h.placed h.is.once.elements (subst (λ x. EndsAt l x passages) out h.is.signals.ends) a b next found.0 found.1 found.2)

    path-ends : (place next : ℕ) → IsLast place (map (passage_number l) passages) → (track_of l).signal place ≡ None → (track_of l).follows place next ≡ true → ⊥
    path-ends place next last dark follows = by r.exit refl
      where
        by : (x : Exit) → r.exit ≡ x → ⊥
        by (exit.Signal s) e =
            let g = last-is r.exit passages h.is.signals.ends h.placed place last in
            let stands : StandsAt l s g.0.left = subst (λ x. ExitAt l x g.0.left) e g.3 in
            let at : place_at l place ≡ Some g.1.place = ap (place_at l) (sym g.2) ∙ passage-at l g.0 g.1 in
            none-some s.0 (sym dark ∙ before-signal l once place g.1.place s at (subst (StandsAt l s) (sym g.1.before) stands))
        by (exit.Border b) e =
            let g = last-is r.exit passages h.is.signals.ends h.placed place last in
            let out : ExitAt l (exit.Border b) g.0.left = subst (λ x. ExitAt l x g.0.left) e g.3 in
            let t = follows-leads l place next follows in
            let at : place_at l place ≡ Some g.1.place = ap (place_at l) (sym g.2) ∙ passage-at l g.0 g.1 in
            let front_is : front t.place ≡ g.0.left = ap front (some-injective t.place g.1.place (sym t.at ∙ at)) ∙ g.1.before in
            let same : t.between ≡ out.0 = one-beyond l once g.0.left t.between out.0 (subst (λ f. Joined l f t.between) front_is t.joined) out.1 in
            no-border-behind t.next t.between b t.entered (ap (λ (x : Port). x.element) same ∙ out.2)

    pub path-sane : IsStation l → IsSane l (map (passage_number l) passages)
    path-sane station =
        let b = h.is.follows.begins in
        record {
          leads = λ a c next. leads-follows l once a c (leads-on b.0 passages h.placed b.2 a c next);
          between = none-between;
          ends = path-ends;
          grouped = path-grouped l station passages h.placed h.is.once.sections;
        }

-- the path of the machine's track is that of the passages
pub path-is : (l : Site) (n : ℕ) (r : RouteEntry) (passages : List Passage) → IsPathOf l n r passages → path (track_of l) n ≡ map (passage_number l) passages
path-is l n r [] h = absurd (h.is.follows.some refl)
path-is l n r (g ∷ passages) h = ap (λ ns. first_or (no_place l) ns ∷ later_ones ns) h.numbers

pub paths-sane : (l : Site) → Once l → IsStation l → Sound l → (n : ℕ) → IsSane l (path (track_of l) n)
paths-sane l once station sound n = by (route_at l n) refl
  where
    by : (o : Option RouteEntry) → route_at l n ≡ o → IsSane l (path (track_of l) n)
    by None e = subst (IsSane l) (sym (ap (λ o. first_or (no_place l) (route_places l o) ∷ later_ones (route_places l o)) e)) (nowhere-sane l)
    by (Some r) e =
        let p = sound-path l once station sound n r e in
        subst (IsSane l) (sym (path-is l n r p.0 p.1)) (path-sane l once n r p.0 p.1 station)
