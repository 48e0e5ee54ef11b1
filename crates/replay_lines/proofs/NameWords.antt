-- The names of a layout are words.
use Rattle.std.proofs.Common.{◌≡◌, ℕ, suc, Bool, true, false, cond, List, [], ◌∷◌, ◌++◌, codes, length, map, Option, Some, None, slice_get, Err, refl, ap, ◌∙◌, option_map}
use Rattle.std.specs.List.{All, list_all, position}
use Rattle.std.specs.Option.{option_or}
use Rattle.std.specs.Prelude.{unwrap_or}
use Rattle.std.specs.Str.{bytes_eq}
use Rattle.std.proofs.lemmas.List.Elements.{All-cons, All-contains, All-head, All-nil, All-tail}
use Rattle.std.proofs.lemmas.Option.{slice_get-map}
use Rattle.std.proofs.lemmas.Slice.Eq.{bytes_eq-Decides}
use Rattle.ixl_spec.specs.sci_telegram.Names.{IsName, is_name_byte}
use Rattle.replay_words.specs.Words.{is_without}
use Rattle.replay_words.specs.declared.fault.Fault.TheVariants.{Name}
use Rattle.ixl_spec.specs.closings.declared.thing.Named.{Named}
use Rattle.ixl_spec.specs.closings.declared.thing.Named.TheVariants.{BothSides, One}
use Rattle.ixl_spec.specs.closings.declared.thing.Thing.TheVariants as thing
use Rattle.ixl_spec.specs.closings.Words.{name_of, named as thing_named}
use Rattle.ixl_spec.specs.layout.declared.entries.Point.{Point}
use Rattle.ixl_spec.specs.layout.declared.entries.Signal.{Signal}
use Rattle.ixl_spec.specs.layout.Entries.{Site, RouteEntry}
use Rattle.ixl_spec.specs.layout.Once.{all_names}
use Rattle.ixl_spec.specs.layout.Station.{IsStation}
use Rattle.replay_lines.specs.Names.{found_at, node_names, point_named, route_named}
use Rattle.replay_lines.proofs.Apart.{get-contains, name_without_equals, name_without_space}
use Rattle.replay_lines.proofs.Places.{position-cons}

all-left : (xs ys : List (List ℕ)) → All IsName (xs ++ ys) → All IsName xs
all-left [] ys h = All-nil IsName
all-left (x ∷ xs) ys h = All-cons IsName x xs (All-head IsName x (xs ++ ys) h) (all-left xs ys (All-tail IsName x (xs ++ ys) h))

all-right : (xs ys : List (List ℕ)) → All IsName (xs ++ ys) → All IsName ys
all-right [] ys h = h
all-right (x ∷ xs) ys h = all-right xs ys (All-tail IsName x (xs ++ ys) h)

all-both : (xs ys : List (List ℕ)) → All IsName xs → All IsName ys → All IsName (xs ++ ys)
all-both [] ys h k = k
all-both (x ∷ xs) ys h k = All-cons IsName x (xs ++ ys) (All-head IsName x xs h) (all-both xs ys (All-tail IsName x xs h) k)

-- the names of nodes, sections, points, signals and routes
pub record AreNames (site : Site) : Type 0 where
  pub nodes : All IsName (node_names site)
  pub sections : All IsName site.sections
  pub points : All IsName (map (λ p. p.name) site.points)
  pub routes : All IsName (map (λ r. r.name) site.routes)
  pub signals : All IsName (map (λ s. s.name) site.signals)

parted : (station : List ℕ) (sections tracks points borders signals detectors routes : List (List ℕ))
    → All IsName (station ∷ (sections ++ (tracks ++ (points ++ (borders ++ (signals ++ (detectors ++ routes)))))))
    → All IsName (station ∷ (signals ++ (points ++ detectors))) × All IsName sections × All IsName points × All IsName routes × All IsName signals
parted station sections tracks points borders signals detectors routes h =
    let from_sections = All-tail IsName station (sections ++ (tracks ++ (points ++ (borders ++ (signals ++ (detectors ++ routes)))))) h in
    let from_tracks = all-right sections (tracks ++ (points ++ (borders ++ (signals ++ (detectors ++ routes))))) from_sections in
    let from_points = all-right tracks (points ++ (borders ++ (signals ++ (detectors ++ routes)))) from_tracks in
    let from_borders = all-right points (borders ++ (signals ++ (detectors ++ routes))) from_points in
    let from_signals = all-right borders (signals ++ (detectors ++ routes)) from_borders in
    let from_detectors = all-right signals (detectors ++ routes) from_signals in
    let of_points = all-left points (borders ++ (signals ++ (detectors ++ routes))) from_points in (
      All-cons IsName station (signals ++ (points ++ detectors)) (All-head IsName station (sections ++ (tracks ++ (points ++ (borders ++ (signals ++ (detectors ++ routes)))))) h)
          (all-both signals (points ++ detectors) (all-left signals (detectors ++ routes) from_signals) (all-both points detectors of_points (all-left detectors routes from_detectors))),
      all-left sections (tracks ++ (points ++ (borders ++ (signals ++ (detectors ++ routes))))) from_sections,
      of_points,
      all-right detectors routes from_detectors,
      all-left signals (detectors ++ routes) from_signals,
    )

names : (site : Site) → IsStation site → AreNames site
unfolding all_names
names site station =
    let parts = parted site.station.name site.sections (map (λ t. t.name) site.tracks) (map (λ p. p.name) site.points) site.borders
    (map (λ s. s.name) site.signals) (map (λ d. d.name) site.detectors) (map (λ r. r.name) site.routes) station.names in
    record { nodes = parts.0; sections = parts.1; points = parts.2; routes = parts.3; signals = parts.4 }

named : (xs : List (List ℕ)) (k : ℕ) (name : List ℕ) → All IsName xs → slice_get xs k ≡ Some name → IsName name
named xs k name all e = All-contains IsName xs name all (get-contains xs k name e)

pub node_is_word : (site : Site) → IsStation site → (k : ℕ) (name : List ℕ) → slice_get (node_names site) k ≡ Some name → is_without 32 name ≡ true
node_is_word site station k name e = name_without_space name (named (node_names site) k name (names site station).nodes e)

pub node_without_equals : (site : Site) → IsStation site → (k : ℕ) (name : List ℕ) → slice_get (node_names site) k ≡ Some name → is_without 61 name ≡ true
node_without_equals site station k name e = name_without_equals name (named (node_names site) k name (names site station).nodes e)

pub section_is_word : (site : Site) → IsStation site → (k : ℕ) (name : List ℕ) → slice_get site.sections k ≡ Some name → is_without 32 name ≡ true
section_is_word site station k name e = name_without_space name (named site.sections k name (names site station).sections e)

pub point_is_word : (site : Site) → IsStation site → (k : ℕ) (point : Point) → slice_get site.points k ≡ Some point → is_without 32 point.name ≡ true
point_is_word site station k point e =
    name_without_space point.name (named (map (λ p. p.name) site.points) k point.name (names site station).points
    (slice_get-map (λ p. p.name) site.points k ∙ ap (option_map (λ p. p.name)) e))

pub route_is_word : (site : Site) → IsStation site → (k : ℕ) (route : RouteEntry) → slice_get site.routes k ≡ Some route → is_without 32 route.name ≡ true
route_is_word site station k route e =
    name_without_space route.name (named (map (λ r. r.name) site.routes) k route.name (names site station).routes
    (slice_get-map (λ r. r.name) site.routes k ∙ ap (option_map (λ r. r.name)) e))

-- a name has no `_`
not_padding : (name : List ℕ) → IsName name → bytes_eq name (codes "_") ≡ false
not_padding name is = by (bytes_eq name (codes "_")) refl
  where
    by : (v : Bool) → bytes_eq name (codes "_") ≡ v → v ≡ false
    by true e =
        let same : list_all is_name_byte name ≡ false = ap (list_all is_name_byte) ((bytes_eq-Decides name (codes "_")).0 e) in
        let each = is.each in
        cc
    by false e = refl

none_found : {A : Type 0} (name_of : A → List ℕ) (list : List A) → All IsName (map name_of list) → position (λ one. bytes_eq (name_of one) (codes "_")) list ≡ None
none_found name_of [] all = refl
none_found name_of (one ∷ list) all =
    position-cons (λ one. bytes_eq (name_of one) (codes "_")) one list
    ∙ ap (λ v. cond v (Some 0) (option_map suc (position (λ one. bytes_eq (name_of one) (codes "_")) list))) (not_padding (name_of one) (All-head IsName (name_of one) (map name_of list) all))
    ∙ ap (option_map suc) (none_found name_of list (All-tail IsName (name_of one) (map name_of list) all))

none_listed : (list : List (List ℕ)) → All IsName list → position (λ name. bytes_eq name (codes "_")) list ≡ None
none_listed [] all = refl
none_listed (name ∷ list) all =
    position-cons (λ name. bytes_eq name (codes "_")) name list
    ∙ ap (λ v. cond v (Some 0) (option_map suc (position (λ name. bytes_eq name (codes "_")) list))) (not_padding name (All-head IsName name list all))
    ∙ ap (option_map suc) (none_listed list (All-tail IsName name list all))

pub unknown_route : (site : Site) → IsStation site → route_named site (codes "_") ≡ record { 0 = length site.routes }
unknown_route site station = ap (λ (place : Option ℕ). record { 0 = unwrap_or place (length site.routes) }) (none_found (λ (r : RouteEntry). r.name) site.routes (names site station).routes)

pub unknown_point : (site : Site) → IsStation site → point_named site (codes "_") ≡ Err Name
unknown_point site station = ap (found_at (λ place. record { 0 = place })) (none_found (λ (p : Point). p.name) site.points (names site station).points)

-- so nothing is called so
pub nothing_named : (site : Site) → IsStation site → thing_named site (codes "_") None ≡ None
nothing_named site station =
    ap (λ (place : Option ℕ). option_or (option_map (λ k. One (thing.Section (record { 0 = k }))) place) (past_sections site)) (none_listed site.sections (names site station).sections)
    ∙ ap (λ (place : Option ℕ). option_or (option_map (λ k. BothSides (record { 0 = k })) place) (past_points site)) (none_found (λ (p : Point). p.name) site.points (names site station).points)
    ∙ ap (λ (place : Option ℕ). option_or (option_map (λ k. One (thing.Signal (record { 0 = k }))) place) (past_signals site)) (none_found (λ (s : Signal). s.name) site.signals (names site station).signals)
    ∙ ap (option_map (λ k. One (thing.Route (record { 0 = k })))) (none_found (λ (r : RouteEntry). r.name) site.routes (names site station).routes)
  where
    past_signals : Site → Option Named
    past_signals site = option_map (λ k. One (thing.Route (record { 0 = k }))) (position (λ (r : RouteEntry). bytes_eq r.name (codes "_")) site.routes)

    past_points : Site → Option Named
    past_points site = option_or (option_map (λ k. One (thing.Signal (record { 0 = k }))) (position (λ (s : Signal). bytes_eq s.name (codes "_")) site.signals)) (past_signals site)

    past_sections : Site → Option Named
    past_sections site = option_or (option_map (λ k. BothSides (record { 0 = k })) (position (λ (p : Point). bytes_eq p.name (codes "_")) site.points)) (past_points site)

-- what stands at a place has the name that is read there
read_at : {A : Type 0} (read : A → List ℕ) (list : List A) (k : ℕ) (name : List ℕ) → option_map read (slice_get list k) ≡ Some name → slice_get (map read list) k ≡ Some name
read_at read list k name e = slice_get-map read list k ∙ e

pub thing_is_word : (site : Site) → IsStation site → (n : Named) (name : List ℕ) → name_of site n ≡ Some name → is_without 32 name ≡ true
thing_is_word site station (One (thing.Section s)) name e = section_is_word site station s.0 name e
thing_is_word site station (One (thing.Point p side)) name e =
    name_without_space name (named (map (λ q. q.name) site.points) p.0 name (names site station).points (read_at (λ (q : Point). q.name) site.points p.0 name e))
thing_is_word site station (One (thing.Signal s)) name e =
    name_without_space name (named (map (λ q. q.name) site.signals) s.0 name (names site station).signals (read_at (λ (q : Signal). q.name) site.signals s.0 name e))
thing_is_word site station (One (thing.Route r)) name e =
    name_without_space name (named (map (λ q. q.name) site.routes) r.0 name (names site station).routes (read_at (λ (q : RouteEntry). q.name) site.routes r.0 name e))
thing_is_word site station (BothSides p) name e =
    name_without_space name (named (map (λ q. q.name) site.points) p.0 name (names site station).points (read_at (λ (q : Point). q.name) site.points p.0 name e))
