-- No name is used twice, so a name leads to one thing.
use Rattle.std.proofs.Common.{ℕ, List, [], ◌∷◌, ◌++◌, map, Contains, All}
use Rattle.std.proofs.lemmas.List.Elements.{All-cons, All-head, All-nil, All-tail, Contains-append_left, Contains-append_right}
use Rattle.control_table.specs.sci_telegram.Names.{IsName}
use Rattle.control_table.specs.layout.Entries.{Site}
use Rattle.control_table.specs.layout.Once.{Distinct, Once, all_names}
use Rattle.control_table.specs.layout.Station.{IsStation}
use Rattle.closings.proofs.Places.{Apart, distinct-apart, distinct-left, distinct-right, member-rest}

-- the names of all things, kind by kind
pub record Names : Type 0 where
  pub sections : List (List ℕ)
  pub points : List (List ℕ)
  pub signals : List (List ℕ)
  pub routes : List (List ℕ)

abbrev pub names : Site → Names
names l = record { sections = l.sections; points = map (λ p. p.name) l.points; signals = map (λ s. s.name) l.signals; routes = map (λ r. r.name) l.routes }

-- no name stands twice, in one list or in two
pub record AreOnce (n : Names) : Type 0 where
  pub sections : Distinct n.sections
  pub points : Distinct n.points
  pub signals : Distinct n.signals
  pub routes : Distinct n.routes
  pub sections_points : Apart n.sections n.points
  pub sections_signals : Apart n.sections n.signals
  pub sections_routes : Apart n.sections n.routes
  pub points_signals : Apart n.points n.signals
  pub points_routes : Apart n.points n.routes
  pub signals_routes : Apart n.signals n.routes

parted : (station : List ℕ) (sections tracks points borders signals detectors routes : List (List ℕ))
    → Distinct (station ∷ (sections ++ (tracks ++ (points ++ (borders ++ (signals ++ (detectors ++ routes)))))))
    → AreOnce (record { sections = sections; points = points; signals = signals; routes = routes })
parted station sections tracks points borders signals detectors routes d =
    let from_detectors = detectors ++ routes in
    let from_signals = signals ++ from_detectors in
    let from_borders = borders ++ from_signals in
    let from_points = points ++ from_borders in
    let from_tracks = tracks ++ from_points in
    let d_sections = member-rest station (sections ++ from_tracks) d in
    let d_points = distinct-right tracks from_points (distinct-right sections from_tracks d_sections) in
    let d_signals = distinct-right borders from_signals (distinct-right points from_borders d_points) in
    let d_detectors = distinct-right signals from_detectors d_signals in
    let in_borders : (x : List ℕ) → Contains from_signals x → Contains from_borders x = λ x c. Contains-append_right borders from_signals x c in
    let in_tracks : (x : List ℕ) → Contains from_borders x → Contains from_tracks x = λ x c. Contains-append_right tracks from_points x (Contains-append_right points from_borders x c) in
    let signal : (x : List ℕ) → Contains signals x → Contains from_signals x = λ x c. Contains-append_left signals from_detectors x c in
    let route : (x : List ℕ) → Contains routes x → Contains from_detectors x = λ x c. Contains-append_right detectors routes x c in
    let route_too : (x : List ℕ) → Contains routes x → Contains from_signals x = λ x c. Contains-append_right signals from_detectors x (route x c) in
    record {
      sections = distinct-left sections from_tracks d_sections;
      points = distinct-left points from_borders d_points;
      signals = distinct-left signals from_detectors d_signals;
      routes = distinct-right detectors routes d_detectors;
      sections_points = λ x here there. distinct-apart sections from_tracks d_sections x here (Contains-append_right tracks from_points x (Contains-append_left points from_borders x there));
      sections_signals = λ x here there. distinct-apart sections from_tracks d_sections x here (in_tracks x (in_borders x (signal x there)));
      sections_routes = λ x here there. distinct-apart sections from_tracks d_sections x here (in_tracks x (in_borders x (route_too x there)));
      points_signals = λ x here there. distinct-apart points from_borders d_points x here (in_borders x (signal x there));
      points_routes = λ x here there. distinct-apart points from_borders d_points x here (in_borders x (route_too x there));
      signals_routes = λ x here there. distinct-apart signals from_detectors d_signals x here (route x there);
    }

pub names_once : (l : Site) → Once l → AreOnce (names l)
unfolding all_names
names_once l once =
    parted l.station.name l.sections (map (λ t. t.name) l.tracks) (map (λ p. p.name) l.points) l.borders
    (map (λ s. s.name) l.signals) (map (λ d. d.name) l.detectors) (map (λ r. r.name) l.routes) once.names

-- ---- each of them is a name

pub record AreNames (n : Names) : Type 0 where
  pub sections : All IsName n.sections
  pub points : All IsName n.points
  pub signals : All IsName n.signals
  pub routes : All IsName n.routes

all-left : (xs ys : List (List ℕ)) → All IsName (xs ++ ys) → All IsName xs
all-left [] ys h = All-nil IsName
all-left (x ∷ xs) ys h = All-cons IsName x xs (All-head IsName x (xs ++ ys) h) (all-left xs ys (All-tail IsName x (xs ++ ys) h))

all-right : (xs ys : List (List ℕ)) → All IsName (xs ++ ys) → All IsName ys
all-right [] ys h = h
all-right (x ∷ xs) ys h = all-right xs ys (All-tail IsName x (xs ++ ys) h)

named : (station : List ℕ) (sections tracks points borders signals detectors routes : List (List ℕ))
    → All IsName (station ∷ (sections ++ (tracks ++ (points ++ (borders ++ (signals ++ (detectors ++ routes)))))))
    → AreNames (record { sections = sections; points = points; signals = signals; routes = routes })
named station sections tracks points borders signals detectors routes h =
    let from_sections = All-tail IsName station (sections ++ (tracks ++ (points ++ (borders ++ (signals ++ (detectors ++ routes)))))) h in
    let from_tracks = all-right sections (tracks ++ (points ++ (borders ++ (signals ++ (detectors ++ routes))))) from_sections in
    let from_points = all-right tracks (points ++ (borders ++ (signals ++ (detectors ++ routes)))) from_tracks in
    let from_signals = all-right borders (signals ++ (detectors ++ routes)) (all-right points (borders ++ (signals ++ (detectors ++ routes))) from_points) in
    record {
      sections = all-left sections (tracks ++ (points ++ (borders ++ (signals ++ (detectors ++ routes))))) from_sections;
      points = all-left points (borders ++ (signals ++ (detectors ++ routes))) from_points;
      signals = all-left signals (detectors ++ routes) from_signals;
      routes = all-right detectors routes (all-right signals (detectors ++ routes) from_signals);
    }

pub names_named : (l : Site) → IsStation l → AreNames (names l)
unfolding all_names
names_named l station =
    named l.station.name l.sections (map (λ t. t.name) l.tracks) (map (λ p. p.name) l.points) l.borders
    (map (λ s. s.name) l.signals) (map (λ d. d.name) l.detectors) (map (λ r. r.name) l.routes) station.names
