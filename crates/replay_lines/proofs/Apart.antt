-- No name is used twice, so each leads to its place.
use Rattle.std.proofs.Common.{◌≡◌, ◌≢◌, ◌⊎◌, ◌∙◌, ℕ, zero, suc, ◌==◌, ◌&&◌, Bool, true, false, not, cond, List, [], ◌∷◌, ◌++◌, map, Option, Some, None, slice_get, Ok, Contains, refl, sym, ap, subst, inl, inr, ⊎_elim, arith, option_map}
use Rattle.std.specs.List.{list_all, position}
use Rattle.std.specs.Str.{bytes_eq}
use Rattle.std.proofs.lemmas.Bool.{eqb-true}
use Rattle.std.proofs.lemmas.List.{get_or_default}
use Rattle.std.proofs.lemmas.List.Kept.{AllPairs-cons}
use Rattle.std.proofs.lemmas.List.Elements.{Contains-append_left, Contains-append_right, Contains-append_cases}
use Rattle.std.proofs.lemmas.Option.{slice_get-map}
use Rattle.std.proofs.lemmas.Slice.Eq.{bytes_eq-Decides}
use Rattle.ixl_spec.specs.sci_telegram.Names.{IsName, is_name_byte}
use Rattle.replay_words.specs.Words.{is_without}
use Rattle.ixl_spec.specs.layout.declared.entries.Point.{Point}
use Rattle.ixl_spec.specs.layout.Entries.{Site, RouteEntry}
use Rattle.ixl_spec.specs.layout.Once.{Distinct, Once, all_names}
use Rattle.replay_lines.specs.Names.{node_named, node_names, point_named, route_named, section_named}
use Rattle.replay_lines.proofs.Places.{position-cons, position-map}

-- ---- names are words

both : (a b : Bool) → (a && b) ≡ true → (a ≡ true) × (b ≡ true)
both true b e = (refl, e)
both false b e = cc

other_byte : (b byte : ℕ) → is_name_byte b ≡ true → is_name_byte byte ≡ false → (b == byte) ≡ false
other_byte b byte e f = by (b == byte) refl
  where
    by : (v : Bool) → (b == byte) ≡ v → v ≡ false
    by true h =
        let same : is_name_byte b ≡ is_name_byte byte = ap is_name_byte (eqb-true b byte h) in
        cc
    by false h = refl

without : (byte : ℕ) → is_name_byte byte ≡ false → (bytes : List ℕ) → list_all is_name_byte bytes ≡ true → is_without byte bytes ≡ true
without byte f [] e = refl
without byte f (b ∷ bytes) e =
    let parts = both (is_name_byte b) (list_all is_name_byte bytes) e in
    passes (b == byte) (other_byte b byte parts.0 f) (without byte f bytes parts.1)
  where
    passes : (v : Bool) → v ≡ false → is_without byte bytes ≡ true → (not v && is_without byte bytes) ≡ true
    passes true e h = cc
    passes false e h = h

pub name_without_space : (bytes : List ℕ) → IsName bytes → is_without 32 bytes ≡ true
name_without_space bytes name = without 32 refl bytes name.each

pub name_without_equals : (bytes : List ℕ) → IsName bytes → is_without 61 bytes ≡ true
name_without_equals bytes name = without 61 refl bytes name.each

-- ---- distinct members

member-first : {A : Type 0} (x y : A) (xs : List A) → Distinct (x ∷ xs) → Contains xs y → x ≢ y
member-first x y xs d c e = d 0 (suc c.0) y (omega arith) (let lt = c.1 in omega (arith, lt)) (e ∙ sym c.2)

member-rest : {A : Type 0} (x : A) (xs : List A) → Distinct (x ∷ xs) → Distinct xs
member-rest x xs d i j y lt within = d (suc i) (suc j) y (omega (arith, lt)) (omega (arith, within))

member-cons : {A : Type 0} (x : A) (xs : List A) → (Contains xs x → ⊥) → Distinct xs → Distinct (x ∷ xs)
member-cons x xs absent rest = AllPairs-cons (λ a b. a ≢ b) x xs (λ k d lt e. absent (k, lt, get_or_default xs k x d lt ∙ sym e)) rest

contains-there : {A : Type 0} (x y : A) (xs : List A) → Contains xs y → Contains (x ∷ xs) y
contains-there x y xs (k, lt, at) = (suc k, omega (arith, lt), at)

contains-cases : {A : Type 0} (x y : A) (xs : List A) → Contains (x ∷ xs) y → (x ≡ y) ⊎ Contains xs y
contains-cases x y xs (zero, lt, at) = inl at
contains-cases x y xs (suc k, lt, at) = inr (k, omega (arith, lt), at)

-- nothing is a member of both
abbrev pub Apart : {A : Type 0} → List A → List A → Type 0
Apart {A} xs ys = (x : A) → Contains xs x → Contains ys x → ⊥

distinct-left : {A : Type 0} (xs ys : List A) → Distinct (xs ++ ys) → Distinct xs
distinct-left [] ys d = λ i j x lt within. absurd (omega (arith, within))
distinct-left (x ∷ xs) ys d =
    member-cons x xs (λ c. member-first x x (xs ++ ys) d (Contains-append_left xs ys x c) refl) (distinct-left xs ys (member-rest x (xs ++ ys) d))

distinct-right : {A : Type 0} (xs ys : List A) → Distinct (xs ++ ys) → Distinct ys
distinct-right [] ys d = d
distinct-right (x ∷ xs) ys d = distinct-right xs ys (member-rest x (xs ++ ys) d)

distinct-apart : {A : Type 0} (xs ys : List A) → Distinct (xs ++ ys) → Apart xs ys
distinct-apart [] ys d x here there = absurd (let lt = here.1 in omega (arith, lt))
distinct-apart {A} (w ∷ xs) ys d x here there =
    ⊎_elim (λ e. member-first w x (xs ++ ys) d (Contains-append_right xs ys x there) e)
    (λ later. distinct-apart xs ys (member-rest w (xs ++ ys) d) x later there) (contains-cases w x xs here)

distinct-append : {A : Type 0} (xs ys : List A) → Distinct xs → Distinct ys → Apart xs ys → Distinct (xs ++ ys)
distinct-append [] ys dx dy apart = dy
distinct-append (x ∷ xs) ys dx dy apart =
    member-cons x (xs ++ ys)
    (λ c. ⊎_elim (λ here. member-first x x xs dx here refl) (λ there. apart x (0, omega arith, refl) there) (Contains-append_cases xs ys x c))
    (distinct-append xs ys (member-rest x xs dx) dy (λ y here there. apart y (contains-there x y xs here) there))

-- ---- the names of a station

parted : (station : List ℕ) (sections tracks points borders signals detectors routes : List (List ℕ))
    → Distinct (station ∷ (sections ++ (tracks ++ (points ++ (borders ++ (signals ++ (detectors ++ routes)))))))
    → Distinct (station ∷ (signals ++ (points ++ detectors))) × Distinct sections × Distinct points × Distinct routes
parted station sections tracks points borders signals detectors routes d =
    let from_detectors = detectors ++ routes in
    let from_signals = signals ++ from_detectors in
    let from_borders = borders ++ from_signals in
    let from_points = points ++ from_borders in
    let from_tracks = tracks ++ from_points in
    let d_sections = member-rest station (sections ++ from_tracks) d in
    let d_points = distinct-right tracks from_points (distinct-right sections from_tracks d_sections) in
    let d_signals = distinct-right borders from_signals (distinct-right points from_borders d_points) in
    let d_detectors = distinct-right signals from_detectors d_signals in
    let up_to_signals : (x : List ℕ) → Contains from_signals x → Contains (sections ++ from_tracks) x =
    λ x c. Contains-append_right sections from_tracks x (Contains-append_right tracks from_points x (Contains-append_right points from_borders x (Contains-append_right borders from_signals x c))) in
    let in_signals : (x : List ℕ) → Contains signals x → Contains from_signals x = λ x c. Contains-append_left signals from_detectors x c in
    let in_detectors : (x : List ℕ) → Contains detectors x → Contains from_signals x = λ x c. Contains-append_right signals from_detectors x (Contains-append_left detectors routes x c) in
    let in_points : (x : List ℕ) → Contains points x → Contains (sections ++ from_tracks) x =
    λ x c. Contains-append_right sections from_tracks x (Contains-append_right tracks from_points x (Contains-append_left points from_borders x c)) in
    let apart_points : (x : List ℕ) → Contains points x → Contains from_signals x → ⊥ =
    λ x here there. distinct-apart points from_borders d_points x here (Contains-append_right borders from_signals x there) in
    let behind : Distinct (points ++ detectors) =
    distinct-append points detectors (distinct-left points from_borders d_points) (distinct-left detectors routes d_detectors)
    (λ x here there. apart_points x here (in_detectors x there)) in
    let controllers : Distinct (signals ++ (points ++ detectors)) =
    distinct-append signals (points ++ detectors) (distinct-left signals from_detectors d_signals) behind
    (λ x here there. ⊎_elim (λ point. apart_points x point (in_signals x here))
    (λ detector. distinct-apart signals from_detectors d_signals x here (Contains-append_left detectors routes x detector)) (Contains-append_cases points detectors x there)) in
    let alone : Contains (signals ++ (points ++ detectors)) station → ⊥ =
    λ c. ⊎_elim (λ signal. member-first station station (sections ++ from_tracks) d (up_to_signals station (in_signals station signal)) refl)
    (λ others. ⊎_elim (λ point. member-first station station (sections ++ from_tracks) d (in_points station point) refl)
    (λ detector. member-first station station (sections ++ from_tracks) d (up_to_signals station (in_detectors station detector)) refl)
    (Contains-append_cases points detectors station others)) (Contains-append_cases signals (points ++ detectors) station c) in (
      member-cons station (signals ++ (points ++ detectors)) alone controllers,
      distinct-left sections from_tracks d_sections,
      distinct-left points from_borders d_points,
      distinct-right detectors routes d_detectors,
    )

names_of : (site : Site) → Once site → Distinct (node_names site) × Distinct site.sections × Distinct (map (λ p. p.name) site.points) × Distinct (map (λ r. r.name) site.routes)
unfolding all_names
names_of site once =
    parted site.station.name site.sections (map (λ t. t.name) site.tracks) (map (λ p. p.name) site.points) site.borders
    (map (λ s. s.name) site.signals) (map (λ d. d.name) site.detectors) (map (λ r. r.name) site.routes) once.names

-- ---- the place of a name

some-same : {A : Type 0} (x y : A) → Some x ≡ Some y → x ≡ y
some-same {A} x y e = let unwrap : Option A → A = λ o. elim o [ None ↦ x | Some z ↦ z ] in ap unwrap e

pub get-contains : {A : Type 0} (xs : List A) (i : ℕ) (x : A) → slice_get xs i ≡ Some x → Contains xs x
get-contains [] i x e = absurd (cc)
get-contains {A} (w ∷ xs) zero x e = let H : A → Type 0 = λ v. Contains (w ∷ xs) v in subst H (some-same w x e) (0, omega arith, refl)
get-contains (w ∷ xs) (suc i) x e = contains-there w x xs (get-contains xs i x e)

-- a name of distinct ones is found at its place
pub found : (xs : List (List ℕ)) (k : ℕ) (name : List ℕ) → Distinct xs → slice_get xs k ≡ Some name → position (λ n. bytes_eq n name) xs ≡ Some k
found [] k name d e = absurd (cc)
found (x ∷ xs) zero name d e =
    position-cons (λ n. bytes_eq n name) x xs
    ∙ ap (λ v. cond v (Some 0) (option_map suc (position (λ n. bytes_eq n name) xs))) ((bytes_eq-Decides x name).1 (some-same x name e))
found (x ∷ xs) (suc k) name d e =
    position-cons (λ n. bytes_eq n name) x xs
    ∙ ap (λ v. cond v (Some 0) (option_map suc (position (λ n. bytes_eq n name) xs))) (fails (bytes_eq x name) (λ same. member-first x name xs d (get-contains xs k name e) ((bytes_eq-Decides x name).0 same)))
    ∙ ap (option_map suc) (found xs k name (member-rest x xs d) e)
  where
    fails : (v : Bool) → (v ≡ true → ⊥) → v ≡ false
    fails true h = absurd (h refl)
    fails false h = refl

pub node_read : (site : Site) → Once site → (k : ℕ) (name : List ℕ) → slice_get (node_names site) k ≡ Some name → node_named site name ≡ Ok (record { 0 = k })
node_read site once k name e = rw (found (node_names site) k name (names_of site once).0 e) refl

pub section_read : (site : Site) → Once site → (k : ℕ) (name : List ℕ) → slice_get site.sections k ≡ Some name → section_named site name ≡ Ok (record { 0 = k })
section_read site once k name e = rw (found site.sections k name (names_of site once).1 e) refl

pub point_read : (site : Site) → Once site → (k : ℕ) (point : Point) → slice_get site.points k ≡ Some point → point_named site point.name ≡ Ok (record { 0 = k })
point_read site once k point e =
    let at : position (λ p. bytes_eq p.name point.name) site.points ≡ Some k =
    sym (position-map (λ n. bytes_eq n point.name) (λ p. p.name) site.points)
    ∙ found (map (λ p. p.name) site.points) k point.name (names_of site once).2 (slice_get-map (λ p. p.name) site.points k ∙ ap (option_map (λ p. p.name)) e) in
    rw at refl

pub route_read : (site : Site) → Once site → (k : ℕ) (route : RouteEntry) → slice_get site.routes k ≡ Some route → route_named site route.name ≡ record { 0 = k }
route_read site once k route e =
    let at : position (λ r. bytes_eq r.name route.name) site.routes ≡ Some k =
    sym (position-map (λ n. bytes_eq n route.name) (λ r. r.name) site.routes)
    ∙ found (map (λ r. r.name) site.routes) k route.name (names_of site once).3 (slice_get-map (λ r. r.name) site.routes k ∙ ap (option_map (λ r. r.name)) e) in
    rw at refl
