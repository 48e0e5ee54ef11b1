-- Each row of a chart goes by an identity of its own, since no name of a layout is used twice.
use Rattle.std.proofs.Common.{◌≡◌, ◌≢◌, ◌⊎◌, ◌∙◌, ℕ, zero, suc, ◌+◌, ◌^◌, ◌<◌, Bool, true, false, cond, not, ◌&&◌, ◌==◌, if◌then◌else◌, List, [], ◌∷◌, ◌++◌, map, flat_map, codes, Contains, refl, sym, ap, subst, ⊎_elim, inl, inr, arith}
use Rattle.std.specs.List.{list_all}
use Rattle.std.specs.Str.{bytes_eq}
use Rattle.std.proofs.lemmas.Bool.{false≢true}
use Rattle.std.proofs.lemmas.Fmt.{decimal_injective}
use Rattle.std.proofs.lemmas.List.{append-nil, append_assoc, get_or_default, map-append}
use Rattle.std.proofs.lemmas.List.Kept.{AllPairs-cons}
use Rattle.std.proofs.lemmas.List.Elements.{Contains-append_left, Contains-append_right, Contains-append_cases}
use Rattle.control_table.specs.layout.Entries.{Site}
use Rattle.control_table.specs.layout.Once.{Distinct, Once, all_names}
use Rattle.lane_chart.specs.Chart.{axis_id, legend_id}
use Rattle.lane_chart.specs.Faces.{happening_id}
use Rattle.lane_chart.specs.Subjects.{field_rows, kind_text, link_rows, node_rows, numbered, row_ids, rows_of, subject_id}
use Rattle.lane_chart.specs.declared.subject.Row.{Row}
use Rattle.lane_chart.specs.declared.subject.Sort.{Sort}
use Rattle.lane_chart.specs.declared.subject.Sort.TheVariants as sort
use Rattle.lane_chart.specs.declared.subject.Subject.{Subject}

-- ---- distinct members

member-first : {A : Type 0} (x y : A) (xs : List A) → Distinct (x ∷ xs) → Contains xs y → x ≢ y
member-first x y xs d c e = d 0 (suc c.0) y (omega arith) (let lt = c.1 in omega (arith, lt)) (e ∙ sym c.2)

member-rest : {A : Type 0} (x : A) (xs : List A) → Distinct (x ∷ xs) → Distinct xs
member-rest x xs d i j y lt within = d (suc i) (suc j) y (omega (arith, lt)) (omega (arith, within))

member-cons : {A : Type 0} (x : A) (xs : List A) → (Contains xs x → ⊥) → Distinct xs → Distinct (x ∷ xs)
member-cons x xs absent rest = AllPairs-cons (λ a b. a ≢ b) x xs (λ k d lt e. absent (k, lt, get_or_default xs k x d lt ∙ sym e)) rest

none-distinct : {A : Type 0} → Distinct {A = A} []
none-distinct = λ i j x lt within. absurd (omega (arith, within))

contains-none : {A : Type 0} (x : A) → Contains [] x → ⊥
contains-none x (k, lt, at) = absurd (omega (arith, lt))

contains-here : {A : Type 0} (x : A) (xs : List A) → Contains (x ∷ xs) x
contains-here x xs = (0, omega arith, refl)

contains-there : {A : Type 0} (x y : A) (xs : List A) → Contains xs y → Contains (x ∷ xs) y
contains-there x y xs (k, lt, at) = (suc k, omega (arith, lt), at)

contains-cases : {A : Type 0} (x y : A) (xs : List A) → Contains (x ∷ xs) y → (x ≡ y) ⊎ Contains xs y
contains-cases x y xs (zero, lt, at) = inl at
contains-cases x y xs (suc k, lt, at) = inr (k, omega (arith, lt), at)

-- nothing is a member of both
abbrev Apart : {A : Type 0} → List A → List A → Type 0
Apart {A} xs ys = (x : A) → Contains xs x → Contains ys x → ⊥

distinct-left : {A : Type 0} (xs ys : List A) → Distinct (xs ++ ys) → Distinct xs
distinct-left [] ys d = none-distinct
distinct-left (x ∷ xs) ys d =
    member-cons x xs (λ c. member-first x x (xs ++ ys) d (Contains-append_left xs ys x c) refl) (distinct-left xs ys (member-rest x (xs ++ ys) d))

distinct-right : {A : Type 0} (xs ys : List A) → Distinct (xs ++ ys) → Distinct ys
distinct-right [] ys d = d
distinct-right (x ∷ xs) ys d = distinct-right xs ys (member-rest x (xs ++ ys) d)

distinct-apart : {A : Type 0} (xs ys : List A) → Distinct (xs ++ ys) → Apart xs ys
distinct-apart [] ys d x here there = contains-none x here
distinct-apart (w ∷ xs) ys d x here there =
    ⊎_elim (λ e. member-first w x (xs ++ ys) d (Contains-append_right xs ys x there) e)
    (λ later. distinct-apart xs ys (member-rest w (xs ++ ys) d) x later there) (contains-cases w x xs here)

distinct-append : {A : Type 0} (xs ys : List A) → Distinct xs → Distinct ys → Apart xs ys → Distinct (xs ++ ys)
distinct-append [] ys dx dy apart = dy
distinct-append (x ∷ xs) ys dx dy apart =
    member-cons x (xs ++ ys)
    (λ c. ⊎_elim (λ here. member-first x x xs dx here refl) (λ there. apart x (contains-here x xs) there) (Contains-append_cases xs ys x c))
    (distinct-append xs ys (member-rest x xs dx) dy (λ y here there. apart y (contains-there x y xs here) there))

contains-mapped : {A B : Type 0} (f : A → B) (xs : List A) (x : A) → Contains xs x → Contains (map f xs) (f x)
contains-mapped f [] x c = absurd (contains-none x c)
contains-mapped {A} {B} f (w ∷ xs) x c =
    let H : B → Type 0 = λ y. Contains (f w ∷ map f xs) y in
    ⊎_elim (λ e. subst H (ap f e) (contains-here (f w) (map f xs))) (λ later. contains-there (f w) (f x) (map f xs) (contains-mapped f xs x later)) (contains-cases w x xs c)

contains-map : {A B : Type 0} (f : A → B) (xs : List A) (y : B) → Contains (map f xs) y → (x : A) × Contains xs x × (f x ≡ y)
contains-map f [] y c = absurd (contains-none y c)
contains-map f (x ∷ xs) y c =
    ⊎_elim (λ e. (x, contains-here x xs, e))
    (λ later. let found = contains-map f xs y later in (found.0, contains-there x found.0 xs found.1, found.2)) (contains-cases (f x) y (map f xs) c)

contains-flat : {A B : Type 0} (f : A → List B) (xs : List A) (y : B) → Contains (flat_map f xs) y → (x : A) × Contains xs x × Contains (f x) y
contains-flat f [] y c = absurd (contains-none y c)
contains-flat f (x ∷ xs) y c =
    ⊎_elim (λ here. (x, contains-here x xs, here))
    (λ later. let found = contains-flat f xs y later in (found.0, contains-there x found.0 xs found.1, found.2)) (Contains-append_cases (f x) (flat_map f xs) y c)

-- ---- what stands before the first dot of an identity, and after it

abbrev before_dot : List ℕ → List ℕ
before_dot [] = []
before_dot (b ∷ bytes) = cond (b == 46) [] (b ∷ before_dot bytes)

abbrev behind_dot : List ℕ → List ℕ
behind_dot [] = []
behind_dot (b ∷ bytes) = cond (b == 46) bytes (behind_dot bytes)

abbrev has_no_dot : List ℕ → Bool
has_no_dot bytes = list_all (λ b. not (b == 46)) bytes

both : (a b : Bool) → (a && b) ≡ true → (a ≡ true) × (b ≡ true)
both true b e = (refl, e)
both false b e = cc

before-cut : (a x : List ℕ) → has_no_dot a ≡ true → before_dot (a ++ 46 ∷ x) ≡ a
before-cut [] x e = refl
before-cut (b ∷ a) x e =
    let parts = both (not (b == 46)) (has_no_dot a) e in
    further (b == 46) parts.0 (before-cut a x parts.1)
  where
    further : (v : Bool) → not v ≡ true → before_dot (a ++ 46 ∷ x) ≡ a → cond v [] (b ∷ before_dot (a ++ 46 ∷ x)) ≡ b ∷ a
    further true e h = cc
    further false e h = ap (λ bytes. b ∷ bytes) h

behind-cut : (a x : List ℕ) → has_no_dot a ≡ true → behind_dot (a ++ 46 ∷ x) ≡ x
behind-cut [] x e = refl
behind-cut (b ∷ a) x e =
    let parts = both (not (b == 46)) (has_no_dot a) e in
    further (b == 46) parts.0 (behind-cut a x parts.1)
  where
    further : (v : Bool) → not v ≡ true → behind_dot (a ++ 46 ∷ x) ≡ x → cond v (a ++ 46 ∷ x) (behind_dot (a ++ 46 ∷ x)) ≡ x
    further true e h = cc
    further false e h = h

-- ---- names of one kind, and blocks of them

abbrev tag : List ℕ → List ℕ → List ℕ
tag kind name = kind ++ (codes "." ++ name)

abbrev tagged : List ℕ → List (List ℕ) → List (List ℕ)
tagged kind names = map (tag kind) names

tagged-distinct : (kind : List ℕ) → has_no_dot kind ≡ true → (names : List (List ℕ)) → Distinct names → Distinct (tagged kind names)
tagged-distinct kind plain [] d = none-distinct
tagged-distinct kind plain (name ∷ names) d =
    member-cons (tag kind name) (tagged kind names)
    (λ c. let found = contains-map (tag kind) names (tag kind name) c in
    member-first name found.0 names d found.1 (sym (behind-cut kind name plain) ∙ (ap behind_dot (sym found.2) ∙ behind-cut kind found.0 plain)))
    (tagged-distinct kind plain names (member-rest name names d))

-- names of one kind
record Block : Type 0 where
  pub kind : List ℕ
  pub names : List (List ℕ)

abbrev ids_in : Block → List (List ℕ)
ids_in block = tagged block.kind block.names

-- each kind has no dot, and no name twice
abbrev AreSound : List Block → Type 0
AreSound [] = Unit {0}
AreSound (block ∷ blocks) = (has_no_dot block.kind ≡ true) × Distinct block.names × AreSound blocks

kind-there : (block : Block) (id : List ℕ) → has_no_dot block.kind ≡ true → Contains (ids_in block) id → before_dot id ≡ block.kind
kind-there block id plain c =
    let found = contains-map (tag block.kind) block.names id c in
    ap before_dot (sym found.2) ∙ before-cut block.kind found.0 plain

sound-there : (blocks : List Block) (block : Block) → AreSound blocks → Contains blocks block → has_no_dot block.kind ≡ true
sound-there [] block sound c = absurd (contains-none block c)
sound-there (first ∷ blocks) block sound c =
    let H : Block → Type 0 = λ b. has_no_dot b.kind ≡ true in
    ⊎_elim (λ e. subst H e sound.0) (λ later. sound-there blocks block sound.2 later) (contains-cases first block blocks c)

blocks-distinct : (blocks : List Block) → AreSound blocks → Distinct (map (λ b. b.kind) blocks) → Distinct (flat_map ids_in blocks)
blocks-distinct [] sound kinds = none-distinct
blocks-distinct (block ∷ blocks) sound kinds =
    distinct-append (ids_in block) (flat_map ids_in blocks) (tagged-distinct block.kind sound.0 block.names sound.1)
    (blocks-distinct blocks sound.2 (member-rest block.kind (map (λ (b : Block). b.kind) blocks) kinds))
    (λ id here there. let found = contains-flat ids_in blocks id there in
    member-first block.kind found.0.kind (map (λ (b : Block). b.kind) blocks) kinds (contains-mapped (λ (b : Block). b.kind) blocks found.0 found.1)
    (sym (kind-there block id sound.0 here) ∙ kind-there found.0 id (sound-there blocks found.0 sound.2 found.1) found.2))

-- ---- the kinds of rows

-- the place of a kind among them
abbrev number_of : List ℕ → ℕ
number_of kind =
    if bytes_eq kind (codes "signal") then 0
    else if bytes_eq kind (codes "point") then 1
    else if bytes_eq kind (codes "section") then 2
    else if bytes_eq kind (codes "route") then 3
    else if bytes_eq kind (codes "link") then 4
    else 5

abbrev kinds : List (List ℕ)
kinds = codes "signal" ∷ codes "point" ∷ codes "section" ∷ codes "route" ∷ codes "link" ∷ codes "node" ∷ []

-- what has distinct numbers is distinct
distinct-by : {A B : Type 0} (word : A → B) (xs : List A) → Distinct (map word xs) → Distinct xs
distinct-by word [] d = none-distinct
distinct-by word (x ∷ xs) d =
    member-cons x xs (λ c. member-first (word x) (word x) (map word xs) d (contains-mapped word xs x c) refl)
    (distinct-by word xs (member-rest (word x) (map word xs) d))

-- the numbers from one on
abbrev upward : ℕ → ℕ → List ℕ
upward first zero = []
upward first (suc count) = first ∷ upward (suc first) count

upward-above : (first count n : ℕ) → Contains (upward first count) n → first < suc n
upward-above first zero n c = absurd (contains-none n c)
upward-above first (suc count) n c =
    ⊎_elim (λ e. omega (arith, e)) (λ later. let above = upward-above (suc first) count n later in omega (arith, above)) (contains-cases first n (upward (suc first) count) c)

upward-distinct : (first count : ℕ) → Distinct (upward first count)
upward-distinct first zero = none-distinct
upward-distinct first (suc count) =
    member-cons first (upward (suc first) count) (λ c. let above = upward-above (suc first) count first c in omega (arith, above)) (upward-distinct (suc first) count)

kinds-distinct : Distinct kinds
kinds-distinct = distinct-by number_of kinds (upward-distinct 0 6)

pub kind-plain : (s : Sort) → has_no_dot (kind_text s) ≡ true
kind-plain sort.Signal = refl
kind-plain sort.Point = refl
kind-plain sort.Section = refl
kind-plain sort.Route = refl
kind-plain sort.SignalLink = refl
kind-plain sort.PointLink = refl
kind-plain sort.DetectorLink = refl
kind-plain sort.Interlocking = refl
kind-plain sort.SignalNode = refl
kind-plain sort.PointNode = refl
kind-plain sort.DetectorNode = refl

-- ---- the rows of a layout

ids-numbered : {A : Type 0} (name : A → List ℕ) (s : Sort) (place : ℕ) (entries : List A) → row_ids (numbered name s place entries) ≡ tagged (kind_text s) (map name entries)
ids-numbered name s place [] = refl
ids-numbered name s place (entry ∷ others) = ap (λ ids. tag (kind_text s) (name entry) ∷ ids) (ids-numbered name s (place + 1) others)

map-self : (names : List (List ℕ)) → map (λ name. name) names ≡ names
map-self [] = refl
map-self (name ∷ names) = ap (λ ns. name ∷ ns) (map-self names)

module _ (l : Site) where
  abbrev signals : List (List ℕ)
  signals = map (λ s. s.name) l.signals

  abbrev points : List (List ℕ)
  points = map (λ p. p.name) l.points

  abbrev detectors : List (List ℕ)
  detectors = map (λ d. d.name) l.detectors

  abbrev routes : List (List ℕ)
  routes = map (λ r. r.name) l.routes

  abbrev controllers : List (List ℕ)
  controllers = signals ++ (points ++ detectors)

  abbrev blocks : List Block
  blocks =
      record { kind = codes "signal"; names = signals } ∷ record { kind = codes "point"; names = points } ∷ record { kind = codes "section"; names = l.sections }
      ∷ record { kind = codes "route"; names = routes } ∷ record { kind = codes "link"; names = controllers } ∷ record { kind = codes "node"; names = l.station.name ∷ controllers } ∷ []

  -- controllers of all three sorts
  tagged-controllers : (kind : List ℕ) → tagged kind signals ++ (tagged kind points ++ tagged kind detectors) ≡ tagged kind controllers
  tagged-controllers kind =
      ap (λ ids. tagged kind signals ++ ids) (sym (map-append (tag kind) points detectors)) ∙ sym (map-append (tag kind) signals (points ++ detectors))

  three : (first second third : List Row) (kind : List ℕ) → row_ids first ≡ tagged kind signals → row_ids second ≡ tagged kind points → row_ids third ≡ tagged kind detectors
      → row_ids (first ++ (second ++ third)) ≡ tagged kind controllers
  three first second third kind one two last =
      map-append (λ (row : Row). subject_id row.subject) first (second ++ third)
      ∙ ap (λ ids. row_ids first ++ ids) (map-append (λ (row : Row). subject_id row.subject) second third)
      ∙ ap (λ ids. ids ++ (row_ids second ++ row_ids third)) one
      ∙ ap (λ ids. tagged kind signals ++ (ids ++ row_ids third)) two
      ∙ ap (λ ids. tagged kind signals ++ (tagged kind points ++ ids)) last
      ∙ tagged-controllers kind

  link-ids : row_ids (link_rows l) ≡ tagged (codes "link") controllers
  link-ids =
      three (numbered (λ s. s.name) sort.SignalLink 0 l.signals) (numbered (λ p. p.name) sort.PointLink 0 l.points) (numbered (λ d. d.name) sort.DetectorLink 0 l.detectors) (codes "link")
      (ids-numbered (λ s. s.name) sort.SignalLink 0 l.signals) (ids-numbered (λ p. p.name) sort.PointLink 0 l.points) (ids-numbered (λ d. d.name) sort.DetectorLink 0 l.detectors)

  node-ids : row_ids (node_rows l) ≡ tagged (codes "node") (l.station.name ∷ controllers)
  node-ids =
      ap (λ ids. tag (codes "node") l.station.name ∷ ids)
      (three (numbered (λ s. s.name) sort.SignalNode 0 l.signals) (numbered (λ p. p.name) sort.PointNode 0 l.points) (numbered (λ d. d.name) sort.DetectorNode 0 l.detectors) (codes "node")
      (ids-numbered (λ s. s.name) sort.SignalNode 0 l.signals) (ids-numbered (λ p. p.name) sort.PointNode 0 l.points) (ids-numbered (λ d. d.name) sort.DetectorNode 0 l.detectors))

  one-more : (names : List (List ℕ)) (kind : List ℕ) (rows others : List Row) (more : List (List ℕ)) → row_ids rows ≡ tagged kind names → row_ids others ≡ more → row_ids (rows ++ others) ≡ tagged kind names ++ more
  one-more names kind rows others more here there =
      map-append (λ (row : Row). subject_id row.subject) rows others ∙ ap (λ ids. ids ++ row_ids others) here ∙ ap (λ ids. tagged kind names ++ ids) there

  rest-ids : row_ids (link_rows l ++ node_rows l) ≡ tagged (codes "link") controllers ++ (tagged (codes "node") (l.station.name ∷ controllers) ++ [])
  rest-ids =
      one-more controllers (codes "link") (link_rows l) (node_rows l) (tagged (codes "node") (l.station.name ∷ controllers) ++ []) link-ids
      (node-ids ∙ sym (append-nil (tagged (codes "node") (l.station.name ∷ controllers))))

  field-ids : (others : List Row) → row_ids (field_rows l ++ others)
      ≡ tagged (codes "signal") signals ++ (tagged (codes "point") points ++ (tagged (codes "section") l.sections ++ (tagged (codes "route") routes ++ row_ids others)))
  field-ids others =
      let s = numbered (λ s. s.name) sort.Signal 0 l.signals
      in let p = numbered (λ p. p.name) sort.Point 0 l.points
      in let c = numbered (λ name. name) sort.Section 0 l.sections
      in let r = numbered (λ r. r.name) sort.Route 0 l.routes
      in ap row_ids (append_assoc s (p ++ (c ++ r)) others ∙ ap (λ rows. s ++ rows) (append_assoc p (c ++ r) others ∙ ap (λ rows. p ++ rows) (append_assoc c r others)))
      ∙ one-more signals (codes "signal") s (p ++ (c ++ (r ++ others))) _ (ids-numbered (λ s. s.name) sort.Signal 0 l.signals)
      (one-more points (codes "point") p (c ++ (r ++ others)) _ (ids-numbered (λ p. p.name) sort.Point 0 l.points)
      (one-more l.sections (codes "section") c (r ++ others) _ (ids-numbered (λ name. name) sort.Section 0 l.sections ∙ ap (tagged (codes "section")) (map-self l.sections))
      (one-more routes (codes "route") r others (row_ids others) (ids-numbered (λ r. r.name) sort.Route 0 l.routes) refl)))

  ids-are : row_ids (rows_of l) ≡ flat_map ids_in blocks
  ids-are =
      field-ids (link_rows l ++ node_rows l)
      ∙ ap (λ ids. tagged (codes "signal") signals ++ (tagged (codes "point") points ++ (tagged (codes "section") l.sections ++ (tagged (codes "route") routes ++ ids)))) rest-ids

  -- names of controllers are of one set
  pub once : Once l → Distinct (row_ids (rows_of l))
  unfolding all_names
  once h =
      let tracks = map (λ t. t.name) l.tracks
      in let all = h.names
      in let behind = member-rest l.station.name (l.sections ++ (tracks ++ (points ++ (l.borders ++ (signals ++ (detectors ++ routes)))))) all
      in let from_points = distinct-right tracks (points ++ (l.borders ++ (signals ++ (detectors ++ routes)))) (distinct-right l.sections (tracks ++ (points ++ (l.borders ++ (signals ++ (detectors ++ routes))))) behind)
      in let from_signals = distinct-right l.borders (signals ++ (detectors ++ routes)) (distinct-right points (l.borders ++ (signals ++ (detectors ++ routes))) from_points)
      in let from_detectors = distinct-right signals (detectors ++ routes) from_signals
      in let signals_once = distinct-left signals (detectors ++ routes) from_signals
      in let points_once = distinct-left points (l.borders ++ (signals ++ (detectors ++ routes))) from_points
      in let detectors_once = distinct-left detectors routes from_detectors
      in let routes_once = distinct-right detectors routes from_detectors
      in let sections_once = distinct-left l.sections (tracks ++ (points ++ (l.borders ++ (signals ++ (detectors ++ routes))))) behind
      in let in_signals : (x : List ℕ) → Contains (signals ++ (detectors ++ routes)) x → Contains (l.borders ++ (signals ++ (detectors ++ routes))) x =
      λ x c. Contains-append_right l.borders (signals ++ (detectors ++ routes)) x c
      in let points_apart : Apart points detectors =
      λ x here there. distinct-apart points (l.borders ++ (signals ++ (detectors ++ routes))) from_points x here
      (in_signals x (Contains-append_right signals (detectors ++ routes) x (Contains-append_left detectors routes x there)))
      in let signals_apart : Apart signals (points ++ detectors) =
      λ x here there. ⊎_elim (λ point. distinct-apart points (l.borders ++ (signals ++ (detectors ++ routes))) from_points x point (in_signals x (Contains-append_left signals (detectors ++ routes) x here)))
      (λ detector. distinct-apart signals (detectors ++ routes) from_signals x here (Contains-append_left detectors routes x detector)) (Contains-append_cases points detectors x there)
      in let controllers_once = distinct-append signals (points ++ detectors) signals_once (distinct-append points detectors points_once detectors_once points_apart) signals_apart
      in let in_points : (x : List ℕ) → Contains (points ++ (l.borders ++ (signals ++ (detectors ++ routes)))) x → Contains (l.sections ++ (tracks ++ (points ++ (l.borders ++ (signals ++ (detectors ++ routes)))))) x =
      λ x c. Contains-append_right l.sections (tracks ++ (points ++ (l.borders ++ (signals ++ (detectors ++ routes))))) x (Contains-append_right tracks (points ++ (l.borders ++ (signals ++ (detectors ++ routes)))) x c)
      in let in_controllers : (x : List ℕ) → Contains controllers x → Contains (points ++ (l.borders ++ (signals ++ (detectors ++ routes)))) x =
      λ x c. ⊎_elim (λ signal. Contains-append_right points (l.borders ++ (signals ++ (detectors ++ routes))) x (in_signals x (Contains-append_left signals (detectors ++ routes) x signal)))
      (λ other. ⊎_elim (λ point. Contains-append_left points (l.borders ++ (signals ++ (detectors ++ routes))) x point)
      (λ detector. Contains-append_right points (l.borders ++ (signals ++ (detectors ++ routes))) x
      (in_signals x (Contains-append_right signals (detectors ++ routes) x (Contains-append_left detectors routes x detector))))
      (Contains-append_cases points detectors x other)) (Contains-append_cases signals (points ++ detectors) x c)
      in let station_apart : Contains controllers l.station.name → ⊥ =
      λ c. member-first l.station.name l.station.name (l.sections ++ (tracks ++ (points ++ (l.borders ++ (signals ++ (detectors ++ routes)))))) all (in_points l.station.name (in_controllers l.station.name c)) refl
      in let nodes_once = member-cons l.station.name controllers station_apart controllers_once
      in let sound : AreSound blocks = (refl, signals_once, (refl, points_once, (refl, sections_once, (refl, routes_once, (refl, controllers_once, (refl, nodes_once, tt))))))
      in subst (λ (ids : List (List ℕ)). Distinct ids) (sym ids-are) (blocks-distinct blocks sound kinds-distinct)

-- ---- other identities

kind-of-id : (s : Subject) → before_dot (subject_id s) ≡ kind_text s.sort
kind-of-id s = before-cut (kind_text s.sort) s.name (kind-plain s.sort)

-- no row is of another kind
other : (word : List ℕ) (id : List ℕ) → ((s : Sort) → bytes_eq (kind_text s) word ≡ false) → bytes_eq (before_dot id) word ≡ true → (s : Subject) → subject_id s ≡ id → ⊥
other word id none is s e =
    let kind : kind_text s.sort ≡ before_dot id = sym (kind-of-id s) ∙ ap before_dot e in
    false≢true (sym (none s.sort) ∙ (ap (λ k. bytes_eq k word) kind ∙ is))

no-line : (s : Sort) → bytes_eq (kind_text s) (codes "line") ≡ false
no-line sort.Signal = refl
no-line sort.Point = refl
no-line sort.Section = refl
no-line sort.Route = refl
no-line sort.SignalLink = refl
no-line sort.PointLink = refl
no-line sort.DetectorLink = refl
no-line sort.Interlocking = refl
no-line sort.SignalNode = refl
no-line sort.PointNode = refl
no-line sort.DetectorNode = refl

no-axis : (s : Sort) → bytes_eq (kind_text s) axis_id ≡ false
no-axis sort.Signal = refl
no-axis sort.Point = refl
no-axis sort.Section = refl
no-axis sort.Route = refl
no-axis sort.SignalLink = refl
no-axis sort.PointLink = refl
no-axis sort.DetectorLink = refl
no-axis sort.Interlocking = refl
no-axis sort.SignalNode = refl
no-axis sort.PointNode = refl
no-axis sort.DetectorNode = refl

no-legend : (s : Sort) → bytes_eq (kind_text s) legend_id ≡ false
no-legend sort.Signal = refl
no-legend sort.Point = refl
no-legend sort.Section = refl
no-legend sort.Route = refl
no-legend sort.SignalLink = refl
no-legend sort.PointLink = refl
no-legend sort.DetectorLink = refl
no-legend sort.Interlocking = refl
no-legend sort.SignalNode = refl
no-legend sort.PointNode = refl
no-legend sort.DetectorNode = refl

pub not_happening : (s : Subject) (number : ℕ) → subject_id s ≡ happening_id number → ⊥
not_happening s number e = other (codes "line") (happening_id number) no-line refl s e

pub not_axis : (s : Subject) → subject_id s ≡ axis_id → ⊥
not_axis s e = other axis_id axis_id no-axis refl s e

pub not_legend : (s : Subject) → subject_id s ≡ legend_id → ⊥
not_legend s e = other legend_id legend_id no-legend refl s e

-- commands and restarts by their lines
pub lines_differ : (one another : ℕ) → one < 2 ^ 64 → another < 2 ^ 64 → happening_id one ≡ happening_id another → one ≡ another
lines_differ one another first second e = decimal_injective one another first second (ap behind_dot e)
