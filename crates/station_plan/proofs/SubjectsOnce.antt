-- Each subject of a layout is listed once, since no name is used twice and no port is joined twice.
use Rattle.std.proofs.Common.{◌≡◌, ◌≢◌, ◌⊎◌, ◌∙◌, ℕ, zero, suc, ◌<◌, Bool, true, false, if◌then◌else◌, List, [], ◌∷◌, ◌++◌, map, flat_map, Option, Some, None, slice_get, Contains, refl, sym, ap, subst, inl, inr, ⊎_elim, arith, option_map}
use Rattle.std.proofs.lemmas.List.{get_or_default}
use Rattle.std.proofs.lemmas.List.Kept.{AllPairs-cons}
use Rattle.std.proofs.lemmas.List.Elements.{Contains-append_left, Contains-append_right, Contains-append_cases}
use Rattle.std.proofs.lemmas.Option.{slice_get-map}
use Rattle.control_table.specs.Topology.{section_of}
use Rattle.control_table.specs.layout.Entries.{Site}
use Rattle.control_table.specs.layout.Once.{Distinct, Once, all_names, joined_ports}
use Rattle.control_table.specs.layout.declared.port.Element.{Element}
use Rattle.control_table.specs.layout.declared.port.Element.TheVariants as element
use Rattle.control_table.specs.layout.declared.port.Port.{Port}
use Rattle.control_table.specs.layout.declared.entries.Joint.{Joint}
use Rattle.control_table.specs.layout.declared.entries.Point.{Point}
use Rattle.control_table.specs.layout.declared.entries.Track.{Track}
use Rattle.layout_text.specs.declared.entries.End.{End}
use Rattle.layout_text.specs.declared.entries.End.TheVariants as end
use Rattle.station_plan.specs.declared.thing.Subject.{Subject}
use Rattle.station_plan.specs.declared.thing.Subject.TheVariants as subject
use Rattle.station_plan.specs.Subjects.{border_subject, detector_subject, element_name, joint_subjects, named_joint, own_name, point_subjects, same_section, section_subject, signal_subject, subjects, track_subject}

-- ---- distinct members

member-first : {A : Type 0} (x y : A) (xs : List A) → Distinct (x ∷ xs) → Contains xs y → x ≢ y
member-first x y xs d c e = d 0 (suc c.0) y (omega arith) (let lt = c.1 in omega (arith, lt)) (e ∙ sym c.2)

member-rest : {A : Type 0} (x : A) (xs : List A) → Distinct (x ∷ xs) → Distinct xs
member-rest x xs d i j y lt within = d (suc i) (suc j) y (omega (arith, lt)) (omega (arith, within))

member-cons : {A : Type 0} (x : A) (xs : List A) → (Contains xs x → ⊥) → Distinct xs → Distinct (x ∷ xs)
member-cons x xs absent rest = AllPairs-cons (λ a b. a ≢ b) x xs (λ k d lt e. absent (k, lt, get_or_default xs k x d lt ∙ sym e)) rest

none-distinct : {A : Type 0} → Distinct {A = A} []
none-distinct = λ i j x lt within. absurd (omega (arith, within))

contains-none : {A : Type 0} (x : A) → Contains [] x → ⊥
contains-none x (k, lt, at) = absurd (omega (arith, lt))

contains-here : {A : Type 0} (x : A) (xs : List A) → Contains (x ∷ xs) x
contains-here x xs = (0, omega arith, refl)

contains-there : {A : Type 0} (x y : A) (xs : List A) → Contains xs y → Contains (x ∷ xs) y
contains-there x y xs (k, lt, at) = (suc k, omega (arith, lt), at)

contains-cases : {A : Type 0} (x y : A) (xs : List A) → Contains (x ∷ xs) y → (x ≡ y) ⊎ Contains xs y
contains-cases x y xs (zero, lt, at) = inl at
contains-cases x y xs (suc k, lt, at) = inr (k, omega (arith, lt), at)

-- nothing is a member of both
abbrev pub Apart : {A : Type 0} → List A → List A → Type 0
Apart {A} xs ys = (x : A) → Contains xs x → Contains ys x → ⊥

distinct-left : {A : Type 0} (xs ys : List A) → Distinct (xs ++ ys) → Distinct xs
distinct-left [] ys d = none-distinct
distinct-left (x ∷ xs) ys d =
    member-cons x xs (λ c. member-first x x (xs ++ ys) d (Contains-append_left xs ys x c) refl) (distinct-left xs ys (member-rest x (xs ++ ys) d))

distinct-right : {A : Type 0} (xs ys : List A) → Distinct (xs ++ ys) → Distinct ys
distinct-right [] ys d = d
distinct-right (x ∷ xs) ys d = distinct-right xs ys (member-rest x (xs ++ ys) d)

distinct-apart : {A : Type 0} (xs ys : List A) → Distinct (xs ++ ys) → Apart xs ys
distinct-apart [] ys d x here there = contains-none x here
distinct-apart (w ∷ xs) ys d x here there =
    ⊎_elim (λ e. member-first w x (xs ++ ys) d (Contains-append_right xs ys x there) e)
    (λ later. distinct-apart xs ys (member-rest w (xs ++ ys) d) x later there) (contains-cases w x xs here)

distinct-append : {A : Type 0} (xs ys : List A) → Distinct xs → Distinct ys → Apart xs ys → Distinct (xs ++ ys)
distinct-append [] ys dx dy apart = dy
distinct-append (x ∷ xs) ys dx dy apart =
    member-cons x (xs ++ ys)
    (λ c. ⊎_elim (λ here. member-first x x xs dx here refl) (λ there. apart x (contains-here x xs) there) (Contains-append_cases xs ys x c))
    (distinct-append xs ys (member-rest x xs dx) dy (λ y here there. apart y (contains-there x y xs here) there))

-- ---- members of lists that are made of others

contains-mapped : {A B : Type 0} (f : A → B) (xs : List A) (x : A) → Contains xs x → Contains (map f xs) (f x)
contains-mapped f [] x c = absurd (contains-none x c)
contains-mapped {A} {B} f (w ∷ xs) x c =
    let H : B → Type 0 = λ y. Contains (f w ∷ map f xs) y in
    ⊎_elim (λ e. subst H (ap f e) (contains-here (f w) (map f xs))) (λ later. contains-there (f w) (f x) (map f xs) (contains-mapped f xs x later)) (contains-cases w x xs c)

contains-map : {A B : Type 0} (f : A → B) (xs : List A) (y : B) → Contains (map f xs) y → (x : A) × Contains xs x × (f x ≡ y)
contains-map f [] y c = absurd (contains-none y c)
contains-map f (x ∷ xs) y c =
    ⊎_elim (λ e. (x, contains-here x xs, e))
    (λ later. let found = contains-map f xs y later in (found.0, contains-there x found.0 xs found.1, found.2)) (contains-cases (f x) y (map f xs) c)

contains-flat : {A B : Type 0} (f : A → List B) (xs : List A) (y : B) → Contains (flat_map f xs) y → (x : A) × Contains xs x × Contains (f x) y
contains-flat f [] y c = absurd (contains-none y c)
contains-flat f (x ∷ xs) y c =
    ⊎_elim (λ here. (x, contains-here x xs, here))
    (λ later. let found = contains-flat f xs y later in (found.0, contains-there x found.0 xs found.1, found.2)) (Contains-append_cases (f x) (flat_map f xs) y c)

-- what has distinct words is distinct
distinct-by : {A B : Type 0} (word : A → B) (xs : List A) → Distinct (map word xs) → Distinct xs
distinct-by word [] d = none-distinct
distinct-by word (x ∷ xs) d =
    member-cons x xs (λ c. member-first (word x) (word x) (map word xs) d (contains-mapped word xs x c) refl)
    (distinct-by word xs (member-rest (word x) (map word xs) d))

-- subjects of entries go by their names
distinct-named : {A : Type 0} (f : A → Subject) (g : A → List ℕ) → ((x : A) → own_name (f x) ≡ g x) → (xs : List A) → Distinct (map g xs) → Distinct (map f xs)
distinct-named f g own [] d = none-distinct
distinct-named f g own (x ∷ xs) d =
    member-cons (f x) (map f xs)
    (λ c. let found = contains-map f xs (f x) c in
    member-first (g x) (g found.0) (map g xs) d (contains-mapped g xs found.0 found.1) (sym (own x) ∙ (ap own_name (sym found.2) ∙ own found.0)))
    (distinct-named f g own xs (member-rest (g x) (map g xs) d))

distinct-names : (f : List ℕ → Subject) → ((n : List ℕ) → own_name (f n) ≡ n) → (names : List (List ℕ)) → Distinct names → Distinct (map f names)
distinct-names f own [] d = none-distinct
distinct-names f own (n ∷ names) d =
    member-cons (f n) (map f names)
    (λ c. let found = contains-map f names (f n) c in member-first n found.0 names d found.1 (sym (own n) ∙ (ap own_name (sym found.2) ∙ own found.0)))
    (distinct-names f own names (member-rest n names d))

-- ---- points

four_names : (n : List ℕ) (s : Subject) → Contains (subject.Point n ∷ subject.Tip n ∷ subject.Left n ∷ subject.Right n ∷ []) s → own_name s ≡ n
four_names n s c =
    ⊎_elim (λ e. ap own_name (sym e))
    (λ c. ⊎_elim (λ e. ap own_name (sym e))
    (λ c. ⊎_elim (λ e. ap own_name (sym e))
    (λ c. ⊎_elim (λ e. ap own_name (sym e)) (λ c. absurd (contains-none s c)) (contains-cases (subject.Right n) s [] c))
    (contains-cases (subject.Left n) s (subject.Right n ∷ []) c))
    (contains-cases (subject.Tip n) s (subject.Left n ∷ subject.Right n ∷ []) c))
    (contains-cases (subject.Point n) s (subject.Tip n ∷ subject.Left n ∷ subject.Right n ∷ []) c)

-- the table to which a subject belongs, and which of its point's subjects it is
abbrev table : Subject → ℕ
table (subject.Section name) = 0
table (subject.Track name) = 1
table (subject.Point name) = 2
table (subject.Tip name) = 2
table (subject.Left name) = 2
table (subject.Right name) = 2
table (subject.Border name) = 3
table (subject.Joint name e) = 4
table (subject.Signal name) = 5
table (subject.Detector name) = 6

abbrev part : Subject → ℕ
part (subject.Section name) = 0
part (subject.Track name) = 0
part (subject.Point name) = 1
part (subject.Tip name) = 2
part (subject.Left name) = 3
part (subject.Right name) = 4
part (subject.Border name) = 0
part (subject.Joint name e) = 0
part (subject.Signal name) = 0
part (subject.Detector name) = 0

four-distinct : (n : List ℕ) → Distinct (subject.Point n ∷ subject.Tip n ∷ subject.Left n ∷ subject.Right n ∷ [])
four-distinct n =
    distinct-by part (subject.Point n ∷ subject.Tip n ∷ subject.Left n ∷ subject.Right n ∷ [])
    (member-cons 1 (2 ∷ 3 ∷ 4 ∷ []) (λ c. ⊎_elim (λ e. absurd (omega (arith, e)))
    (λ c. ⊎_elim (λ e. absurd (omega (arith, e))) (λ c. ⊎_elim (λ e. absurd (omega (arith, e))) (contains-none 1) (contains-cases 4 1 [] c)) (contains-cases 3 1 (4 ∷ []) c)) (contains-cases 2 1 (3 ∷ 4 ∷ []) c))
    (member-cons 2 (3 ∷ 4 ∷ []) (λ c. ⊎_elim (λ e. absurd (omega (arith, e))) (λ c. ⊎_elim (λ e. absurd (omega (arith, e))) (contains-none 2) (contains-cases 4 2 [] c)) (contains-cases 3 2 (4 ∷ []) c))
    (member-cons 3 (4 ∷ []) (λ c. ⊎_elim (λ e. absurd (omega (arith, e))) (contains-none 3) (contains-cases 4 3 [] c))
    (member-cons 4 [] (contains-none 4) none-distinct))))

points-distinct : (points : List Point) → Distinct (map (λ p. p.name) points) → Distinct (flat_map point_subjects points)
points-distinct [] d = none-distinct
points-distinct (p ∷ points) d =
    distinct-append (point_subjects p) (flat_map point_subjects points) (four-distinct p.name)
    (points-distinct points (member-rest p.name (map (λ q. q.name) points) d))
    (λ s here there. let found = contains-flat point_subjects points s there in
    member-first p.name found.0.name (map (λ q. q.name) points) d (contains-mapped (λ (q : Point). q.name) points found.0 found.1)
    (sym (four_names p.name s here) ∙ four_names found.0.name s found.2))

-- ---- joints

some-same : {A : Type 0} (x y : A) → Some x ≡ Some y → x ≡ y
some-same {A} x y e = let unwrap : Option A → A = λ o. elim o [ None ↦ x | Some z ↦ z ] in ap unwrap e

get-contains : {A : Type 0} (xs : List A) (i : ℕ) (x : A) → slice_get xs i ≡ Some x → Contains xs x
get-contains [] i x e = absurd (cc)
get-contains {A} (w ∷ xs) zero x e = let H : A → Type 0 = λ v. Contains (w ∷ xs) v in subst H (some-same w x e) (contains-here w xs)
get-contains (w ∷ xs) (suc i) x e = contains-there w x xs (get-contains xs i x e)

one-place : {A : Type 0} (xs : List A) (i j : ℕ) (x : A) → Distinct xs → slice_get xs i ≡ Some x → slice_get xs j ≡ Some x → i ≡ j
one-place [] i j x d e f = absurd (cc)
one-place (w ∷ xs) zero zero x d e f = refl
one-place (w ∷ xs) zero (suc j) x d e f = absurd (member-first w x xs d (get-contains xs j x f) (some-same w x e))
one-place (w ∷ xs) (suc i) zero x d e f = absurd (member-first w x xs d (get-contains xs i x e) (some-same w x f))
one-place (w ∷ xs) (suc i) (suc j) x d e f = ap suc (one-place xs i j x (member-rest w xs d) e f)

-- the names of elements, which are of one set
record ElementNames (l : Site) : Type 0 where
  pub tracks : Distinct (map (λ t. t.name) l.tracks)
  pub points : Distinct (map (λ p. p.name) l.points)
  pub borders : Distinct l.borders
  pub tracks_points : Apart (map (λ t. t.name) l.tracks) (map (λ p. p.name) l.points)
  pub tracks_borders : Apart (map (λ t. t.name) l.tracks) l.borders
  pub points_borders : Apart (map (λ p. p.name) l.points) l.borders

module _ (l : Site) where
  track-there : (k : ℕ) (n : List ℕ) → option_map (λ t. t.name) (slice_get l.tracks k) ≡ Some n → slice_get (map (λ t. t.name) l.tracks) k ≡ Some n
  track-there k n e = slice_get-map (λ t. t.name) l.tracks k ∙ e

  point-there : (k : ℕ) (n : List ℕ) → option_map (λ p. p.name) (slice_get l.points k) ≡ Some n → slice_get (map (λ p. p.name) l.points) k ≡ Some n
  point-there k n e = slice_get-map (λ p. p.name) l.points k ∙ e

  in-tracks : (k : ℕ) (n : List ℕ) → option_map (λ t. t.name) (slice_get l.tracks k) ≡ Some n → Contains (map (λ t. t.name) l.tracks) n
  in-tracks k n e = get-contains (map (λ (t : Track). t.name) l.tracks) k n (track-there k n e)

  in-points : (k : ℕ) (n : List ℕ) → option_map (λ p. p.name) (slice_get l.points k) ≡ Some n → Contains (map (λ p. p.name) l.points) n
  in-points k n e = get-contains (map (λ (p : Point). p.name) l.points) k n (point-there k n e)

  in-borders : (k : ℕ) (n : List ℕ) → slice_get l.borders k ≡ Some n → Contains l.borders n
  in-borders k n e = get-contains l.borders k n e

  one-element : ElementNames l → (a b : Element) (n : List ℕ) → element_name l a ≡ Some n → element_name l b ≡ Some n → a ≡ b
  one-element h (element.Track s) (element.Track t) n e f =
      ap (λ place. element.Track (record { 0 = place })) (one-place (map (λ (x : Track). x.name) l.tracks) s.0 t.0 n h.tracks (track-there s.0 n e) (track-there t.0 n f))
  one-element h (element.Point p) (element.Point q) n e f =
      ap (λ place. element.Point (record { 0 = place })) (one-place (map (λ (x : Point). x.name) l.points) p.0 q.0 n h.points (point-there p.0 n e) (point-there q.0 n f))
  one-element h (element.Border b) (element.Border c) n e f = ap (λ place. element.Border (record { 0 = place })) (one-place l.borders b.0 c.0 n h.borders e f)
  one-element h (element.Track t) (element.Point p) n e f = absurd (h.tracks_points n (in-tracks t.0 n e) (in-points p.0 n f))
  one-element h (element.Track t) (element.Border b) n e f = absurd (h.tracks_borders n (in-tracks t.0 n e) (in-borders b.0 n f))
  one-element h (element.Point p) (element.Track t) n e f = absurd (h.tracks_points n (in-tracks t.0 n f) (in-points p.0 n e))
  one-element h (element.Point p) (element.Border b) n e f = absurd (h.points_borders n (in-points p.0 n e) (in-borders b.0 n f))
  one-element h (element.Border b) (element.Track t) n e f = absurd (h.tracks_borders n (in-tracks t.0 n f) (in-borders b.0 n e))
  one-element h (element.Border b) (element.Point p) n e f = absurd (h.points_borders n (in-points p.0 n f) (in-borders b.0 n e))

  -- what a joint's subject tells of its port
  named-port : (name : Option (List ℕ)) (e : End) (s : Subject) → Contains (named_joint name e) s → (name ≡ Some (own_name s)) × (s ≡ subject.Joint (own_name s) e)
  named-port None e s c = absurd (contains-none s c)
  named-port (Some name) e s c =
      ⊎_elim (λ same. (ap (λ t. Some (own_name t)) same, sym same ∙ ap (λ t. subject.Joint (own_name t) e) same))
      (λ c. absurd (contains-none s c)) (contains-cases (subject.Joint name e) s [] c)

  drawn-port : (b : Bool) (name : Option (List ℕ)) (e : End) (s : Subject)
      → Contains (if b then [] else named_joint name e) s → (name ≡ Some (own_name s)) × (s ≡ subject.Joint (own_name s) e)
  drawn-port true name e s c = absurd (contains-none s c)
  drawn-port false name e s c = named-port name e s c

  joint-port : (j : Joint) (s : Subject) → Contains (joint_subjects l j) s → (element_name l j.first.element ≡ Some (own_name s)) × (s ≡ subject.Joint (own_name s) j.first.end)
  joint-port j s c = drawn-port (same_section (section_of l j.first.element) (section_of l j.second.element)) (element_name l j.first.element) j.first.end s c

  named-distinct : (name : Option (List ℕ)) (e : End) → Distinct (named_joint name e)
  named-distinct None e = none-distinct
  named-distinct (Some name) e = member-cons (subject.Joint name e) [] (contains-none (subject.Joint name e)) none-distinct

  drawn-distinct : (b : Bool) (name : Option (List ℕ)) (e : End) → Distinct (if b then [] else named_joint name e)
  drawn-distinct true name e = none-distinct
  drawn-distinct false name e = named-distinct name e

  first-joined : (js : List Joint) (j : Joint) → Contains js j → Contains (joined_ports js) j.first
  first-joined [] j c = absurd (contains-none j c)
  first-joined (w ∷ js) j c =
      ⊎_elim (λ e. subst (λ (port : Port). Contains (w.first ∷ w.second ∷ joined_ports js) port) (ap (λ (x : Joint). x.first) e) (contains-here w.first (w.second ∷ joined_ports js)))
      (λ later. contains-there w.first j.first (w.second ∷ joined_ports js) (contains-there w.second j.first (joined_ports js) (first-joined js j later))) (contains-cases w j js c)

  abbrev joint_end : Subject → End
  joint_end (subject.Section name) = end.A
  joint_end (subject.Track name) = end.A
  joint_end (subject.Point name) = end.A
  joint_end (subject.Tip name) = end.A
  joint_end (subject.Left name) = end.A
  joint_end (subject.Right name) = end.A
  joint_end (subject.Border name) = end.A
  joint_end (subject.Joint name e) = e
  joint_end (subject.Signal name) = end.A
  joint_end (subject.Detector name) = end.A

  same_port : (a b : Port) → a.element ≡ b.element → a.end ≡ b.end → a ≡ b
  same_port a b e f =
      let port : Element → End → Port = λ x y. record { element = x; end = y } in
      ap (λ x. port x a.end) e ∙ ap (λ y. port b.element y) f

  joints-distinct : ElementNames l → (js : List Joint) → Distinct (joined_ports js) → Distinct (flat_map (joint_subjects l) js)
  joints-distinct h [] d = none-distinct
  joints-distinct h (j ∷ js) d =
      let behind : Distinct (joined_ports js) = member-rest j.second (joined_ports js) (member-rest j.first (j.second ∷ joined_ports js) d) in
      let one : Distinct (joint_subjects l j) =
      drawn-distinct (same_section (section_of l j.first.element) (section_of l j.second.element)) (element_name l j.first.element) j.first.end in
      distinct-append (joint_subjects l j) (flat_map (joint_subjects l) js) one (joints-distinct h js behind)
      (λ s here there. let found = contains-flat (joint_subjects l) js s there in
      let mine = joint-port j s here in
      let other = joint-port found.0 s found.2 in
      let elements = one-element h j.first.element found.0.first.element (own_name s) mine.0 other.0 in
      let ends : j.first.end ≡ found.0.first.end = ap joint_end (sym mine.1 ∙ other.1) in
      member-first j.first found.0.first (j.second ∷ joined_ports js) d
      (contains-there j.second found.0.first (joined_ports js) (first-joined js found.0 found.1)) (same_port j.first found.0.first elements ends))

-- ---- tables

-- all stand in tables after this one
abbrev Behind : ℕ → List Subject → Type 0
Behind k xs = (s : Subject) → Contains xs s → k < table s

-- all stand in this table
abbrev Within : ℕ → List Subject → Type 0
Within k xs = (s : Subject) → Contains xs s → table s ≡ k

within-map : {A : Type 0} (f : A → Subject) (k : ℕ) → ((x : A) → table (f x) ≡ k) → (xs : List A) → Within k (map f xs)
within-map f k h xs s c = let found = contains-map f xs s c in ap table (sym found.2) ∙ h found.0

within-behind : (k m : ℕ) (xs : List Subject) → k < m → Within m xs → Behind k xs
within-behind k m xs lt h s c = let e = h s c in omega (arith, lt, e)

behind-more : (k m : ℕ) (xs ys : List Subject) → k < m → Within m xs → Behind m ys → Behind k (xs ++ ys)
behind-more k m xs ys lt h b s c =
    ⊎_elim (λ here. within-behind k m xs lt h s here) (λ there. let far = b s there in omega (arith, lt, far)) (Contains-append_cases xs ys s c)

within-apart : (k : ℕ) (xs ys : List Subject) → Within k xs → Behind k ys → Apart xs ys
within-apart k xs ys h b s here there = let e = h s here in let lt = b s there in absurd (omega (arith, e, lt))

points-within : (points : List Point) → Within 2 (flat_map point_subjects points)
points-within points s c =
    let found = contains-flat point_subjects points s c in
    four-within found.0.name s found.2
  where
    four-within : (n : List ℕ) (s : Subject) → Contains (subject.Point n ∷ subject.Tip n ∷ subject.Left n ∷ subject.Right n ∷ []) s → table s ≡ 2
    four-within n s c =
        ⊎_elim (λ e. ap table (sym e))
        (λ c. ⊎_elim (λ e. ap table (sym e))
        (λ c. ⊎_elim (λ e. ap table (sym e))
        (λ c. ⊎_elim (λ e. ap table (sym e)) (λ c. absurd (contains-none s c)) (contains-cases (subject.Right n) s [] c))
        (contains-cases (subject.Left n) s (subject.Right n ∷ []) c))
        (contains-cases (subject.Tip n) s (subject.Left n ∷ subject.Right n ∷ []) c))
        (contains-cases (subject.Point n) s (subject.Tip n ∷ subject.Left n ∷ subject.Right n ∷ []) c)

joints-within : (l : Site) (js : List Joint) → Within 4 (flat_map (joint_subjects l) js)
joints-within l js s c =
    let found = contains-flat (joint_subjects l) js s c in
    ap table (joint-port l found.0 s found.2).1

-- ---- all

parted : (station : List ℕ) (sections tracks points borders signals detectors routes : List (List ℕ))
    → Distinct (station ∷ (sections ++ (tracks ++ (points ++ (borders ++ (signals ++ (detectors ++ routes)))))))
    → Distinct sections × Distinct tracks × Distinct points × Distinct borders × Distinct signals × Distinct detectors
    × Apart tracks points × Apart tracks borders × Apart points borders
parted station sections tracks points borders signals detectors routes d =
    let from_detectors = detectors ++ routes in
    let from_signals = signals ++ from_detectors in
    let from_borders = borders ++ from_signals in
    let from_points = points ++ from_borders in
    let from_tracks = tracks ++ from_points in
    let d_sections = member-rest station (sections ++ from_tracks) d in
    let d_tracks = distinct-right sections from_tracks d_sections in
    let d_points = distinct-right tracks from_points d_tracks in
    let d_borders = distinct-right points from_borders d_points in
    let d_signals = distinct-right borders from_signals d_borders in
    let d_detectors = distinct-right signals from_detectors d_signals in (
      distinct-left sections from_tracks d_sections,
      distinct-left tracks from_points d_tracks,
      distinct-left points from_borders d_points,
      distinct-left borders from_signals d_borders,
      distinct-left signals from_detectors d_signals,
      distinct-left detectors routes d_detectors,
      (λ n here there. distinct-apart tracks from_points d_tracks n here (Contains-append_left points from_borders n there)),
      (λ n here there. distinct-apart tracks from_points d_tracks n here (Contains-append_right points from_borders n (Contains-append_left borders from_signals n there))),
      (λ n here there. distinct-apart points from_borders d_points n here (Contains-append_left borders from_signals n there)),
    )

pub once : (l : Site) → Once l → Distinct (subjects l)
unfolding all_names
once l h =
    let names = parted l.station.name l.sections (map (λ t. t.name) l.tracks) (map (λ p. p.name) l.points) l.borders
    (map (λ s. s.name) l.signals) (map (λ d. d.name) l.detectors) (map (λ r. r.name) l.routes) h.names in
    let elements : ElementNames l = record {
      tracks = names.1;
      points = names.2;
      borders = names.3;
      tracks_points = names.6;
      tracks_borders = names.7;
      points_borders = names.8;
    } in
    let sections = map section_subject l.sections in
    let tracks = map track_subject l.tracks in
    let points = flat_map point_subjects l.points in
    let borders = map border_subject l.borders in
    let joints = flat_map (joint_subjects l) l.joints in
    let signals = map signal_subject l.signals in
    let detectors = map detector_subject l.detectors in
    let in_detectors = within-map detector_subject 6 (λ d. refl) l.detectors in
    let in_signals = within-map signal_subject 5 (λ s. refl) l.signals in
    let in_joints = joints-within l l.joints in
    let in_borders = within-map border_subject 3 (λ b. refl) l.borders in
    let in_points = points-within l.points in
    let in_tracks = within-map track_subject 1 (λ t. refl) l.tracks in
    let in_sections = within-map section_subject 0 (λ s. refl) l.sections in
    let far5 = within-behind 5 6 detectors (omega arith) in_detectors in
    let far4 = behind-more 4 5 signals detectors (omega arith) in_signals far5 in
    let far3 = behind-more 3 4 joints (signals ++ detectors) (omega arith) in_joints far4 in
    let far2 = behind-more 2 3 borders (joints ++ (signals ++ detectors)) (omega arith) in_borders far3 in
    let far1 = behind-more 1 2 points (borders ++ (joints ++ (signals ++ detectors))) (omega arith) in_points far2 in
    let far0 = behind-more 0 1 tracks (points ++ (borders ++ (joints ++ (signals ++ detectors)))) (omega arith) in_tracks far1 in
    let own_detectors = distinct-named detector_subject (λ d. d.name) (λ d. refl) l.detectors names.5 in
    let own_signals = distinct-named signal_subject (λ s. s.name) (λ s. refl) l.signals names.4 in
    let own_joints = joints-distinct l elements l.joints h.joined in
    let own_borders = distinct-names border_subject (λ n. refl) l.borders names.3 in
    let own_points = points-distinct l.points names.2 in
    let own_tracks = distinct-named track_subject (λ t. t.name) (λ t. refl) l.tracks names.1 in
    let own_sections = distinct-names section_subject (λ n. refl) l.sections names.0 in
    let d5 = distinct-append signals detectors own_signals own_detectors (within-apart 5 signals detectors in_signals far5) in
    let d4 = distinct-append joints (signals ++ detectors) own_joints d5 (within-apart 4 joints (signals ++ detectors) in_joints far4) in
    let d3 = distinct-append borders (joints ++ (signals ++ detectors)) own_borders d4 (within-apart 3 borders (joints ++ (signals ++ detectors)) in_borders far3) in
    let d2 = distinct-append points (borders ++ (joints ++ (signals ++ detectors))) own_points d3 (within-apart 2 points (borders ++ (joints ++ (signals ++ detectors))) in_points far2) in
    let d1 = distinct-append tracks (points ++ (borders ++ (joints ++ (signals ++ detectors)))) own_tracks d2
    (within-apart 1 tracks (points ++ (borders ++ (joints ++ (signals ++ detectors)))) in_tracks far1) in
    distinct-append sections (tracks ++ (points ++ (borders ++ (joints ++ (signals ++ detectors))))) own_sections d1
    (within-apart 0 sections (tracks ++ (points ++ (borders ++ (joints ++ (signals ++ detectors))))) in_sections far0)
