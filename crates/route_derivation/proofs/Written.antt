-- What a route writes that leads along a way is what the way requires.
use Rattle.std.proofs.Common.{◌≡◌, ◌∙◌, ◌↔◌, Bool, true, false, List, [], ◌∷◌, Option, Some, None, refl, sym, ap, subst, inl, inr, ⊎_elim}
use Rattle.std.specs.Prelude.{if◌then◌else◌}
use Rattle.std.specs.Bool.{Decides}
use Rattle.std.specs.List.{Contains, cons_option, filter_map}
use Rattle.std.proofs.lemmas.Bool.{false≢true}
use Rattle.control_table.specs.sci_telegram.declared.message.Side.{Side}
use Rattle.control_table.specs.layout.declared.ids.PointId.{PointId}
use Rattle.control_table.specs.layout.Entries.{RouteEntry, Site}
use Rattle.control_table.specs.Path.{Passage}
use Rattle.control_table.specs.Sides.{OnPath, Requires, NoneAtBothSides, WritesRequired}
use Rattle.route_derivation.specs.inside.WaySearch.{used, flank_at}
use Rattle.route_derivation.specs.inside.RouteParts.{on_path, off_path, points_of, flank_of}
use Rattle.route_derivation.proofs.Joints.{OneBeyond}
use Rattle.route_derivation.proofs.Members.{contains-none, contains-here, contains-there, contains-cases, none-some, some-injective, false-from}
use Rattle.route_derivation.proofs.Same.{differ-other, side-decides}
use Rattle.route_derivation.proofs.SideLaws.{used-uses, uses-used, flank-to, on_path-decides}
use Rattle.route_derivation.proofs.Grow.{flank-used, at_both}
use Rattle.route_derivation.specs.inside.WaySearch.{same_side}

-- ---- members of what a function gives of a list

pub given-from : {A B : Type 0} (f : A → Option B) (xs : List A) (y : B) → Contains (filter_map f xs) y → (x : A) × Contains xs x × (f x ≡ Some y)
given-from f [] y c = absurd (contains-none y c)
given-from {A} {B} f (x ∷ xs) y c = at (given-from f xs y) (f x) refl c where
  at : (Contains (filter_map f xs) y → (v : A) × Contains xs v × (f v ≡ Some y)) → (o : Option B) → f x ≡ o → Contains (cons_option o (filter_map f xs)) y → (v : A) × Contains (x ∷ xs) v × (f v ≡ Some y)
  at before None e c = let on = before c in (on.0, contains-there x on.0 xs on.1, on.2)
  at before (Some z) e c =
      ⊎_elim (λ same. (x, contains-here x xs, e ∙ ap Some same)) (λ later. let on = before later in (on.0, contains-there x on.0 xs on.1, on.2)) (contains-cases z y (filter_map f xs) c)

front-given : {A B : Type 0} (f : A → Option B) (x : A) (xs : List A) (y : B) → f x ≡ Some y → Contains (filter_map f (x ∷ xs)) y
front-given {A} {B} f x xs y e =
    let C : Option B → Type 0 = λ o. Contains (cons_option o (filter_map f xs)) y in
    subst C (sym e) (contains-here y (filter_map f xs))

later-given : {A B : Type 0} (f : A → Option B) (x : A) (xs : List A) (y : B) → Contains (filter_map f xs) y → Contains (filter_map f (x ∷ xs)) y
later-given {A} {B} f x xs y c =
    elim (f x) as (λ o. Contains (cons_option o (filter_map f xs)) y) [ None ↦ c | Some z ↦ contains-there z y (filter_map f xs) c ]

pub given-to : {A B : Type 0} (f : A → Option B) (xs : List A) (x : A) (y : B) → Contains xs x → f x ≡ Some y → Contains (filter_map f xs) y
given-to f [] x y c e = absurd (contains-none x c)
given-to {A} {B} f (w ∷ xs) x y c e =
    ⊎_elim (λ same. front-given f w xs y (ap f same ∙ e)) (λ later. later-given f w xs y (given-to f xs x y later e)) (contains-cases w x xs c)

-- ---- points

point-on : (l : Site) (path : List Passage) → NoneAtBothSides l path → (p : PointId) (s : Side) → Requires l path p s → OnPath path p → Contains (points_of path) (p, s)
unfolding points_of
point-on l path none p s needed on =
    let t = on.1 in
    let own : Requires l path p t = (on.0, on.2, inl on.3) in
    let C : Side → Type 0 = λ x. Contains (filter_map (λ g. used g) path) (p, x) in
    let here : C t = given-to (λ g. used g) path on.0 (p, t) on.2 (uses-used on.0 p t on.3) in
    let R : Side → Type 0 = λ x. Requires l path p x in
    at (same_side t s) (side-decides t s) here own where
      at : (b : Bool) → Decides b (on.1 ≡ s) → Contains (filter_map (λ g. used g) path) (p, on.1) → Requires l path p on.1 → Contains (filter_map (λ g. used g) path) (p, s)
      at true d here own = let C : Side → Type 0 = λ x. Contains (filter_map (λ g. used g) path) (p, x) in subst C (d.0 refl) here
      at false d here own =
          let differ : on.1 ≡ s → ⊥ = λ e. false≢true (d.1 e) in
          let R : Side → Type 0 = λ x. Requires l path p x in
          absurd (at_both l path none p on.1 own (subst R (differ-other on.1 s differ) needed))

point-from : (l : Site) (path : List Passage) (p : PointId) (s : Side) → Contains (points_of path) (p, s) → Requires l path p s × OnPath path p
unfolding points_of
point-from l path p s c =
    let on = given-from (λ g. used g) path (p, s) c in
    let u = used-uses on.0 (p, s) on.2 in
    ((on.0, on.1, inl u), (on.0, s, on.1, u))

-- ---- flank points

off-from : (path : List Passage) (o : Option (PointId × Side)) (n : PointId × Side) → off_path path o ≡ Some n → (o ≡ Some n) × (OnPath path n.0 → ⊥)
off-from path None n e = absurd (none-some n e)
off-from path (Some m) n e = at (on_path path m.0) refl e where
  at : (b : Bool) → on_path path m.0 ≡ b → (if b then None else Some m) ≡ Some n → (Some m ≡ Some n) × (OnPath path n.0 → ⊥)
  at true is e = absurd (none-some n e)
  at false is e =
      let same = some-injective m n e in
      (e, λ on. let O : PointId × Side → Type 0 = λ x. OnPath path x.0 in false≢true (sym is ∙ (on_path-decides path m.0).1 (subst O (sym same) on)))

off-to : (path : List Passage) (n : PointId × Side) → (OnPath path n.0 → ⊥) → off_path path (Some n) ≡ Some n
off-to path n off = ap (λ b. if b then None else Some n) (false-from (on_path path n.0) (λ h. off ((on_path-decides path n.0).0 h)))

flank-from-path : (l : Site) (path : List Passage) (p : PointId) (s : Side) → Contains (flank_of l path) (p, s) → Requires l path p s × (OnPath path p → ⊥)
unfolding flank_of
flank-from-path l path p s c =
    let on = given-from (λ g. off_path path (flank_at l (used g))) path (p, s) c in
    let is = off-from path (flank_at l (used on.0)) (p, s) on.2 in
    ((on.0, on.1, inr (flank-used l on.0 (p, s) (used on.0) refl is.0)), is.1)

flank-to-path : (l : Site) (one : OneBeyond l) (path : List Passage) (p : PointId) (s : Side) → Requires l path p s → (OnPath path p → ⊥) → Contains (flank_of l path) (p, s)
unfolding flank_of
flank-to-path l one path p s needed off =
    let g = needed.0 in
    ⊎_elim (λ own. absurd (off (g, s, needed.1, own)))
    (λ f. given-to (λ g. off_path path (flank_at l (used g))) path g (p, s) needed.1
    (ap (λ u. off_path path (flank_at l u)) (uses-used g f.0 f.1 f.2) ∙ ap (off_path path) (flank-to l one f.0 f.1 p s f.3) ∙ off-to path (p, s) off)) needed.2

-- ---- together

pub writes-required : (l : Site) (one : OneBeyond l) (r : RouteEntry) (path : List Passage) → NoneAtBothSides l path → r.points ≡ points_of path → r.flank ≡ flank_of l path → WritesRequired l r path
writes-required l one r path none points flank =
    let P : List (PointId × Side) → Type 0 = λ ns. (p : PointId) (s : Side) → Contains ns (p, s) ↔ (Requires l path p s × OnPath path p) in
    let F : List (PointId × Side) → Type 0 = λ ns. (p : PointId) (s : Side) → Contains ns (p, s) ↔ (Requires l path p s × (OnPath path p → ⊥)) in
    record {
      points = subst P (sym points) (λ p s. (point-from l path p s, λ h. point-on l path none p s h.0 h.1));
      flank = subst F (sym flank) (λ p s. (flank-from-path l path p s, λ h. flank-to-path l one path p s h.0 h.1));
    }
