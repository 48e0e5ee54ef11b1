-- The list of all that is closed.
use Rattle.std.proofs.Common.{◌≡◌, ◌∙◌, ◌⊎◌, ◌↔◌, ℕ, zero, suc, ◌+◌, ◌<◌, Bool, true, false, cond, List, [], ◌∷◌, ◌++◌, append_assoc, length, filter, map, Contains, refl, sym, ap, subst, inl, inr, ⊎_elim, arith}
use Rattle.std.specs.List.{range_with_len}
use Rattle.std.proofs.lemmas.List.FromFn.{filter_of_map_range_with_len_more}
use Rattle.std.proofs.lemmas.List.Elements.{Contains-append_left, Contains-append_right, Contains-append_cases}
use Rattle.control_table.specs.sci_telegram.declared.message.Side.TheVariants as side
use Rattle.control_table.specs.layout.Entries.{Site}
use Rattle.closings.specs.declared.thing.Thing.{Thing}
use Rattle.closings.specs.declared.thing.Thing.TheVariants.{Section, Point, Signal, Route}
use Rattle.closings.specs.declared.thing.Kind.{Kind}
use Rattle.closings.specs.declared.thing.Kind.TheVariants as kind
use Rattle.closings.specs.declared.closed.Closings.{Closings}
use Rattle.closings.specs.Things.{HasThing, all_things, first_things, thing_at}
use Rattle.closings.specs.Closed.{IsClosed, closed_things, is_closed}
use Rattle.closings.proofs.Places.{contains-there}

contains-cases : {A : Type 0} (x y : A) (xs : List A) → Contains (x ∷ xs) y → (x ≡ y) ⊎ Contains xs y
contains-cases x y xs (zero, lt, at) = inl at
contains-cases x y xs (suc k, lt, at) = inr (k, omega (arith, lt), at)

filter-append : {A : Type 0} (p : A → Bool) (xs ys : List A) → filter p (xs ++ ys) ≡ filter p xs ++ filter p ys
filter-append p [] ys = refl
filter-append p (x ∷ xs) ys = by (p x) (filter-append p xs ys)
  where
    by : (v : Bool) → filter p (xs ++ ys) ≡ filter p xs ++ filter p ys → cond v (x ∷ filter p (xs ++ ys)) (filter p (xs ++ ys)) ≡ cond v (x ∷ filter p xs) (filter p xs) ++ filter p ys
    by true e = ap (λ zs. x ∷ zs) e
    by false e = e

-- a filter keeps the members that pass
filter-from : {A : Type 0} (p : A → Bool) (xs : List A) (y : A) → Contains (filter p xs) y → Contains xs y × (p y ≡ true)
filter-from p [] y c = absurd (let lt = c.1 in omega (arith, lt))
filter-from {A} p (x ∷ xs) y c = by (p x) refl (filter-from p xs y) c
  where
    by : (v : Bool) → p x ≡ v → (Contains (filter p xs) y → Contains xs y × (p y ≡ true)) → Contains (cond v (x ∷ filter p xs) (filter p xs)) y → Contains (x ∷ xs) y × (p y ≡ true)
    by true e more h =
        ⊎_elim (λ here. let P : A → Type 0 = λ z. Contains (x ∷ xs) z × (p z ≡ true) in subst P here ((0, omega arith, refl), e))
        (λ later. let m = more later in (contains-there x y xs m.0, m.1)) (contains-cases x y (filter p xs) h)
    by false e more h = let m = more h in (contains-there x y xs m.0, m.1)

filter-to : {A : Type 0} (p : A → Bool) (xs : List A) (y : A) → Contains xs y → p y ≡ true → Contains (filter p xs) y
filter-to p [] y c e = absurd (let lt = c.1 in omega (arith, lt))
filter-to {A} p (x ∷ xs) y c e = ⊎_elim (λ here. at_first here) (λ later. behind (p x) (filter-to p xs y later e)) (contains-cases x y xs c)
  where
    behind : (v : Bool) → Contains (filter p xs) y → Contains (cond v (x ∷ filter p xs) (filter p xs)) y
    behind true h = contains-there x y (filter p xs) h
    behind false h = h

    at_first : x ≡ y → Contains (filter p (x ∷ xs)) y
    at_first here =
        let passes : p x ≡ true = ap p here ∙ e in
        let P : Bool → Type 0 = λ v. Contains (cond v (x ∷ filter p xs) (filter p xs)) y in
        subst P (sym passes) (0, omega arith, here)

-- ---- the first things of a kind

-- one more of a kind
pub listed_more : (p : Thing → Bool) (k : Kind) (n : ℕ) → filter p (first_things k (n + 1)) ≡ filter p (first_things k n) ++ filter p (thing_at k n ∷ [])
listed_more p k n = filter_of_map_range_with_len_more p (thing_at k) 0 n n (omega arith)

range-from : (f : ℕ → Thing) (a n : ℕ) (t : Thing) → Contains (map f (range_with_len a n)) t → (k : ℕ) × (k < n) × (f (a + k) ≡ t)
range-from f a zero t c = absurd (let lt = c.1 in omega (arith, lt))
range-from f a (suc n) t c =
    ⊎_elim (λ here. (0, omega arith, ap f (omega arith) ∙ here))
    (λ later. let h = range-from f (a + 1) n t later in let lt = h.1 in (suc h.0, omega (arith, lt), ap f (omega arith) ∙ h.2)) (contains-cases (f a) t (map f (range_with_len (a + 1) n)) c)

range-to : (f : ℕ → Thing) (a n k : ℕ) → k < n → Contains (map f (range_with_len a n)) (f (a + k))
range-to f a zero k lt = absurd (omega arith)
range-to f a (suc n) zero lt = let P : ℕ → Type 0 = λ j. Contains (map f (range_with_len a (suc n))) (f j) in subst P (omega arith) (0, omega arith, refl)
range-to f a (suc n) (suc k) lt =
    let P : ℕ → Type 0 = λ j. Contains (map f (range_with_len (a + 1) n)) (f j) in
    contains-there (f a) (f (a + suc k)) (map f (range_with_len (a + 1) n)) (subst P (omega arith) (range-to f (a + 1) n k (omega arith)))

first-to : (k : Kind) (n i : ℕ) → i < n → Contains (first_things k n) (thing_at k i)
first-to k n i lt = let P : ℕ → Type 0 = λ j. Contains (first_things k n) (thing_at k j) in subst P (omega arith) (range-to (thing_at k) 0 n i lt)

-- all things of a layout are there
abbrev pub in_first : Kind → ℕ → Thing → Type 0
in_first k n t = (i : ℕ) × (i < n) × (thing_at k i ≡ t)

first-from : (k : Kind) (n : ℕ) (t : Thing) → Contains (first_things k n) t → in_first k n t
first-from k n t c = let h = range-from (thing_at k) 0 n t c in (h.0, h.1, ap (thing_at k) (omega arith) ∙ h.2)

there-from : (l : Site) (t : Thing) → Contains (all_things l) t → HasThing l t
there-from l t c =
    let P : Thing → Type 0 = λ u. HasThing l u in
    let routes = first_things kind.Route (length l.routes) in
    let signals = first_things kind.Signal (length l.signals) in
    let right = first_things kind.PointRight (length l.points) in
    let left = first_things kind.PointLeft (length l.points) in
    let sections = first_things kind.Section (length l.sections) in
    ⊎_elim (λ h. let at = first-from kind.Section (length l.sections) t h in subst P at.2 at.1)
    (λ h. ⊎_elim (λ h. let at = first-from kind.PointLeft (length l.points) t h in subst P at.2 at.1)
    (λ h. ⊎_elim (λ h. let at = first-from kind.PointRight (length l.points) t h in subst P at.2 at.1)
    (λ h. ⊎_elim (λ h. let at = first-from kind.Signal (length l.signals) t h in subst P at.2 at.1)
    (λ h. let at = first-from kind.Route (length l.routes) t h in subst P at.2 at.1)
    (Contains-append_cases signals routes t h))
    (Contains-append_cases right (signals ++ routes) t h))
    (Contains-append_cases left (right ++ (signals ++ routes)) t h))
    (Contains-append_cases sections (left ++ (right ++ (signals ++ routes))) t c)

there-to : (l : Site) (t : Thing) → HasThing l t → Contains (all_things l) t
there-to l (Section s) h =
    let others = first_things kind.PointLeft (length l.points) ++ (first_things kind.PointRight (length l.points) ++ (first_things kind.Signal (length l.signals) ++ first_things kind.Route (length l.routes))) in
    Contains-append_left (first_things kind.Section (length l.sections)) others (Section s) (first-to kind.Section (length l.sections) s.0 h)
there-to l (Point p side.Left) h =
    let others = first_things kind.PointRight (length l.points) ++ (first_things kind.Signal (length l.signals) ++ first_things kind.Route (length l.routes)) in
    let left = first_things kind.PointLeft (length l.points) in
    let t = Point p side.Left in
    Contains-append_right (first_things kind.Section (length l.sections)) (left ++ others) t (Contains-append_left left others t (first-to kind.PointLeft (length l.points) p.0 h))
there-to l (Point p side.Right) h =
    let others = first_things kind.Signal (length l.signals) ++ first_things kind.Route (length l.routes) in
    let left = first_things kind.PointLeft (length l.points) in
    let right = first_things kind.PointRight (length l.points) in
    let t = Point p side.Right in
    Contains-append_right (first_things kind.Section (length l.sections)) (left ++ (right ++ others)) t
    (Contains-append_right left (right ++ others) t (Contains-append_left right others t (first-to kind.PointRight (length l.points) p.0 h)))
there-to l (Signal s) h =
    let routes = first_things kind.Route (length l.routes) in
    let signals = first_things kind.Signal (length l.signals) in
    let left = first_things kind.PointLeft (length l.points) in
    let right = first_things kind.PointRight (length l.points) in
    let t = Signal s in
    Contains-append_right (first_things kind.Section (length l.sections)) (left ++ (right ++ (signals ++ routes))) t
    (Contains-append_right left (right ++ (signals ++ routes)) t
    (Contains-append_right right (signals ++ routes) t (Contains-append_left signals routes t (first-to kind.Signal (length l.signals) s.0 h))))
there-to l (Route r) h =
    let routes = first_things kind.Route (length l.routes) in
    let signals = first_things kind.Signal (length l.signals) in
    let left = first_things kind.PointLeft (length l.points) in
    let right = first_things kind.PointRight (length l.points) in
    let t = Route r in
    Contains-append_right (first_things kind.Section (length l.sections)) (left ++ (right ++ (signals ++ routes))) t
    (Contains-append_right left (right ++ (signals ++ routes)) t
    (Contains-append_right right (signals ++ routes) t (Contains-append_right signals routes t (first-to kind.Route (length l.routes) r.0 h))))

-- what is closed is listed just where the layout has it
pub listed : (l : Site) (c : Closings) (t : Thing) → Contains (closed_things l c) t ↔ (HasThing l t × IsClosed c t)
listed l c t =
    (λ h. let m = filter-from (is_closed c) (all_things l) t h in (there-from l t m.0, m.1), λ h. filter-to (is_closed c) (all_things l) t (there-to l t h.0) h.1)

-- kind by kind
pub parts_listed : (p : Thing → Bool) (a b c d e : List Thing) → filter p (a ++ (b ++ (c ++ (d ++ e)))) ≡ ((((filter p a ++ filter p b) ++ filter p c) ++ filter p d) ++ filter p e)
parts_listed p a b c d e =
    filter-append p a (b ++ (c ++ (d ++ e)))
    ∙ ap (λ r. filter p a ++ r) (filter-append p b (c ++ (d ++ e)) ∙ ap (λ r. filter p b ++ r) (filter-append p c (d ++ e) ∙ ap (λ r. filter p c ++ r) (filter-append p d e)))
    ∙ simp append_assoc
