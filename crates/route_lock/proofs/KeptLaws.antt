-- What holds of the rows that are kept.
use Rattle.std.proofs.Common.{◌≡◌, ◌≢◌, Bool, true, false, not, ℕ, zero, suc, ◌<◌, ◌≤◌, ◌+◌, List, [], ◌∷◌, ◌++◌, length, get_or, map, set, Option, Some, None, refl, sym, ap, subst, ◌∙◌, inl, inr, ⊎_elim, arith, MatchBool}
use Rattle.std.specs.Prelude.{slice_get, slice_index_or, slice_set, ◌⊎◌, ◌↔◌, IsTrue, IfSome, IfNone}
use Rattle.std.specs.List.{All}
use Rattle.std.specs.Bool.{Decides}
use Rattle.std.specs.FinSet.{contains, empty, intersection, remove, union, contains-intersection, contains-remove, contains-union}
use Rattle.std.specs.Ordering.{eq_by_cmp, nat_cmp}
use Rattle.std.specs.Cmp.{nat_cmp_total}
use Rattle.std.proofs.lemmas.Bool.{cases_lt, false≢true}
use Rattle.std.proofs.lemmas.Bool.Decides.{Decides-at, Decides-and, Decides-or, Decides-like}
use Rattle.control_table.specs.sci_telegram.declared.message.Side.{Side}
use Rattle.control_table.specs.sci_telegram.declared.message.Side.TheVariants as side
use Rattle.control_table.specs.layout.declared.ids.SectionId.{SectionId}
use Rattle.control_table.specs.layout.declared.ids.PointId.{PointId}
use Rattle.control_table.specs.layout.declared.ids.RouteId.{RouteId}
use Rattle.control_table.specs.layout.Entries.{Site, RouteEntry}
use Rattle.control_table.specs.layout.Once.{Once}
use Rattle.control_table.specs.layout.Station.{IsStation}
use Rattle.control_table.specs.bit_row.Places.{Places, Has, HasSome, IsPart, Meet}
use Rattle.control_table.specs.declared.masks.RouteMasks.{RouteMasks}
use Rattle.control_table.specs.Topology.{IsRoute}
use Rattle.control_table.specs.Masks.{AreMasks}
use Rattle.control_table.specs.Table.{LeadsOver, Lists, RouteRequires, SameEntry, Sound}
use Rattle.route_lock.specs.declared.rows.Locked.{Locked}
use Rattle.route_lock.specs.declared.locks.LockFault.{LockFault}
use Rattle.route_lock.specs.declared.locks.LockFault.TheVariants.{Conflict, PointHeld}
use Rattle.route_lock.specs.Rows.{AreKept, AreRows, AwaitsOne, HoldsBy, IsFirstRowsFault, IsRowsFault, NoneBefore, NoneBlocks, RowsBlock, RowsClash, all_of, none, state_of}
use Rattle.route_lock.specs.Locks.{AllApart, Apart, AreAllSections, Blocks, Clashes, FirstBlocks, Holds, HoldsAgainst, IsFault, IsSet, LockState, LocksSection, locked_by, locking}
use Rattle.route_lock.proofs.RowLaws.{has-none, has-insert, block-split, block-none, in-all, right-split, left-split}
use Rattle.route_lock.proofs.LockLaws.{against-to, clash-from, clash-to, right-left, get-below, locked-is, locks-has, rows-of-none, holds-from, holds-to, block-from, block-to, block-set, sections_of, no-some, some-one}

pub get-at : (xs : List Locked) (i : ℕ) (x : Locked) → i < length xs → x ≡ get_or xs i x → slice_get xs i ≡ Some x
get-at [] i x lt e = absurd (omega (arith, lt))
get-at (w ∷ xs) zero x lt e = ap Some (sym e)
get-at (w ∷ xs) (suc i) x lt e = get-at xs i x (omega (arith, lt)) e

pub place-below : (l : Site) (locks : List Locked) (v : LockState) (a : RouteId) → state_of l locks ≡ v → length locks ≡ length l.routes → a.0 < length v.table.routes → a.0 < length locks
place-below l locks v a is each lt = let same = ap (λ (st : LockState). length st.table.routes) is in omega (arith, lt, same, each)

-- ---- a set route

not-true : (b : Bool) → b ≡ false → IsTrue (not b)
not-true b e = grind arith

pub set-is : (l : Site) (locks : List Locked) (a : RouteId) (k : Locked) (b : Bool) → slice_get locks a.0 ≡ Some k → MatchBool b (k.sections ≡ empty) (HasSome k.sections) → IsTrue (not b) ↔ IsSet (state_of l locks) a
set-is l locks a k true at h = (λ f. absurd (false≢true f), λ s. absurd (has-none s.0 (subst (λ (x : Places). Has x s.0) (locked-is l locks a k at ∙ h) s.1)))
set-is l locks a k false at h = (λ f. (h.0, subst (λ (x : Places). Has x h.0) (sym (locked-is l locks a k at)) h.1), λ s. refl)

-- ---- all together

module _ (l : Site) (locks : List Locked) (all : Locked) (kept : AreKept l locks all) where
  abbrev st : LockState
  st = state_of l locks

  module _ (b : RouteId) (m : RouteMasks) (lt : b.0 < length l.routes) (need : AreMasks l b m) where
    entry : (q : RouteEntry) × IsRoute l b q
    entry = get-below l.routes b.0 lt

    pub one-blocks : (IsSet st b → ⊥) → (a : RouteId) (k : Locked) → slice_get locks a.0 ≡ Some k → RowsBlock k m → Blocks st a b
    one-blocks free a k at h =
        let set = block-set l locks a b k m at (kept.rows a k at) need entry.0 entry.1 h in
        block-from l locks a b k m at (kept.rows a k at) need entry.0 entry.1 (λ e. free (subst (IsSet st) e set)) h

    pub blocks-one : (a : RouteId) (k : Locked) → slice_get locks a.0 ≡ Some k → Blocks st a b → RowsBlock k m
    blocks-one a k at h = block-to l locks a b k m at (kept.rows a k at) need kept.sound h

    set-rows : (a : RouteId) → IsSet st a → (k : Locked) × (slice_get locks a.0 ≡ Some k)
    set-rows a h = let x = locks-has locks a.0 h.0 h.1 in (x.0, x.1)

    some-blocks : (IsSet st b → ⊥) → RowsBlock all m → (a : RouteId) × Blocks st a b
    some-blocks free h =
        let o = (in-all (λ k. RowsBlock k m) (block-split m) (block-none m) locks).0 (subst (λ (x : Locked). RowsBlock x m) kept.together h) in
        let a : RouteId = record { 0 = o.0 } in
        (a, one-blocks free a o.1 o.2 o.3)

    blocks-some : (a : RouteId) → Blocks st a b → RowsBlock all m
    blocks-some a h =
        let k = set-rows a h.0 in
        subst (λ (x : Locked). RowsBlock x m) (sym kept.together) ((in-all (λ k. RowsBlock k m) (block-split m) (block-none m) locks).1 (a.0, k.0, k.1, blocks-one a k.0 k.1 h))

    pub clear-is : (IsSet st b → ⊥) → (blocked : Bool) → IsTrue blocked ↔ RowsBlock all m → IsTrue (not blocked) ↔ ((a : RouteId) → Blocks st a b → ⊥)
    clear-is free true is = (λ f. absurd (false≢true f), λ never. absurd (let x = some-blocks free (is.0 refl) in never x.0 x.1))
    clear-is free false is = (λ f a h. false≢true (is.1 (blocks-some a h)), λ never. refl)

  -- ---- points

  at-side : (p : PointId) (a : RouteId) (k : Locked) → slice_get locks a.0 ≡ Some k → (t : Side) → Holds st a p t → Has k.right p.0 ⊎ Has k.left p.0
  at-side p a k at side.Right h = inl (((kept.rows a k at).right p).1 (held-by side.Right h))
    where
      held-by : (t : Side) → Holds st a p t → HoldsBy l a k.sections p t
      held-by t h = (h.0, (h.1.0, h.1.1, subst (λ (x : Places). Has x h.1.0.0) (locked-is l locks a k at) h.1.2))
  at-side p a k at side.Left h = inr (((kept.rows a k at).left p).1 (held-by side.Left h))
    where
      held-by : (t : Side) → Holds st a p t → HoldsBy l a k.sections p t
      held-by t h = (h.0, (h.1.0, h.1.1, subst (λ (x : Places). Has x h.1.0.0) (locked-is l locks a k at) h.1.2))

  holds-of : (p : PointId) (a : RouteId) (k : Locked) (t : Side) → slice_get locks a.0 ≡ Some k → HoldsBy l a k.sections p t → Holds st a p t
  holds-of p a k t at h = (h.0, (h.1.0, h.1.1, subst (λ (x : Places). Has x h.1.0.0) (sym (locked-is l locks a k at)) h.1.2))

  pub right-held : (p : PointId) → Has all.right p.0 → (a : RouteId) × Holds st a p side.Right
  right-held p h =
      let o = (in-all (λ k. Has k.right p.0) (right-split p.0) (has-none p.0) locks).0 (subst (λ (x : Locked). Has x.right p.0) kept.together h) in
      let a : RouteId = record { 0 = o.0 } in
      (a, holds-of p a o.1 side.Right o.2 (((kept.rows a o.1 o.2).right p).0 o.3))

  pub left-held : (p : PointId) → Has all.left p.0 → (a : RouteId) × Holds st a p side.Left
  left-held p h =
      let o = (in-all (λ k. Has k.left p.0) (left-split p.0) (has-none p.0) locks).0 (subst (λ (x : Locked). Has x.left p.0) kept.together h) in
      let a : RouteId = record { 0 = o.0 } in
      (a, holds-of p a o.1 side.Left o.2 (((kept.rows a o.1 o.2).left p).0 o.3))

  pub held-somewhere : (p : PointId) (a : RouteId) (t : Side) → Holds st a p t → Has all.right p.0 ⊎ Has all.left p.0
  held-somewhere p a t h =
      let k = locks-has locks a.0 h.1.0.0 h.1.2 in
      ⊎_elim
      (λ r. inl (subst (λ (x : Locked). Has x.right p.0) (sym kept.together) ((in-all (λ k. Has k.right p.0) (right-split p.0) (has-none p.0) locks).1 (a.0, k.0, k.1, r))))
      (λ r. inr (subst (λ (x : Locked). Has x.left p.0) (sym kept.together) ((in-all (λ k. Has k.left p.0) (left-split p.0) (has-none p.0) locks).1 (a.0, k.0, k.1, r))))
      (at-side p a k.0 k.1 t h)

  held-as : (p : PointId) (a : RouteId) (k : Locked) (t : Side) → slice_get locks a.0 ≡ Some k → Holds st a p t → HoldsBy l a k.sections p t
  held-as p a k t at h = (h.0, (h.1.0, h.1.1, subst (λ (x : Places). Has x h.1.0.0) (locked-is l locks a k at) h.1.2))

  pub held-right : (p : PointId) (a : RouteId) → Holds st a p side.Right → Has all.right p.0
  held-right p a h =
      let k = locks-has locks a.0 h.1.0.0 h.1.2 in
      let row = ((kept.rows a k.0 k.1).right p).1 (held-as p a k.0 side.Right k.1 h) in
      subst (λ (x : Locked). Has x.right p.0) (sym kept.together) ((in-all (λ k. Has k.right p.0) (right-split p.0) (has-none p.0) locks).1 (a.0, k.0, k.1, row))

  pub held-left : (p : PointId) (a : RouteId) → Holds st a p side.Left → Has all.left p.0
  held-left p a h =
      let k = locks-has locks a.0 h.1.0.0 h.1.2 in
      let row = ((kept.rows a k.0 k.1).left p).1 (held-as p a k.0 side.Left k.1 h) in
      subst (λ (x : Locked). Has x.left p.0) (sym kept.together) ((in-all (λ k. Has k.left p.0) (left-split p.0) (has-none p.0) locks).1 (a.0, k.0, k.1, row))

  pub holds-is : (p : PointId) (a : RouteId) (k : Locked) (b : Bool) → slice_get locks a.0 ≡ Some k → Decides b (Has k.right p.0 ⊎ Has k.left p.0) → IsTrue b ↔ ((t : Side) × Holds st a p t)
  holds-is p a k b at d = (
    λ h. ⊎_elim (λ r. (side.Right, holds-of p a k side.Right at (((kept.rows a k at).right p).0 r))) (λ r. (side.Left, holds-of p a k side.Left at (((kept.rows a k at).left p).0 r))) (d.0 h),
    λ h. d.1 (at-side p a k at h.0 h.1),
  )

-- ---- no route stands against another

either : (s t : Places) (k : ℕ) → Has (union s t) k ↔ (Has s k ⊎ Has t k)
either s t k = Decides-at _ _ (contains-union nat_cmp_total s t k) (Decides-or (contains s k) (contains t k) (λ h. h, λ h. h) (λ h. h, λ h. h))

both : (s t : Places) (k : ℕ) → Has (intersection s t) k ↔ (Has s k × Has t k)
both s t k = Decides-at _ _ (contains-intersection nat_cmp_total s t k) (Decides-and (contains s k) (contains t k) (λ h. h, λ h. h) (λ h. h, λ h. h))

pub none-against : (k : Locked) (m : RouteMasks) → (RowsClash k m → ⊥) → union (intersection k.right m.left) (intersection k.left m.right) ≡ empty → RowsBlock k m → ⊥
none-against k m free none h =
    ⊎_elim free
    (⊎_elim
    (λ r. has-none r.0 (subst (λ (x : Places). Has x r.0) none ((either (intersection k.right m.left) (intersection k.left m.right) r.0).1 (inl ((both k.right m.left r.0).1 (r.1, r.2))))))
    (λ r. has-none r.0 (subst (λ (x : Places). Has x r.0) none ((either (intersection k.right m.left) (intersection k.left m.right) r.0).1 (inr ((both k.left m.right r.0).1 (r.1, r.2)))))))
    h

pub none-more : (locks : List Locked) (m : RouteMasks) (i : ℕ) (k : Locked) → slice_get locks i ≡ Some k → (RowsBlock k m → ⊥) → NoneBefore locks m i → NoneBefore locks m (i + 1)
none-more locks m i k at here before j x lt e h =
    ⊎_elim
    (λ less. before j x less e h)
    (λ from. let same : j ≡ i = omega (arith, lt, from) in here (subst (λ (y : Locked). RowsBlock y m) (some-one x k (sym e ∙ ap (λ n. slice_get locks n) same ∙ at)) h))
    (cases_lt j i)

get-inside : (xs : List Locked) (i : ℕ) (x : Locked) → slice_get xs i ≡ Some x → i < length xs
get-inside [] i x e = absurd (no-some x e)
get-inside (w ∷ xs) zero x e = omega arith
get-inside (w ∷ xs) (suc i) x e = let lt = get-inside xs i x e in omega (arith, lt)

pub none-at-all : (locks : List Locked) (m : RouteMasks) (n : ℕ) → length locks ≤ n → NoneBefore locks m n → NoneBlocks locks m
none-at-all locks m n le before i k e h = before i k (let lt = get-inside locks i k e in omega (arith, lt, le)) e h

-- ---- a route locks other sections

set-get : (xs : List Locked) (i j : ℕ) (x k : Locked) → slice_get (set xs i x) j ≡ Some k → ((j ≡ i) × (k ≡ x)) ⊎ (slice_get xs j ≡ Some k)
set-get [] i j x k e = inr e
set-get (w ∷ xs) zero zero x k e = inl (refl, sym (some-one x k e))
set-get (w ∷ xs) zero (suc j) x k e = inr e
set-get (w ∷ xs) (suc i) zero x k e = inr e
set-get (w ∷ xs) (suc i) (suc j) x k e = ⊎_elim (λ h. inl (ap suc h.0, h.1)) (λ h. inr h) (set-get xs i j x k e)

set-length : (xs : List Locked) (i : ℕ) (x : Locked) → length (set xs i x) ≡ length xs
set-length [] i x = refl
set-length (w ∷ xs) zero x = refl
set-length (w ∷ xs) (suc i) x = ap suc (set-length xs i x)

set-sections : (xs : List Locked) (i : ℕ) (x : Locked) → sections_of (set xs i x) ≡ set (sections_of xs) i x.sections
set-sections [] i x = refl
set-sections (w ∷ xs) zero x = refl
set-sections (w ∷ xs) (suc i) x = ap (λ ys. w.sections ∷ ys) (set-sections xs i x)

pub state-set : (l : Site) (locks : List Locked) (a : RouteId) (k : Locked) (sections : Places) → k.sections ≡ sections → state_of l (set locks a.0 k) ≡ locking (state_of l locks) a sections
state-set l locks a k sections e =
    ap (λ (ls : List Places). record { table = l; locked = ls }) (set-sections locks a.0 k ∙ ap (λ (s : Places). set (sections_of locks) a.0 s) e)

pub kept-set : (l : Site) (locks : List Locked) (all : Locked) (a : RouteId) (k : Locked) (sections : Places) (now : Locked) → AreKept l locks all → AreRows l a k → k.sections ≡ sections → now ≡ all_of (set locks a.0 k)
    → AllApart (locking (state_of l locks) a sections) → AreKept l (set locks a.0 k) now
kept-set l locks all a k sections now kept rows same together apart = record {
  once = kept.once;
  station = kept.station;
  sound = kept.sound;
  each = set-length locks a.0 k ∙ kept.each;
  rows = λ b x e. ⊎_elim (λ h. subst (λ (y : Locked). AreRows l b y) (sym h.1) (subst (λ (c : RouteId). AreRows l c k) (λ i. record { 0 = sym h.0 i }) rows)) (λ h. kept.rows b x h) (set-get locks a.0 b.0 k x e);
  together = together;
  apart = subst AllApart (sym (state-set l locks a k sections same)) apart;
}

-- ---- at first nothing is locked

pub none-set : (l : Site) (locks : List Locked) → All (λ k. k ≡ none) locks → (a : RouteId) → IsSet (state_of l locks) a → ⊥
none-set l locks each a h =
    let k = locks-has locks a.0 h.0 h.1 in
    let lt = get-inside locks a.0 k.0 k.1 in
    let is = each a.0 k.0 lt in
    has-none h.0 (subst (λ (x : Locked). Has x.sections h.0) (sym (at-get locks a.0 k.0 k.1) ∙ is) k.2)
  where
    at-get : (xs : List Locked) (i : ℕ) (x : Locked) → slice_get xs i ≡ Some x → get_or xs i x ≡ x
    at-get [] i x e = absurd (no-some x e)
    at-get (w ∷ xs) zero x e = some-one w x e
    at-get (w ∷ xs) (suc i) x e = at-get xs i x e

pub kept-none : (l : Site) (locks : List Locked) (all : Locked) → Once l → IsStation l → Sound l → length locks ≡ length l.routes → All (λ k. k ≡ none) locks → all ≡ all_of locks → AreKept l locks all
kept-none l locks all once station sound each nothing together = record {
  once = once;
  station = station;
  sound = sound;
  each = each;
  rows = λ a k e. subst (λ (x : Locked). AreRows l a x) (sym (none-at locks a.0 k nothing e)) (rows-of-none l a);
  together = together;
  apart = λ a b ne h g. absurd (none-set l locks nothing a h);
}
  where
    none-at : (xs : List Locked) (i : ℕ) (x : Locked) → All (λ k. k ≡ none) xs → slice_get xs i ≡ Some x → x ≡ none
    none-at [] i x h e = absurd (no-some x e)
    none-at (w ∷ xs) zero x h e = sym (some-one w x e) ∙ h 0 x (omega arith)
    none-at (w ∷ xs) (suc i) x h e = none-at xs i x (λ k d lt. h (suc k) d (omega (arith, lt))) e

-- ---- what is handed out

map-length : (xs : List Locked) → length (sections_of xs) ≡ length xs
map-length [] = refl
map-length (x ∷ xs) = ap suc (map-length xs)

pub each-is : (l : Site) (locks : List Locked) (v : LockState) → state_of l locks ≡ v → length locks ≡ length l.routes → length v.locked ≡ length v.table.routes
each-is l locks v is each = subst (λ (st : LockState). length st.locked ≡ length st.table.routes) is (map-length locks ∙ each)

pub its-are : (l : Site) (locks : List Locked) (all : Locked) → AreKept l locks all → (a : RouteId) (s : ℕ) → Has (locked_by (state_of l locks) a) s → LeadsOver l a (record { 0 = s })
its-are l locks all kept a s h = let k = locks-has locks a.0 s h in (kept.rows a k.0 k.1).sections s k.2

pub some-map : {A : Type 0} {P Q : A → Type 0} (o : Option A) → ((x : A) → P x → Q x) → IfSome o P → IfSome o Q
some-map None f h = h
some-map (Some x) f h = f x h

pub none-map : {A P Q : Type 0} (o : Option A) → (P → Q) → IfNone o P → IfNone o Q
none-map None f h = f h
none-map (Some x) f h = h

-- ---- why a route can't be reserved

module _ (l : Site) (locks : List Locked) (all : Locked) (kept : AreKept l locks all) (b : RouteId) (m : RouteMasks) (lt : b.0 < length l.routes) (need : AreMasks l b m) (free : IsSet (state_of l locks) b → ⊥) where
  abbrev now : LockState
  now = state_of l locks

  pub never-blocks : NoneBlocks locks m → (a : RouteId) → Blocks now a b → ⊥
  never-blocks none a h =
      let k = locks-has locks a.0 h.0.0 h.0.1 in
      none a.0 k.0 k.1 (blocks-one l locks all kept b m lt need a k.0 k.1 h)

  first-blocks : (a : RouteId) (k : Locked) → slice_get locks a.0 ≡ Some k → RowsBlock k m → NoneBefore locks m a.0 → FirstBlocks now a b
  first-blocks a k at h before = (
    one-blocks l locks all kept b m lt need free a k at h,
    λ c less blocks. let x = locks-has locks c.0 blocks.0.0 blocks.0.1 in before c.0 x.0 less x.1 (blocks-one l locks all kept b m lt need c x.0 x.1 blocks),
  )

  point-of : (a : RouteId) (k : Locked) → slice_get locks a.0 ≡ Some k → (p : PointId) → Has (union (intersection k.right m.left) (intersection k.left m.right)) p.0 → HoldsAgainst now a b p
  point-of a k at p h =
      ⊎_elim
      (λ x. let y = (both k.right m.left p.0).0 x in (side.Right, side.Left, holds-from l locks a b k m at (kept.rows a k at) need p side.Right (((kept.rows a k at).right p).0 y.0), (need.left p).0 y.1, right-left))
      (λ x. let y = (both k.left m.right p.0).0 x in (side.Left, side.Right, holds-from l locks a b k m at (kept.rows a k at) need p side.Left (((kept.rows a k at).left p).0 y.0), (need.right p).0 y.1, (λ e. right-left (sym e))))
      ((either (intersection k.right m.left) (intersection k.left m.right) p.0).0 h)

  of-point : (a : RouteId) (k : Locked) → slice_get locks a.0 ≡ Some k → (p : PointId) → HoldsAgainst now a b p → Has (union (intersection k.right m.left) (intersection k.left m.right)) p.0
  of-point a k at p h =
      (either (intersection k.right m.left) (intersection k.left m.right) p.0).1
      (⊎_elim (λ x. inl ((both k.right m.left p.0).1 x)) (λ x. inr ((both k.left m.right p.0).1 x)) (against-to l locks a b k m at (kept.rows a k at) need p h))

  points-met : (k : Locked) (p : PointId) → Has (union (intersection k.right m.left) (intersection k.left m.right)) p.0 → RowsBlock k m
  points-met k p h =
      inr (⊎_elim (λ x. let y = (both k.right m.left p.0).0 x in inl (p.0, y.0, y.1)) (λ x. let y = (both k.left m.right p.0).0 x in inr (p.0, y.0, y.1)) ((either (intersection k.right m.left) (intersection k.left m.right) p.0).0 h))

  fault-at : (a : RouteId) (k : Locked) → slice_get locks a.0 ≡ Some k → NoneBefore locks m a.0 → (f : LockFault) → IsRowsFault a k m f → IsFault now b f
  fault-at a k at before (Conflict c) h =
      let q = get-below l.routes b.0 lt in
      subst (λ (x : RouteId). FirstBlocks now x b × Clashes now x b) (sym h.0) (first-blocks a k at (inl h.1) before, (clash-from l locks a b k m at (kept.rows a k at) need q.0 q.1 h.1).1)
  fault-at a k at before (PointHeld c p) h =
      subst (λ (x : RouteId). FirstBlocks now x b × (Clashes now x b → ⊥) × HoldsAgainst now x b p × ((q : PointId) → q.0 < p.0 → HoldsAgainst now x b q → ⊥)) (sym h.0) (
        first-blocks a k at (points-met k p h.2.0) before,
        (λ clash. h.1 (clash-to l locks a b k m at (kept.rows a k at) need kept.sound (one-blocks l locks all kept b m lt need free a k at (points-met k p h.2.0)).0 clash)),
        point-of a k at p h.2.0,
        λ q less against. let le = h.2.1 q.0 (of-point a k at q against) in absurd (omega (arith, le, less)),
      )

  pub fault-is : (f : LockFault) → IsFirstRowsFault locks m f → IsFault now b f
  fault-is f h = fault-at h.0 h.1 h.2 h.4 f h.3

-- ---- one section of a route

pub locked-of : (l : Site) (locks : List Locked) (v : LockState) (a : RouteId) (k : Locked) → state_of l locks ≡ v → slice_get locks a.0 ≡ Some k → locked_by v a ≡ k.sections
locked-of l locks v a k is at = subst (λ (st : LockState). locked_by st a ≡ k.sections) is (locked-is l locks a k at)

pub section-inside : (ss : List SectionId) (i : ℕ) (s : SectionId) → slice_get ss i ≡ Some s → i < length ss
section-inside [] i s e = absurd (no-some s e)
section-inside (w ∷ ss) zero s e = omega arith
section-inside (w ∷ ss) (suc i) s e = let lt = section-inside ss i s e in omega (arith, lt)

pub section-is : (ss : List SectionId) (i : ℕ) (s d : SectionId) → slice_get ss i ≡ Some s → get_or ss i d ≡ s
section-is [] i s d e = absurd (no-some s e)
section-is (w ∷ ss) zero s d e = some-one w s e
section-is (w ∷ ss) (suc i) s d e = section-is ss i s d e

pub has-remove : (s : Places) (j k : ℕ) → Has (remove s j) k → Has s k
has-remove s j k h = let b : (not (eq_by_cmp nat_cmp k j) ≡ true) × (contains s k ≡ true) = (Decides-and (not (eq_by_cmp nat_cmp k j)) (contains s k) (λ h. h, λ h. h) (λ h. h, λ h. h)).0 (sym (contains-remove nat_cmp_total s j k) ∙ h) in b.1
