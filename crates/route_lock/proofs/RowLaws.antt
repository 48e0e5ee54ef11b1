-- What rows say of what is locked.
use Rattle.std.proofs.Common.{◌≡◌, ◌≢◌, Bool, true, false, ◌||◌, ◌==◌, ℕ, zero, suc, ◌<◌, ◌+◌, List, [], ◌∷◌, ◌++◌, length, get_or, take, map, Option, Some, None, refl, sym, ap, subst, ◌∙◌, inl, inr, ⊎_elim, arith}
use Rattle.std.specs.Prelude.{slice_get, slice_index_or, ◌⊎◌, ◌↔◌, IsTrue}
use Rattle.std.specs.Bool.{Decides}
use Rattle.std.specs.List.{Contains, fold}
use Rattle.std.specs.Ordering.{nat_cmp}
use Rattle.std.specs.Cmp.{nat_cmp_total, unsigned_tied}
use Rattle.std.specs.FinSet.{contains, empty, insert, union, contains-empty, contains-insert, contains-union}
use Rattle.std.proofs.lemmas.Bool.{false≢true}
use Rattle.std.proofs.lemmas.Bool.Decides.{Decides-at, Decides-or, Decides-like, Decides-eqb}
use Rattle.std.proofs.lemmas.List.Elements.{Contains-append_left, Contains-push, Contains-push_cases}
use Rattle.control_table.specs.sci_telegram.declared.message.Side.{Side}
use Rattle.control_table.specs.layout.declared.ids.SectionId.{SectionId}
use Rattle.control_table.specs.layout.declared.ids.PointId.{PointId}
use Rattle.control_table.specs.layout.declared.ids.RouteId.{RouteId}
use Rattle.control_table.specs.layout.Entries.{Site}
use Rattle.control_table.specs.bit_row.Places.{Places, Has, Meet}
use Rattle.control_table.specs.declared.masks.RouteMasks.{RouteMasks}
use Rattle.control_table.specs.Table.{AreRequired}
use Rattle.control_table.specs.AwaitedSections.{Awaits}
use Rattle.route_lock.specs.declared.rows.Locked.{Locked}
use Rattle.route_lock.specs.Rows.{AwaitsOne, HoldsBy, RowsBlock, all_of, join, none}

-- ---- sets

put : (s : Places) (j k : ℕ) → contains (insert s j) k ≡ ((k == j) || contains s k)
put s j k = contains-insert nat_cmp_total s j k ∙ ap (λ b. b || contains s k) (unsigned_tied k j)

pub has-insert : (s : Places) (j k : ℕ) → Has (insert s j) k ↔ ((k ≡ j) ⊎ Has s k)
has-insert s j k = Decides-at _ _ (put s j k) (Decides-or (k == j) (contains s k) (Decides-eqb k j) (λ h. h, λ h. h))

pub has-none : (k : ℕ) → Has empty k → ⊥
has-none k h = false≢true (sym (contains-empty nat_cmp k) ∙ h)

has-union : (s t : Places) (k : ℕ) → Has (union s t) k ↔ (Has s k ⊎ Has t k)
has-union s t k = Decides-at _ _ (contains-union nat_cmp_total s t k) (Decides-or (contains s k) (contains t k) (λ h. h, λ h. h) (λ h. h, λ h. h))

meet-union : (s t u : Places) → Meet (union s t) u ↔ (Meet s u ⊎ Meet t u)
meet-union s t u = (
  λ h. ⊎_elim (λ k. inl (h.0, k, h.2)) (λ k. inr (h.0, k, h.2)) ((has-union s t h.0).0 h.1),
  λ h. ⊎_elim (λ m. (m.0, (has-union s t m.0).1 (inl m.1), m.2)) (λ m. (m.0, (has-union s t m.0).1 (inr m.1), m.2)) h,
)

-- ---- what holds of a union holds of a part

or-split : {P P1 P2 Q Q1 Q2 : Type 0} → P ↔ (P1 ⊎ P2) → Q ↔ (Q1 ⊎ Q2) → (P ⊎ Q) ↔ ((P1 ⊎ Q1) ⊎ (P2 ⊎ Q2))
or-split p q = (
  λ h. ⊎_elim (λ x. ⊎_elim (λ a. inl (inl a)) (λ b. inr (inl b)) (p.0 x)) (λ y. ⊎_elim (λ a. inl (inr a)) (λ b. inr (inr b)) (q.0 y)) h,
  λ h. ⊎_elim (λ x. ⊎_elim (λ a. inl (p.1 (inl a))) (λ b. inr (q.1 (inl b))) x) (λ y. ⊎_elim (λ a. inl (p.1 (inr a))) (λ b. inr (q.1 (inr b))) y) h,
)

pub block-split : (m : RouteMasks) (x y : Locked) → RowsBlock (join x y) m ↔ (RowsBlock x m ⊎ RowsBlock y m)
block-split m x y =
    or-split (or-split (has-union x.entries y.entries m.entry.0) (or-split (meet-union x.routes y.routes m.extra) (meet-union x.sections y.sections m.sections)))
    (or-split (meet-union x.right y.right m.left) (meet-union x.left y.left m.right))

pub right-split : (j : ℕ) (x y : Locked) → Has (join x y).right j ↔ (Has x.right j ⊎ Has y.right j)
right-split j x y = has-union x.right y.right j

pub left-split : (j : ℕ) (x y : Locked) → Has (join x y).left j ↔ (Has x.left j ⊎ Has y.left j)
left-split j x y = has-union x.left y.left j

module _ (P : Locked → Type 0) (split : (x y : Locked) → P (join x y) ↔ (P x ⊎ P y)) where
  abbrev OfOne : List Locked → Type 0
  OfOne locks = (i : ℕ) × (x : Locked) × (slice_get locks i ≡ Some x) × P x

  among-from : (k : Locked) (locks : List Locked) → P (fold join k locks) → P k ⊎ OfOne locks
  among-from k [] h = inl h
  among-from k (x ∷ locks) h =
      ⊎_elim (λ j. ⊎_elim (λ a. inl a) (λ b. inr (0, x, refl, b)) ((split k x).0 j)) (λ o. inr (suc o.0, o.1, o.2, o.3)) (among-from (join k x) locks h)

  among-first : (k : Locked) (locks : List Locked) → P k → P (fold join k locks)
  among-first k [] h = h
  among-first k (x ∷ locks) h = among-first (join k x) locks ((split k x).1 (inl h))

  among-to : (k : Locked) (locks : List Locked) (i : ℕ) (x : Locked) → slice_get locks i ≡ Some x → P x → P (fold join k locks)
  among-to k [] i x e h = absurd (nothing x e)
    where
      nothing : (x : Locked) → None ≡ Some x → ⊥
      nothing x e = let f : Option Locked → Type 0 = λ o. elim o [ None ↦ Unit {0} | Some y ↦ ⊥ ] in subst f e tt
  among-to k (y ∷ locks) zero x e h = among-first (join k y) locks ((split k y).1 (inr (subst P (sym (one y x e)) h)))
    where
      one : (y x : Locked) → Some y ≡ Some x → y ≡ x
      one y x e = ap (λ o. elim o [ None ↦ y | Some z ↦ z ]) e
  among-to k (y ∷ locks) (suc i) x e h = among-to (join k y) locks i x e h

  pub in-all : (P none → ⊥) → (locks : List Locked) → P (all_of locks) ↔ OfOne locks
  unfolding all_of
  in-all never locks = (λ h. ⊎_elim (λ n. absurd (never n)) (λ o. o) (among-from none locks h), λ o. among-to none locks o.0 o.1 o.2 o.3)

pub block-none : (m : RouteMasks) → RowsBlock none m → ⊥
block-none m h =
    ⊎_elim (λ c. ⊎_elim (λ e. has-none m.entry.0 e) (λ d. ⊎_elim (λ x. has-none x.0 x.1) (λ x. has-none x.0 x.1) d) c)
    (λ p. ⊎_elim (λ x. has-none x.0 x.1) (λ x. has-none x.0 x.1) p) h

-- ---- the points that a route holds

abbrev pub HeldOf : Site → RouteId → Places → Side → List (PointId × Side) → Places → Type 0
HeldOf l a sections side needs row = (p : PointId) → Has row p.0 ↔ (Contains needs (p, side) × AwaitsOne l a sections p)

module _ (l : Site) (a : RouteId) (sections : Places) (side : Side) where
  pub held-none : HeldOf l a sections side [] empty
  held-none p = (λ h. absurd (has-none p.0 h), λ h. absurd (let lt = h.0.1 in omega arith))

  pub held-one : (needs : List (PointId × Side)) (row : Places) (n : PointId × Side) → (n.1 ≡ side) → AwaitsOne l a sections n.0 → HeldOf l a sections side needs row → HeldOf l a sections side (needs ++ n ∷ []) (insert row n.0.0)
  held-one needs row n at some before p = (
    λ h. ⊎_elim
        (λ e. let same : n.0 ≡ p = (λ i. record { 0 = sym e i }) in (subst (λ (x : PointId × Side). Contains (needs ++ n ∷ []) x) (λ i. (same i, at i)) (Contains-push needs n), subst (AwaitsOne l a sections) same some))
        (λ k. let b = (before p).0 k in (Contains-append_left needs (n ∷ []) (p, side) b.0, b.1))
        ((has-insert row n.0.0 p.0).0 h),
    λ h. (has-insert row n.0.0 p.0).1 (⊎_elim (λ c. inr ((before p).1 (c, h.1))) (λ e. inl (sym (ap (λ (x : PointId × Side). x.0.0) e))) (Contains-push_cases needs n (p, side) h.0)),
  )

  pub held-not : (needs : List (PointId × Side)) (row : Places) (n : PointId × Side) → ((n.1 ≡ side) × AwaitsOne l a sections n.0 → ⊥) → HeldOf l a sections side needs row → HeldOf l a sections side (needs ++ n ∷ []) row
  held-not needs row n never before p = (
    λ h. let b = (before p).0 h in (Contains-append_left needs (n ∷ []) (p, side) b.0, b.1),
    λ h. (before p).1 (⊎_elim (λ c. c) (λ e. absurd (never (ap (λ (x : PointId × Side). x.1) e, subst (AwaitsOne l a sections) (sym (ap (λ (x : PointId × Side). x.0) e)) h.1))) (Contains-push_cases needs n (p, side) h.0), h.1),
  )

  pub held-all : (needs : List (PointId × Side)) (row : Places) → AreRequired l a needs → HeldOf l a sections side needs row → (p : PointId) → Has row p.0 ↔ HoldsBy l a sections p side
  held-all needs row are held p =
      (λ h. let b = (held p).0 h in ((are.points p side).0 b.0, b.1), λ h. (held p).1 ((are.points p side).1 h.0, h.1))
