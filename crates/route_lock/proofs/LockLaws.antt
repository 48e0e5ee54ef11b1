-- What is locked, as a state and as rows.
use Rattle.std.proofs.Common.{◌≡◌, ◌≢◌, Bool, true, false, not, ℕ, zero, suc, ◌<◌, ◌+◌, List, [], ◌∷◌, length, get_or, map, Option, Some, None, refl, sym, ap, subst, ◌∙◌, inl, inr, ⊎_elim, arith}
use Rattle.std.specs.Prelude.{slice_get, slice_index_or, slice_set, ◌⊎◌, ◌↔◌, IsTrue}
use Rattle.std.specs.List.{Contains}
use Rattle.std.specs.Ordering.{nat_cmp}
use Rattle.std.specs.FinSet.{empty, insert}
use Rattle.std.proofs.lemmas.List.Elements.{All-contains}
use Rattle.std.proofs.lemmas.Bool.{false≢true}
use Rattle.control_table.specs.sci_telegram.declared.message.Side.{Side}
use Rattle.control_table.specs.sci_telegram.declared.message.Side.TheVariants as side
use Rattle.control_table.specs.layout.declared.ids.SectionId.{SectionId}
use Rattle.control_table.specs.layout.declared.ids.SignalId.{SignalId}
use Rattle.control_table.specs.layout.declared.ids.PointId.{PointId}
use Rattle.control_table.specs.layout.declared.ids.RouteId.{RouteId}
use Rattle.control_table.specs.layout.Entries.{Site, RouteEntry}
use Rattle.control_table.specs.layout.Station.{IsRouteOf, IsStation}
use Rattle.control_table.specs.bit_row.Places.{Places, Has, HasSome, IsPart, Meet}
use Rattle.control_table.specs.declared.masks.RouteMasks.{RouteMasks}
use Rattle.control_table.specs.Topology.{IsRoute}
use Rattle.control_table.specs.Masks.{AreMasks}
use Rattle.control_table.specs.Table.{LeadsOver, Lists, RouteRequires, SameEntry, Sound}
use Rattle.route_lock.specs.declared.rows.Locked.{Locked}
use Rattle.route_lock.specs.Rows.{AreKept, AreRows, AwaitsOne, HoldsBy, RowsBlock, RowsClash, all_of, none, state_of}
use Rattle.route_lock.specs.Locks.{AllApart, Apart, AreAllSections, Blocks, Clashes, Holds, HoldsAgainst, IsSet, LockState, LocksSection, locked_by, locking}
use Rattle.route_lock.proofs.RowLaws.{has-none, has-insert, block-split, block-none, in-all}

abbrev pub sections_of : List Locked → List Places
sections_of locks = map (λ k. k.sections) locks

pub no-some : {A : Type 0} (x : A) → None ≡ Some x → ⊥
no-some {A} x e = let f : Option A → Type 0 = λ o. elim o [ None ↦ Unit {0} | Some y ↦ ⊥ ] in subst f e tt

pub some-one : {A : Type 0} (y x : A) → Some y ≡ Some x → y ≡ x
some-one y x e = ap (λ o. elim o [ None ↦ y | Some z ↦ z ]) e

-- ---- the sections that a route locks are those of its rows

locked-at : (locks : List Locked) (i : ℕ) (k : Locked) → slice_get locks i ≡ Some k → slice_index_or (sections_of locks) i empty ≡ k.sections
locked-at [] i k e = absurd (no-some k e)
locked-at (x ∷ locks) zero k e = ap (λ (y : Locked). y.sections) (some-one x k e)
locked-at (x ∷ locks) (suc i) k e = locked-at locks i k e

pub locks-has : (locks : List Locked) (i j : ℕ) → Has (slice_index_or (sections_of locks) i empty) j → (k : Locked) × (slice_get locks i ≡ Some k) × Has k.sections j
locks-has [] i j h = absurd (has-none j h)
locks-has (x ∷ locks) zero j h = (x, refl, h)
locks-has (x ∷ locks) (suc i) j h = locks-has locks i j h

pub locked-is : (l : Site) (locks : List Locked) (a : RouteId) (k : Locked) → slice_get locks a.0 ≡ Some k → locked_by (state_of l locks) a ≡ k.sections
locked-is l locks a k e = locked-at locks a.0 k e

-- ---- rows that lock nothing

pub rows-of-none : (l : Site) (a : RouteId) → AreRows l a none
rows-of-none l a = record {
  routes = λ j. (λ h. absurd (has-none j h), λ h. absurd (has-none h.1.0 h.1.1));
  entries = λ j. (λ h. absurd (has-none j h), λ h. absurd (has-none h.1.0 h.1.1));
  sections = λ s h. absurd (has-none s h);
  right = λ p. (λ h. absurd (has-none p.0 h), λ h. absurd (has-none h.1.0.0 h.1.2));
  left = λ p. (λ h. absurd (has-none p.0 h), λ h. absurd (has-none h.1.0.0 h.1.2));
}

-- ---- the rows of a route that locks sections

pub get-below : {A : Type 0} (xs : List A) (i : ℕ) → i < length xs → (x : A) × (slice_get xs i ≡ Some x)
get-below [] i lt = absurd (omega (arith, lt))
get-below (x ∷ xs) zero lt = (x, refl)
get-below (x ∷ xs) (suc i) lt = get-below xs i (omega (arith, lt))

get-contains : {A : Type 0} (xs : List A) (i : ℕ) (x : A) → slice_get xs i ≡ Some x → Contains xs x
get-contains [] i x e = absurd (no-some x e)
get-contains (w ∷ xs) zero x e = (0, omega arith, some-one w x e)
get-contains (w ∷ xs) (suc i) x e = let h = get-contains xs i x e in (suc h.0, omega (arith, h.1), h.2)

pub entry-below : (l : Site) → IsStation l → (a : RouteId) (m : RouteMasks) → a.0 < length l.routes → AreMasks l a m → m.entry.0 < 64
entry-below l station a m lt are =
    let r = get-below l.routes a.0 lt in
    let there = (All-contains (IsRouteOf l) l.routes r.0 station.routes (get-contains l.routes a.0 r.0 r.1)).entry in
    let same = ap (λ (x : SignalId). x.0) (are.entry r.0 r.1) in
    let few = station.limits.signals in
    omega (arith, there, same, few)

has-single : (j k : ℕ) → Has (insert (empty {R = nat_cmp}) j) k ↔ (k ≡ j)
has-single j k = (λ h. ⊎_elim (λ e. e) (λ n. absurd (has-none k n)) ((has-insert empty j k).0 h), λ e. (has-insert empty j k).1 (inl e))

pub rows-made : (l : Site) (a : RouteId) (m : RouteMasks) (sections routes entries right left : Places) → a.0 < length l.routes → AreMasks l a m → HasSome sections
    → ((s : ℕ) → Has sections s → LeadsOver l a (record { 0 = s }))
    → routes ≡ insert empty a.0 → entries ≡ insert empty m.entry.0
    → ((p : PointId) → Has right p.0 ↔ HoldsBy l a sections p side.Right) → ((p : PointId) → Has left p.0 ↔ HoldsBy l a sections p side.Left)
    → AreRows l a (record { routes = routes; entries = entries; sections = sections; right = right; left = left })
rows-made l a m sections routes entries right left lt are some its r e holds also =
    let found = get-below l.routes a.0 lt in
    record {
      routes = λ j. (λ h. ((has-single a.0 j).0 (subst (λ (x : Places). Has x j) r h), some), λ h. subst (λ (x : Places). Has x j) (sym r) ((has-single a.0 j).1 h.0));
      entries = λ j. (
        λ h. ((found.0, found.1, (has-single m.entry.0 j).0 (subst (λ (x : Places). Has x j) e h) ∙ ap (λ (x : SignalId). x.0) (are.entry found.0 found.1)), some),
        λ h. subst (λ (x : Places). Has x j) (sym e) ((has-single m.entry.0 j).1 (h.0.2 ∙ sym (ap (λ (x : SignalId). x.0) (are.entry h.0.0 h.0.1)))),
      );
      sections = its;
      right = holds;
      left = also;
    }

-- ---- what rows block

pub right-left : side.Right ≢ side.Left
right-left e = let f : Side → Type 0 = λ s. elim s [ side.Right ↦ Unit {0} | side.Left ↦ ⊥ ] in subst f e tt

module _ (l : Site) (locks : List Locked) (a b : RouteId) (k : Locked) (m : RouteMasks) (at : slice_get locks a.0 ≡ Some k) (rows : AreRows l a k) (need : AreMasks l b m) where
  abbrev here : LockState
  here = state_of l locks

  is : locked_by here a ≡ k.sections
  is = locked-is l locks a k at

  set-of : (s : ℕ) → Has k.sections s → IsSet here a
  set-of s h = (s, subst (λ (x : Places). Has x s) (sym is) h)

  of-set : IsSet here a → (s : ℕ) × Has k.sections s
  of-set h = (h.0, subst (λ (x : Places). Has x h.0) is h.1)

  pub holds-from : (p : PointId) (t : Side) → HoldsBy l a k.sections p t → Holds here a p t
  holds-from p t h = (h.0, (h.1.0, h.1.1, subst (λ (x : Places). Has x h.1.0.0) (sym is) h.1.2))

  pub holds-to : (p : PointId) (t : Side) → Holds here a p t → HoldsBy l a k.sections p t
  holds-to p t h = (h.0, (h.1.0, h.1.1, subst (λ (x : Places). Has x h.1.0.0) is h.1.2))

  entry-met : (r q : RouteEntry) → IsRoute l a r → IsRoute l b q → m.entry.0 ≡ r.entry.0 → SameEntry l a b
  entry-met r q one other e = (r, q, one, other, (λ i. record { 0 = sym e i }) ∙ need.entry q other)

  pub clash-from : (q : RouteEntry) → IsRoute l b q → RowsClash k m → IsSet here a × Clashes here a b
  clash-from q other h =
      ⊎_elim
      (λ e. let x = (rows.entries m.entry.0).0 e in (set-of x.1.0 x.1.1, inl (entry-met x.0.0 q x.0.1 other x.0.2)))
      (⊎_elim
      (λ e. let x = (rows.routes e.0).0 e.1 in (set-of x.1.0 x.1.1, inr (inr (inl ((need.extra a).0 (subst (λ (j : ℕ). Has m.extra j) x.0 e.2))))))
      (λ e. (set-of e.0 e.1, inr (inr (inr (record { 0 = e.0 }, subst (λ (x : Places). Has x e.0) (sym is) e.1, (need.sections (record { 0 = e.0 })).0 e.2))))))
      h

  pub clash-to : Sound l → IsSet here a → Clashes here a b → RowsClash k m
  clash-to sound set h =
      let some = of-set set in
      let listed : Lists l b a → RowsClash k m = λ x. inr (inl (a.0, (rows.routes a.0).1 (refl, some), (need.extra a).1 x)) in
      ⊎_elim
      (λ e. inl ((rows.entries m.entry.0).1 ((e.0, e.2, ap (λ (x : SignalId). x.0) (need.entry e.1 e.3 ∙ sym e.4)), some)))
      (⊎_elim (λ x. listed ((sound a x.0 x.1).listed b x.2).1)
      (⊎_elim listed
      (λ s. inr (inr (s.0.0, subst (λ (x : Places). Has x s.0.0) is s.1, (need.sections s.0).1 s.2)))))
      h

  held-right : Meet k.right m.left → (p : PointId) × HoldsAgainst here a b p
  held-right h = let p : PointId = record { 0 = h.0 } in (p, (side.Right, side.Left, holds-from p side.Right ((rows.right p).0 h.1), (need.left p).0 h.2, right-left))

  held-left : Meet k.left m.right → (p : PointId) × HoldsAgainst here a b p
  held-left h = let p : PointId = record { 0 = h.0 } in (p, (side.Left, side.Right, holds-from p side.Left ((rows.left p).0 h.1), (need.right p).0 h.2, (λ e. right-left (sym e))))

  pub against-to : (p : PointId) → HoldsAgainst here a b p → (Has k.right p.0 × Has m.left p.0) ⊎ (Has k.left p.0 × Has m.right p.0)
  against-to p h = by h.0 h.1 h.2 h.3 h.4
    where
      by : (t u : Side) → Holds here a p t → RouteRequires l b p u → (t ≢ u) → (Has k.right p.0 × Has m.left p.0) ⊎ (Has k.left p.0 × Has m.right p.0)
      by side.Right side.Left held requires ne = inl ((rows.right p).1 (holds-to p side.Right held), (need.left p).1 requires)
      by side.Left side.Right held requires ne = inr ((rows.left p).1 (holds-to p side.Left held), (need.right p).1 requires)
      by side.Right side.Right held requires ne = absurd (ne refl)
      by side.Left side.Left held requires ne = absurd (ne refl)

  set-by : (p : PointId) → HoldsAgainst here a b p → IsSet here a
  set-by p h = (h.2.1.0.0, h.2.1.2)

  pub block-from : (q : RouteEntry) → IsRoute l b q → a ≢ b → RowsBlock k m → Blocks here a b
  block-from q other apart h =
      ⊎_elim (λ c. let x = clash-from q other c in (x.0, apart, inl x.1))
      (⊎_elim (λ r. let x = held-right r in (set-by x.0 x.1, apart, inr x)) (λ r. let x = held-left r in (set-by x.0 x.1, apart, inr x))) h

  pub block-to : Sound l → Blocks here a b → RowsBlock k m
  block-to sound h =
      ⊎_elim (λ c. inl (clash-to sound h.0 c))
      (λ p. inr (⊎_elim (λ r. inl (p.0.0, r.0, r.1)) (λ r. inr (p.0.0, r.0, r.1)) (against-to p.0 p.1))) h.2

  pub block-set : (q : RouteEntry) → IsRoute l b q → RowsBlock k m → IsSet here a
  block-set q other h =
      ⊎_elim (λ c. (clash-from q other c).0) (⊎_elim (λ r. let x = held-right r in set-by x.0 x.1) (λ r. let x = held-left r in set-by x.0 x.1)) h
