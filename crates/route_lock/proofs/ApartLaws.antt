-- That set routes stand apart is kept.
use Rattle.std.proofs.Common.{◌≡◌, ◌≢◌, ℕ, ◌<◌, List, length, get_or, set, refl, sym, ap, subst, ◌∙◌, inl, inr, ⊎_elim, arith, get_or-set_same, get_or-set_other}
use Rattle.std.specs.Prelude.{◌⊎◌, ◌↔◌}
use Rattle.std.specs.FinSet.{empty}
use Rattle.std.proofs.lemmas.Bool.{cases_eq}
use Rattle.control_table.specs.sci_telegram.declared.message.Side.{Side}
use Rattle.control_table.specs.sci_telegram.declared.message.Side.TheVariants as side
use Rattle.control_table.specs.layout.declared.ids.SectionId.{SectionId}
use Rattle.control_table.specs.layout.declared.ids.PointId.{PointId}
use Rattle.control_table.specs.layout.declared.ids.RouteId.{RouteId}
use Rattle.control_table.specs.bit_row.Places.{Places, Has, IsPart}
use Rattle.control_table.specs.Table.{Lists, RouteRequires, SameEntry}
use Rattle.route_lock.specs.Locks.{AllApart, Apart, AreAllSections, Blocks, Holds, IsSet, LockState, LocksSection, locked_by, locking}

same-side : (t u : Side) → (t ≢ u → ⊥) → t ≡ u
same-side side.Right side.Right h = refl
same-side side.Left side.Left h = refl
same-side side.Right side.Left h = absurd (h (λ e. let f : Side → Type 0 = λ s. elim s [ side.Right ↦ Unit {0} | side.Left ↦ ⊥ ] in subst f e tt))
same-side side.Left side.Right h = absurd (h (λ e. let f : Side → Type 0 = λ s. elim s [ side.Left ↦ Unit {0} | side.Right ↦ ⊥ ] in subst f e tt))

module _ (st : LockState) (r : RouteId) (ss : Places) (lt : r.0 < length st.locked) where
  abbrev after : LockState
  after = locking st r ss

  locked-same : locked_by after r ≡ ss
  locked-same = get_or-set_same st.locked r.0 ss empty lt

  locked-other : (a : RouteId) → a ≢ r → locked_by after a ≡ locked_by st a
  locked-other a ne = let apart : a.0 ≢ r.0 = λ e. ne (λ i. record { 0 = e i }) in rw get_or-set_other refl

  is-or-not : (P : Type 0) (a : RouteId) → (a ≡ r → P) → (a ≢ r → P) → P
  is-or-not P a same other = ⊎_elim (λ e. same (λ i. record { 0 = e i })) (λ ne. other (λ e. ne (ap (λ (x : RouteId). x.0) e))) (cases_eq a.0 r.0)

  holds-by : (a : RouteId) → ((j : ℕ) → Has (locked_by after a) j → Has (locked_by st a) j) → (p : PointId) (t : Side) → Holds after a p t → Holds st a p t
  holds-by a sub p t h = (h.0, (h.1.0, h.1.1, sub h.1.0.0 h.1.2))

  -- ---- freeing

  module _ (part : IsPart ss (locked_by st r)) where
    sub : (a : RouteId) (j : ℕ) → Has (locked_by after a) j → Has (locked_by st a) j
    sub a j h =
        is-or-not (Has (locked_by st a) j) a
        (λ e. subst (λ (x : RouteId). Has (locked_by st x) j) (sym e) (part j (subst (λ (x : Places). Has x j) locked-same (subst (λ (x : RouteId). Has (locked_by after x) j) e h))))
        (λ ne. subst (λ (x : Places). Has x j) (locked-other a ne) h)

    pub freed-apart : AllApart st → AllApart after
    freed-apart all a b ne h g =
        let old = all a b ne (h.0, sub a h.0 h.1) (g.0, sub b g.0 g.1) in
        record {
          entries = old.entries;
          extra = old.extra;
          sections = λ s x y. old.sections s (sub a s.0 x) (sub b s.0 y);
          points = λ p t u x y. old.points p t u (holds-by a (sub a) p t x) (holds-by b (sub b) p u y);
        }

  -- ---- reserving

  module _ (free : IsSet st r → ⊥) (clear : (a : RouteId) → Blocks st a r → ⊥) (its : AreAllSections st.table r ss) where
    keep : (a : RouteId) → a ≢ r → (j : ℕ) → Has (locked_by after a) j → Has (locked_by st a) j
    keep a ne j h = subst (λ (x : Places). Has x j) (locked-other a ne) h

    new : (s : SectionId) → LocksSection after r s → Has ss s.0
    new s h = subst (λ (x : Places). Has x s.0) locked-same h

    beside : (a : RouteId) → a ≢ r → IsSet after a → Apart after a r
    beside a ne h =
        let set : IsSet st a = (h.0, keep a ne h.0 h.1) in
        record {
          entries = λ e. clear a (set, ne, inl (inl e));
          extra = λ x. clear a (set, ne, inl (inr (inl x)));
          sections = λ s x y. clear a (set, ne, inl (inr (inr (inr (s, keep a ne s.0 x, (its s).0 (new s y))))));
          points = λ p t u x y. same-side t u (λ differ. clear a (set, ne, inr (p, (t, u, holds-by a (keep a ne) p t x, y.0, differ))));
        }

    turned : (a : RouteId) → a ≢ r → IsSet after a → Apart after r a
    turned a ne h =
        let set : IsSet st a = (h.0, keep a ne h.0 h.1) in
        let one = beside a ne h in
        record {
          entries = λ e. clear a (set, ne, inl (inl (e.1, e.0, e.3, e.2, sym e.4)));
          extra = λ x. clear a (set, ne, inl (inr (inr (inl x))));
          sections = λ s x y. one.sections s y x;
          points = λ p t u x y. sym (one.points p u t y x);
        }

    between : AllApart st → (a b : RouteId) → a ≢ b → a ≢ r → b ≢ r → IsSet after a → IsSet after b → Apart after a b
    between all a b ne away off h g =
        let old = all a b ne (h.0, keep a away h.0 h.1) (g.0, keep b off g.0 g.1) in
        record {
          entries = old.entries;
          extra = old.extra;
          sections = λ s x y. old.sections s (keep a away s.0 x) (keep b off s.0 y);
          points = λ p t u x y. old.points p t u (holds-by a (keep a away) p t x) (holds-by b (keep b off) p u y);
        }

    pub reserved-apart : AllApart st → AllApart after
    reserved-apart all a b ne h g =
        is-or-not (Apart after a b) a
        (λ e. subst (λ (x : RouteId). Apart after x b) (sym e) (turned b (λ f. ne (e ∙ sym f)) g))
        (λ away. is-or-not (Apart after a b) b
        (λ e. subst (λ (x : RouteId). Apart after a x) (sym e) (beside a away h))
        (λ off. between all a b ne away off h g))
