-- What the phases give is what the locks say.
use Rattle.std.proofs.Common.{◌≡◌, ◌∙◌, ◌⊎◌, Bool, not, ◌&&◌, ◌||◌, ◌==◌, nat_lt, ℕ, zero, suc, ◌+◌, ◌<◌, ◌≤◌, List, [], ◌∷◌, map, drop, Some, refl, sym, ap, subst, inl, inr, ⊎_elim, arith}
use Rattle.std.specs.Prelude.{slice_get, ◌↔◌, IsTrue}
use Rattle.std.specs.List.{Contains, list_any}
use Rattle.std.specs.Bool.{Decides}
use Rattle.std.proofs.lemmas.Bool.{eqb-true, eq-eqb, false≢true, ltb-true, lt-ltb}
use Rattle.std.proofs.lemmas.Bool.Decides.{Decides-and, Decides-like, Decides-not, Decides-or}
use Rattle.std.proofs.lemmas.List.Elements.{All-contains}
use Rattle.ixl_spec.specs.sci_telegram.declared.message.Side.{Side}
use Rattle.ixl_spec.specs.sci_telegram.declared.message.Side.TheVariants as side
use Rattle.ixl_spec.specs.layout.declared.ids.SectionId.{SectionId}
use Rattle.ixl_spec.specs.layout.declared.ids.PointId.{PointId}
use Rattle.ixl_spec.specs.layout.declared.ids.RouteId.{RouteId}
use Rattle.ixl_spec.specs.layout.declared.ids.SignalId.{SignalId}
use Rattle.ixl_spec.specs.layout.Entries.{Site, RouteEntry}
use Rattle.ixl_spec.specs.control_table.AwaitedSections.{Awaits}
use Rattle.ixl_spec.specs.control_table.Table.{AreSections, LeadsOver, Lists, RouteRequires, SameEntry}
use Rattle.route_lock.specs.Locks.{Blocks, Clashes, Holds, HoldsAgainst, IsSet, LockState, LocksSection}
use Rattle.ixl_spec.specs.Table.{Need, Row, is_same_side}
use Rattle.ixl_spec.specs.State.{RouteState}
use Rattle.ixl_spec.specs.View.{blocks, freed_sections, holds_need, holds_point, holds_point_at, holds_point_elsewhere, holds_section, is_set}
use Rattle.ixl_spec.specs.Due.{HoldsSection}
use Rattle.ixl_spec.specs.declared.phase.Phase.{Phase}
use Rattle.ixl_table.specs.Table.{IsHeldUntil, IsRowOf, IsTableOf, SitedTable, as_point, as_route, as_section}
use Rattle.ixl_table.specs.Locks.{AreLocksOf, HaveSectionsLeft, IsKeptRoute}
use Rattle.ixl_table.proofs.Lists.{contains-cases, contains-get, contains-here, contains-map, contains-none, contains-there, get-below, get-contains, map-contains, none-some, some-injective}

-- ---- tests of lists

any-decides : {A : Type 0} (f : A → Bool) (P : A → Type 0) → ((x : A) → Decides (f x) (P x)) → (xs : List A) → Decides (list_any f xs) ((x : A) × Contains xs x × P x)
any-decides f P each [] = (λ h. absurd (false≢true h), λ h. absurd (contains-none h.0 h.1))
any-decides {A} f P each (x ∷ xs) =
    let some : Type 0 = (y : A) × Contains xs y × P y in
    let up : (P x) ⊎ some → (y : A) × Contains (x ∷ xs) y × P y = λ h. ⊎_elim (λ here. (x, contains-here x xs, here)) (λ later. (later.0, contains-there x later.0 xs later.1, later.2)) h in
    let down : ((y : A) × Contains (x ∷ xs) y × P y) → (P x) ⊎ some = λ h. ⊎_elim (λ e. inl (subst P (sym e) h.2)) (λ later. inr (h.0, later, h.2)) (contains-cases x h.0 xs h.1) in
    Decides-like (f x || list_any f xs) up down (Decides-or (f x) (list_any f xs) (each x) (any-decides f P each xs))

same-decides : (a b : ℕ) → Decides (a == b) (a ≡ b)
same-decides a b = (eqb-true a b, eq-eqb a b)

less-decides : (a b : ℕ) → Decides (nat_lt a b) (a < b)
less-decides a b = (ltb-true a b, lt-ltb a b)

itself : (b : Bool) → Decides b (IsTrue b)
itself b = (λ h. h, λ h. h)

among-decides : (n : ℕ) (xs : List ℕ) → Decides (list_any (λ other. other == n) xs) (Contains xs n)
among-decides n xs =
    Decides-like (list_any (λ other. other == n) xs) (λ h. subst (λ (m : ℕ). Contains xs m) h.2 h.1) (λ c. (n, c, refl)) (any-decides (λ other. other == n) (λ other. other ≡ n) (λ other. same-decides other n) xs)

side-decides : (s t : Side) → Decides (is_same_side s t) (s ≡ t)
side-decides side.Right side.Right = (λ h. refl, λ e. refl)
side-decides side.Left side.Left = (λ h. refl, λ e. refl)
side-decides side.Right side.Left = (λ h. absurd (false≢true h), λ e. absurd (false≢true (ap (λ (s : Side). is_same_side s side.Left) e)))
side-decides side.Left side.Right = (λ h. absurd (false≢true h), λ e. absurd (false≢true (ap (λ (s : Side). is_same_side s side.Right) e)))

section-decides : (row : Row) (p : Phase) (n : ℕ) → Decides (holds_section row p n) (HoldsSection row p n)
section-decides row p n = Decides-and (is_set p) (list_any (λ other. other == n) (drop (freed_sections p) row.sections)) (itself (is_set p)) (among-decides n (drop (freed_sections p) row.sections))

need-decides : (p : Phase) (need : Need) → Decides (holds_need p need) (IsTrue (is_set p) × (freed_sections p < need.until))
need-decides p need = Decides-and (is_set p) (nat_lt (freed_sections p) need.until) (itself (is_set p)) (less-decides (freed_sections p) need.until)

-- ---- lists without their first

drop-get : {A : Type 0} (n : ℕ) (xs : List A) (i : ℕ) (x : A) → slice_get (drop n xs) i ≡ Some x → slice_get xs (n + i) ≡ Some x
drop-get zero xs i x e = let same : i ≡ zero + i = omega arith in subst (λ (k : ℕ). slice_get xs k ≡ Some x) same e
drop-get (suc n) [] i x e = absurd (none-some x e)
drop-get (suc n) (w ∷ xs) i x e = let same : suc (n + i) ≡ suc n + i = omega arith in subst (λ (k : ℕ). slice_get (w ∷ xs) k ≡ Some x) same (drop-get n xs i x e)

get-drop : {A : Type 0} (n : ℕ) (xs : List A) (i : ℕ) (x : A) → n ≤ i → slice_get xs i ≡ Some x → Contains (drop n xs) x
get-drop zero xs i x le e = get-contains xs i x e
get-drop (suc n) [] i x le e = absurd (none-some x e)
get-drop (suc n) (w ∷ xs) zero x le e = absurd (omega (arith, le))
get-drop (suc n) (w ∷ xs) (suc i) x le e = get-drop n xs i x (omega (arith, le)) e

-- ---- one route

module _ (sited : SitedTable) (routes : List RouteState) (locks : LockState) (are : AreLocksOf sited routes locks) where
  abbrev l : Site
  l = sited.site

  module _ (number : ℕ) (row : Row) (route : RouteState) (is : IsKeptRoute sited.table routes number row route) where
    abbrev a : RouteId
    a = as_route number

    pub set-is : HaveSectionsLeft sited.table routes → IsSet locks a ↔ IsTrue (is_set route.phase)
    set-is left = (
      λ h. ((are.locked number row route is h.0).0 h.1).0,
      λ set.
          let lt = left number row route is set in
          let s = get-below row.sections (freed_sections route.phase) lt in
          (s.0, (are.locked number row route is s.0).1 (set, get-drop (freed_sections route.phase) row.sections (freed_sections route.phase) s.0 (omega arith) s.1)),
    )

    module _ (table : IsTableOf l sited.table) where
      its : IsRowOf l a row
      its = table.rows.their number row is.0

      -- a need of the row
      asked : (p : PointId) (t : Side) → RouteRequires l a p t → (need : Need) × Contains row.needs need × ◌≡◌ {A = PointId × Side} (as_point need.point, need.side) (p, t)
      asked p t h = contains-map (λ (n : Need). (as_point n.point, n.side)) row.needs (p, t) ((its.needs.points p t).1 h)

      need-required : (need : Need) → Contains row.needs need → RouteRequires l a (as_point need.point) need.side
      need-required need c = (its.needs.points (as_point need.point) need.side).0 (map-contains (λ (n : Need). (as_point n.point, n.side)) row.needs need c)

      -- a point is held until so many sections are freed
      held-less : (need : Need) → Contains row.needs need → (s : SectionId) → Awaits l a (as_point need.point) s → LocksSection locks a s → IsTrue (is_set route.phase) × (freed_sections route.phase < need.until)
      held-less need c s awaits locked =
          let h = (are.locked number row route is s.0).0 locked in
          let k = contains-get (drop (freed_sections route.phase) row.sections) s.0 h.1 in
          let u = All-contains (IsHeldUntil l a row.sections) row.needs need its.until c in
          let le = u.last (freed_sections route.phase + k.0) s.0 (drop-get (freed_sections route.phase) row.sections k.0 s.0 k.1) awaits in
          let until = u.until in
          (h.0, omega (arith, le, until))

      less-held : (need : Need) → Contains row.needs need → IsTrue (is_set route.phase) → freed_sections route.phase < need.until → (s : SectionId) × Awaits l a (as_point need.point) s × LocksSection locks a s
      less-held need c set lt =
          let u = All-contains (IsHeldUntil l a row.sections) row.needs need its.until c in
          let until = u.until in
          (as_section u.section, u.awaited, (are.locked number row route is u.section).1 (set, get-drop (freed_sections route.phase) row.sections u.place u.section (omega (arith, lt, until)) u.stands))

      -- what is held, by a need
      abbrev HoldsBy : Need → Type 0
      HoldsBy need = IsTrue (is_set route.phase) × (freed_sections route.phase < need.until)

      pub holds-from : (p : PointId) (t : Side) → Holds locks a p t → (need : Need) × Contains row.needs need × (as_point need.point ≡ p) × (need.side ≡ t) × HoldsBy need
      holds-from p t h =
          let required : RouteRequires l a p t = subst (λ (m : Site). RouteRequires m a p t) are.site h.0 in
          let n = asked p t required in
          let point : as_point n.0.point ≡ p = ap (λ (x : PointId × Side). x.0) n.2 in
          let awaits : Awaits l a p h.1.0 = subst (λ (m : Site). Awaits m a p h.1.0) are.site h.1.1 in
          (n.0, n.1, point, ap (λ (x : PointId × Side). x.1) n.2, held-less n.0 n.1 h.1.0 (subst (λ (q : PointId). Awaits l a q h.1.0) (sym point) awaits) h.1.2)

      pub holds-to : (need : Need) → Contains row.needs need → HoldsBy need → Holds locks a (as_point need.point) need.side
      holds-to need c by =
          let s = less-held need c by.0 by.1 in (
            subst (λ (m : Site). RouteRequires m a (as_point need.point) need.side) (sym are.site) (need-required need c),
            (s.0, subst (λ (m : Site). Awaits m a (as_point need.point) s.0) (sym are.site) s.1, s.2),
          )

      at-side-decides : (point : ℕ) (t : Side) → Decides (holds_point_at row route.phase point t) ((need : Need) × Contains row.needs need × (((need.point ≡ point) × (need.side ≡ t)) × HoldsBy need))
      at-side-decides point t =
          any-decides (λ need. need.point == point && is_same_side need.side t && holds_need route.phase need) (λ need. ((need.point ≡ point) × (need.side ≡ t)) × HoldsBy need)
          (λ need. Decides-and (need.point == point && is_same_side need.side t) (holds_need route.phase need)
          (Decides-and (need.point == point) (is_same_side need.side t) (same-decides need.point point) (side-decides need.side t)) (need-decides route.phase need)) row.needs

      pub point-held : (point : ℕ) (t : Side) → Holds locks a (as_point point) t ↔ IsTrue (holds_point_at row route.phase point t)
      point-held point t = (
        λ h. let n = holds-from (as_point point) t h in (at-side-decides point t).1 (n.0, n.1, ((ap (λ (q : PointId). q.0) n.2, n.3), n.4)),
        λ h. let n = (at-side-decides point t).0 h in
            subst (λ (s : Side). Holds locks a (as_point point) s) n.2.0.1 (subst (λ (q : ℕ). Holds locks a (as_point q) n.0.side) n.2.0.0 (holds-to n.0 n.1 n.2.1)),
      )

      any-side-decides : (point : ℕ) → Decides (holds_point row route.phase point) ((need : Need) × Contains row.needs need × ((need.point ≡ point) × HoldsBy need))
      any-side-decides point =
          any-decides (λ need. need.point == point && holds_need route.phase need) (λ need. (need.point ≡ point) × HoldsBy need)
          (λ need. Decides-and (need.point == point) (holds_need route.phase need) (same-decides need.point point) (need-decides route.phase need)) row.needs

      pub point-held-somewhere : (point : ℕ) → ((t : Side) × Holds locks a (as_point point) t) ↔ IsTrue (holds_point row route.phase point)
      point-held-somewhere point = (
        λ h. let n = holds-from (as_point point) h.0 h.1 in (any-side-decides point).1 (n.0, n.1, (ap (λ (q : PointId). q.0) n.2, n.4)),
        λ h. let n = (any-side-decides point).0 h in (n.0.side, subst (λ (q : ℕ). Holds locks a (as_point q) n.0.side) n.2.0 (holds-to n.0 n.1 n.2.1)),
      )

      -- ---- one route and another

      module _ (wanted : ℕ) (wanted_row : Row) (wanted_route : RouteState) (wanted_is : IsKeptRoute sited.table routes wanted wanted_row wanted_route)
          (over : (a : RouteId) (ss : List SectionId) → AreSections l a ss → (s : SectionId) → Contains ss s ↔ LeadsOver l a s) (left : HaveSectionsLeft sited.table routes) where
        abbrev b : RouteId
        b = as_route wanted

        other : IsRowOf l b wanted_row
        other = table.rows.their wanted wanted_row wanted_is.0

        at-site : (P : Site → Type 0) → P locks.table → P l
        at-site P h = subst P are.site h

        at-locks : (P : Site → Type 0) → P l → P locks.table
        at-locks P h = subst P (sym are.site) h

        same-entry : SameEntry l a b ↔ (row.entry ≡ wanted_row.entry)
        same-entry = (
          λ h.
              let r : its.written ≡ h.0 = some-injective its.written h.0 (sym its.is_route ∙ h.2) in
              let q : other.written ≡ h.1 = some-injective other.written h.1 (sym other.is_route ∙ h.3) in
              its.entry ∙ ap (λ (x : RouteEntry). x.entry.0) r ∙ ap (λ (x : SignalId). x.0) h.4 ∙ sym (ap (λ (x : RouteEntry). x.entry.0) q) ∙ sym other.entry,
          λ e. let same : its.written.entry.0 ≡ other.written.entry.0 = sym its.entry ∙ e ∙ other.entry in
              (its.written, other.written, its.is_route, other.is_route, (λ i. record { 0 = same i })),
        )

        listed : (c d : RouteId) (one : Row) → IsRowOf l c one → Lists l c d ↔ Contains one.extra d.0
        listed c d one its_row = (
          λ h.
              let r : h.0 ≡ its_row.written = some-injective h.0 its_row.written (sym h.1 ∙ its_row.is_route) in
              let x = contains-map as_route one.extra d (subst (λ (rs : List RouteId). Contains rs d) (sym its_row.extra) (subst (λ (x : RouteEntry). Contains x.extra d) r h.2)) in
              subst (λ (n : ℕ). Contains one.extra n) (ap (λ (x : RouteId). x.0) x.2) x.1,
          λ h. (its_row.written, its_row.is_route, subst (λ (rs : List RouteId). Contains rs d) its_row.extra (map-contains as_route one.extra d.0 h)),
        )

        over-section : (n : ℕ) → LeadsOver l b (as_section n) ↔ Contains wanted_row.sections n
        over-section n = (
          λ h. let c = contains-map as_section wanted_row.sections (as_section n) ((over b (map as_section wanted_row.sections) other.sections (as_section n)).1 h) in
              subst (λ (m : ℕ). Contains wanted_row.sections m) (ap (λ (s : SectionId). s.0) c.2) c.1,
          λ c. (over b (map as_section wanted_row.sections) other.sections (as_section n)).0 (map-contains as_section wanted_row.sections n c),
        )

        -- a point that is held elsewhere
        abbrev Elsewhere : Need → Need → Type 0
        Elsewhere need held = ((held.point ≡ need.point) × (held.side ≡ need.side → ⊥)) × HoldsBy held

        elsewhere-decides : (need : Need) → Decides (holds_point_elsewhere row route.phase need) ((held : Need) × Contains row.needs held × Elsewhere need held)
        elsewhere-decides need =
            any-decides (λ held. held.point == need.point && not (is_same_side held.side need.side) && holds_need route.phase held) (Elsewhere need)
            (λ held. Decides-and (held.point == need.point && not (is_same_side held.side need.side)) (holds_need route.phase held)
            (Decides-and (held.point == need.point) (not (is_same_side held.side need.side)) (same-decides held.point need.point) (Decides-not (is_same_side held.side need.side) (side-decides held.side need.side)))
            (need-decides route.phase held)) row.needs

        abbrev SomeElsewhere : Type 0
        SomeElsewhere = (need : Need) × Contains wanted_row.needs need × ((held : Need) × Contains row.needs held × Elsewhere need held)

        against : ((p : PointId) × HoldsAgainst locks a b p) ↔ SomeElsewhere
        against = (
          λ h.
              let p = h.0 in
              let held = holds-from p h.1.0 h.1.2 in
              let asked_for = contains-map (λ (n : Need). (as_point n.point, n.side)) wanted_row.needs (p, h.1.1) ((other.needs.points p h.1.1).1 (at-site (λ m. RouteRequires m b p h.1.1) h.1.3)) in
              let need = asked_for.0 in
              let point : as_point need.point ≡ p = ap (λ (x : PointId × Side). x.0) asked_for.2 in
              let at : need.side ≡ h.1.1 = ap (λ (x : PointId × Side). x.1) asked_for.2 in
              (need, asked_for.1, (held.0, held.1, ((ap (λ (q : PointId). q.0) (held.2 ∙ sym point), (λ e. h.1.4 (sym held.3 ∙ e ∙ at))), held.4))),
          λ h.
              let need = h.0 in
              let held = h.2.0 in (
                as_point need.point,
                (
                  held.side,
                  need.side,
                  subst (λ (q : ℕ). Holds locks a (as_point q) held.side) h.2.2.0.0 (holds-to held h.2.1 h.2.2.1),
                  at-locks (λ m. RouteRequires m b (as_point need.point) need.side) ((other.needs.points (as_point need.point) need.side).0 (map-contains (λ (n : Need). (as_point n.point, n.side)) wanted_row.needs need h.1)),
                  h.2.2.0.1,
                ),
              ),
        )

        abbrev Reasons : Type 0
        Reasons = ((((row.entry ≡ wanted_row.entry) ⊎ Contains row.extra wanted) ⊎ Contains wanted_row.extra number) ⊎ ((n : ℕ) × Contains wanted_row.sections n × HoldsSection row route.phase n)) ⊎ SomeElsewhere

        why-decides : Decides
            (row.entry == wanted_row.entry || list_any (λ other. other == wanted) row.extra || list_any (λ other. other == number) wanted_row.extra
            || list_any (holds_section row route.phase) wanted_row.sections || list_any (holds_point_elsewhere row route.phase) wanted_row.needs) Reasons
        why-decides =
            Decides-or _ _ (Decides-or _ _ (Decides-or _ _ (Decides-or _ _ (same-decides row.entry wanted_row.entry) (among-decides wanted row.extra)) (among-decides number wanted_row.extra))
            (any-decides (holds_section row route.phase) (HoldsSection row route.phase) (section-decides row route.phase) wanted_row.sections))
            (any-decides (holds_point_elsewhere row route.phase) (λ need. (held : Need) × Contains row.needs held × Elsewhere need held) elsewhere-decides wanted_row.needs)

        blocks-decides : Decides (blocks wanted wanted_row number row route) (((number ≡ wanted → ⊥) × IsTrue (is_set route.phase)) × Reasons)
        blocks-decides = Decides-and _ _ (Decides-and _ _ (Decides-not _ (same-decides number wanted)) (itself (is_set route.phase))) why-decides

        locked-section : (n : ℕ) → LocksSection locks a (as_section n) ↔ HoldsSection row route.phase n
        locked-section n = are.locked number row route is n

        clash-from : Clashes locks a b → Reasons
        clash-from (inl e) = inl (inl (inl (inl (same-entry.0 (at-site (λ m. SameEntry m a b) e)))))
        clash-from (inr (inl e)) = inl (inl (inl (inr ((listed a b row its).0 (at-site (λ m. Lists m a b) e)))))
        clash-from (inr (inr (inl e))) = inl (inl (inr ((listed b a wanted_row other).0 (at-site (λ m. Lists m b a) e))))
        clash-from (inr (inr (inr h))) = inl (inr (h.0.0, (over-section h.0.0).0 (at-site (λ m. LeadsOver m b h.0) h.2), (locked-section h.0.0).0 h.1))

        reason-to : Reasons → Clashes locks a b ⊎ ((p : PointId) × HoldsAgainst locks a b p)
        reason-to (inl (inl (inl (inl e)))) = inl (inl (at-locks (λ m. SameEntry m a b) (same-entry.1 e)))
        reason-to (inl (inl (inl (inr e)))) = inl (inr (inl (at-locks (λ m. Lists m a b) ((listed a b row its).1 e))))
        reason-to (inl (inl (inr e))) = inl (inr (inr (inl (at-locks (λ m. Lists m b a) ((listed b a wanted_row other).1 e)))))
        reason-to (inl (inr h)) = inl (inr (inr (inr (as_section h.0, (locked-section h.0).1 h.2, at-locks (λ m. LeadsOver m b (as_section h.0)) ((over-section h.0).1 h.1)))))
        reason-to (inr h) = inr (against.1 h)

        pub blocks-is : Blocks locks a b ↔ IsTrue (blocks wanted wanted_row number row route)
        blocks-is = (
          λ h. blocks-decides.1 (((λ e. h.1 (λ i. as_route (e i))), (set-is left).0 h.0), ⊎_elim clash-from (λ x. inr (against.0 x)) h.2),
          λ h. let x = blocks-decides.0 h in ((set-is left).1 x.0.1, (λ e. x.0.0 (ap (λ (r : RouteId). r.0) e)), reason-to x.1),
        )
