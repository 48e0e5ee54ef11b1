-- Which sections a required point awaits.
use Rattle.std.proofs.Common.{◌≡◌, ◌≢◌, Bool, true, false, ◌||◌, ◌==◌, ℕ, List, [], ◌∷◌, length, get_or, Option, Some, None, if◌then◌else◌, refl, sym, ap, subst, ◌∙◌, inl, inr, ⊎_elim, arith}
use Rattle.std.specs.Prelude.{slice_get, ◌⊎◌, ◌↔◌, IsTrue}
use Rattle.std.specs.Bool.{Decides}
use Rattle.std.specs.List.{Contains, fold}
use Rattle.std.specs.Ordering.{nat_cmp}
use Rattle.std.specs.Cmp.{nat_cmp_total, unsigned_tied}
use Rattle.std.specs.FinSet.{contains, empty, insert, contains-empty, contains-insert}
use Rattle.std.proofs.lemmas.Bool.{false≢true}
use Rattle.std.proofs.lemmas.Bool.Decides.{Decides-at, Decides-or, Decides-like}
use Rattle.sci_telegram.specs.declared.message.Side.{Side}
use Rattle.layout.specs.declared.ids.SectionId.{SectionId}
use Rattle.layout.specs.declared.ids.PointId.{PointId}
use Rattle.layout.specs.declared.ids.RouteId.{RouteId}
use Rattle.layout.specs.declared.port.Element.TheVariants as element
use Rattle.layout.specs.Entries.{RouteEntry, Site}
use Rattle.layout.specs.Once.{Once}
use Rattle.layout.specs.Station.{IsStation}
use Rattle.bit_row.specs.Places.{Places, Has}
use Rattle.control_table.specs.declared.sides.FlankProtection.{FlankProtection}
use Rattle.control_table.specs.Topology.{IsRoute, section_of}
use Rattle.control_table.specs.Path.{Passage, Path}
use Rattle.control_table.specs.Sides.{OnPath, Requires}
use Rattle.control_table.specs.Table.{AreProtections, LeadsOver, Protects, RouteRequires, Sound}
use Rattle.control_table.specs.AwaitedSections.{Awaits, InSection, OnRoute}
use Rattle.control_table.specs.inside.TableTests.{names_point, with_section, guarded_sections, awaited_by}
use Rattle.control_table.proofs.Joints.{OneBeyond, one-beyond}
use Rattle.control_table.proofs.Judged.{none-some}
use Rattle.control_table.proofs.Members.{contains-none, contains-here, contains-there, contains-cases, some-injective}
use Rattle.control_table.proofs.Same.{section-decides, point-decides}
use Rattle.control_table.proofs.PathLaws.{one-path}
use Rattle.control_table.proofs.SideLaws.{names-decides}
use Rattle.control_table.proofs.TableLaws.{place_at}
use Rattle.control_table.proofs.ConflictLaws.{get-below}
use Rattle.control_table.proofs.There.{point-section}

put : (s : Places) (j k : ℕ) → contains (insert s j) k ≡ ((k == j) || contains s k)
put s j k = contains-insert nat_cmp_total s j k ∙ ap (λ b. b || contains s k) (unsigned_tied k j)

has-none : (k : ℕ) → Has empty k → ⊥
has-none k h = false≢true (sym (contains-empty nat_cmp k) ∙ h)

with-decides : (o : Option SectionId) (row : Places) (s : SectionId) → Decides (contains (with_section o row) s.0) ((o ≡ Some s) ⊎ Has row s.0)
with-decides None row s = (λ h. inr h, λ h. ⊎_elim (λ e. absurd (none-some s e)) (λ k. k) h)
with-decides (Some t) row s =
    Decides-at _ _ (put row t.0 s.0)
    (Decides-like ((s.0 == t.0) || contains row s.0)
    (λ h. ⊎_elim (λ e. inl (ap Some (sym e))) (λ k. inr k) h)
    (λ h. ⊎_elim (λ e. inl (sym (some-injective t s e))) (λ k. inr k) h)
    (Decides-or (s.0 == t.0) (contains row s.0) (section-decides s t) (λ h. h, λ h. h)))

abbrev guard : PointId → PointId → FlankProtection
guard q p = record { flank = q; point = p }

module _ (l : Site) (p : PointId) (s : SectionId) where
  abbrev Guarded : List FlankProtection → Type 0
  Guarded flanks = (q : PointId) × Contains flanks (guard p q) × InSection l q s

  same-guard : (f : FlankProtection) (q : PointId) → f ≡ guard p q → (f.flank ≡ p) × (f.point ≡ q)
  same-guard f q e = (ap (λ (x : FlankProtection). x.flank) e, ap (λ (x : FlankProtection). x.point) e)

  -- one guard more
  guarded-step : (f : FlankProtection) (flanks : List FlankProtection) (row : Places) (b : Bool) → Decides b (f.flank ≡ p)
      → Decides (contains (if b then with_section (section_of l (element.Point f.point)) row else row) s.0) (Has row s.0 ⊎ ((f.flank ≡ p) × InSection l f.point s))
  guarded-step f flanks row true d =
      Decides-like _ (λ h. ⊎_elim (λ e. inr (d.0 refl, e)) (λ k. inl k) h) (λ h. ⊎_elim (λ k. inr k) (λ g. inl g.1) h) (with-decides (section_of l (element.Point f.point)) row s)
  guarded-step f flanks row false d = (λ h. inl h, λ h. ⊎_elim (λ k. k) (λ g. absurd (false≢true (d.1 g.0))) h)

  guarded-decides : (flanks : List FlankProtection) (row : Places)
      → Decides (contains (fold (λ row f. if f.flank.0 == p.0 then with_section (section_of l (element.Point f.point)) row else row) row flanks) s.0) (Has row s.0 ⊎ Guarded flanks)
  guarded-decides [] row = (λ h. inl h, λ h. ⊎_elim (λ k. k) (λ g. absurd (contains-none (guard p g.0) g.1)) h)
  guarded-decides (f ∷ flanks) row =
      let next : Places = if f.flank.0 == p.0 then with_section (section_of l (element.Point f.point)) row else row in
      let here = guarded-step f flanks row (f.flank.0 == p.0) (point-decides f.flank p) in
      Decides-like _
      (λ h. ⊎_elim (λ k. ⊎_elim (λ b. inl b) (λ g. inr (f.point, subst (λ (x : FlankProtection). Contains (f ∷ flanks) x) (λ i. record { flank = g.0 i; point = f.point }) (contains-here f flanks), g.1)) (here.0 k)) (λ g. inr (g.0, contains-there f (guard p g.0) flanks g.1, g.2)) h)
      (λ h. ⊎_elim (λ k. inl (here.1 (inl k))) (λ g. ⊎_elim (λ e. let same = same-guard f g.0 e in inl (here.1 (inr (same.0, subst (λ (x : PointId). InSection l x s) (sym same.1) g.2)))) (λ c. inr (g.0, c, g.2)) (contains-cases f (guard p g.0) flanks g.1)) h)
      (guarded-decides flanks next)

-- ---- the points on a path are written under `points`

on-route-decides : (l : Site) → Once l → Sound l → (a : RouteId) (r : RouteEntry) → IsRoute l a r → (p : PointId) → Decides (names_point r.points p) (OnRoute l a p)
on-route-decides l once sound a r at p =
    let h = sound a r at in
    let one = one-beyond l once in
    Decides-like (names_point r.points p)
    (λ w. (r, h.path, at, h.is_path, ((h.writes.points p w.0).0 w.1).1))
    (λ k. let same : k.0 ≡ r = some-injective k.0 r (sym k.2 ∙ at) in
    let is : Path l r k.1 = subst (λ (x : RouteEntry). Path l x k.1) same k.3 in
    let path = one-path l one r (place_at 0 r.name) k.1 h.path is.follows h.is_path.follows in
    let on : OnPath h.path p = subst (λ (x : List Passage). OnPath x p) path k.4 in
    (on.1, (h.writes.points p on.1).1 ((on.0, on.2, inl on.3), on)))
    (names-decides r.points p)

module _ (l : Site) (a : RouteId) (r : RouteEntry) (flanks : List FlankProtection) (p : PointId) (s : SectionId) (at : IsRoute l a r) (are : AreProtections l a flanks) where
  awaits-by : (b : Bool) → Decides b (OnRoute l a p)
      → Decides (contains (if b then with_section (section_of l (element.Point p)) empty else guarded_sections l p flanks) s.0) (Awaits l a p s)
  awaits-by true d =
      Decides-like _
      (λ h. ⊎_elim (λ e. inl (d.0 refl, e)) (λ k. absurd (has-none s.0 k)) h)
      (λ h. ⊎_elim (λ k. inl k.1) (λ k. absurd (k.0 (d.0 refl))) h)
      (with-decides (section_of l (element.Point p)) empty s)
  awaits-by false d =
      Decides-like _
      (λ h. ⊎_elim (λ k. absurd (has-none s.0 k)) (λ g. inr (λ on. false≢true (d.1 on), (g.0, (are p g.0).0 g.1, g.2))) h)
      (λ h. ⊎_elim (λ k. absurd (false≢true (d.1 k.0))) (λ k. inr (k.1.0, (are p k.1.0).1 k.1.1, k.1.2)) h)
      (guarded-decides l p s flanks empty)

  pub awaits-decides : Once l → Sound l → Decides (contains (awaited_by l r flanks p) s.0) (Awaits l a p s)
  unfolding awaited_by
  awaits-decides once sound = awaits-by (names_point r.points p) (on-route-decides l once sound a r at p)

-- ---- what is required awaits a section of the route

on-path-section : (l : Site) → IsStation l → (a : RouteId) (p : PointId) → OnRoute l a p → (s : SectionId) × InSection l p s × LeadsOver l a s
on-path-section l station a p h = point-section l station a h.0 h.1 p h.2 h.3 h.4

awaits-some : (l : Site) → IsStation l → (a : RouteId) (p : PointId) (t : Side) → RouteRequires l a p t → (b : Bool) → Decides b (OnRoute l a p) → (s : SectionId) × Awaits l a p s × LeadsOver l a s
awaits-some l station a p t need true d = let h = on-path-section l station a p (d.0 refl) in (h.0, inl (d.0 refl, h.1), h.2)
awaits-some l station a p t need false d =
    let off : OnRoute l a p → ⊥ = λ on. false≢true (d.1 on) in
    let needed = need.4 in
    ⊎_elim
    (λ by. absurd (off (need.0, need.1, need.2, need.3, (needed.0, t, needed.1, by))))
    (λ flank. let on : OnRoute l a flank.0 = (need.0, need.1, need.2, need.3, (needed.0, flank.1, needed.1, flank.2)) in
    let h = on-path-section l station a flank.0 on in
    (h.0, inr (off, (flank.0, (need.0, need.1, need.2, need.3, flank.1, t, (needed.0, needed.1, flank.2), flank.3), h.1)), h.2))
    needed.2

pub requires-awaits : (l : Site) → IsStation l → Once l → Sound l → (a : RouteId) (p : PointId) (t : Side) → RouteRequires l a p t → (s : SectionId) × Awaits l a p s × LeadsOver l a s
requires-awaits l station once sound a p t need =
    awaits-some l station a p t need (names_point need.0.points p) (on-route-decides l once sound a need.0 need.2 p)
