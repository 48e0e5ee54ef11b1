-- The reasons by the masks of two routes, and that routes conflict exactly for a reason.
use Rattle.std.proofs.Common.{◌≡◌, ◌≢◌, ◌⊎◌, ℕ, zero, suc, ◌<◌, Bool, true, false, ◌||◌, ◌==◌, List, [], ◌∷◌, ◌++◌, length, Some, refl, inl, inr, ⊎_elim, sym, ap, ◌∙◌, IsTrue, ◌↔◌, eq-eqb, arith}
use Rattle.std.proofs.lemmas.Bool.{eqb-true, false≢true}
use Rattle.std.specs.FinSet.{contains}
use Rattle.std.specs.Prelude.{slice_get}
use Rattle.std.proofs.lemmas.Bool.Decides.{Decides-at}
use Rattle.control_table.specs.bit_row.Places.{Has, Meet}
use Rattle.control_table.specs.sci_telegram.declared.message.Side.{Side}
use Rattle.control_table.specs.sci_telegram.declared.message.Side.TheVariants.{Left, Right}
use Rattle.control_table.specs.layout.declared.ids.PointId.{PointId}
use Rattle.control_table.specs.layout.declared.ids.RouteId.{RouteId}
use Rattle.control_table.specs.layout.declared.ids.SectionId.{SectionId}
use Rattle.control_table.specs.layout.declared.ids.SignalId.{SignalId}
use Rattle.control_table.specs.layout.Entries.{RouteEntry, Site}
use Rattle.control_table.specs.declared.masks.RouteMasks.{RouteMasks}
use Rattle.control_table.specs.Masks.{AreMasks}
use Rattle.control_table.specs.Topology.{IsRoute}
use Rattle.control_table.specs.Table.{Conflict, Lists, RequireDifferently, RouteRequires, SameEntry, ShareSection}
use Rattle.station_layout.specs.declared.conflict_reasons.ConflictReasons.{ConflictReasons}
use Rattle.station_layout.specs.Reasons.{AreReasons, reason_words, word_if}
use Rattle.station_layout.specs.Row.{IsRequired, point_at}

-- ---- either test

pub either : (x y : Bool) (P Q R : Type 0) → IsTrue x ↔ P → IsTrue y ↔ Q → (P → R) → (Q → R) → (R → P ⊎ Q) → IsTrue (x || y) ↔ R
either true y P Q R p q from_p from_q to = ((λ h. from_p (p.0 refl)), λ r. refl)
either false y P Q R p q from_p from_q to =
    ((λ h. from_q (q.0 h)), λ r. elim (to r) [ inl is ↦ absurd (false≢true (p.1 is)) | inr is ↦ q.1 is ])

-- ---- by the masks

module _ (l : Site) (a b : RouteId) (first second : RouteMasks) (am : AreMasks l a first) (bm : AreMasks l b second) where
  route_there : (c : RouteId) → c.0 < length l.routes → (r : RouteEntry) × IsRoute l c r
  route_there c lt = go l.routes c.0 lt
    where
      go : (rs : List RouteEntry) (i : ℕ) → i < length rs → (r : RouteEntry) × (slice_get rs i ≡ Some r)
      go [] i lt = absurd (omega (arith, lt))
      go (r ∷ rs) zero lt = (r, refl)
      go (r ∷ rs) (suc i) lt = go rs i (omega (arith, lt))

  same_signal : (s t : SignalId) → s.0 ≡ t.0 → s ≡ t
  same_signal s t e = let signal : ℕ → SignalId = λ k. record { 0 = k } in ap signal e

  pub same_entry_is : a.0 < length l.routes → b.0 < length l.routes → IsTrue (first.entry.0 == second.entry.0) ↔ SameEntry l a b
  same_entry_is there also =
      let r = route_there a there in
      let q = route_there b also in (
        (λ h. (r.0, q.0, r.1, q.1, sym (am.entry r.0 r.1) ∙ (same_signal first.entry second.entry (eqb-true first.entry.0 second.entry.0 h) ∙ bm.entry q.0 q.1))),
        λ same. eq-eqb first.entry.0 second.entry.0 (ap (λ (s : SignalId). s.0) (am.entry same.0 same.2 ∙ (same.4 ∙ sym (bm.entry same.1 same.3)))),
      )

  pub share_section_is : (x : Bool) → IsTrue x ↔ Meet first.sections second.sections → IsTrue x ↔ ShareSection l a b
  share_section_is x is =
      let section : ℕ → SectionId = λ k. record { 0 = k } in (
        (λ h. let meet = is.0 h in (section meet.0, (am.sections (section meet.0)).0 meet.1, (bm.sections (section meet.0)).0 meet.2)),
        λ share. is.1 (share.0.0, (am.sections share.0).1 share.1, (bm.sections share.0).1 share.2),
      )

  pub require_differently_is : (x y : Bool) → IsTrue x ↔ Meet first.right second.left → IsTrue y ↔ Meet first.left second.right → IsTrue (x || y) ↔ RequireDifferently l a b
  require_differently_is x y right left =
      either x y (Meet first.right second.left) (Meet first.left second.right) (RequireDifferently l a b) right left
      (λ meet. (point meet.0, Right, Left, (λ e. cc e), (am.right (point meet.0)).0 meet.1, (bm.left (point meet.0)).0 meet.2))
      (λ meet. (point meet.0, Left, Right, (λ e. cc e), (am.left (point meet.0)).0 meet.1, (bm.right (point meet.0)).0 meet.2))
      (λ differ. by_sides differ.0 differ.1 differ.2 differ.3 differ.4 differ.5)
    where
      point : ℕ → PointId
      point k = record { 0 = k }

      by_sides : (p : PointId) (s t : Side) → s ≢ t → RouteRequires l a p s → RouteRequires l b p t → Meet first.right second.left ⊎ Meet first.left second.right
      by_sides p Right Left other one two = inl (p.0, (am.right p).1 one, (bm.left p).1 two)
      by_sides p Left Right other one two = inr (p.0, (am.left p).1 one, (bm.right p).1 two)
      by_sides p Left Left other one two = absurd (other refl)
      by_sides p Right Right other one two = absurd (other refl)

  pub one_lists_is : (x y : Bool) → IsTrue x ↔ Has first.extra b.0 → IsTrue y ↔ Has second.extra a.0 → IsTrue (x || y) ↔ (Lists l a b ⊎ Lists l b a)
  one_lists_is x y one two =
      either x y (Has first.extra b.0) (Has second.extra a.0) (Lists l a b ⊎ Lists l b a) one two
      (λ h. inl ((am.extra b).0 h)) (λ h. inr ((bm.extra a).0 h))
      (λ lists. elim lists [ inl h ↦ inl ((am.extra b).1 h) | inr h ↦ inr ((bm.extra a).1 h) ])

-- the points that a route requires, at either side
pub required_is : (l : Site) (a : RouteId) (m : RouteMasks) (k : ℕ) (x y : Bool) → AreMasks l a m → x ≡ contains m.right k → y ≡ contains m.left k → IsTrue (x || y) ↔ IsRequired l a (point_at k)
required_is l a m k x y am right left =
    either x y (RouteRequires l a (point_at k) Right) (RouteRequires l a (point_at k) Left) (IsRequired l a (point_at k))
    (Decides-at _ _ right (am.right (point_at k))) (Decides-at _ _ left (am.left (point_at k)))
    (λ is. (Right, is)) (λ is. (Left, is)) (λ is. by_side is.0 is.1)
  where
    by_side : (s : Side) → RouteRequires l a (point_at k) s → RouteRequires l a (point_at k) Right ⊎ RouteRequires l a (point_at k) Left
    by_side Right is = inl is
    by_side Left is = inr is

-- ---- a reason is told

-- some word is told exactly where some test holds
told : (w x y z : Bool) (a b c d : List ℕ) → (((w || (x || (y || z))) ≡ true) → word_if w a ++ (word_if x b ++ (word_if y c ++ word_if z d)) ≢ [])
    × ((word_if w a ++ (word_if x b ++ (word_if y c ++ word_if z d)) ≢ []) → (w || (x || (y || z))) ≡ true)
told true x y z a b c d = ((λ h e. cc e), λ some. refl)
told false true y z a b c d = ((λ h e. cc e), λ some. refl)
told false false true z a b c d = ((λ h e. cc e), λ some. refl)
told false false false true a b c d = ((λ h e. cc e), λ some. refl)
told false false false false a b c d = ((λ h. absurd (false≢true h)), λ some. absurd (some refl))

first_of_two : (x y : Bool) → (x || y) ≡ true → (x ≡ true) ⊎ (y ≡ true)
first_of_two true y h = inl refl
first_of_two false y h = inr h

left_or : (x y : Bool) → x ≡ true → (x || y) ≡ true
left_or true y h = refl
left_or false y h = absurd (false≢true h)

right_or : (x y : Bool) → y ≡ true → (x || y) ≡ true
right_or true y h = refl
right_or false y h = h

module _ (l : Site) (a b : RouteId) (r : ConflictReasons) (are : AreReasons l a b r) where
  abbrev some : Bool
  some = r.entry || (r.section || (r.point || r.extra))

  abbrev Reasons : Type 0
  Reasons = SameEntry l a b ⊎ ShareSection l a b ⊎ RequireDifferently l a b ⊎ Lists l a b ⊎ Lists l b a

  told_is : (some ≡ true → reason_words r ≢ []) × ((reason_words r ≢ []) → some ≡ true)
  told_is = told r.entry r.section r.point r.extra _ _ _ _

  some_holds : Reasons → some ≡ true
  some_holds =
      ⊎_elim (λ e. left_or r.entry _ (are.entry.1 e))
      (⊎_elim (λ s. right_or r.entry _ (left_or r.section _ (are.section.1 s)))
      (⊎_elim (λ p. right_or r.entry _ (right_or r.section _ (left_or r.point r.extra (are.point.1 p))))
      (λ x. right_or r.entry _ (right_or r.section _ (right_or r.point r.extra (are.extra.1 x))))))

  holds : some ≡ true → Reasons
  holds h =
      ⊎_elim (λ e. inl (are.entry.0 e))
      (λ h. ⊎_elim (λ s. inr (inl (are.section.0 s)))
      (λ h. ⊎_elim (λ p. inr (inr (inl (are.point.0 p)))) (λ x. inr (inr (inr (are.extra.0 x)))) (first_of_two r.point r.extra h))
      (first_of_two r.section (r.point || r.extra) h))
      (first_of_two r.entry (r.section || (r.point || r.extra)) h)

pub told_exactly : (l : Site) (a b : RouteId) (r : ConflictReasons) → AreReasons l a b r → Conflict l a b ↔ ((a ≢ b) × (reason_words r ≢ []))
told_exactly l a b r are =
    ((λ conflict. (conflict.0, (told_is l a b r are).0 (some_holds l a b r are conflict.1))), λ h. (h.0, holds l a b r are ((told_is l a b r are).1 h.1)))
