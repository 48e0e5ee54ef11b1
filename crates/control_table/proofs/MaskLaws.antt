-- What the masks of a sound table say of its routes, and that their conflicts are those of the definition.
use Rattle.std.proofs.Common.{◌≡◌, ◌≢◌, Bool, true, false, cond, not, ◌&&◌, ◌||◌, ◌==◌, ℕ, zero, suc, ◌<◌, ◌≤◌, List, [], ◌∷◌, length, get_or, Option, Some, None, Ok, if◌then◌else◌, refl, sym, ap, subst, ◌∙◌, inl, inr, ⊎_elim, arith}
use Rattle.std.specs.Prelude.{slice_get, ◌⊎◌, ◌↔◌, IsTrue}
use Rattle.std.specs.Bool.{Decides}
use Rattle.std.specs.List.{All, Contains, fold, list_any}
use Rattle.std.specs.Ordering.{nat_cmp}
use Rattle.std.specs.Cmp.{nat_cmp_total, unsigned_tied}
use Rattle.std.specs.FinSet.{contains, empty, insert, contains-empty, contains-insert}
use Rattle.std.proofs.lemmas.Bool.{false≢true}
use Rattle.std.proofs.lemmas.Bool.Decides.{Decides-at, Decides-and, Decides-or, Decides-not, Decides-like}
use Rattle.std.proofs.lemmas.List.Elements.{All-contains, Contains-get_or}
use Rattle.sci_telegram.specs.declared.message.Side.{Side}
use Rattle.sci_telegram.specs.declared.message.Side.TheVariants as side
use Rattle.layout.specs.declared.ids.SectionId.{SectionId}
use Rattle.layout.specs.declared.ids.PointId.{PointId}
use Rattle.layout.specs.declared.ids.RouteId.{RouteId}
use Rattle.layout.specs.Entries.{RouteEntry, Site}
use Rattle.layout.specs.declared.ids.SignalId.{SignalId}
use Rattle.layout.specs.Once.{Once}
use Rattle.layout.specs.Station.{HasSection, HasPoint, HasRoute, IsRouteOf, IsStation}
use Rattle.bit_row.specs.Places.{Places, Has, Meet}
use Rattle.control_table.specs.declared.masks.RouteMasks.{RouteMasks}
use Rattle.control_table.specs.Topology.{IsRoute}
use Rattle.control_table.specs.Table.{LeadsOver, Lists, RouteRequires, SameEntry, ShareSection, RequireDifferently, Conflict}
use Rattle.control_table.specs.Masks.{AreMasks}
use Rattle.control_table.specs.inside.TableTests.{MasksConflict, same_need, has_need, section_row, point_row, route_row, same_side, IsWithin, AreWithin, TableRow, rows_of, masks_of, all_masks}
use Rattle.control_table.specs.Path.{same_section}
use Rattle.control_table.proofs.Joints.{OneBeyond, one-beyond}
use Rattle.control_table.proofs.Members.{has-decides, get-contains, some-injective}
use Rattle.control_table.proofs.Judged.{none-some}
use Rattle.control_table.proofs.Same.{section-decides, signal-decides, route-decides}
use Rattle.control_table.proofs.SideLaws.{has_need-decides}
use Rattle.control_table.proofs.TableLaws.{RowFacts, table-row}
use Rattle.control_table.proofs.ConflictLaws.{get-below, get-inside, table-length, row-facts, sections-are, requires-is, leads-is}
use Rattle.control_table.proofs.There.{sections-there, required-there}

-- ---- what a row has

put : (s : Places) (j k : ℕ) → contains (insert s j) k ≡ ((k == j) || contains s k)
put s j k = contains-insert nat_cmp_total s j k ∙ ap (λ b. b || contains s k) (unsigned_tied k j)

one_more : (n k : ℕ) (before later : Bool) → (((k == n) || before) || later) ≡ (before || ((n == k) || later))
one_more n k true later = grind arith
one_more n k false later = grind arith

module _ {A : Type 0} (place : A → ℕ) where
  row-has : (row : Places) (xs : List A) (k : ℕ) → contains (fold (λ row x. insert row (place x)) row xs) k ≡ (contains row k || list_any (λ x. place x == k) xs)
  row-has row [] k = let h = contains row k in grind arith
  row-has row (x ∷ xs) k =
      row-has (insert row (place x)) xs k ∙ ap (λ b. b || list_any (λ x. place x == k) xs) (put row (place x) k)
      ∙ one_more (place x) k (contains row k) (list_any (λ x. place x == k) xs)

-- the places of a list
from_none : (k : ℕ) (b : Bool) → (contains (empty {R = nat_cmp}) k || b) ≡ b
from_none k b = ap (λ x. x || b) (contains-empty nat_cmp k)

section_row-decides : (ss : List SectionId) (s : SectionId) → Decides (contains (section_row ss) s.0) (Contains ss s)
section_row-decides ss s = Decides-at _ _ (row-has (λ (s : SectionId). s.0) empty ss s.0 ∙ from_none s.0 _) (has-decides same_section section-decides ss s)

route_row-decides : (bs : List RouteId) (b : RouteId) → Decides (contains (route_row bs) b.0) (Contains bs b)
route_row-decides bs b = Decides-at _ _ (row-has (λ (b : RouteId). b.0) empty bs b.0 ∙ from_none b.0 _) (has-decides (λ (a b : RouteId). a.0 == b.0) route-decides bs b)

if_has : (s : Places) (j k : ℕ) (b : Bool) → contains (if b then insert s j else s) k ≡ (contains s k || ((j == k) && b))
if_has s j k true = put s j k ∙ (let h = contains s k in grind arith)
if_has s j k false = (let h = contains s k in grind arith)

or_assoc : (a b c : Bool) → ((a || b) || c) ≡ (a || (b || c))
or_assoc true b c = refl
or_assoc false b c = refl

point-has : (t : Side) (row : Places) (ns : List (PointId × Side)) (p : PointId) → contains (fold (λ row n. if same_side n.1 t then insert row n.0.0 else row) row ns) p.0 ≡ (contains row p.0 || has_need ns (p, t))
point-has t row [] p = let h = contains row p.0 in grind arith
point-has t row (n ∷ ns) p =
    point-has t (if same_side n.1 t then insert row n.0.0 else row) ns p
    ∙ ap (λ b. b || has_need ns (p, t)) (if_has row n.0.0 p.0 (same_side n.1 t))
    ∙ or_assoc (contains row p.0) (same_need n (p, t)) (has_need ns (p, t))

point_row-decides : (t : Side) (ns : List (PointId × Side)) (p : PointId) → Decides (contains (point_row t ns) p.0) (Contains ns (p, t))
point_row-decides t ns p = Decides-at _ _ (point-has t empty ns p ∙ from_none p.0 _) (has_need-decides ns (p, t))

-- ---- the masks of a route

pub masks-are : (l : Site) (one : OneBeyond l) (a : RouteId) (r : RouteEntry) (row : TableRow) → IsRoute l a r → RowFacts l a r row → AreMasks l a (masks_of r row)
masks-are l one a r row at h = record {
  entry = λ q also. ap (λ (x : RouteEntry). x.entry) (some-injective r q (sym at ∙ also));
  sections = λ s. both (section_row-decides row.sections s) (leads-is l one a r row at h s);
  right = λ p. both (point_row-decides side.Right row.required p) (requires-is l one a r row at h p side.Right);
  left = λ p. both (point_row-decides side.Left row.required p) (requires-is l one a r row at h p side.Left);
  extra = λ b. both (route_row-decides r.extra b) (λ c. (r, at, c), λ k. subst (λ (x : RouteEntry). Contains x.extra b) (some-injective k.0 r (sym k.1 ∙ at)) k.2);
}
  where
    both : {P Q : Type 0} {b : Bool} → Decides b P → P ↔ Q → IsTrue b ↔ Q
    both d e = (λ h. e.0 (d.0 h), λ q. d.1 (e.1 q))

pub masks-at : (routes : List RouteEntry) (rows : List TableRow) (i : ℕ) (r : RouteEntry) (row : TableRow) → slice_get routes i ≡ Some r → slice_get rows i ≡ Some row
    → slice_get (all_masks routes rows) i ≡ Some (masks_of r row)
unfolding all_masks
masks-at [] rows i r row e f = absurd (none-some r e)
masks-at (q ∷ routes) [] i r row e f = absurd (none-some row f)
masks-at (q ∷ routes) (w ∷ rows) zero r row e f = (λ j. Some (masks_of (some-injective q r e j) (some-injective w row f j)))
masks-at (q ∷ routes) (w ∷ rows) (suc i) r row e f = masks-at routes rows i r row e f

-- ---- every place is below 64

each-within : (routes : List RouteEntry) (rows : List TableRow) → ((i : ℕ) (r : RouteEntry) (row : TableRow) → slice_get routes i ≡ Some r → slice_get rows i ≡ Some row → IsWithin r row) → AreWithin routes rows
each-within [] rows each = tt
each-within (r ∷ routes) [] each = tt
each-within (r ∷ routes) (row ∷ rows) each = (each 0 r row refl refl, each-within routes rows (λ i. each (suc i)))

pub station-within : (l : Site) → IsStation l → (one : OneBeyond l) → (rows : List TableRow) → rows_of l ≡ Ok rows → AreWithin l.routes rows
station-within l station one rows e = each-within l.routes rows (λ i r row at here.
    let a : RouteId = record { 0 = i } in
    let facts = row-facts l one a r row at (rows, e, here) in
    let sections = (sections-there l station a row.sections (sections-are l a r row at facts)).2 in
    let needs = requires-is l one a r row at facts in
    let names = All-contains (IsRouteOf l) l.routes r station.routes (get-contains l.routes i r at) in
    let limits = station.limits in
    record {
      sections = λ k d lt. let h = sections k d lt in let m = limits.sections in omega (arith, h, m);
      required = λ k d lt. let h = required-there l station a _ _ ((needs (get_or row.required k d).0 (get_or row.required k d).1).0 (Contains-get_or row.required k d lt)) in let m = limits.points in omega (arith, h, m);
      extra = λ k d lt. let h = names.extra k d lt in let m = limits.routes in omega (arith, h, m);
    })

-- ---- the masks that are kept

get_or-is : {A : Type 0} (xs : List A) (i : ℕ) (x d : A) → slice_get xs i ≡ Some x → get_or xs i d ≡ x
get_or-is [] i x d e = absurd (none-some x e)
get_or-is (w ∷ xs) zero x d e = some-injective w x e
get_or-is (w ∷ xs) (suc i) x d e = get_or-is xs i x d e

module _ (l v : Site) (rows : List TableRow) (masks : List RouteMasks) (a : RouteId) (same : l ≡ v) (once : Once l) (e : rows_of l ≡ Ok rows) (kept : masks ≡ all_masks l.routes rows) (lt : a.0 < length v.routes) where
  below : a.0 < length l.routes
  below = subst (λ (p : Site). a.0 < length p.routes) (sym same) lt

  kept-at : (m : RouteMasks) × (slice_get masks a.0 ≡ Some m) × AreMasks l a m
  kept-at =
      let r = get-below l.routes a.0 below in
      let n = table-length l rows e in
      let row = get-below rows a.0 (omega (arith, n, below)) in
      let one = one-beyond l once in
      (masks_of r.0 row.0, ap (λ ms. slice_get ms a.0) kept ∙ masks-at l.routes rows a.0 r.0 row.0 r.1 row.1, masks-are l one a r.0 row.0 r.1 (row-facts l one a r.0 row.0 r.1 (rows, e, row.1)))

  pub kept-inside : a.0 < length masks
  kept-inside = get-inside masks a.0 kept-at.0 kept-at.1

  pub kept-are : (m : RouteMasks) → m ≡ get_or masks a.0 m → AreMasks v a m
  kept-are m at = subst (λ (p : Site). AreMasks p a m) same (subst (AreMasks l a) (sym (at ∙ get_or-is masks a.0 kept-at.0 m kept-at.1)) kept-at.2)

-- ---- conflicts

module _ (l : Site) (a b : RouteId) (r q : RouteEntry) (at : IsRoute l a r) (also : IsRoute l b q) (m n : RouteMasks) (first : AreMasks l a m) (second : AreMasks l b n) where
  entries : m.entry.0 ≡ n.entry.0 → SameEntry l a b
  entries e = (r, q, at, also, sym (first.entry r at) ∙ (λ i. record { 0 = e i }) ∙ second.entry q also)

  entries-of : SameEntry l a b → m.entry.0 ≡ n.entry.0
  entries-of h = ap (λ (s : SignalId). s.0) (first.entry h.0 h.2 ∙ h.4 ∙ sym (second.entry h.1 h.3))

  sections-met : Meet m.sections n.sections → ShareSection l a b
  sections-met h = let s : SectionId = record { 0 = h.0 } in (s, (first.sections s).0 h.1, (second.sections s).0 h.2)

  sections-shared : ShareSection l a b → Meet m.sections n.sections
  sections-shared h = (h.0.0, (first.sections h.0).1 h.1, (second.sections h.0).1 h.2)

  right-left : side.Right ≢ side.Left
  right-left e = false≢true (ap (λ s. same_side s side.Left) e)

  right-met : Meet m.right n.left → RequireDifferently l a b
  right-met h = let p : PointId = record { 0 = h.0 } in (p, side.Right, side.Left, right-left, (first.right p).0 h.1, (second.left p).0 h.2)

  left-met : Meet m.left n.right → RequireDifferently l a b
  left-met h = let p : PointId = record { 0 = h.0 } in (p, side.Left, side.Right, (λ e. right-left (sym e)), (first.left p).0 h.1, (second.right p).0 h.2)

  differ-by : (p : PointId) (s t : Side) → s ≢ t → RouteRequires l a p s → RouteRequires l b p t → Meet m.right n.left ⊎ Meet m.left n.right
  differ-by p side.Right side.Right ne h k = absurd (ne refl)
  differ-by p side.Left side.Left ne h k = absurd (ne refl)
  differ-by p side.Right side.Left ne h k = inl (p.0, (first.right p).1 h, (second.left p).1 k)
  differ-by p side.Left side.Right ne h k = inr (p.0, (first.left p).1 h, (second.right p).1 k)

  conflict-from : MasksConflict a b m n → Conflict l a b
  conflict-from h = (
    λ e. h.0 (ap (λ (x : RouteId). x.0) e),
    ⊎_elim (λ e. inl (entries e))
        (⊎_elim (λ s. inr (inl (sections-met s)))
        (⊎_elim (λ p. inr (inr (inl (right-met p))))
        (⊎_elim (λ p. inr (inr (inl (left-met p))))
        (⊎_elim (λ x. inr (inr (inr (inl ((first.extra b).0 x))))) (λ x. inr (inr (inr (inr ((second.extra a).0 x)))))))))
        h.1,
  )

  conflict-to : Conflict l a b → MasksConflict a b m n
  conflict-to h = (
    λ e. h.0 (λ i. record { 0 = e i }),
    ⊎_elim (λ e. inl (entries-of e))
        (⊎_elim (λ s. inr (inl (sections-shared s)))
        (⊎_elim (λ d. ⊎_elim (λ p. inr (inr (inl p))) (λ p. inr (inr (inr (inl p)))) (differ-by d.0 d.1 d.2 d.3 d.4 d.5))
        (⊎_elim (λ x. inr (inr (inr (inr (inl ((first.extra b).1 x)))))) (λ x. inr (inr (inr (inr (inr ((second.extra a).1 x)))))))))
        h.1,
  )

pub conflict-is : (l : Site) (a b : RouteId) (m n : RouteMasks) (result : Bool) → a.0 < length l.routes → b.0 < length l.routes → AreMasks l a m → AreMasks l b n
    → IsTrue result ↔ MasksConflict a b m n → IsTrue result ↔ Conflict l a b
conflict-is l a b m n result below also first second is =
    let r = get-below l.routes a.0 below in
    let q = get-below l.routes b.0 also in
    (λ h. conflict-from l a b r.0 q.0 r.1 q.1 m n first second (is.0 h), λ h. is.1 (conflict-to l a b r.0 q.0 r.1 q.1 m n first second h))
