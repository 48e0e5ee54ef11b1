-- What the rows of a sound table say of its routes.
use Rattle.std.proofs.Common.{◌≡◌, ℕ, zero, suc, ◌<◌, List, [], ◌∷◌, length, get_or, Some, Ok, refl, sym, ap, subst, ◌∙◌, arith}
use Rattle.std.specs.Prelude.{slice_get, ◌↔◌}
use Rattle.std.specs.List.{Contains}
use Rattle.sci_telegram.specs.declared.message.Side.{Side}
use Rattle.layout.specs.declared.ids.SectionId.{SectionId}
use Rattle.layout.specs.declared.ids.PointId.{PointId}
use Rattle.layout.specs.declared.ids.RouteId.{RouteId}
use Rattle.layout.specs.Entries.{RouteEntry, Site}
use Rattle.control_table.specs.Topology.{IsRoute}
use Rattle.control_table.specs.Path.{Passage, sections, Path}
use Rattle.control_table.specs.Sides.{PathUses, Requires}
use Rattle.control_table.specs.declared.sides.FlankProtection.{FlankProtection}
use Rattle.control_table.specs.Table.{LeadsOver, RouteRequires, InLayoutOrder, AreSections, AreRequired, AreProtections}
use Rattle.control_table.specs.inside.TableTests.{needs, TableRow, rows_of, IsRowAt}
use Rattle.control_table.proofs.Joints.{OneBeyond}
use Rattle.control_table.proofs.Judged.{none-some}
use Rattle.control_table.proofs.Members.{some-injective}
use Rattle.control_table.proofs.PathLaws.{one-path}
use Rattle.control_table.proofs.SideLaws.{protections-from, protections-to}
use Rattle.control_table.proofs.OrderLaws.{ordered, ordered-from, ordered-to}
use Rattle.control_table.proofs.TableLaws.{RowFacts, table-row, place_at, rows-length}

-- ---- the row of a route

pub get-below : {A : Type 0} (xs : List A) (i : ℕ) → i < length xs → (x : A) × (slice_get xs i ≡ Some x)
get-below [] i lt = absurd (omega (arith, lt))
get-below (x ∷ xs) zero lt = (x, refl)
get-below (x ∷ xs) (suc i) lt = get-below xs i (omega (arith, lt))

pub get-inside : {A : Type 0} (xs : List A) (i : ℕ) (x : A) → slice_get xs i ≡ Some x → i < length xs
get-inside [] i x e = absurd (none-some x e)
get-inside (w ∷ xs) zero x e = omega arith
get-inside (w ∷ xs) (suc i) x e = let lt = get-inside xs i x e in omega (arith, lt)

pub table-length : (l : Site) (rows : List TableRow) → rows_of l ≡ Ok rows → length rows ≡ length l.routes
unfolding rows_of
table-length l rows e = rows-length l 0 l.routes rows e

pub row-facts : (l : Site) (one : OneBeyond l) (a : RouteId) (r : RouteEntry) (row : TableRow) → IsRoute l a r → IsRowAt l a row → RowFacts l a r row
row-facts l one a r row at is =
    let found = table-row l one is.0 is.1 a r at in
    subst (RowFacts l a r) (some-injective found.0 row (sym found.1 ∙ is.2)) found.2

-- the path of a route in the table is the one of its row
same-path : (l : Site) (one : OneBeyond l) (a : RouteId) (r q : RouteEntry) (row : TableRow) (h : RowFacts l a r row) (path : List Passage) → IsRoute l a r → IsRoute l a q → Path l q path → path ≡ h.path
same-path l one a r q row h path at also is =
    let same : q ≡ r = some-injective q r (sym also ∙ at) in
    let P : RouteEntry → Type 0 = λ x. Path l x path in
    one-path l one r (place_at 0 r.name) path h.path (subst P same is).follows h.is_path.follows

pub sections-are : (l : Site) (a : RouteId) (r : RouteEntry) (row : TableRow) → IsRoute l a r → RowFacts l a r row → AreSections l a row.sections
sections-are l a r row at h = (r, h.path, at, h.is_path, h.sections)

pub requires-is : (l : Site) (one : OneBeyond l) (a : RouteId) (r : RouteEntry) (row : TableRow) → IsRoute l a r → RowFacts l a r row → (p : PointId) (s : Side) → Contains row.required (p, s) ↔ RouteRequires l a p s
requires-is l one a r row at h p s =
    let C : List (PointId × Side) → Type 0 = λ ns. Contains ns (p, s) in
    let R : List Passage → Type 0 = λ path. Requires l path p s in (
      λ c. (r, h.path, at, h.is_path, ordered-from l h.path p s (subst C h.required c)),
      λ k. subst C (sym h.required) (ordered-to l one h.path h.protected.consistent p s (subst R (same-path l one a r k.0 row h k.1 at k.2 k.3) k.4)),
    )

pub required-are : (l : Site) (one : OneBeyond l) (a : RouteId) (r : RouteEntry) (row : TableRow) → IsRoute l a r → RowFacts l a r row → AreRequired l a row.required
required-are l one a r row at h = record { points = requires-is l one a r row at h; order = subst InLayoutOrder (sym h.required) (ordered (needs l h.path)) }

pub protections-are : (l : Site) (one : OneBeyond l) (a : RouteId) (r : RouteEntry) (row : TableRow) → IsRoute l a r → RowFacts l a r row → AreProtections l a row.protections
protections-are l one a r row at h q p =
    let C : List FlankProtection → Type 0 = λ ps. Contains ps (record { flank = q; point = p }) in
    let U : Side → List Passage → Type 0 = λ s path. PathUses path p s in (
      λ c. let is = protections-from l h.path (record { flank = q; point = p }) (subst C h.protections c) in (r, h.path, at, h.is_path, is.0, is.1, is.2, is.3),
      λ k. subst C (sym h.protections) (protections-to l one h.path q p k.4 k.5 (subst (U k.4) (same-path l one a r k.0 row h k.1 at k.2 k.3) k.6) k.7),
    )

pub leads-is : (l : Site) (one : OneBeyond l) (a : RouteId) (r : RouteEntry) (row : TableRow) → IsRoute l a r → RowFacts l a r row → (s : SectionId) → Contains row.sections s ↔ LeadsOver l a s
leads-is l one a r row at h s =
    let C : List SectionId → Type 0 = λ ss. Contains ss s in
    let S : List Passage → Type 0 = λ path. Contains (sections l path) s in
    (λ c. (r, h.path, at, h.is_path, subst C h.sections c), λ k. subst C (sym h.sections) (subst S (same-path l one a r k.0 row h k.1 at k.2 k.3) k.4))

pub get-at : {A : Type 0} (xs : List A) (i : ℕ) (x : A) → i < length xs → x ≡ get_or xs i x → slice_get xs i ≡ Some x
get-at [] i x lt e = absurd (omega (arith, lt))
get-at (w ∷ xs) zero x lt e = ap Some (sym e)
get-at (w ∷ xs) (suc i) x lt e = get-at xs i x (omega (arith, lt)) e

pub row-is : (l : Site) (v : Site) (rows : List TableRow) (a : RouteId) (row : TableRow) → l ≡ v → rows_of l ≡ Ok rows → a.0 < length v.routes → row ≡ get_or rows a.0 row → IsRowAt v a row
row-is l v rows a row same e lt at =
    let R : Site → Type 0 = λ p. rows_of p ≡ Ok rows in
    let here = subst R same e in
    let n = table-length v rows here in
    (rows, here, get-at rows a.0 row (omega (arith, n, lt)) at)
