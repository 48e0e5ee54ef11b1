-- The rows grow route by route.
use Rattle.std.proofs.Common.{◌≡◌, ℕ, suc, ◌+◌, ◌<◌, List, [], ◌∷◌, ◌++◌, get_or, length, refl, ap, subst, ◌∙◌, arith}
use Rattle.std.proofs.lemmas.Option.{slice_get_read}
use Rattle.control_table.specs.layout.Entries.{RouteEntry, Site}
use Rattle.control_table.specs.Topology.{IsRoute}
use Rattle.station_layout.specs.Row.{IsRowOf, Row, route_at}
use Rattle.station_layout.specs.Lines.{AreRows}

pub rows_none : (l : Site) → AreRows l 0 []
unfolding AreRows
rows_none l = refl

pub rows_more : (l : Site) (k : ℕ) (r : RouteEntry) (row : Row) (front all : List Row) → AreRows l k front → IsRoute l (route_at k) r → IsRowOf l (route_at k) r row → all ≡ front ++ row ∷ [] → AreRows l (k + 1) all
unfolding AreRows
rows_more l k r row front all before at is more =
    let n : k + 1 ≡ suc k = omega arith in
    rw n (front, r, row, before, at, is, more)

-- the entry at a place is that of the route
pub route_there : (l m : Site) (rs : List RouteEntry) (k : ℕ) (r : RouteEntry) → m ≡ l → rs ≡ m.routes → k < length rs → r ≡ get_or rs k r → IsRoute l (route_at k) r
route_there l m rs k r same lent lt at =
    let routes = lent ∙ ap (λ (s : Site). s.routes) same in
    let below : k < length l.routes = subst (λ (xs : List RouteEntry). k < length xs) routes lt in
    slice_get_read l.routes (length l.routes) k r refl below (at ∙ ap (λ (xs : List RouteEntry). get_or xs k r) routes)
