-- The lock of each end is required by the routes onto its line and off it.
use Rattle.std.proofs.Common.{◌≡◌, ◌<◌, ◌+◌, ◌∙◌, ⊎_elim, ℕ, zero, suc, Bool, false, true, not, ◌&&◌, ◌||◌, inl, inr, List, [], ◌∷◌, ◌++◌, Option, Some, None, Ok, Err, ap, arith, get_or, length, map, refl, subst, sym}
use Rattle.std.proofs.lemmas.Bool.{false≢true}
use Rattle.std.proofs.lemmas.Bool.Decides.{Decides-eqb}
use Rattle.std.proofs.lemmas.List.Folds.{Any-from_list_any, list_any-from_Any}
use Rattle.std.specs.Prelude.{◌==◌, slice_get}
use Rattle.std.specs.List.{Contains, flat_map, list_any}
use Rattle.std.specs.Option.{option_and_then, option_map}
use Rattle.layout_text.specs.FirstFault.{Read}
use Rattle.control_table.specs.sci_telegram.declared.message.Side.{Side}
use Rattle.control_table.specs.sci_telegram.declared.message.Side.TheVariants.{Left, Right}
use Rattle.control_table.specs.layout.Entries.{RouteEntry, Site}
use Rattle.control_table.specs.layout.Known.{same_port}
use Rattle.control_table.specs.layout.NamesResolved.{layout_in}
use Rattle.control_table.specs.layout.declared.entries.Exit.TheVariants as exit
use Rattle.control_table.specs.layout.declared.ids.BorderId.{BorderId}
use Rattle.control_table.specs.layout.declared.ids.PointId.{PointId}
use Rattle.control_table.specs.layout.declared.ids.RouteId.{RouteId}
use Rattle.control_table.specs.layout.declared.ids.SectionId.{SectionId}
use Rattle.control_table.specs.layout.declared.port.Port.{Port}
use Rattle.control_table.specs.Sides.{leg}
use Rattle.control_table.specs.Table.{RouteRequires, Sound}
use Rattle.control_table.specs.Topology.{IsRoute}
use Rattle.railway_layout.specs.declared.fault.Place.{Place}
use Rattle.railway_layout.specs.declared.fault.Place.TheVariants.{First, Second}
use Rattle.railway_layout.specs.declared.fault.RailwayFault.{RailwayFault}
use Rattle.railway_layout.specs.declared.fault.RailwayFault.TheVariants as fault
use Rattle.railway_layout.specs.declared.found.Found.{Found}
use Rattle.railway_layout.specs.declared.found.Found.TheVariants.{Table, NoLayout, Unsound}
use Rattle.railway_layout.specs.declared.found.RailwayStation.{RailwayStation}
use Rattle.railway_layout.specs.declared.ids.StationId.{StationId}
use Rattle.railway_layout.specs.Ends.{end_at, end_in, end_of, line_of, made, named_in}
use Rattle.railway_layout.specs.Faults.{end_faults, is_missing, line_faults, names_faults, place_faults, route_fault, route_faults, rule_faults, rule_faults_if, section_faults, site_faults, told}
use Rattle.railway_layout.specs.Locked.{IsEndOf, IsLocked, IsLockedAt, IsOnto}
use Rattle.railway_layout.specs.Railway.{IsRailway}
use Rattle.railway_layout.specs.Rules.{has_route_in, is_elsewhere, is_exit, lacks_left, lacks_right, leads_in, leads_onto, leaves_by, same_side, tip, writes}
use Rattle.railway_layout.specs.States.{EndState, LineState, RailwayState}
use Rattle.railway_layout.specs.Stations.{AreStations, IsOf, layout_of, site_at, station_named}
use Rattle.railway_layout.specs.Way.{way}
use Rattle.railway_layout.specs.Written.{EndText, LineText, RailwayText, StationText}
use Rattle.railway_layout.proofs.Seen.{ends_empty, front_empty, line_empty, no_cons, rest_empty}

some_is : {A : Type 0} (x y : A) → Some x ≡ Some y → x ≡ y
some_is x y e = cc

not_none : {A : Type 0} (x : A) → None ≡ Some x → ⊥
not_none x e = cc

-- ---- what a route writes

both_true : (a b : Bool) → (a && b) ≡ true → (a ≡ true) × (b ≡ true)
both_true true b h = (refl, h)
both_true false b h = absurd (false≢true h)

sides_same : (s t : Side) → same_side s t ≡ true → s ≡ t
sides_same Left Left h = refl
sides_same Right Right h = refl
sides_same Left Right h = absurd (false≢true h)
sides_same Right Left h = absurd (false≢true h)

need_is : (q : PointId) (t : Side) (p : PointId) (s : Side) → (q.0 == p.0 && same_side t s) ≡ true → ◌≡◌ {A = PointId × Side} (q, t) (p, s)
need_is q t p s h =
    let both = both_true (q.0 == p.0) (same_side t s) h in
    let point : q ≡ p = ap (λ (n : ℕ). record { 0 = n }) ((Decides-eqb q.0 p.0).0 both.0) in
    let side : t ≡ s = sides_same t s both.1 in
    let beside : PointId → PointId × Side = λ x. (x, t) in
    let at : Side → PointId × Side = λ y. (p, y) in
    ap beside point ∙ ap at side

writes_contains : (p : PointId) (s : Side) (r : RouteEntry) → writes p s r ≡ true → Contains r.points (p, s)
writes_contains p s r h =
    let some = Any-from_list_any (λ (n : PointId × Side). n.0.0 == p.0 && same_side n.1 s) r.points h in
    let C : PointId × Side → Type 0 = λ n. Contains r.points n in
    subst C (need_is some.1.0 some.1.1 p s some.4) (some.0, some.2, some.3)

-- a point that a route of a sound table writes is required so
required : (l : Site) (a : RouteId) (r : RouteEntry) (p : PointId) (s : Side) → Sound l → IsRoute l a r → writes p s r ≡ true → RouteRequires l a p s
required l a r p s sound route h =
    let of = sound a r route in
    (r, of.path, route, of.is_path, ((of.writes.points p s).0 (writes_contains p s r h)).0)

-- ---- which routes lead onto the line and in

first_true : (a b : Bool) → a ≡ true → (a || b) ≡ true
first_true true b h = refl
first_true false b h = absurd (false≢true h)

second_true : (a b : Bool) → b ≡ true → (a || b) ≡ true
second_true true b h = refl
second_true false b h = h

leaves_there : (p : Port) (r : RouteEntry) → same_port p p ≡ true → Contains r.path p → leaves_by p r ≡ true
leaves_there p r same at = list_any-from_Any (λ (port : Port). same_port port p) r.path (at.0, p, at.1, at.2, same)

tips_same : (p : PointId) → same_port (tip p) (tip p) ≡ true
tips_same p = let same : (p.0 == p.0) ≡ true = (Decides-eqb p.0 p.0).1 refl in rw same refl

lefts_same : (p : PointId) → same_port (leg p Left) (leg p Left) ≡ true
lefts_same p = let same : (p.0 == p.0) ≡ true = (Decides-eqb p.0 p.0).1 refl in rw same refl

leads_there : (e : EndState) (r : RouteEntry) → IsOnto e r → leads_onto e r ≡ true
leads_there e r (inl exits) = first_true (is_exit e.border r.exit) (leaves_by (leg e.lock Left) r) (ap (is_exit e.border) exits ∙ (Decides-eqb e.border.0 e.border.0).1 refl)
leads_there e r (inr at) = second_true (is_exit e.border r.exit) (leaves_by (leg e.lock Left) r) (leaves_there (leg e.lock Left) r (lefts_same e.lock) at)

leads_from : (p : PointId) (r : RouteEntry) → Contains r.path (tip p) → leads_in p r ≡ true
leads_from p r at = leaves_there (tip p) r (tips_same p) at

-- ---- nothing is told

nothing_told : (wrong : Bool) (one : RailwayFault) → told wrong one ≡ [] → wrong ≡ false
nothing_told true one e = absurd (no_cons one [] e)
nothing_told false one e = refl

not_lacking : (leads has : Bool) → leads ≡ true → (leads && not has) ≡ false → has ≡ true
not_lacking true true so h = refl
not_lacking true false so h = absurd (false≢true (sym h))
not_lacking false has so h = absurd (false≢true so)

-- of each route
flat_map_at : {A B : Type 0} (f : A → List B) (xs : List A) (i : ℕ) (x : A) → flat_map f xs ≡ [] → slice_get xs i ≡ Some x → f x ≡ []
flat_map_at f [] i x h e = absurd (cc)
flat_map_at {A} f (w ∷ xs) zero x h e = let E : A → Type 0 = λ v. f v ≡ [] in subst E (some_is w x e) (front_empty (f w) (flat_map f xs) h)
flat_map_at f (w ∷ xs) (suc i) x h e = flat_map_at f xs i x (rest_empty (f w) (flat_map f xs) h) e

routes_locked : (l : Site) (e : EndState) (place : Place) → Sound l → route_faults place e l.routes ≡ [] → IsLocked l e
routes_locked l e place sound h = record {
  onto = λ a r route onto.
      let none : told (lacks_right e r) (fault.LockNotRight place r.name) ++ told (lacks_left e r) (fault.LockNotLeft place r.name) ≡ [] = flat_map_at (route_fault place e) l.routes a.0 r h route in
      let right = nothing_told (lacks_right e r) (fault.LockNotRight place r.name) (front_empty (told (lacks_right e r) (fault.LockNotRight place r.name)) (told (lacks_left e r) (fault.LockNotLeft place r.name)) none) in
      required l a r e.lock Right sound route (not_lacking (leads_onto e r) (writes e.lock Right r) (leads_there e r onto) right);
  into = λ a r route at.
      let none : told (lacks_right e r) (fault.LockNotRight place r.name) ++ told (lacks_left e r) (fault.LockNotLeft place r.name) ≡ [] = flat_map_at (route_fault place e) l.routes a.0 r h route in
      let left = nothing_told (lacks_left e r) (fault.LockNotLeft place r.name) (rest_empty (told (lacks_right e r) (fault.LockNotRight place r.name)) (told (lacks_left e r) (fault.LockNotLeft place r.name)) none) in
      required l a r e.lock Left sound route (not_lacking (leads_in e.lock r) (writes e.lock Left r) (leads_from e.lock r at) left);
}

rules_locked : (l : Site) (e : EndState) (place : Place) → Sound l → rule_faults place l e ≡ [] → IsLocked l e
rules_locked l e place sound h =
    let behind : List RailwayFault = told (not (has_route_in e.lock l.routes)) (fault.NoRouteIn place) ++ (told (is_elsewhere l e.clear (way l e.border e.lock)) (fault.ClearElsewhere place) ++ section_faults place l e) in
    let routes : route_faults place e l.routes ++ behind ≡ [] = rest_empty (told (is_missing (way l e.border e.lock)) (fault.NotJoined place)) (route_faults place e l.routes ++ behind) h in
    routes_locked l e place sound (front_empty (route_faults place e l.routes) behind routes)

-- ---- the station of an end

sound_of : (read : Read Site) (f : Found) (l : Site) → IsOf read f → layout_of f ≡ Some l → Sound l
sound_of (Ok m) (Table k) l is e = subst Sound (sym is.0 ∙ some_is k l e) is.1
sound_of (Err why) (Table k) l is e = absurd is
sound_of read (NoLayout why) l is e = absurd (not_none l e)
sound_of read (Unsound why) l is e = absurd (not_none l e)

sound_at : (ts : List StationText) (xs : List (List ℕ)) (ss : List RailwayStation) (n : ℕ) (l : Site) → AreStations ts xs ss → site_at ss n ≡ Some l → Sound l
sound_at [] [] [] n l all e = absurd (cc)
sound_at [] [] (s ∷ ss) n l all e = absurd all
sound_at [] (x ∷ xs) ss n l all e = absurd all
sound_at (t ∷ ts) [] ss n l all e = absurd all
sound_at (t ∷ ts) (x ∷ xs) [] n l all e = absurd all
sound_at (t ∷ ts) (x ∷ xs) (s ∷ ss) zero l all e = sound_of (layout_in x) s.found l all.0.found e
sound_at (t ∷ ts) (x ∷ xs) (s ∷ ss) (suc n) l all e = sound_at ts xs ss n l all.1 e

station_in : (l : Site) (s : StationId) (w : EndText) (o : Option (BorderId × PointId × SectionId)) (e : EndState) → option_map (λ named. made l s w named.0 named.1 named.2) o ≡ Some e → e.station ≡ s
station_in l s w None e h = absurd (not_none e h)
station_in l s w (Some named) e h = ap (λ (x : EndState). x.station) (sym (some_is (made l s w named.0 named.1 named.2) e h))

station_of : (l : Site) (s : StationId) (w : EndText) (e : EndState) → end_in l s w ≡ Some e → e.station ≡ s
unfolding end_in
station_of l s w e h = station_in l s w (named_in l w) e h

-- where its station's layout is, and that nothing is told of it
abbrev FoundAt : List RailwayStation → Place → EndState → Type 0
FoundAt ss place e = (l : Site) × (site_at ss e.station.0 ≡ Some l) × (rule_faults place l e ≡ [])

at_site : (ss : List RailwayStation) (place : Place) (w : EndText) (e : EndState) (n : ℕ) (o : Option Site) → site_at ss n ≡ o
    → site_faults place (record { 0 = n }) w o ≡ [] → option_and_then (λ l. end_in l (record { 0 = n }) w) o ≡ Some e → FoundAt ss place e
at_site ss place w e n None is h k = absurd (not_none e k)
at_site ss place w e n (Some l) is h k =
    let s : StationId = record { 0 = n } in
    let R : Option EndState → Type 0 = λ o. rule_faults_if place l o ≡ [] in
    (l, ap (λ (x : StationId). site_at ss x.0) (station_of l s w e k) ∙ is, subst R k (rest_empty (names_faults place l w) (rule_faults_if place l (end_in l s w)) h))

at_place : (ss : List RailwayStation) (place : Place) (w : EndText) (e : EndState) (o : Option ℕ) → place_faults ss place w o ≡ [] → option_and_then (λ n. end_at ss n w) o ≡ Some e → FoundAt ss place e
at_place ss place w e None h k = absurd (not_none e k)
at_place ss place w e (Some n) h k = at_site ss place w e n (site_at ss n) refl h k

end_found : (ss : List RailwayStation) (place : Place) (w : EndText) (e : EndState) → end_faults ss place w ≡ [] → end_of ss w ≡ Some e → FoundAt ss place e
unfolding end_faults end_of
end_found ss place w e h k = at_place ss place w e (station_named ss w.station) h k

-- ---- lines

ends_in : (name : List ℕ) (first second : Option EndState) (line : LineState)
    → option_and_then (λ x. option_map (λ y. record { name = name; first = x; second = y }) second) first ≡ Some line → (first ≡ Some line.first) × (second ≡ Some line.second)
ends_in name None second line e = absurd (not_none line e)
ends_in name (Some x) None line e = absurd (not_none line e)
ends_in name (Some x) (Some y) line e =
    let made_of : LineState = record { name = name; first = x; second = y } in
    let is : made_of ≡ line = some_is made_of line e in
    (ap (λ (l : LineState). Some l.first) is, ap (λ (l : LineState). Some l.second) is)

ends_of : (ss : List RailwayStation) (w : LineText) (line : LineState) → line_of ss w ≡ Some line → (end_of ss w.first ≡ Some line.first) × (end_of ss w.second ≡ Some line.second)
unfolding line_of
ends_of ss w line e = ends_in w.name (end_of ss w.first) (end_of ss w.second) line e

-- the text of a line that was made
made_at : {A B : Type 0} (f : A → Option B) (xs : List A) (ys : List B) → map f xs ≡ map Some ys → (k : ℕ) (y : B) → k < length ys → get_or ys k y ≡ y
    → (x : A) × (k < length xs) × (x ≡ get_or xs k x) × (f x ≡ Some y)
made_at f [] [] e k y lt at = absurd (omega arith)
made_at f [] (y' ∷ ys) e k y lt at = absurd (cc)
made_at f (x' ∷ xs) [] e k y lt at = absurd (cc)
made_at f (x' ∷ xs) (y' ∷ ys) e zero y lt at =
    let first : f x' ≡ Some y' = cc in
    (x', omega arith, refl, first ∙ ap Some at)
made_at f (x' ∷ xs) (y' ∷ ys) e (suc k) y lt at =
    let rest : map f xs ≡ map Some ys = cc in
    let more = made_at f xs ys rest k y (omega arith) at in
    (more.0, omega (arith, more.1), more.2, more.3)

pub locked : (text : RailwayText) (layouts : List (List ℕ)) (railway : RailwayState) (line : LineState) (e : EndState) → IsRailway text layouts railway → Contains railway.lines line → IsEndOf e line → IsLockedAt railway e
locked text layouts railway line e is at end =
    let ss : List RailwayStation = railway.stations in
    let m = made_at (line_of ss) text.lines railway.lines is.lines at.0 line at.1 at.2 in
    let n : ℕ = 0 + at.0 in
    let none = ends_empty ss text.lines n m.0 (line_empty ss text.lines at.0 m.0 is.nothing_wrong m.1 m.2) in
    let parts = ends_of ss m.0 line m.3 in
    let first = end_found ss (First (n + 1)) m.0.first line.first none.0 parts.0 in
    let second = end_found ss (Second (n + 1)) m.0.second line.second none.1 parts.1 in
    let sound : (x : EndState) (l : Site) → site_at ss x.station.0 ≡ Some l → Sound l = λ x l there. sound_at text.stations layouts ss x.station.0 l is.stations there in
    let L : EndState → Type 0 = λ x. IsLockedAt railway x in
    let here : L line.first = (first.0, first.1, sound line.first first.0 first.1, rules_locked first.0 line.first (First (n + 1)) (sound line.first first.0 first.1) first.2) in
    let there : L line.second = (second.0, second.1, sound line.second second.0 second.1, rules_locked second.0 line.second (Second (n + 1)) (sound line.second second.0 second.1) second.2) in
    ⊎_elim (λ of_first. subst L of_first here) (λ of_second. subst L of_second there) end
