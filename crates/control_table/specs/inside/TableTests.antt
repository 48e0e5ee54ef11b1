-- How the tests on a table are computed, in the order in which their faults are told.
use Rattle.std.specs.Prelude.{◌≡◌, ◌≢◌, ◌⊎◌, ℕ, suc, ◌<◌, ◌==◌, ◌-◌, ◌&&◌, ◌||◌, nat_lt, length, map, Bool, true, false, not, List, [], ◌∷◌, Option, Some, None, Result, Ok, Err, slice_get, if◌then◌else◌}
use Rattle.std.specs.Option.{option_map, option_or, ok_or}
use Rattle.std.specs.FinSet.{empty as no_place, insert as insert_place}
use Rattle.std.specs.List.{All, list_any, list_all, flat_map, prefix_len, insert, fold}
use Rattle.sci_telegram.specs.declared.message.Side.{Side}
use Rattle.sci_telegram.specs.declared.message.Side.TheVariants as side
use Rattle.layout.specs.declared.ids.SectionId.{SectionId}
use Rattle.layout.specs.declared.ids.PointId.{PointId}
use Rattle.layout.specs.declared.ids.SignalId.{SignalId}
use Rattle.layout.specs.declared.ids.RouteId.{RouteId}
use Rattle.layout.specs.declared.ids.BorderId.{BorderId}
use Rattle.layout.specs.declared.port.Port.{Port}
use Rattle.layout.specs.declared.port.Element.{Element}
use Rattle.layout.specs.declared.port.Element.TheVariants as element
use Rattle.layout_text.specs.declared.entries.End.{End}
use Rattle.layout_text.specs.declared.entries.End.TheVariants as end
use Rattle.layout.specs.declared.entries.Joint.{Joint}
use Rattle.layout.specs.declared.entries.Signal.{Signal}
use Rattle.layout.specs.declared.entries.Exit.{Exit}
use Rattle.layout.specs.declared.entries.Exit.TheVariants as exit
use Rattle.layout.specs.Entries.{RouteEntry, Site}
use Rattle.control_table.specs.declared.fault.FaultyRoute.{FaultyRoute}
use Rattle.control_table.specs.declared.fault.TableFault.{TableFault}
use Rattle.control_table.specs.declared.fault.TableFault.TheVariants.{PathBroken, PathRepeats, PointMissing, PointWrong, FlankMissing, FlankOpen, FlankContradicts, SignalPlace, NotSymmetric, OutOfMemory}
use Rattle.control_table.specs.declared.sides.FlankProtection.{FlankProtection}
use Rattle.control_table.specs.declared.sides.Protection.{Protection}
use Rattle.control_table.specs.declared.sides.Protection.TheVariants as protection
use Rattle.bit_row.specs.Places.{Places, Has, Meet}
use Rattle.control_table.specs.declared.masks.RouteMasks.{RouteMasks}
use Rattle.layout.specs.Known.{same_port, same_element, end_number}
use Rattle.control_table.specs.Topology.{port_of, section_of}
use Rattle.control_table.specs.Path.{Passage, elements, same_section, sections}
use Rattle.control_table.specs.Sides.{leg, other}

-- ---- a value, or the first fault

infixl 10 ◌>>=◌
abbrev pub ◌>>=◌ : {A B : Type 0} → Result A TableFault → (A → Result B TableFault) → Result B TableFault
(Ok x) >>= f = f x
(Err e) >>= f = Err e

-- What a function returned, seen by view, is what judging gives, unless memory ran out.
abbrev pub Fails : {Y : Type 0} → TableFault → Result Y TableFault → Type 0
Fails OutOfMemory judged = Unit {0}
Fails e judged = judged ≡ Err e

abbrev pub Gives : {X Y : Type 0} → (X → Y) → Result X TableFault → Result Y TableFault → Type 0
Gives view (Ok x) judged = judged ≡ Ok (view x)
Gives view (Err e) judged = Fails e judged

-- ---- ports, elements and signals

-- whether two ports, two elements, two ends are the same
unfoldable pub is_port : Port → Port → Bool
is_port p q = same_port p q

unfoldable pub is_element : Element → Element → Bool
is_element a b = same_element a b

unfoldable pub is_end : End → End → Bool
is_end a b = end_number a == end_number b

-- the other port of a joint, if this port stands in it
abbrev pub other_port : Joint → Port → Option Port
other_port joint p = if is_port joint.first p then Some joint.second else if is_port joint.second p then Some joint.first else None

-- the port to which a port is joined by the first joint in which it stands
abbrev pub joined_to : List Joint → Port → Option Port
joined_to [] p = None
joined_to (joint ∷ joints) p = option_or (other_port joint p) (joined_to joints p)

-- there is a value, and it passes a test
abbrev pub some_and : {A : Type 0} → (A → Bool) → Option A → Bool
some_and test None = false
some_and test (Some x) = test x

abbrev pub has_signal : List Signal → Port → Bool
has_signal signals p = list_any (λ s. is_port s.at p) signals

abbrev pub is_point : Element → Bool
is_point (element.Point p) = true
is_point _ = false

-- ---- the path

unfoldable pub may_pass : Port → Port → Bool
may_pass entered left = is_element entered.element left.element && not (is_end entered.end left.end) && (not (is_point entered.element) || is_end entered.end end.Tip || is_end left.end end.Tip)

abbrev pub passage_from : Option Port → Port → Option Passage
passage_from None left = None
passage_from (Some entered) left = if may_pass entered left then Some (record { entered = entered; left = left }) else None

unfoldable pub passage_behind : List Joint → Port → Port → Option Passage
passage_behind joints before left = passage_from (joined_to joints before) left

unfoldable pub passages : FaultyRoute → List Joint → Port → List Port → Result (List Passage) TableFault
passages place joints before [] = Ok []
passages place joints before (left ∷ rest) = do
  g ← ok_or (passage_behind joints before left) (PathBroken place)
  path ← passages place joints left rest
  Ok (g ∷ path)

unfoldable pub path_of : FaultyRoute → Site → RouteEntry → Result (List Passage) TableFault
path_of place l r = if length r.path == 0 then Err (PathBroken place) else (do
  start ← ok_or (port_of l.signals r.entry) (PathBroken place)
  passages place l.joints start r.path)

-- ---- what comes once

unfoldable pub all_different : {A : Type 0} → (A → A → Bool) → List A → Bool
all_different same [] = true
all_different same (x ∷ xs) = not (list_any (λ y. same y x) xs) && all_different same xs

unfoldable pub sections_of : FaultyRoute → Site → List Passage → Result (List SectionId) TableFault
sections_of place l path =
    if all_different is_element (elements path) && all_different same_section (sections l path) then Ok (sections l path) else Err (PathRepeats place)

-- ---- sides

abbrev pub side_of : End → Option Side
side_of end.Left = Some side.Left
side_of end.Right = Some side.Right
side_of _ = None

-- the leg that a passage uses, if it leads over a point: the one by which it leaves, else the one by which it enters
abbrev pub leg_used : Passage → Option Side
leg_used g = if is_end g.left.end end.Tip then side_of g.entered.end else side_of g.left.end

abbrev pub point_of : Element → Option PointId
point_of (element.Point p) = Some p
point_of _ = None

abbrev pub used_of : Passage → Option PointId → Option (PointId × Side)
used_of g None = None
used_of g (Some p) = option_map (λ s. (p, s)) (leg_used g)

-- the point over which a passage leads, and the side of the leg that it uses
unfoldable pub used : Passage → Option (PointId × Side)
used g = used_of g (point_of g.left.element)

-- what protects a path at an unused leg that is joined to a port
abbrev pub guarded_by : Bool → Protection
guarded_by true = protection.Given
guarded_by false = protection.Open

-- the leg of another point, at an end of an element
abbrev pub leg_at_port : PointId → End → Option PointId → Option (PointId × Side)
leg_at_port p e None = None
leg_at_port p e (Some q) = if q.0 == p.0 then None else option_map (λ s. (q, s)) (side_of e)

unfoldable pub leg_of_another : PointId → Port → Option (PointId × Side)
leg_of_another p from = leg_at_port p from.end (point_of from.element)

abbrev pub protection_by : Bool → Option (PointId × Side) → Protection
protection_by signal None = guarded_by signal
protection_by signal (Some q) = protection.By q.0 (other q.1)

unfoldable pub protection_from : Site → PointId → Port → Protection
protection_from l p from = protection_by (has_signal l.signals from) (leg_of_another p from)

abbrev pub protection_behind : Site → PointId → Option Port → Protection
protection_behind l p None = protection.Given
protection_behind l p (Some from) = protection_from l p from

unfoldable pub protection_of : Site → PointId → Side → Protection
protection_of l p s = protection_behind l p (joined_to l.joints (leg p (other s)))

abbrev pub flank_need : Protection → List (PointId × Side)
flank_need (protection.By q t) = (q, t) ∷ []
flank_need _ = []

-- the points that a passage requires: its own, and the one that guards the unused leg
abbrev pub needs_at : Site → Option (PointId × Side) → List (PointId × Side)
needs_at l None = []
needs_at l (Some n) = n ∷ flank_need (protection_of l n.0 n.1)

unfoldable pub needs : Site → List Passage → List (PointId × Side)
needs l path = flat_map (λ g. needs_at l (used g)) path

-- which points guard which
abbrev pub protections_at : Site → Option (PointId × Side) → List FlankProtection
protections_at l None = []
protections_at l (Some n) = map (λ m. record { flank = m.0; point = n.0 }) (flank_need (protection_of l n.0 n.1))

unfoldable pub protections : Site → List Passage → List FlankProtection
protections l path = flat_map (λ g. protections_at l (used g)) path

abbrev pub is_open_leg : Protection → Bool
is_open_leg protection.Open = true
is_open_leg _ = false

abbrev pub is_open_at : Site → Option (PointId × Side) → Bool
is_open_at l n = some_and (λ n. is_open_leg (protection_of l n.0 n.1)) n

unfoldable pub flanks_guarded : Site → List Passage → Bool
flanks_guarded l path = list_all (λ g. not (is_open_at l (used g))) path

abbrev pub same_side : Side → Side → Bool
same_side side.Left side.Left = true
same_side side.Right side.Right = true
same_side _ _ = false

abbrev pub same_need : PointId × Side → PointId × Side → Bool
same_need m n = m.0.0 == n.0.0 && same_side m.1 n.1

-- a point stands in a list at a side
abbrev pub has_need : List (PointId × Side) → PointId × Side → Bool
has_need ns n = list_any (λ m. same_need m n) ns

unfoldable pub consistent : List (PointId × Side) → Bool
consistent ns = list_all (λ n. not (has_need ns (n.0, other n.1))) ns

-- ---- what is written

-- a point stands in a list at either side
abbrev pub names_point : List (PointId × Side) → PointId → Bool
names_point ns p = list_any (λ n. n.0.0 == p.0) ns

abbrev pub is_over : PointId → Option (PointId × Side) → Bool
is_over p n = some_and (λ n. n.0.0 == p.0) n

unfoldable pub on_path : List Passage → PointId → Bool
on_path path p = list_any (λ g. is_over p (used g)) path

abbrev pub is_named : List (PointId × Side) → Option (PointId × Side) → Bool
is_named ns None = true
is_named ns (Some n) = names_point ns n.0

unfoldable pub points_written : RouteEntry → List Passage → Bool
points_written r path = list_all (λ g. is_named r.points (used g)) path

unfoldable pub points_right : RouteEntry → List Passage → List (PointId × Side) → Bool
points_right r path ns = list_all (λ n. has_need ns n && on_path path n.0) r.points

unfoldable pub flank_right : RouteEntry → List Passage → List (PointId × Side) → Bool
flank_right r path ns = list_all (λ n. has_need ns n && not (on_path path n.0)) r.flank

unfoldable pub flank_written : RouteEntry → List Passage → List (PointId × Side) → Bool
flank_written r path ns = list_all (λ n. on_path path n.0 || names_point r.flank n.0) ns

-- ---- in layout order

-- how many stand before a point
abbrev pub before : PointId → List (PointId × Side) → ℕ
before p ns = prefix_len (λ n. nat_lt n.0.0 p.0) ns

abbrev pub is_at : PointId → Option (PointId × Side) → Bool
is_at p n = some_and (λ n. n.0.0 == p.0) n

-- a required point put into a list in layout order, unless the point is there
unfoldable pub put : List (PointId × Side) → PointId × Side → List (PointId × Side)
put ns n = if is_at n.0 (slice_get ns (before n.0 ns)) then ns else insert ns (before n.0 ns) n

unfoldable pub in_layout_order : List (PointId × Side) → List (PointId × Side)
in_layout_order ns = fold put [] ns

unfoldable pub required_of : FaultyRoute → Site → RouteEntry → List Passage → Result (List (PointId × Side)) TableFault
required_of place l r path =
    if not (points_written r path) then Err (PointMissing place)
    else if not (points_right r path (needs l path) && flank_right r path (needs l path)) then Err (PointWrong place)
    else if not (flank_written r path (needs l path)) then Err (FlankMissing place)
    else if not (flanks_guarded l path) then Err (FlankOpen place)
    else if not (consistent (needs l path)) then Err (FlankContradicts place)
    else Ok (in_layout_order (needs l path))

-- ---- signals and extra conflicts

abbrev pub same_exit : Exit → Exit → Bool
same_exit (exit.Signal s) (exit.Signal t) = s.0 == t.0
same_exit (exit.Border b) (exit.Border c) = b.0 == c.0
same_exit _ _ = false

abbrev pub stands_at : List Signal → SignalId → Port → Bool
stands_at signals s p = some_and (λ at. is_port at p) (port_of signals s)

abbrev pub leads_out : List Joint → Port → BorderId → Bool
leads_out joints p b = some_and (λ beyond. is_element beyond.element (element.Border b)) (joined_to joints p)

abbrev pub is_exit : Site → Exit → Port → Bool
is_exit l (exit.Signal s) p = stands_at l.signals s p
is_exit l (exit.Border b) p = leads_out l.joints p b

unfoldable pub ends_at_exit : Site → Exit → List Passage → Bool
ends_at_exit l x path = some_and (λ g. is_exit l x g.left) (slice_get path (length path - 1))

-- a signal stands at a port and isn't the exit
unfoldable pub is_other_at : Signal → SignalId → Exit → Port → Bool
is_other_at s id x p = is_port s.at p && not (same_exit x (exit.Signal id))

-- no other signal than the exit stands at a port, of the signals from the n-th on
unfoldable pub no_other_at : ℕ → List Signal → Exit → Port → Bool
no_other_at n [] x p = true
no_other_at n (s ∷ signals) x p = if is_other_at s (record { 0 = n }) x p then false else no_other_at (suc n) signals x p

abbrev pub none_between : List Signal → Exit → List Passage → Bool
none_between signals x path = list_all (λ g. no_other_at 0 signals x g.left) path

unfoldable pub signals_placed : Site → RouteEntry → List Passage → Bool
signals_placed l r path = ends_at_exit l r.exit path && not (same_exit r.exit (exit.Signal r.entry)) && none_between l.signals r.exit path

abbrev pub names_route : List RouteId → RouteId → Bool
names_route extra b = list_any (λ c. c.0 == b.0) extra

abbrev pub lists_in : RouteId → Option RouteEntry → Bool
lists_in b r = some_and (λ r. names_route r.extra b) r

unfoldable pub lists : List RouteEntry → RouteId → RouteId → Bool
lists routes a b = lists_in b (slice_get routes a.0)

unfoldable pub extras_listed : List RouteEntry → RouteId → List RouteId → Bool
extras_listed routes a extra = list_all (λ b. not (b.0 == a.0) && lists routes b a) extra

-- ---- the rows of the table

-- what a route needs: its sections in path order, its required points in layout order, and which of them guard which
pub record TableRow : Type 0 where
  pub sections : List SectionId
  pub required : List (PointId × Side)
  pub protections : List FlankProtection

unfoldable pub row_of : FaultyRoute → Site → RouteEntry → Result TableRow TableFault
row_of place l r = do
  path ← path_of place l r
  sections ← sections_of place l path
  required ← required_of place l r path
  if not (signals_placed l r path) then Err (SignalPlace place) else if not (extras_listed l.routes place.id r.extra) then Err (NotSymmetric place) else Ok (record { sections = sections; required = required; protections = protections l path })

-- the rows of the routes from the n-th on, or the first fault
unfoldable pub rows_from : Site → ℕ → List RouteEntry → Result (List TableRow) TableFault
rows_from l n [] = Ok []
rows_from l n (r ∷ routes) = do
  row ← row_of (record { id = record { 0 = n }; name = r.name }) l r
  rows ← rows_from l (suc n) routes
  Ok (row ∷ rows)

unfoldable pub rows_of : Site → Result (List TableRow) TableFault
rows_of l = rows_from l 0 l.routes

-- The row of a route in the table of a layout.
abbrev pub IsRowAt : Site → RouteId → TableRow → Type 0
IsRowAt l a row = (rows : List TableRow) × (rows_of l ≡ Ok rows) × (slice_get rows a.0 ≡ Some row)

-- ---- rows of bits

-- the places of sections, of the points that are required at a side, of routes
abbrev pub section_row : List SectionId → Places
section_row ss = fold (λ row s. insert_place row s.0) no_place ss

abbrev pub point_row : Side → List (PointId × Side) → Places
point_row side ns = fold (λ row n. if same_side n.1 side then insert_place row n.0.0 else row) no_place ns

abbrev pub route_row : List RouteId → Places
route_row bs = fold (λ row b. insert_place row b.0) no_place bs

-- every place is below 64
pub record IsWithin (r : RouteEntry) (row : TableRow) : Type 0 where
  pub sections : All (λ s. s.0 < 64) row.sections
  pub required : All (λ n. n.0.0 < 64) row.required
  pub extra : All (λ b. b.0 < 64) r.extra

abbrev pub AreWithin : List RouteEntry → List TableRow → Type 0
AreWithin (r ∷ routes) (row ∷ rows) = IsWithin r row × AreWithin routes rows
AreWithin routes rows = Unit {0}

-- the masks of a route that has this row
abbrev pub masks_of : RouteEntry → TableRow → RouteMasks
masks_of r row = record { entry = r.entry; sections = section_row row.sections; right = point_row side.Right row.required; left = point_row side.Left row.required; extra = route_row r.extra }

-- the masks of all routes
unfoldable pub all_masks : List RouteEntry → List TableRow → List RouteMasks
all_masks (r ∷ routes) (row ∷ rows) = masks_of r row ∷ all_masks routes rows
all_masks routes rows = []

-- two routes of these masks conflict
abbrev pub MasksConflict : RouteId → RouteId → RouteMasks → RouteMasks → Type 0
MasksConflict a b first second =
    (a.0 ≢ b.0) × ((first.entry.0 ≡ second.entry.0) ⊎ Meet first.sections second.sections ⊎ Meet first.right second.left ⊎ Meet first.left second.right ⊎ Has first.extra b.0 ⊎ Has second.extra a.0)

-- ---- until when a route holds a point

abbrev pub with_section : Option SectionId → Places → Places
with_section None row = row
with_section (Some s) row = insert_place row s.0

-- the sections of the points that a point guards
abbrev pub guarded_sections : Site → PointId → List FlankProtection → Places
guarded_sections l p flanks = fold (λ row f. if f.flank.0 == p.0 then with_section (section_of l (element.Point f.point)) row else row) no_place flanks

-- the sections that a required point awaits
unfoldable pub awaited_by : Site → RouteEntry → List FlankProtection → PointId → Places
awaited_by l r flanks p = if names_point r.points p then with_section (section_of l (element.Point p)) no_place else guarded_sections l p flanks
