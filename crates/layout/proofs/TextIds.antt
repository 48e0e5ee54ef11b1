-- The identities that a text writes are those of nodes, and no route of it has the aspect stop.
use Rattle.std.proofs.Common.{◌≡◌, ◌≢◌, bytes_eq, ℕ, ◌&&◌, Bool, true, false, ℤ, pos, negsuc, List, map, All, codes, Option, Some, None, nat_le, Ok, Err, if◌then◌else◌, sym, ap, subst, rules}
use Rattle.std.specs.Option.{ok_or}
use Rattle.std.proofs.lemmas.Bool.{false≢true}
use Rattle.std.proofs.lemmas.Bool.Decides.{Decides-and}
use Rattle.std.proofs.lemmas.List.Elements.{All-cons, All-append, All-map}
use Rattle.sci_telegram.specs.declared.message.Aspect.{Aspect}
use Rattle.sci_telegram.specs.declared.message.Aspect.TheVariants.{Stop, Proceed, Slow}
use Rattle.sci_telegram.specs.Words.{aspect_of_word}
use Rattle.toml.specs.Data.{Data, Members, as_integer, get_member}
use Rattle.layout_text.specs.declared.fault.LayoutFault.TheVariants.{WrongKind}
use Rattle.layout_text.specs.declared.fault.Place.{Place}
use Rattle.layout_text.specs.declared.fault.TableName.{TableName}
use Rattle.layout_text.specs.declared.fault.TableName.TheVariants as named
use Rattle.layout_text.specs.declared.entries.Station.{Station}
use Rattle.layout_text.specs.declared.entries.WrittenPoint.{WrittenPoint}
use Rattle.layout_text.specs.declared.entries.WrittenSignal.{WrittenSignal}
use Rattle.layout_text.specs.Written.{DetectorText, RouteText, LayoutText}
use Rattle.layout_text.specs.FirstFault.{Read}
use Rattle.layout_text.specs.Values.{field_at, text_at, table_at, name_at, id_of, aspect_at, route_aspect}
use Rattle.layout_text.specs.Text.{key_place, name_field, id_field, port_field, names_field, ports_field, sides_field, names_at, sides_at, list_or_empty, aspect_or_proceed, key_or_none, station_at, track_at, point_at, joint_at, signal_at, detector_at, route_at, items_at, entries_at, station_in, text_of}
use Rattle.layout.specs.Station.{IsNodeId}
use Rattle.layout.proofs.OnceLemmas.{came_from, same_ok}
use Rattle.layout.proofs.Steps.{le-decides, passed, each-all}
use Rattle.layout.proofs.OnceSite.{ids_in}

goes-on : Aspect → Bool
goes-on Stop = false
goes-on Proceed = true
goes-on Slow = true

proceed-goes : Proceed ≢ Stop
unfolding goes-on
proceed-goes e = false≢true (sym (ap goes-on e))

slow-goes : Slow ≢ Stop
unfolding goes-on
slow-goes e = false≢true (sym (ap goes-on e))

id-of-node : (place : Place) (o : Option ℤ) (n : ℕ) → id_of place o ≡ Ok n → IsNodeId n
id-of-node place None n h = search rules
id-of-node place (Some (pos k)) n h =
    let is = passed (nat_le 1 k && nat_le k 4294967295) (WrongKind place) k n h in
    subst IsNodeId is.1 ((Decides-and (nat_le 1 k) (nat_le k 4294967295) (le-decides 1 k) (le-decides k 4294967295)).0 is.0)
id-of-node place (Some (negsuc k)) n h = search rules

id-field-node : (key : List ℕ) (place : Place) (fields : Members) (n : ℕ) → id_field key place fields ≡ Ok n → IsNodeId n
unfolding id_field
id-field-node key place fields n h =
    let d = came_from (field_at key place fields) _ n h in
    id-of-node place (as_integer d.0) n d.2

station-node : (place : Place) (d : Data) (s : Station) → station_at place d ≡ Ok s → IsNodeId s.id
unfolding station_at
station-node place d s h =
    let fields = came_from (table_at place d) _ s h in
    let name = came_from (name_field (codes "name") place fields.0) _ s fields.2 in
    let id = came_from (id_field (codes "id") place fields.0) _ s name.2 in
    let key = came_from (key_or_none place (get_member (codes "key") fields.0)) (λ key. Ok (record { name = name.0; id = id.0; key = key })) s id.2 in
    let made : Station = record { name = name.0; id = id.0; key = key.0 } in
    subst (λ s. IsNodeId s.id) (same_ok made s key.2) (id-field-node (codes "id") place fields.0 id.0 id.1)

point-node : (place : Place) (d : Data) (p : WrittenPoint) → Unit {0} → point_at place d ≡ Ok p → IsNodeId p.id
unfolding point_at
point-node place d p _ h =
    let fields = came_from (table_at place d) _ p h in
    let name = came_from (name_field (codes "name") place fields.0) _ p fields.2 in
    let id = came_from (id_field (codes "id") place fields.0) _ p name.2 in
    let section = came_from (name_field (codes "section") place fields.0) (λ s. Ok (record { name = name.0; id = id.0; section = s })) p id.2 in
    let made : WrittenPoint = record { name = name.0; id = id.0; section = section.0 } in
    subst (λ p. IsNodeId p.id) (same_ok made p section.2) (id-field-node (codes "id") place fields.0 id.0 id.1)

signal-node : (place : Place) (d : Data) (s : WrittenSignal) → Unit {0} → signal_at place d ≡ Ok s → IsNodeId s.id
unfolding signal_at
signal-node place d s _ h =
    let fields = came_from (table_at place d) _ s h in
    let name = came_from (name_field (codes "name") place fields.0) _ s fields.2 in
    let id = came_from (id_field (codes "id") place fields.0) _ s name.2 in
    let at = came_from (port_field (codes "at") place fields.0) (λ at. Ok (record { name = name.0; id = id.0; at = at })) s id.2 in
    let made : WrittenSignal = record { name = name.0; id = id.0; at = at.0 } in
    subst (λ s. IsNodeId s.id) (same_ok made s at.2) (id-field-node (codes "id") place fields.0 id.0 id.1)

detector-node : (place : Place) (d : Data) (x : DetectorText) → Unit {0} → detector_at place d ≡ Ok x → IsNodeId x.id
unfolding detector_at
detector-node place d x _ h =
    let fields = came_from (table_at place d) _ x h in
    let name = came_from (name_field (codes "name") place fields.0) _ x fields.2 in
    let id = came_from (id_field (codes "id") place fields.0) _ x name.2 in
    let sections = came_from (names_field (codes "sections") place fields.0) (λ ss. Ok (record { name = name.0; id = id.0; sections = ss })) x id.2 in
    let made : DetectorText = record { name = name.0; id = id.0; sections = sections.0 } in
    subst (λ x. IsNodeId x.id) (same_ok made x sections.2) (id-field-node (codes "id") place fields.0 id.0 id.1)

pub entries-node : {A : Type 0} (key : List ℕ) (table : TableName) (entry : Place → Data → Read A) (P : A → Type 0) → ((place : Place) (d : Data) (x : A) → Unit {0} → entry place d ≡ Ok x → P x)
    → (document : Members) (xs : List A) → entries_at key table entry document ≡ Ok xs → All P xs
unfolding entries_at
entries-node key table entry P makes document xs h =
    let items = came_from (items_at key table document) _ xs h in
    each-all entry (λ _. Unit {0}) P makes table 1 items.0 xs (λ k d lt. tt) items.2

aspect-at-goes : (place : Place) (d : Data) (a : Aspect) → aspect_at place d ≡ Ok a → a ≢ Stop
unfolding aspect_at
aspect-at-goes place d a h =
    let word = came_from (text_at place d) _ a h in
    word-goes (aspect_of_word word.0) word.2
  where
    word-goes : (o : Option Aspect) → ok_or (route_aspect o) (WrongKind place) ≡ Ok a → a ≢ Stop
    word-goes None h = search rules
    word-goes (Some Stop) h = search rules
    word-goes (Some Proceed) h = subst (λ a. a ≢ Stop) (same_ok Proceed a h) proceed-goes
    word-goes (Some Slow) h = subst (λ a. a ≢ Stop) (same_ok Slow a h) slow-goes

aspect-goes : (place : Place) (o : Option Data) (a : Aspect) → aspect_or_proceed place o ≡ Ok a → a ≢ Stop
aspect-goes place None a h = subst (λ a. a ≢ Stop) (same_ok Proceed a h) proceed-goes
aspect-goes place (Some d) a h = aspect-at-goes place d a h

route-goes : (place : Place) (d : Data) (r : RouteText) → Unit {0} → route_at place d ≡ Ok r → r.aspect ≢ Stop
unfolding route_at
route-goes place d r _ h =
    let fields = came_from (table_at place d) _ r h in
    let name = came_from (name_field (codes "name") place fields.0) _ r fields.2 in
    let entry = came_from (name_field (codes "entry") place fields.0) _ r name.2 in
    let exit = came_from (name_field (codes "exit") place fields.0) _ r entry.2 in
    let path = came_from (ports_field (codes "path") place fields.0) _ r exit.2 in
    let points = came_from (sides_field (codes "points") place fields.0) _ r path.2 in
    let flank = came_from (list_or_empty (sides_at place) (get_member (codes "flank") fields.0)) _ r points.2 in
    let approach = came_from (list_or_empty (names_at place) (get_member (codes "approach") fields.0)) _ r flank.2 in
    let extra = came_from (list_or_empty (names_at place) (get_member (codes "extra") fields.0)) _ r approach.2 in
    let aspect = came_from (aspect_or_proceed place (get_member (codes "aspect") fields.0)) _ r extra.2 in
    let made : RouteText = record { name = name.0; entry = entry.0; exit = exit.0; path = path.0; points = points.0; flank = flank.0; approach = approach.0; extra = extra.0; aspect = aspect.0 } in
    subst (λ r. r.aspect ≢ Stop) (same_ok made r aspect.2) (aspect-goes place (get_member (codes "aspect") fields.0) aspect.0 aspect.1)

the-station-node : (document : Members) (s : Station) → station_in document ≡ Ok s → IsNodeId s.id
unfolding station_in
the-station-node document s h =
    let d = came_from (field_at (codes "station") (key_place named.Station) document) _ s h in
    let fields = came_from (table_at (key_place named.Station) d.0) (λ _. station_at (record { table = named.Station; entry = 1 }) d.0) s d.2 in
    station-node (record { table = named.Station; entry = 1 }) d.0 s fields.2

pub text-goes : (document : Members) (text : LayoutText) → text_of document ≡ Ok text → All (λ r. r.aspect ≢ Stop) text.routes
unfolding text_of
text-goes document text h =
    let station = came_from (station_in document) _ text h in
    let sections = came_from (entries_at (codes "section") named.Section name_at document) _ text station.2 in
    let tracks = came_from (entries_at (codes "track") named.Track track_at document) _ text sections.2 in
    let points = came_from (entries_at (codes "point") named.Point point_at document) _ text tracks.2 in
    let borders = came_from (entries_at (codes "border") named.Border name_at document) _ text points.2 in
    let joints = came_from (entries_at (codes "joint") named.Joint joint_at document) _ text borders.2 in
    let signals = came_from (entries_at (codes "signal") named.Signal signal_at document) _ text joints.2 in
    let detectors = came_from (entries_at (codes "detector") named.Detector detector_at document) _ text signals.2 in
    let routes = came_from (entries_at (codes "route") named.Route route_at document) _ text detectors.2 in
    let made : LayoutText = record { station = station.0; sections = sections.0; tracks = tracks.0; points = points.0; borders = borders.0; joints = joints.0; signals = signals.0; detectors = detectors.0; routes = routes.0 } in
    subst (λ t. All (λ r. r.aspect ≢ Stop) t.routes) (same_ok made text routes.2) (entries-node (codes "route") named.Route route_at (λ r. r.aspect ≢ Stop) route-goes document routes.0 routes.1)

pub text-nodes : (document : Members) (text : LayoutText) → text_of document ≡ Ok text → All IsNodeId (ids_in text)
unfolding text_of ids_in
text-nodes document text h =
    let station = came_from (station_in document) _ text h in
    let sections = came_from (entries_at (codes "section") named.Section name_at document) _ text station.2 in
    let tracks = came_from (entries_at (codes "track") named.Track track_at document) _ text sections.2 in
    let points = came_from (entries_at (codes "point") named.Point point_at document) _ text tracks.2 in
    let borders = came_from (entries_at (codes "border") named.Border name_at document) _ text points.2 in
    let joints = came_from (entries_at (codes "joint") named.Joint joint_at document) _ text borders.2 in
    let signals = came_from (entries_at (codes "signal") named.Signal signal_at document) _ text joints.2 in
    let detectors = came_from (entries_at (codes "detector") named.Detector detector_at document) _ text signals.2 in
    let routes = came_from (entries_at (codes "route") named.Route route_at document) _ text detectors.2 in
    let made : LayoutText = record { station = station.0; sections = sections.0; tracks = tracks.0; points = points.0; borders = borders.0; joints = joints.0; signals = signals.0; detectors = detectors.0; routes = routes.0 } in
    let of_points = entries-node (codes "point") named.Point point_at (λ p. IsNodeId p.id) point-node document points.0 points.1 in
    let of_signals = entries-node (codes "signal") named.Signal signal_at (λ s. IsNodeId s.id) signal-node document signals.0 signals.1 in
    let of_detectors = entries-node (codes "detector") named.Detector detector_at (λ d. IsNodeId d.id) detector-node document detectors.0 detectors.1 in
    let ids : All IsNodeId (ids_in made) =
    All-cons IsNodeId station.0.id _ (the-station-node document station.0 station.1)
    (All-append IsNodeId (map (λ p. p.id) points.0) _ (All-map IsNodeId (λ p. p.id) points.0 of_points)
    (All-append IsNodeId (map (λ s. s.id) signals.0) (map (λ d. d.id) detectors.0) (All-map IsNodeId (λ s. s.id) signals.0 of_signals) (All-map IsNodeId (λ d. d.id) detectors.0 of_detectors))) in
    subst (λ t. All IsNodeId (ids_in t)) (same_ok made text routes.2) ids
