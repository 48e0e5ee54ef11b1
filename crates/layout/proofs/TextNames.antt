-- The names that a text writes for its entries are names of telegrams.
use Rattle.std.proofs.Common.{◌≡◌, ℕ, ◌&&◌, true, IsTrue, List, map, length, All, codes, Ok, nat_le, subst}
use Rattle.std.specs.Bool.{Decides}
use Rattle.std.proofs.lemmas.Bool.Decides.{Decides-and}
use Rattle.std.proofs.lemmas.List.Elements.{All-cons, All-append, All-map}
use Rattle.std.specs.List.{list_all}
use Rattle.toml.specs.Data.{Data, Members, get_member}
use Rattle.sci_telegram.specs.Names.{IsName, is_name_byte}
use Rattle.layout_text.specs.declared.fault.LayoutFault.TheVariants.{WrongKind}
use Rattle.layout_text.specs.declared.fault.Place.{Place}
use Rattle.layout_text.specs.declared.fault.TableName.{TableName}
use Rattle.layout_text.specs.declared.fault.TableName.TheVariants as named
use Rattle.layout_text.specs.declared.entries.Station.{Station}
use Rattle.layout_text.specs.declared.entries.WrittenTrack.{WrittenTrack}
use Rattle.layout_text.specs.declared.entries.WrittenPoint.{WrittenPoint}
use Rattle.layout_text.specs.declared.entries.WrittenSignal.{WrittenSignal}
use Rattle.layout_text.specs.Written.{DetectorText, RouteText, LayoutText}
use Rattle.layout_text.specs.Values.{field_at, text_at, table_at, is_name, name_of, name_at}
use Rattle.layout_text.specs.Text.{key_place, name_field, id_field, port_field, names_field, ports_field, sides_field, names_at, sides_at, list_or_empty, aspect_or_proceed, key_or_none, station_at, track_at, point_at, joint_at, signal_at, detector_at, route_at, entries_at, station_in, text_of}
use Rattle.layout.proofs.OnceLemmas.{came_from, same_ok}
use Rattle.layout.proofs.Steps.{le-decides, passed}
use Rattle.layout.proofs.TextIds.{entries-node}
use Rattle.layout.proofs.OnceSite.{names_in}

-- a text that passes the test for a name
name-passed : (text : List ℕ) → is_name text ≡ true → IsName text
name-passed text is =
    let each : Decides (list_all is_name_byte text) (IsTrue (list_all is_name_byte text)) = (λ e. e, λ t. t) in
    let few = Decides-and (nat_le 1 (length text)) (nat_le (length text) 20) (le-decides 1 (length text)) (le-decides (length text) 20) in
    let all = (Decides-and (nat_le 1 (length text) && nat_le (length text) 20) (list_all is_name_byte text) few each).0 is in
    record { some = all.0.0; most = all.0.1; each = all.1 }

name-of-name : (place : Place) (text name : List ℕ) → name_of place text ≡ Ok name → IsName name
name-of-name place text name h =
    let is = passed (is_name text) (WrongKind place) text name h in
    subst IsName is.1 (name-passed text is.0)

name-at-name : (place : Place) (d : Data) (name : List ℕ) → Unit {0} → name_at place d ≡ Ok name → IsName name
unfolding name_at
name-at-name place d name _ h =
    let text = came_from (text_at place d) (λ text. name_of place text) name h in
    name-of-name place text.0 name text.2

name-field-name : (key : List ℕ) (place : Place) (fields : Members) (name : List ℕ) → name_field key place fields ≡ Ok name → IsName name
unfolding name_field
name-field-name key place fields name h =
    let d = came_from (field_at key place fields) (λ d. name_at place d) name h in
    name-at-name place d.0 name tt d.2

-- ---- each kind of entry

station-name : (place : Place) (d : Data) (s : Station) → station_at place d ≡ Ok s → IsName s.name
unfolding station_at
station-name place d s h =
    let fields = came_from (table_at place d) _ s h in
    let name = came_from (name_field (codes "name") place fields.0) _ s fields.2 in
    let id = came_from (id_field (codes "id") place fields.0) _ s name.2 in
    let key = came_from (key_or_none place (get_member (codes "key") fields.0)) (λ key. Ok (record { name = name.0; id = id.0; key = key })) s id.2 in
    let made : Station = record { name = name.0; id = id.0; key = key.0 } in
    subst (λ s. IsName s.name) (same_ok made s key.2) (name-field-name (codes "name") place fields.0 name.0 name.1)

track-name : (place : Place) (d : Data) (t : WrittenTrack) → Unit {0} → track_at place d ≡ Ok t → IsName t.name
unfolding track_at
track-name place d t _ h =
    let fields = came_from (table_at place d) _ t h in
    let name = came_from (name_field (codes "name") place fields.0) _ t fields.2 in
    let section = came_from (name_field (codes "section") place fields.0) (λ s. Ok (record { name = name.0; section = s })) t name.2 in
    let made : WrittenTrack = record { name = name.0; section = section.0 } in
    subst (λ t. IsName t.name) (same_ok made t section.2) (name-field-name (codes "name") place fields.0 name.0 name.1)

point-name : (place : Place) (d : Data) (p : WrittenPoint) → Unit {0} → point_at place d ≡ Ok p → IsName p.name
unfolding point_at
point-name place d p _ h =
    let fields = came_from (table_at place d) _ p h in
    let name = came_from (name_field (codes "name") place fields.0) _ p fields.2 in
    let id = came_from (id_field (codes "id") place fields.0) _ p name.2 in
    let section = came_from (name_field (codes "section") place fields.0) (λ s. Ok (record { name = name.0; id = id.0; section = s })) p id.2 in
    let made : WrittenPoint = record { name = name.0; id = id.0; section = section.0 } in
    subst (λ p. IsName p.name) (same_ok made p section.2) (name-field-name (codes "name") place fields.0 name.0 name.1)

signal-name : (place : Place) (d : Data) (s : WrittenSignal) → Unit {0} → signal_at place d ≡ Ok s → IsName s.name
unfolding signal_at
signal-name place d s _ h =
    let fields = came_from (table_at place d) _ s h in
    let name = came_from (name_field (codes "name") place fields.0) _ s fields.2 in
    let id = came_from (id_field (codes "id") place fields.0) _ s name.2 in
    let at = came_from (port_field (codes "at") place fields.0) (λ at. Ok (record { name = name.0; id = id.0; at = at })) s id.2 in
    let made : WrittenSignal = record { name = name.0; id = id.0; at = at.0 } in
    subst (λ s. IsName s.name) (same_ok made s at.2) (name-field-name (codes "name") place fields.0 name.0 name.1)

detector-name : (place : Place) (d : Data) (x : DetectorText) → Unit {0} → detector_at place d ≡ Ok x → IsName x.name
unfolding detector_at
detector-name place d x _ h =
    let fields = came_from (table_at place d) _ x h in
    let name = came_from (name_field (codes "name") place fields.0) _ x fields.2 in
    let id = came_from (id_field (codes "id") place fields.0) _ x name.2 in
    let sections = came_from (names_field (codes "sections") place fields.0) (λ ss. Ok (record { name = name.0; id = id.0; sections = ss })) x id.2 in
    let made : DetectorText = record { name = name.0; id = id.0; sections = sections.0 } in
    subst (λ x. IsName x.name) (same_ok made x sections.2) (name-field-name (codes "name") place fields.0 name.0 name.1)

route-name : (place : Place) (d : Data) (r : RouteText) → Unit {0} → route_at place d ≡ Ok r → IsName r.name
unfolding route_at
route-name place d r _ h =
    let fields = came_from (table_at place d) _ r h in
    let name = came_from (name_field (codes "name") place fields.0) _ r fields.2 in
    let entry = came_from (name_field (codes "entry") place fields.0) _ r name.2 in
    let exit = came_from (name_field (codes "exit") place fields.0) _ r entry.2 in
    let path = came_from (ports_field (codes "path") place fields.0) _ r exit.2 in
    let points = came_from (sides_field (codes "points") place fields.0) _ r path.2 in
    let flank = came_from (list_or_empty (sides_at place) (get_member (codes "flank") fields.0)) _ r points.2 in
    let approach = came_from (list_or_empty (names_at place) (get_member (codes "approach") fields.0)) _ r flank.2 in
    let extra = came_from (list_or_empty (names_at place) (get_member (codes "extra") fields.0)) _ r approach.2 in
    let aspect = came_from (aspect_or_proceed place (get_member (codes "aspect") fields.0)) _ r extra.2 in
    let made : RouteText = record { name = name.0; entry = entry.0; exit = exit.0; path = path.0; points = points.0; flank = flank.0; approach = approach.0; extra = extra.0; aspect = aspect.0 } in
    subst (λ r. IsName r.name) (same_ok made r aspect.2) (name-field-name (codes "name") place fields.0 name.0 name.1)

the-station-name : (document : Members) (s : Station) → station_in document ≡ Ok s → IsName s.name
unfolding station_in
the-station-name document s h =
    let d = came_from (field_at (codes "station") (key_place named.Station) document) _ s h in
    let fields = came_from (table_at (key_place named.Station) d.0) (λ _. station_at (record { table = named.Station; entry = 1 }) d.0) s d.2 in
    station-name (record { table = named.Station; entry = 1 }) d.0 s fields.2

-- ---- all of them

pub text-names : (document : Members) (text : LayoutText) → text_of document ≡ Ok text → All IsName (names_in text)
unfolding text_of names_in
text-names document text h =
    let station = came_from (station_in document) _ text h in
    let sections = came_from (entries_at (codes "section") named.Section name_at document) _ text station.2 in
    let tracks = came_from (entries_at (codes "track") named.Track track_at document) _ text sections.2 in
    let points = came_from (entries_at (codes "point") named.Point point_at document) _ text tracks.2 in
    let borders = came_from (entries_at (codes "border") named.Border name_at document) _ text points.2 in
    let joints = came_from (entries_at (codes "joint") named.Joint joint_at document) _ text borders.2 in
    let signals = came_from (entries_at (codes "signal") named.Signal signal_at document) _ text joints.2 in
    let detectors = came_from (entries_at (codes "detector") named.Detector detector_at document) _ text signals.2 in
    let routes = came_from (entries_at (codes "route") named.Route route_at document) _ text detectors.2 in
    let made : LayoutText = record { station = station.0; sections = sections.0; tracks = tracks.0; points = points.0; borders = borders.0; joints = joints.0; signals = signals.0; detectors = detectors.0; routes = routes.0 } in
    let of_sections = entries-node (codes "section") named.Section name_at IsName name-at-name document sections.0 sections.1 in
    let of_tracks = entries-node (codes "track") named.Track track_at (λ t. IsName t.name) track-name document tracks.0 tracks.1 in
    let of_points = entries-node (codes "point") named.Point point_at (λ p. IsName p.name) point-name document points.0 points.1 in
    let of_borders = entries-node (codes "border") named.Border name_at IsName name-at-name document borders.0 borders.1 in
    let of_signals = entries-node (codes "signal") named.Signal signal_at (λ s. IsName s.name) signal-name document signals.0 signals.1 in
    let of_detectors = entries-node (codes "detector") named.Detector detector_at (λ d. IsName d.name) detector-name document detectors.0 detectors.1 in
    let of_routes = entries-node (codes "route") named.Route route_at (λ r. IsName r.name) route-name document routes.0 routes.1 in
    let names : All IsName (names_in made) =
    All-cons IsName station.0.name _ (the-station-name document station.0 station.1)
    (All-append IsName sections.0 _ of_sections
    (All-append IsName (map (λ t. t.name) tracks.0) _ (All-map IsName (λ t. t.name) tracks.0 of_tracks)
    (All-append IsName (map (λ p. p.name) points.0) _ (All-map IsName (λ p. p.name) points.0 of_points)
    (All-append IsName borders.0 _ of_borders
    (All-append IsName (map (λ s. s.name) signals.0) _ (All-map IsName (λ s. s.name) signals.0 of_signals)
    (All-append IsName (map (λ d. d.name) detectors.0) (map (λ r. r.name) routes.0) (All-map IsName (λ d. d.name) detectors.0 of_detectors)
    (All-map IsName (λ r. r.name) routes.0 of_routes))))))) in
    subst (λ t. All IsName (names_in t)) (same_ok made text routes.2) names
