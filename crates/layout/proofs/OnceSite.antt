-- A layout that passed the tests has nothing twice.
use Rattle.std.proofs.Common.{◌≡◌, ℕ, List, [], ◌∷◌, ◌++◌, map, Ok, refl, sym, ap, ◌∙◌, append_assoc}
use Rattle.std.specs.Map.{keys_of}
use Rattle.layout_text.specs.declared.fault.Place.{Place}
use Rattle.layout_text.specs.declared.fault.TableName.TheVariants as named
use Rattle.layout.specs.declared.known.Double.TheVariants as double
use Rattle.layout.specs.declared.entries.Track.{Track}
use Rattle.layout.specs.declared.entries.Point.{Point}
use Rattle.layout.specs.declared.entries.Signal.{Signal}
use Rattle.layout_text.specs.declared.entries.WrittenTrack.{WrittenTrack}
use Rattle.layout_text.specs.declared.entries.WrittenPoint.{WrittenPoint}
use Rattle.layout_text.specs.declared.entries.WrittenSignal.{WrittenSignal}
use Rattle.layout.specs.Entries.{DetectorEntry, RouteEntry, Site}
use Rattle.layout_text.specs.Written.{DetectorText, RouteText, LayoutText}
use Rattle.layout_text.specs.FirstFault.{◌>>=◌, each_of, all_of}
use Rattle.layout.specs.Known.{same_name, same_port, note_key, note_each}
use Rattle.layout_text.specs.Limits.{limits_of, all_within}
use Rattle.layout.specs.Doubles.{ports_joined, same_id, ground_of, directory_of, ids_of, reported_of, joined_of, signalled_of}
use Rattle.layout.specs.NamesResolved.{section_named, signal_named, exit_named, port_named, side_named, route_named, track_named, point_named, joint_named, signal_entry, detector_entry, route_entry, section_reported, site_of, names_of, entries_of, ports_once}
use Rattle.layout.specs.Once.{Distinct, all_names, all_ids, joined_ports, Once}
use Rattle.layout.proofs.OnceLemmas.{came_from, read_as, same_ok, Apart, apart_distinct, key_once, each_once, lists_once, joined-flat, same_name-refl, same_id-refl, same_port-refl, nothing_twice, each_keeps}

-- all names of a text, and all identities
unfoldable pub names_in : LayoutText → List (List ℕ)
names_in text =
    text.station.name ∷ (text.sections ++ (map (λ t. t.name) text.tracks ++ (map (λ p. p.name) text.points ++ (text.borders
    ++ (map (λ s. s.name) text.signals ++ (map (λ d. d.name) text.detectors ++ map (λ r. r.name) text.routes))))))

unfoldable pub ids_in : LayoutText → List ℕ
ids_in text = text.station.id ∷ (map (λ p. p.id) text.points ++ (map (λ s. s.id) text.signals ++ map (λ d. d.id) text.detectors))

-- lists that were put after one another one by one
grouped : {K : Type 0} (k : K) (a b c d : List K) → (((k ∷ []) ++ a) ++ b) ++ c ++ d ≡ k ∷ (a ++ (b ++ (c ++ d)))
grouped k a b c d = append_assoc ((k ∷ a) ++ b) c d ∙ append_assoc (k ∷ a) b (c ++ d)

grouped_ids : {K : Type 0} (k : K) (a b c : List K) → (((k ∷ []) ++ a) ++ b) ++ c ≡ k ∷ (a ++ (b ++ c))
grouped_ids k a b c = append_assoc (k ∷ a) b c

grouped_all : {K : Type 0} (k : K) (a b c d e f g : List K) → (((k ∷ (a ++ (b ++ (c ++ d)))) ++ e) ++ f) ++ g ≡ k ∷ (a ++ (b ++ (c ++ (d ++ (e ++ (f ++ g))))))
grouped_all k a b c d e f g = append_assoc ((k ∷ (a ++ (b ++ (c ++ d)))) ++ e) f g ∙ (append_assoc (k ∷ (a ++ (b ++ (c ++ d)))) e (f ++ g)
    ∙ ap (λ xs. k ∷ xs) (append_assoc a (b ++ (c ++ d)) (e ++ (f ++ g)) ∙ ap (λ xs. a ++ xs) (append_assoc b (c ++ d) (e ++ (f ++ g)) ∙ ap (λ xs. b ++ xs) (append_assoc c d (e ++ (f ++ g))))))

-- the names of the directory, of what lies on the ground first
module _ (text : LayoutText) where
  ground-once : (known : List (List ℕ × Place)) → ground_of text ≡ Ok known
      → (keys_of known ≡ text.station.name ∷ (text.sections ++ (map (λ t. t.name) text.tracks ++ (map (λ p. p.name) text.points ++ text.borders)))) × Apart same_name (keys_of known)
  unfolding ground_of
  ground-once known h =
      let one = came_from (note_key same_name double.Name [] text.station.name (record { table = named.Station; entry = 1 })) (λ v0. note_each same_name double.Name named.Section 1 text.sections v0 >>= λ v1. note_each same_name double.Name named.Track 1 (map (λ x. x.name) text.tracks) v1 >>= λ v2. note_each same_name double.Name named.Point 1 (map (λ x. x.name) text.points) v2 >>= λ v3. note_each same_name double.Name named.Border 1 text.borders v3) known h in
      let two = came_from (note_each same_name double.Name named.Section 1 text.sections one.0) (λ v1. note_each same_name double.Name named.Track 1 (map (λ x. x.name) text.tracks) v1 >>= λ v2. note_each same_name double.Name named.Point 1 (map (λ x. x.name) text.points) v2 >>= λ v3. note_each same_name double.Name named.Border 1 text.borders v3) known one.2 in
      let three = came_from (note_each same_name double.Name named.Track 1 (map (λ x. x.name) text.tracks) two.0) (λ v2. note_each same_name double.Name named.Point 1 (map (λ x. x.name) text.points) v2 >>= λ v3. note_each same_name double.Name named.Border 1 text.borders v3) known two.2 in
      let four = came_from (note_each same_name double.Name named.Point 1 (map (λ x. x.name) text.points) three.0) (λ v3. note_each same_name double.Name named.Border 1 text.borders v3) known three.2 in
      let k1 = key_once same_name double.Name [] text.station.name _ one.0 one.1 (nothing_twice same_name) in
      let k2 = each_once same_name double.Name named.Section 1 text.sections one.0 two.0 two.1 k1.1 in
      let k3 = each_once same_name double.Name named.Track 1 _ two.0 three.0 three.1 k2.1 in
      let k4 = each_once same_name double.Name named.Point 1 _ three.0 four.0 four.1 k3.1 in
      let k5 = each_once same_name double.Name named.Border 1 text.borders four.0 known four.2 k4.1 in
      (rw (k5.0, k4.0, k3.0, k2.0, k1.0) (grouped text.station.name text.sections _ _ text.borders), k5.1)

  directory-once : (known : List (List ℕ × Place)) → directory_of text ≡ Ok known → (keys_of known ≡ names_in text) × Apart same_name (keys_of known)
  unfolding directory_of names_in
  directory-once known h =
      let one = came_from (ground_of text) (λ v0. note_each same_name double.Name named.Signal 1 (map (λ x. x.name) text.signals) v0 >>= λ v1. note_each same_name double.Name named.Detector 1 (map (λ x. x.name) text.detectors) v1 >>= λ v2. note_each same_name double.Name named.Route 1 (map (λ x. x.name) text.routes) v2) known h in
      let two = came_from (note_each same_name double.Name named.Signal 1 (map (λ x. x.name) text.signals) one.0) (λ v1. note_each same_name double.Name named.Detector 1 (map (λ x. x.name) text.detectors) v1 >>= λ v2. note_each same_name double.Name named.Route 1 (map (λ x. x.name) text.routes) v2) known one.2 in
      let three = came_from (note_each same_name double.Name named.Detector 1 (map (λ x. x.name) text.detectors) two.0) (λ v2. note_each same_name double.Name named.Route 1 (map (λ x. x.name) text.routes) v2) known two.2 in
      let k1 = ground-once one.0 one.1 in
      let k2 = each_once same_name double.Name named.Signal 1 _ one.0 two.0 two.1 k1.1 in
      let k3 = each_once same_name double.Name named.Detector 1 _ two.0 three.0 three.1 k2.1 in
      let k4 = each_once same_name double.Name named.Route 1 _ three.0 known three.2 k3.1 in
      (rw (k4.0, k3.0, k2.0, k1.0) (grouped_all text.station.name text.sections _ _ text.borders _ _ _), k4.1)

  ids-once : (known : List (ℕ × Place)) → ids_of text ≡ Ok known → (keys_of known ≡ ids_in text) × Apart same_id (keys_of known)
  unfolding ids_of ids_in
  ids-once known h =
      let one = came_from (note_key same_id double.Name [] text.station.id (record { table = named.Station; entry = 1 })) (λ v0. note_each same_id double.Name named.Point 1 (map (λ x. x.id) text.points) v0 >>= λ v1. note_each same_id double.Name named.Signal 1 (map (λ x. x.id) text.signals) v1 >>= λ v2. note_each same_id double.Name named.Detector 1 (map (λ x. x.id) text.detectors) v2) known h in
      let two = came_from (note_each same_id double.Name named.Point 1 (map (λ x. x.id) text.points) one.0) (λ v1. note_each same_id double.Name named.Signal 1 (map (λ x. x.id) text.signals) v1 >>= λ v2. note_each same_id double.Name named.Detector 1 (map (λ x. x.id) text.detectors) v2) known one.2 in
      let three = came_from (note_each same_id double.Name named.Signal 1 (map (λ x. x.id) text.signals) two.0) (λ v2. note_each same_id double.Name named.Detector 1 (map (λ x. x.id) text.detectors) v2) known two.2 in
      let k1 = key_once same_id double.Name [] text.station.id _ one.0 one.1 (nothing_twice same_id) in
      let k2 = each_once same_id double.Name named.Point 1 _ one.0 two.0 two.1 k1.1 in
      let k3 = each_once same_id double.Name named.Signal 1 _ two.0 three.0 three.1 k2.1 in
      let k4 = each_once same_id double.Name named.Detector 1 _ three.0 known three.2 k3.1 in
      (rw (k4.0, k3.0, k2.0, k1.0) (grouped_ids text.station.id (map (λ x. x.id) text.points) (map (λ x. x.id) text.signals) (map (λ x. x.id) text.detectors)), k4.1)

-- each entry keeps its name and its identity
module _ (directory : List (List ℕ × Place)) (place : Place) where
  pub track-keeps : (x : WrittenTrack) (y : Track) → track_named directory place x ≡ Ok y → y.name ≡ x.name
  unfolding track_named
  track-keeps x y h =
      let one = came_from (section_named directory place x.section) (λ v0. Ok (record { name = x.name; section = v0 })) y h in
      let made : Track = (record { name = x.name; section = one.0 }) in
      let e : y ≡ made = sym (same_ok made y one.2) in
      ap (λ e. e.name) e

  pub point-keeps : (x : WrittenPoint) (y : Point) → point_named directory place x ≡ Ok y → (y.name ≡ x.name) × (y.id ≡ x.id)
  unfolding point_named
  point-keeps x y h =
      let one = came_from (section_named directory place x.section) (λ v0. Ok (record { name = x.name; id = x.id; section = v0 })) y h in
      let made : Point = (record { name = x.name; id = x.id; section = one.0 }) in
      let e : y ≡ made = sym (same_ok made y one.2) in
      (ap (λ e. e.name) e, ap (λ e. e.id) e)

  pub signal-keeps : (x : WrittenSignal) (y : Signal) → signal_entry directory place x ≡ Ok y → (y.name ≡ x.name) × (y.id ≡ x.id)
  unfolding signal_entry
  signal-keeps x y h =
      let one = came_from (port_named directory place x.at) (λ v0. Ok (record { name = x.name; id = x.id; at = v0 })) y h in
      let made : Signal = (record { name = x.name; id = x.id; at = one.0 }) in
      let e : y ≡ made = sym (same_ok made y one.2) in
      (ap (λ e. e.name) e, ap (λ e. e.id) e)

  pub detector-keeps : (x : DetectorText) (y : DetectorEntry) → detector_entry directory place x ≡ Ok y → (y.name ≡ x.name) × (y.id ≡ x.id)
  unfolding detector_entry
  detector-keeps x y h =
      let one = came_from (all_of (section_named directory place) x.sections) (λ v0. Ok (record { name = x.name; id = x.id; sections = v0 })) y h in
      let made : DetectorEntry = (record { name = x.name; id = x.id; sections = one.0 }) in
      let e : y ≡ made = sym (same_ok made y one.2) in
      (ap (λ e. e.name) e, ap (λ e. e.id) e)

  pub route-keeps : (x : RouteText) (y : RouteEntry) → route_entry directory place x ≡ Ok y → y.name ≡ x.name
  unfolding route_entry
  route-keeps x y h =
      let one = came_from (signal_named directory place x.entry) (λ v0. exit_named directory place x.exit >>= λ v1. all_of (port_named directory place) x.path >>= λ v2. all_of (side_named directory place) x.points >>= λ v3. all_of (side_named directory place) x.flank >>= λ v4. all_of (section_named directory place) x.approach >>= λ v5. all_of (route_named directory place) x.extra >>= λ v6. Ok (record { name = x.name; entry = v0; exit = v1; path = v2; points = v3; flank = v4; approach = v5; extra = v6; aspect = x.aspect })) y h in
      let two = came_from (exit_named directory place x.exit) (λ v1. all_of (port_named directory place) x.path >>= λ v2. all_of (side_named directory place) x.points >>= λ v3. all_of (side_named directory place) x.flank >>= λ v4. all_of (section_named directory place) x.approach >>= λ v5. all_of (route_named directory place) x.extra >>= λ v6. Ok (record { name = x.name; entry = one.0; exit = v1; path = v2; points = v3; flank = v4; approach = v5; extra = v6; aspect = x.aspect })) y one.2 in
      let three = came_from (all_of (port_named directory place) x.path) (λ v2. all_of (side_named directory place) x.points >>= λ v3. all_of (side_named directory place) x.flank >>= λ v4. all_of (section_named directory place) x.approach >>= λ v5. all_of (route_named directory place) x.extra >>= λ v6. Ok (record { name = x.name; entry = one.0; exit = two.0; path = v2; points = v3; flank = v4; approach = v5; extra = v6; aspect = x.aspect })) y two.2 in
      let four = came_from (all_of (side_named directory place) x.points) (λ v3. all_of (side_named directory place) x.flank >>= λ v4. all_of (section_named directory place) x.approach >>= λ v5. all_of (route_named directory place) x.extra >>= λ v6. Ok (record { name = x.name; entry = one.0; exit = two.0; path = three.0; points = v3; flank = v4; approach = v5; extra = v6; aspect = x.aspect })) y three.2 in
      let five = came_from (all_of (side_named directory place) x.flank) (λ v4. all_of (section_named directory place) x.approach >>= λ v5. all_of (route_named directory place) x.extra >>= λ v6. Ok (record { name = x.name; entry = one.0; exit = two.0; path = three.0; points = four.0; flank = v4; approach = v5; extra = v6; aspect = x.aspect })) y four.2 in
      let six = came_from (all_of (section_named directory place) x.approach) (λ v5. all_of (route_named directory place) x.extra >>= λ v6. Ok (record { name = x.name; entry = one.0; exit = two.0; path = three.0; points = four.0; flank = five.0; approach = v5; extra = v6; aspect = x.aspect })) y five.2 in
      let seven = came_from (all_of (route_named directory place) x.extra) (λ v6. Ok (record { name = x.name; entry = one.0; exit = two.0; path = three.0; points = four.0; flank = five.0; approach = six.0; extra = v6; aspect = x.aspect })) y six.2 in
      let made : RouteEntry = (record { name = x.name; entry = one.0; exit = two.0; path = three.0; points = four.0; flank = five.0; approach = six.0; extra = seven.0; aspect = x.aspect }) in
      let e : y ≡ made = sym (same_ok made y seven.2) in
      ap (λ e. e.name) e

-- so does the layout
pub site-keeps : (directory : List (List ℕ × Place)) (text : LayoutText) (site : Site) → site_of directory text ≡ Ok site → (all_names site ≡ names_in text) × (all_ids site ≡ ids_in text)
unfolding site_of all_names all_ids names_in ids_in
site-keeps directory text site h =
    let one = came_from (each_of (track_named directory) named.Track 1 text.tracks) (λ v0. each_of (point_named directory) named.Point 1 text.points >>= λ v1. each_of (joint_named directory) named.Joint 1 text.joints >>= λ v2. each_of (signal_entry directory) named.Signal 1 text.signals >>= λ v3. each_of (detector_entry directory) named.Detector 1 text.detectors >>= λ v4. each_of (route_entry directory) named.Route 1 text.routes >>= λ v5. Ok (record { station = text.station; sections = text.sections; tracks = v0; points = v1; borders = text.borders; joints = v2; signals = v3; detectors = v4; routes = v5 })) site h in
    let two = came_from (each_of (point_named directory) named.Point 1 text.points) (λ v1. each_of (joint_named directory) named.Joint 1 text.joints >>= λ v2. each_of (signal_entry directory) named.Signal 1 text.signals >>= λ v3. each_of (detector_entry directory) named.Detector 1 text.detectors >>= λ v4. each_of (route_entry directory) named.Route 1 text.routes >>= λ v5. Ok (record { station = text.station; sections = text.sections; tracks = one.0; points = v1; borders = text.borders; joints = v2; signals = v3; detectors = v4; routes = v5 })) site one.2 in
    let three = came_from (each_of (joint_named directory) named.Joint 1 text.joints) (λ v2. each_of (signal_entry directory) named.Signal 1 text.signals >>= λ v3. each_of (detector_entry directory) named.Detector 1 text.detectors >>= λ v4. each_of (route_entry directory) named.Route 1 text.routes >>= λ v5. Ok (record { station = text.station; sections = text.sections; tracks = one.0; points = two.0; borders = text.borders; joints = v2; signals = v3; detectors = v4; routes = v5 })) site two.2 in
    let four = came_from (each_of (signal_entry directory) named.Signal 1 text.signals) (λ v3. each_of (detector_entry directory) named.Detector 1 text.detectors >>= λ v4. each_of (route_entry directory) named.Route 1 text.routes >>= λ v5. Ok (record { station = text.station; sections = text.sections; tracks = one.0; points = two.0; borders = text.borders; joints = three.0; signals = v3; detectors = v4; routes = v5 })) site three.2 in
    let five = came_from (each_of (detector_entry directory) named.Detector 1 text.detectors) (λ v4. each_of (route_entry directory) named.Route 1 text.routes >>= λ v5. Ok (record { station = text.station; sections = text.sections; tracks = one.0; points = two.0; borders = text.borders; joints = three.0; signals = four.0; detectors = v4; routes = v5 })) site four.2 in
    let six = came_from (each_of (route_entry directory) named.Route 1 text.routes) (λ v5. Ok (record { station = text.station; sections = text.sections; tracks = one.0; points = two.0; borders = text.borders; joints = three.0; signals = four.0; detectors = five.0; routes = v5 })) site five.2 in
    let made : Site = (record { station = text.station; sections = text.sections; tracks = one.0; points = two.0; borders = text.borders; joints = three.0; signals = four.0; detectors = five.0; routes = six.0 }) in
    let e : site ≡ made = sym (same_ok made site six.2) in
    let tracks = each_keeps (track_named directory) (λ t. t.name) (λ t. t.name) (λ place x y k. track-keeps directory place x y k) named.Track 1 text.tracks one.0 one.1 in
    let points = each_keeps (point_named directory) (λ p. p.name) (λ p. p.name) (λ place x y k. (point-keeps directory place x y k).0) named.Point 1 text.points two.0 two.1 in
    let point_ids = each_keeps (point_named directory) (λ p. p.id) (λ p. p.id) (λ place x y k. (point-keeps directory place x y k).1) named.Point 1 text.points two.0 two.1 in
    let signals = each_keeps (signal_entry directory) (λ s. s.name) (λ s. s.name) (λ place x y k. (signal-keeps directory place x y k).0) named.Signal 1 text.signals four.0 four.1 in
    let signal_ids = each_keeps (signal_entry directory) (λ s. s.id) (λ s. s.id) (λ place x y k. (signal-keeps directory place x y k).1) named.Signal 1 text.signals four.0 four.1 in
    let detectors = each_keeps (detector_entry directory) (λ d. d.name) (λ d. d.name) (λ place x y k. (detector-keeps directory place x y k).0) named.Detector 1 text.detectors five.0 five.1 in
    let detector_ids = each_keeps (detector_entry directory) (λ d. d.id) (λ d. d.id) (λ place x y k. (detector-keeps directory place x y k).1) named.Detector 1 text.detectors five.0 five.1 in
    let routes = each_keeps (route_entry directory) (λ r. r.name) (λ r. r.name) (λ place x y k. route-keeps directory place x y k) named.Route 1 text.routes six.0 six.1 in
    (rw (e, tracks, points, signals, detectors, routes) refl, rw (e, point_ids, signal_ids, detector_ids) refl)

-- no port of a layout is joined twice, and no two signals stand at one
ports-once : (site : Site) → ports_once site ≡ Ok tt → Distinct (joined_ports site.joints) × Distinct (map (λ s. s.at) site.signals)
unfolding ports_once joined_of signalled_of
ports-once site h =
    let one = came_from (joined_of site.joints) (λ v0. signalled_of site.signals >>= λ v1. Ok tt) tt h in
    let two = came_from (signalled_of site.signals) (λ v1. Ok tt) tt one.2 in
    let joined = lists_once same_port ports_joined double.Joint named.Joint 1 site.joints [] one.0 one.1 (nothing_twice same_port) in
    let signalled = each_once same_port double.Joint named.Signal 1 (map (λ s. s.at) site.signals) [] two.0 two.1 (nothing_twice same_port) in
    let ports = joined.0 ∙ joined-flat site.joints in
    (rw (← ports) (apart_distinct same_port same_port-refl (keys_of one.0) joined.1), rw (← signalled.0) (apart_distinct same_port same_port-refl (keys_of two.0) signalled.1))

-- what the directory and the identities are
pub names-once : (text : LayoutText) (known : List (List ℕ × Place)) → names_of text ≡ Ok known → Apart same_name (names_in text) × Distinct (ids_in text)
unfolding names_of
names-once text known h =
    let one = came_from (limits_of text) (λ v0. directory_of text >>= λ v1. ids_of text >>= λ v2. Ok v1) known h in
    let two = came_from (directory_of text) (λ v1. ids_of text >>= λ v2. Ok v1) known one.2 in
    let three = came_from (ids_of text) (λ v2. Ok two.0) known two.2 in
    let names = directory-once text two.0 two.1 in
    let ids = ids-once text three.0 three.1 in
    (rw (← names.0) names.1, rw (← ids.0) (apart_distinct same_id same_id-refl (keys_of three.0) ids.1))

pub once_of : (text : LayoutText) (site : Site) → entries_of text ≡ Ok site → ports_once site ≡ Ok tt → Once site
unfolding entries_of
once_of text site h ports =
    let one = came_from (names_of text) (λ v0. reported_of text.detectors >>= λ v1. site_of v0 text >>= λ v2. all_within (section_reported v1) named.Section v2.sections >>= λ v3. Ok v2) site h in
    let two = came_from (reported_of text.detectors) (λ v1. site_of one.0 text >>= λ v2. all_within (section_reported v1) named.Section v2.sections >>= λ v3. Ok v2) site one.2 in
    let three = came_from (site_of one.0 text) (λ v2. all_within (section_reported two.0) named.Section v2.sections >>= λ v3. Ok v2) site two.2 in
    let four = came_from (all_within (section_reported two.0) named.Section three.0.sections) (λ v3. Ok three.0) site three.2 in
    let once = names-once text one.0 one.1 in
    let e = same_ok three.0 site four.2 in
    let kept = site-keeps one.0 text site (three.1 ∙ ap read_as e) in
    let at = ports-once site ports in
    record {
      names = rw kept.0 (apart_distinct same_name same_name-refl (names_in text) once.0);
      ids = rw kept.1 once.1;
      joined = at.0;
      signalled = at.1;
    }
