-- The layout that was read is a station.
use Rattle.std.proofs.Common.{◌≡◌, ◌≢◌, ℕ, suc, ◌≤◌, ◌<◌, ◌&&◌, Bool, false, List, ◌++◌, flat_map, get_or, length, map, nat_le, All, Ok, refl, sym, ap, subst, ◌∙◌, arith}
use Rattle.std.proofs.lemmas.Bool.Decides.{Decides-and}
use Rattle.std.proofs.lemmas.List.{length-map, length-append, get_or_append_left}
use Rattle.sci_telegram.specs.declared.message.Aspect.TheVariants.{Stop}
use Rattle.sci_telegram.specs.Names.{IsName}
use Rattle.toml.specs.Data.{Members}
use Rattle.layout_text.specs.declared.fault.LayoutFault.TheVariants.{Limit}
use Rattle.layout_text.specs.declared.fault.Place.{Place}
use Rattle.layout_text.specs.declared.fault.TableName.{TableName}
use Rattle.layout_text.specs.declared.fault.TableName.TheVariants as named
use Rattle.layout.specs.Entries.{Site}
use Rattle.layout_text.specs.Written.{DetectorText, RouteText, LayoutText}
use Rattle.layout_text.specs.FirstFault.{◌>>=◌, each_of}
use Rattle.layout.specs.Known.{same_name}
use Rattle.layout_text.specs.Text.{text_of}
use Rattle.layout_text.specs.Limits.{at_most, detector_limit, route_limit, all_within, limits_of}
use Rattle.layout.specs.Doubles.{sections_reported, directory_of, ids_of, reported_of}
use Rattle.layout.specs.NamesResolved.{track_named, point_named, joint_named, signal_entry, detector_entry, route_entry, section_reported, site_of, names_of, entries_of}
use Rattle.layout.specs.Station.{HasSection, HasPort, IsNodeId, IsRouteOf, IsDetectorOf, IsWithinLimits, ReportsEachOnce, IsStation}
use Rattle.layout.proofs.OnceLemmas.{came_from, same_ok, Apart, each_keeps}
use Rattle.layout.proofs.OnceSite.{names_in, ids_in, names-once, site-keeps, track-keeps, point-keeps, signal-keeps, detector-keeps, route-keeps}
use Rattle.layout.proofs.Steps.{le-decides, passed, each-all, each-held, each-counted}
use Rattle.layout.proofs.Directory.{IsPlaced, directory-placed}
use Rattle.layout.proofs.StationEntries.{IsAsLong, track-there, point-there, joint-there, signal-at-there, detector-there, route-names-there}
use Rattle.layout.proofs.ReportedOnce.{sections-distinct, detectors-named, reported-apart, each-reported}
use Rattle.layout.proofs.TextNames.{text-names}
use Rattle.layout.proofs.TextIds.{text-nodes, text-goes}

-- the limits of a text
at_most-le : (limit : ℕ) (table : TableName) (n : ℕ) (u : Unit {0}) → at_most limit table n ≡ Ok u → n ≤ limit
at_most-le limit table n u h = (le-decides n limit).0 (passed (nat_le n limit) _ tt u h).0

detector-limit : (place : Place) (d : DetectorText) (u : Unit {0}) → detector_limit place d ≡ Ok u → (place.entry ≤ 16) × ((1 ≤ length d.sections) × (length d.sections ≤ 16))
detector-limit place d u h =
    let some = Decides-and (nat_le place.entry 16) (nat_le 1 (length d.sections)) (le-decides place.entry 16) (le-decides 1 (length d.sections)) in
    let all = Decides-and (nat_le place.entry 16 && nat_le 1 (length d.sections)) (nat_le (length d.sections) 16) some (le-decides (length d.sections) 16) in
    let is = all.0 (passed (nat_le place.entry 16 && nat_le 1 (length d.sections) && nat_le (length d.sections) 16) (Limit place) tt u h).0 in
    (is.0.0, (is.0.1, is.1))

route-limit : (place : Place) (r : RouteText) (u : Unit {0}) → route_limit place r ≡ Ok u → (place.entry ≤ 64) × (length r.path ≤ 64)
route-limit place r u h =
    (Decides-and (nat_le place.entry 64) (nat_le (length r.path) 64) (le-decides place.entry 64) (le-decides (length r.path) 64)).0 (passed (nat_le place.entry 64 && nat_le (length r.path) 64) (Limit place) tt u h).0

record KeepsLimits (text : LayoutText) : Type 0 where
  pub sections : length text.sections ≤ 64
  pub tracks : length text.tracks ≤ 128
  pub points : length text.points ≤ 32
  pub borders : length text.borders ≤ 16
  pub signals : length text.signals ≤ 32
  pub detectors : length text.detectors ≤ 16
  pub routes : length text.routes ≤ 64
  pub reported : All (λ d. (1 ≤ length d.sections) × (length d.sections ≤ 16)) text.detectors
  pub path : All (λ r. length r.path ≤ 64) text.routes

limits-kept : (text : LayoutText) → limits_of text ≡ Ok tt → KeepsLimits text
unfolding limits_of
limits-kept text h =
    let sections = came_from (at_most 64 named.Section (length text.sections)) _ tt h in
    let tracks = came_from (at_most 128 named.Track (length text.tracks)) _ tt sections.2 in
    let points = came_from (at_most 32 named.Point (length text.points)) _ tt tracks.2 in
    let borders = came_from (at_most 16 named.Border (length text.borders)) _ tt points.2 in
    let signals = came_from (at_most 32 named.Signal (length text.signals)) _ tt borders.2 in
    let detectors = came_from (all_within detector_limit named.Detector text.detectors) (λ _. all_within route_limit named.Route text.routes) tt signals.2 in
    let each_detector = came_from (each_of detector_limit named.Detector 1 text.detectors) (λ _. Ok tt) detectors.0 detectors.1 in
    let each_route = came_from (each_of route_limit named.Route 1 text.routes) (λ _. Ok tt) tt detectors.2 in
    let many_detectors = each-counted detector_limit 16 (λ place d u e. (detector-limit place d u e).0) named.Detector 1 text.detectors each_detector.0 (omega arith) each_detector.1 in
    let many_routes = each-counted route_limit 64 (λ place r u e. (route-limit place r u e).0) named.Route 1 text.routes each_route.0 (omega arith) each_route.1 in
    record {
      sections = at_most-le 64 named.Section (length text.sections) sections.0 sections.1;
      tracks = at_most-le 128 named.Track (length text.tracks) tracks.0 tracks.1;
      points = at_most-le 32 named.Point (length text.points) points.0 points.1;
      borders = at_most-le 16 named.Border (length text.borders) borders.0 borders.1;
      signals = at_most-le 32 named.Signal (length text.signals) signals.0 signals.1;
      detectors = omega (arith, many_detectors);
      routes = omega (arith, many_routes);
      reported = each-held detector_limit (λ d. (1 ≤ length d.sections) × (length d.sections ≤ 16)) (λ place d u e. (detector-limit place d u e).1) named.Detector 1 text.detectors each_detector.0 each_detector.1;
      path = each-held route_limit (λ r. length r.path ≤ 64) (λ place r u e. (route-limit place r u e).1) named.Route 1 text.routes each_route.0 each_route.1;
    }

-- what the names of a text are
names-kept : (text : LayoutText) (directory : List (List ℕ × Place)) → names_of text ≡ Ok directory → KeepsLimits text × All (IsPlaced text) directory
unfolding names_of
names-kept text directory h =
    let limits = came_from (limits_of text) _ directory h in
    let names = came_from (directory_of text) _ directory limits.2 in
    let ids = came_from (ids_of text) (λ _. Ok names.0) directory names.2 in
    (limits-kept text limits.1, directory-placed text directory (names.1 ∙ ap Ok (same_ok names.0 directory ids.2)))

-- what stands in the front of a list
before : {K : Type 0} (same : K → K → Bool) (xs ys : List K) → Apart same (xs ++ ys) → Apart same xs
before same xs ys apart i j d ij lt =
    let more = length-append xs ys in
    let li : i < length xs = omega (arith, ij, lt) in
    subst (λ x. same (get_or xs j d) x ≡ false) (get_or_append_left xs ys d i li) (subst (λ x. same x (get_or (xs ++ ys) i d) ≡ false) (get_or_append_left xs ys d j lt) (apart i j d ij (omega (arith, lt, more))))

-- the sections of a text, among its names
sections-apart : (text : LayoutText) → Apart same_name (names_in text) → Apart same_name text.sections
unfolding names_in
sections-apart text apart = before same_name text.sections _ (λ i j d ij lt. apart (suc i) (suc j) d (omega (arith, ij)) (omega (arith, lt)))

-- as many entries under another name
as_many : {A B C : Type 0} (f : A → C) (g : B → C) (xs : List A) (ys : List B) → map g ys ≡ map f xs → length (map f xs) ≡ length ys
as_many f g xs ys e = ap length (sym e) ∙ length-map ys g

same_length : {A B C : Type 0} (f : A → C) (g : B → C) (xs : List A) (ys : List B) → map g ys ≡ map f xs → length ys ≡ length xs
same_length f g xs ys e = sym (length-map ys g) ∙ (ap length e ∙ length-map xs f)

site-station : (text : LayoutText) (directory reported : List (List ℕ × Place)) (l : Site) → KeepsLimits text → All (IsPlaced text) directory → Apart same_name text.sections → All IsNodeId (ids_in text) → All IsName (names_in text) → All (λ r. r.aspect ≢ Stop) text.routes
    → reported_of text.detectors ≡ Ok reported → site_of directory text ≡ Ok l → all_within (section_reported reported) named.Section l.sections ≡ Ok tt → IsStation l
unfolding site_of
site-station text directory reported l limits placed apart ids names goes noted h each =
    let one = came_from (each_of (track_named directory) named.Track 1 text.tracks) _ l h in
    let two = came_from (each_of (point_named directory) named.Point 1 text.points) _ l one.2 in
    let three = came_from (each_of (joint_named directory) named.Joint 1 text.joints) _ l two.2 in
    let four = came_from (each_of (signal_entry directory) named.Signal 1 text.signals) _ l three.2 in
    let five = came_from (each_of (detector_entry directory) named.Detector 1 text.detectors) _ l four.2 in
    let six = came_from (each_of (route_entry directory) named.Route 1 text.routes) _ l five.2 in
    let made : Site = record { station = text.station; sections = text.sections; tracks = one.0; points = two.0; borders = text.borders; joints = three.0; signals = four.0; detectors = five.0; routes = six.0 } in
    let e : made ≡ l = same_ok made l six.2 in
    let tracks = each_keeps (track_named directory) (λ t. t.name) (λ t. t.name) (λ place x y k. track-keeps directory place x y k) named.Track 1 text.tracks one.0 one.1 in
    let points = each_keeps (point_named directory) (λ p. p.name) (λ p. p.name) (λ place x y k. (point-keeps directory place x y k).0) named.Point 1 text.points two.0 two.1 in
    let signals = each_keeps (signal_entry directory) (λ s. s.name) (λ s. s.name) (λ place x y k. (signal-keeps directory place x y k).0) named.Signal 1 text.signals four.0 four.1 in
    let detectors = each_keeps (detector_entry directory) (λ d. d.name) (λ d. d.name) (λ place x y k. (detector-keeps directory place x y k).0) named.Detector 1 text.detectors five.0 five.1 in
    let routes = each_keeps (route_entry directory) (λ r. r.name) (λ r. r.name) (λ place x y k. route-keeps directory place x y k) named.Route 1 text.routes six.0 six.1 in
    let long : IsAsLong text made = record {
      sections = refl;
      tracks = as_many (λ t. t.name) (λ t. t.name) text.tracks one.0 tracks;
      points = as_many (λ p. p.name) (λ p. p.name) text.points two.0 points;
      borders = refl;
      signals = as_many (λ s. s.name) (λ s. s.name) text.signals four.0 signals;
      routes = as_many (λ r. r.name) (λ r. r.name) text.routes six.0 routes;
    } in
    let known = reported-apart text reported noted in
    let are = detectors-named text directory placed named.Detector 1 text.detectors five.0 five.1 in
    let every : all_within (section_reported reported) named.Section text.sections ≡ Ok tt = subst (λ p. all_within (section_reported reported) named.Section p.sections ≡ Ok tt) (sym e) each in
    let lt = same_length (λ t. t.name) (λ t. t.name) text.tracks one.0 tracks in
    let lp = same_length (λ p. p.name) (λ p. p.name) text.points two.0 points in
    let ls = same_length (λ s. s.name) (λ s. s.name) text.signals four.0 signals in
    let ld = same_length (λ d. d.name) (λ d. d.name) text.detectors five.0 detectors in
    let lr = same_length (λ r. r.name) (λ r. r.name) text.routes six.0 routes in
    let within : IsWithinLimits made = record {
      sections = limits.sections;
      tracks = rw lt limits.tracks;
      points = rw lp limits.points;
      borders = limits.borders;
      signals = rw ls limits.signals;
      detectors = rw ld limits.detectors;
      routes = rw lr limits.routes;
    } in
    let reports : ReportsEachOnce made = record {
      each = λ s inside. each-reported text reported (flat_map (λ d. d.sections) five.0) known.0 apart every are s inside;
      once = sections-distinct text (flat_map sections_reported text.detectors) (flat_map (λ d. d.sections) five.0) (subst (Apart same_name) known.0 known.1) are;
    } in
    let is : IsStation made = record {
      limits = within;
      ids = subst (All IsNodeId) (sym (site-keeps directory text made (h ∙ ap Ok (sym e))).1) ids;
      names = subst (All IsName) (sym (site-keeps directory text made (h ∙ ap Ok (sym e))).0) names;
      tracks = each-all (track_named directory) (λ _. Unit {0}) (λ t. HasSection made t.section) (λ place x y _ k. track-there text directory placed made long place x y k) named.Track 1 text.tracks one.0 (λ k d lt. tt) one.1;
      points = each-all (point_named directory) (λ _. Unit {0}) (λ p. HasSection made p.section) (λ place x y _ k. point-there text directory placed made long place x y k) named.Point 1 text.points two.0 (λ k d lt. tt) two.1;
      joints = each-all (joint_named directory) (λ _. Unit {0}) (λ j. HasPort made j.first × HasPort made j.second) (λ place x y _ k. joint-there text directory placed made long place x y k) named.Joint 1 text.joints three.0 (λ k d lt. tt) three.1;
      signals = each-all (signal_entry directory) (λ _. Unit {0}) (λ s. HasPort made s.at) (λ place x y _ k. signal-at-there text directory placed made long place x y k) named.Signal 1 text.signals four.0 (λ k d lt. tt) four.1;
      detectors = each-all (detector_entry directory) (λ d. (1 ≤ length d.sections) × (length d.sections ≤ 16)) (IsDetectorOf made) (λ place x y q k. detector-there text directory placed made long place x y q k) named.Detector 1 text.detectors five.0 limits.reported five.1;
      routes = each-all (route_entry directory) (λ r. (length r.path ≤ 64) × (r.aspect ≢ Stop)) (IsRouteOf made) (λ place x y q k. route-names-there text directory placed made long place x y q k) named.Route 1 text.routes six.0 (λ k d lt. (limits.path k d lt, goes k d lt)) six.1;
      reported = reports;
    } in
    subst IsStation e is

pub station_of : (document : Members) (text : LayoutText) (l : Site) → text_of document ≡ Ok text → entries_of text ≡ Ok l → IsStation l
unfolding entries_of
station_of document text l written h =
    let names = came_from (names_of text) (λ v0. reported_of text.detectors >>= λ v1. site_of v0 text >>= λ v2. all_within (section_reported v1) named.Section v2.sections >>= λ v3. Ok v2) l h in
    let reported = came_from (reported_of text.detectors) (λ v1. site_of names.0 text >>= λ v2. all_within (section_reported v1) named.Section v2.sections >>= λ v3. Ok v2) l names.2 in
    let site = came_from (site_of names.0 text) (λ v2. all_within (section_reported reported.0) named.Section v2.sections >>= λ v3. Ok v2) l reported.2 in
    let each = came_from (all_within (section_reported reported.0) named.Section site.0.sections) (λ v3. Ok site.0) l site.2 in
    let kept = names-kept text names.0 names.1 in
    subst IsStation (same_ok site.0 l each.2)
    (site-station text names.0 reported.0 site.0 kept.0 kept.1 (sections-apart text (names-once text names.0 names.1).0) (text-nodes document text written) (text-names document text written) (text-goes document text written) reported.1 site.1 each.1)
