-- Each entry of a layout names only what is there.
use Rattle.std.proofs.Common.{◌≡◌, ◌≢◌, ℕ, ◌-◌, ◌≤◌, ◌<◌, List, length, All, Option, Some, None, Ok, refl, ap, subst, arith, rules}
use Rattle.std.specs.Option.{ok_or, option_and_then}
use Rattle.std.proofs.lemmas.Option.{same_Some}
use Rattle.sci_telegram.specs.declared.message.Aspect.TheVariants.{Stop}
use Rattle.sci_telegram.specs.declared.message.Side.{Side}
use Rattle.layout_text.specs.declared.fault.LayoutFault.{LayoutFault}
use Rattle.layout_text.specs.declared.fault.LayoutFault.TheVariants.{UnknownName}
use Rattle.layout_text.specs.declared.fault.Place.{Place}
use Rattle.layout_text.specs.declared.fault.TableName.{TableName}
use Rattle.layout_text.specs.declared.fault.TableName.TheVariants as named
use Rattle.layout.specs.declared.ids.SectionId.{SectionId}
use Rattle.layout.specs.declared.ids.PointId.{PointId}
use Rattle.layout.specs.declared.ids.SignalId.{SignalId}
use Rattle.layout.specs.declared.ids.RouteId.{RouteId}
use Rattle.layout.specs.declared.port.Port.{Port}
use Rattle.layout.specs.declared.port.Element.{Element}
use Rattle.layout.specs.declared.port.Element.TheVariants as element
use Rattle.layout.specs.declared.entries.Exit.{Exit}
use Rattle.layout.specs.declared.entries.Exit.TheVariants as exit
use Rattle.layout.specs.declared.entries.Track.{Track}
use Rattle.layout.specs.declared.entries.Point.{Point}
use Rattle.layout.specs.declared.entries.Joint.{Joint}
use Rattle.layout.specs.declared.entries.Signal.{Signal}
use Rattle.layout_text.specs.declared.entries.PortName.{PortName}
use Rattle.layout_text.specs.declared.entries.WrittenTrack.{WrittenTrack}
use Rattle.layout_text.specs.declared.entries.WrittenPoint.{WrittenPoint}
use Rattle.layout_text.specs.declared.entries.WrittenJoint.{WrittenJoint}
use Rattle.layout_text.specs.declared.entries.WrittenSignal.{WrittenSignal}
use Rattle.layout.specs.Entries.{DetectorEntry, RouteEntry, Site}
use Rattle.layout_text.specs.Written.{DetectorText, RouteText, LayoutText}
use Rattle.layout_text.specs.FirstFault.{all_of}
use Rattle.layout.specs.NamesResolved.{element_of, exit_of, has_port, entry_named, number_named, section_named, signal_named, route_named, side_named, exit_named, element_named, port_named, track_named, point_named, joint_named, signal_entry, detector_entry, route_entry}
use Rattle.layout.specs.Station.{HasSection, HasPoint, HasSignal, HasRoute, HasElement, HasExit, HasPort, IsRouteOf, IsDetectorOf}
use Rattle.layout.proofs.OnceLemmas.{came_from, same_ok}
use Rattle.layout.proofs.Steps.{passed, all-all, all-length}
use Rattle.layout.proofs.Directory.{names_under, IsPlaced, number-is, entry-is, entry-within}

-- A layout has as many entries in each table as its text.
pub record IsAsLong (text : LayoutText) (l : Site) : Type 0 where
  pub sections : length (names_under text named.Section) ≡ length l.sections
  pub tracks : length (names_under text named.Track) ≡ length l.tracks
  pub points : length (names_under text named.Point) ≡ length l.points
  pub borders : length (names_under text named.Border) ≡ length l.borders
  pub signals : length (names_under text named.Signal) ≡ length l.signals
  pub routes : length (names_under text named.Route) ≡ length l.routes

-- what a look-up that has to find something found
pub found_or : {A B : Type 0} (o : Option A) (f : A → Option B) (e : LayoutFault) (y : B) → ok_or (option_and_then f o) e ≡ Ok y → (x : A) × (o ≡ Some x) × (f x ≡ Some y)
found_or None f e y h = search rules
found_or (Some x) f e y h = (x, refl, some_of (f x) e y h)
  where
    some_of : {B : Type 0} (o : Option B) (e : LayoutFault) (y : B) → ok_or o e ≡ Ok y → o ≡ Some y
    some_of None e y h = search rules
    some_of (Some z) e y h = ap Some (same_ok z y h)

module _ (text : LayoutText) (directory : List (List ℕ × Place)) (placed : All (IsPlaced text) directory) (l : Site) (long : IsAsLong text l) (place : Place) where
  number-within : (table : TableName) (name : List ℕ) (n : ℕ) → number_named directory place table name ≡ Ok n → n < length (names_under text table)
  number-within table name n h = entry-within text table name n (number-is text directory placed place table name n h)

  pub section-there : (name : List ℕ) (s : SectionId) → section_named directory place name ≡ Ok s → HasSection l s
  unfolding section_named
  section-there name s h =
      let number = came_from (number_named directory place named.Section name) (λ n. Ok (record { 0 = n })) s h in
      let lt = number-within named.Section name number.0 number.1 in
      let id : SectionId = record { 0 = number.0 } in
      let e : id ≡ s = same_ok id s number.2 in
      subst (HasSection l) e (subst (λ n. number.0 < n) long.sections lt)

  pub signal-there : (name : List ℕ) (s : SignalId) → signal_named directory place name ≡ Ok s → HasSignal l s
  unfolding signal_named
  signal-there name s h =
      let number = came_from (number_named directory place named.Signal name) (λ n. Ok (record { 0 = n })) s h in
      let lt = number-within named.Signal name number.0 number.1 in
      let id : SignalId = record { 0 = number.0 } in
      let e : id ≡ s = same_ok id s number.2 in
      subst (HasSignal l) e (subst (λ n. number.0 < n) long.signals lt)

  pub route-there : (name : List ℕ) (r : RouteId) → route_named directory place name ≡ Ok r → HasRoute l r
  unfolding route_named
  route-there name r h =
      let number = came_from (number_named directory place named.Route name) (λ n. Ok (record { 0 = n })) r h in
      let lt = number-within named.Route name number.0 number.1 in
      let id : RouteId = record { 0 = number.0 } in
      let e : id ≡ r = same_ok id r number.2 in
      subst (HasRoute l) e (subst (λ n. number.0 < n) long.routes lt)

  pub side-there : (written : List ℕ × Side) (p : PointId × Side) → side_named directory place written ≡ Ok p → HasPoint l p.0
  unfolding side_named
  side-there written p h =
      let number = came_from (number_named directory place named.Point written.0) (λ n. Ok (record { 0 = n }, written.1)) p h in
      let lt = number-within named.Point written.0 number.0 number.1 in
      let pair : PointId × Side = (record { 0 = number.0 }, written.1) in
      let e : pair ≡ p = same_ok pair p number.2 in
      subst (λ q. HasPoint l q.0) e (subst (λ n. number.0 < n) long.points lt)

  exit-of-there : (table : TableName) (n : ℕ) (x : Exit) → n < length (names_under text table) → exit_of table n ≡ Some x → HasExit l x
  exit-of-there named.Signal n x lt h = subst (HasExit l) (same_Some (exit.Signal (record { 0 = n })) x h) (subst (λ k. n < k) long.signals lt)
  exit-of-there named.Border n x lt h = subst (HasExit l) (same_Some (exit.Border (record { 0 = n })) x h) (subst (λ k. n < k) long.borders lt)
  exit-of-there named.Station n x lt h = search rules
  exit-of-there named.Section n x lt h = search rules
  exit-of-there named.Track n x lt h = search rules
  exit-of-there named.Point n x lt h = search rules
  exit-of-there named.Joint n x lt h = search rules
  exit-of-there named.Detector n x lt h = search rules
  exit-of-there named.Route n x lt h = search rules

  pub exit-there : (name : List ℕ) (x : Exit) → exit_named directory place name ≡ Ok x → HasExit l x
  unfolding exit_named
  exit-there name x h =
      let found = found_or (entry_named directory place name) (λ found. exit_of found.table (found.entry - 1)) (UnknownName place) x h in
      let is = entry-is text directory placed place name found.0 found.1 in
      exit-of-there found.0.table (found.0.entry - 1) x (entry-within text found.0.table name (found.0.entry - 1) is) found.2

  element-of-there : (table : TableName) (n : ℕ) (e : Element) → n < length (names_under text table) → element_of table n ≡ Some e → HasElement l e
  element-of-there named.Track n e lt h = subst (HasElement l) (same_Some (element.Track (record { 0 = n })) e h) (subst (λ k. n < k) long.tracks lt)
  element-of-there named.Point n e lt h = subst (HasElement l) (same_Some (element.Point (record { 0 = n })) e h) (subst (λ k. n < k) long.points lt)
  element-of-there named.Border n e lt h = subst (HasElement l) (same_Some (element.Border (record { 0 = n })) e h) (subst (λ k. n < k) long.borders lt)
  element-of-there named.Station n e lt h = search rules
  element-of-there named.Section n e lt h = search rules
  element-of-there named.Joint n e lt h = search rules
  element-of-there named.Signal n e lt h = search rules
  element-of-there named.Detector n e lt h = search rules
  element-of-there named.Route n e lt h = search rules

  element-there : (name : List ℕ) (e : Element) → element_named directory place name ≡ Ok e → HasElement l e
  unfolding element_named
  element-there name e h =
      let found = found_or (entry_named directory place name) (λ found. element_of found.table (found.entry - 1)) (UnknownName place) e h in
      let is = entry-is text directory placed place name found.0 found.1 in
      element-of-there found.0.table (found.0.entry - 1) e (entry-within text found.0.table name (found.0.entry - 1) is) found.2

  pub port-there : (written : PortName) (p : Port) → port_named directory place written ≡ Ok p → HasPort l p
  unfolding port_named
  port-there written p h =
      let element = came_from (element_named directory place written.element) _ p h in
      let port : Port = record { element = element.0; end = written.end } in
      let is = passed (has_port element.0 written.end) (UnknownName place) port p element.2 in
      subst (HasPort l) is.1 (record { element = element-there written.element element.0 element.1; end = is.0 })

  -- ---- the entries

  pub track-there : (x : WrittenTrack) (y : Track) → track_named directory place x ≡ Ok y → HasSection l y.section
  unfolding track_named
  track-there x y h =
      let section = came_from (section_named directory place x.section) (λ s. Ok (record { name = x.name; section = s })) y h in
      let made : Track = record { name = x.name; section = section.0 } in
      subst (λ t. HasSection l t.section) (same_ok made y section.2) (section-there x.section section.0 section.1)

  pub point-there : (x : WrittenPoint) (y : Point) → point_named directory place x ≡ Ok y → HasSection l y.section
  unfolding point_named
  point-there x y h =
      let section = came_from (section_named directory place x.section) (λ s. Ok (record { name = x.name; id = x.id; section = s })) y h in
      let made : Point = record { name = x.name; id = x.id; section = section.0 } in
      subst (λ p. HasSection l p.section) (same_ok made y section.2) (section-there x.section section.0 section.1)

  pub joint-there : (x : WrittenJoint) (y : Joint) → joint_named directory place x ≡ Ok y → HasPort l y.first × HasPort l y.second
  unfolding joint_named
  joint-there x y h =
      let first = came_from (port_named directory place x.first) _ y h in
      let second = came_from (port_named directory place x.second) (λ q. Ok (record { first = first.0; second = q })) y first.2 in
      let made : Joint = record { first = first.0; second = second.0 } in
      subst (λ j. HasPort l j.first × HasPort l j.second) (same_ok made y second.2) (port-there x.first first.0 first.1, port-there x.second second.0 second.1)

  pub signal-at-there : (x : WrittenSignal) (y : Signal) → signal_entry directory place x ≡ Ok y → HasPort l y.at
  unfolding signal_entry
  signal-at-there x y h =
      let at = came_from (port_named directory place x.at) (λ at. Ok (record { name = x.name; id = x.id; at = at })) y h in
      let made : Signal = record { name = x.name; id = x.id; at = at.0 } in
      subst (λ s. HasPort l s.at) (same_ok made y at.2) (port-there x.at at.0 at.1)

  pub detector-there : (x : DetectorText) (y : DetectorEntry) → (1 ≤ length x.sections) × (length x.sections ≤ 16) → detector_entry directory place x ≡ Ok y → IsDetectorOf l y
  unfolding detector_entry
  detector-there x y within h =
      let sections = came_from (all_of (section_named directory place) x.sections) (λ ss. Ok (record { name = x.name; id = x.id; sections = ss })) y h in
      let made : DetectorEntry = record { name = x.name; id = x.id; sections = sections.0 } in
      let long = all-length (section_named directory place) x.sections sections.0 sections.1 in
      let some = within.0 in
      let few = within.1 in
      let is : IsDetectorOf l made = record {
        sections = all-all (section_named directory place) (HasSection l) section-there x.sections sections.0 sections.1;
        some = omega (arith, some, long);
        few = omega (arith, few, long);
      } in
      subst (IsDetectorOf l) (same_ok made y sections.2) is

  pub route-names-there : (x : RouteText) (y : RouteEntry) → (length x.path ≤ 64) × (x.aspect ≢ Stop) → route_entry directory place x ≡ Ok y → IsRouteOf l y
  unfolding route_entry
  route-names-there x y within h =
      let one = came_from (signal_named directory place x.entry) _ y h in
      let two = came_from (exit_named directory place x.exit) _ y one.2 in
      let three = came_from (all_of (port_named directory place) x.path) _ y two.2 in
      let four = came_from (all_of (side_named directory place) x.points) _ y three.2 in
      let five = came_from (all_of (side_named directory place) x.flank) _ y four.2 in
      let six = came_from (all_of (section_named directory place) x.approach) _ y five.2 in
      let seven = came_from (all_of (route_named directory place) x.extra) _ y six.2 in
      let made : RouteEntry = record { name = x.name; entry = one.0; exit = two.0; path = three.0; points = four.0; flank = five.0; approach = six.0; extra = seven.0; aspect = x.aspect } in
      let long = all-length (port_named directory place) x.path three.0 three.1 in
      let is : IsRouteOf l made = record {
        entry = signal-there x.entry one.0 one.1;
        exit = exit-there x.exit two.0 two.1;
        path = all-all (port_named directory place) (HasPort l) port-there x.path three.0 three.1;
        points = all-all (side_named directory place) (λ p. HasPoint l p.0) side-there x.points four.0 four.1;
        flank = all-all (side_named directory place) (λ p. HasPoint l p.0) side-there x.flank five.0 five.1;
        approach = all-all (section_named directory place) (HasSection l) section-there x.approach six.0 six.1;
        extra = all-all (route_named directory place) (HasRoute l) route-there x.extra seven.0 seven.1;
        elements = (let few = within.0 in omega (arith, few, long));
        aspect = within.1;
      } in
      subst (IsRouteOf l) (same_ok made y seven.2) is
