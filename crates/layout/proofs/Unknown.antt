-- A whole text tells of its names, and then of its sections, whether each is there or which is the first that isn't.
use Rattle.std.proofs.Common.{◌≡◌, ℕ, suc, List, [], ◌∷◌, ◌++◌, map, Contains, All, Option, Some, None, is_some, Ok, Err, if◌then◌else◌, refl, sym, ap, subst, ◌∙◌, inl, inr, ⊎_elim, rules}
use Rattle.std.proofs.lemmas.List.Elements.{All-nil, All-cons, All-head, All-tail}
use Rattle.std.specs.Map.{lookup}
use Rattle.layout_text.specs.declared.fault.LayoutFault.TheVariants.{UnknownName}
use Rattle.layout_text.specs.declared.fault.Place.{Place}
use Rattle.layout_text.specs.declared.fault.TableName.{TableName}
use Rattle.layout_text.specs.declared.fault.TableName.TheVariants as named
use Rattle.layout.specs.Entries.{Site}
use Rattle.layout_text.specs.Written.{LayoutText, RouteText}
use Rattle.layout_text.specs.FirstFault.{each_of, all_of}
use Rattle.layout.specs.Known.{same_name}
use Rattle.layout_text.specs.Limits.{limits_of, all_within}
use Rattle.layout.specs.Doubles.{directory_of, ids_of, reported_of}
use Rattle.layout.specs.Faults.{numbered, all_at, listed, names_written, sections_written}
use Rattle.layout.specs.NamesResolved.{section_named, signal_named, route_named, side_named, exit_named, port_named, track_named, point_named, joint_named, signal_entry, detector_entry, route_entry, section_reported, site_of, names_of, entries_of}
use Rattle.layout.specs.Unknown.{section_use, point_use, signal_use, route_use, exit_use, port_use, used_by_route, names_used, IsNamed, IsReported, IsFirstUnknown, NamesWhatIsThere}
use Rattle.layout.proofs.Stepwise.{same_ok, never, failed_at, came_from}
use Rattle.layout.proofs.Tells.{Quiet, quiet-ok, quiet-then, Tells, tells-held, tells-missed, tells-then, tells-end, tells-within, tells-all, tells-each, tells-numbered}
use Rattle.layout.proofs.FaultDirectory.{Leads, look-found, directory-is, reported-is}
use Rattle.layout.proofs.Quiet.{quiet-limits, quiet-directory, quiet-ids, quiet-reported}
use Rattle.layout.proofs.Named.{section-tells, signal-tells, route-tells, side-tells, exit-tells, port-tells}

-- ---- the names, table after table

module _ (text : LayoutText) (directory : List (List ℕ × Place)) (all : directory ≡ names_written text) (leads : Leads directory) where
  tracks-tell : Tells (IsNamed text) (listed (λ t. section_use t.section ∷ []) named.Track 1 text.tracks) (each_of (track_named directory) named.Track 1 text.tracks)
  unfolding track_named
  tracks-tell = tells-each (IsNamed text) (λ t. section_use t.section ∷ []) (track_named directory) (λ place t.
      tells-end (IsNamed text) ((section_use t.section, place) ∷ []) (section_named directory place t.section) (λ section. record { name = t.name; section = section }) (section-tells text directory all leads place t.section)) named.Track 1 text.tracks

  points-tell : Tells (IsNamed text) (listed (λ p. section_use p.section ∷ []) named.Point 1 text.points) (each_of (point_named directory) named.Point 1 text.points)
  unfolding point_named
  points-tell = tells-each (IsNamed text) (λ p. section_use p.section ∷ []) (point_named directory) (λ place p.
      tells-end (IsNamed text) ((section_use p.section, place) ∷ []) (section_named directory place p.section) (λ section. record { name = p.name; id = p.id; section = section }) (section-tells text directory all leads place p.section)) named.Point 1 text.points

  joints-tell : Tells (IsNamed text) (listed (λ j. port_use j.first.element j.first.end ∷ port_use j.second.element j.second.end ∷ []) named.Joint 1 text.joints) (each_of (joint_named directory) named.Joint 1 text.joints)
  unfolding joint_named
  joints-tell = tells-each (IsNamed text) (λ j. port_use j.first.element j.first.end ∷ port_use j.second.element j.second.end ∷ []) (joint_named directory) (λ place j.
      let second = port_use j.second.element j.second.end in
      tells-within (IsNamed text) place (port_use j.first.element j.first.end ∷ []) (second ∷ []) (port_named directory place j.first) _ (port-tells text directory all leads place j.first.element j.first.end) (λ a.
      tells-end (IsNamed text) ((second, place) ∷ []) (port_named directory place j.second) (λ b. record { first = a; second = b }) (port-tells text directory all leads place j.second.element j.second.end))) named.Joint 1 text.joints

  signals-tell : Tells (IsNamed text) (listed (λ s. port_use s.at.element s.at.end ∷ []) named.Signal 1 text.signals) (each_of (signal_entry directory) named.Signal 1 text.signals)
  unfolding signal_entry
  signals-tell = tells-each (IsNamed text) (λ s. port_use s.at.element s.at.end ∷ []) (signal_entry directory) (λ place s.
      tells-end (IsNamed text) ((port_use s.at.element s.at.end, place) ∷ []) (port_named directory place s.at) (λ at. record { name = s.name; id = s.id; at = at }) (port-tells text directory all leads place s.at.element s.at.end)) named.Signal 1 text.signals

  detectors-tell : Tells (IsNamed text) (listed (λ d. map section_use d.sections) named.Detector 1 text.detectors) (each_of (detector_entry directory) named.Detector 1 text.detectors)
  unfolding detector_entry
  detectors-tell = tells-each (IsNamed text) (λ d. map section_use d.sections) (detector_entry directory) (λ place d.
      tells-end (IsNamed text) (all_at place (map section_use d.sections)) (all_of (section_named directory place) d.sections) (λ sections. record { name = d.name; id = d.id; sections = sections })
      (tells-all (IsNamed text) place section_use (section_named directory place) (section-tells text directory all leads place) d.sections)) named.Detector 1 text.detectors

  one-route-tells : (place : Place) (r : RouteText) → Tells (IsNamed text) (all_at place (used_by_route r)) (route_entry directory place r)
  unfolding route_entry
  one-route-tells place r =
      let extra = map route_use r.extra in
      let approach = map section_use r.approach ++ extra in
      let flank = map (λ p. point_use p.0) r.flank ++ approach in
      let points = map (λ p. point_use p.0) r.points ++ flank in
      let path = map (λ p. port_use p.element p.end) r.path ++ points in
      tells-within (IsNamed text) place (signal_use r.entry ∷ []) (exit_use r.exit ∷ path) (signal_named directory place r.entry) _ (signal-tells text directory all leads place r.entry) (λ a.
      tells-within (IsNamed text) place (exit_use r.exit ∷ []) path (exit_named directory place r.exit) _ (exit-tells text directory all leads place r.exit) (λ b.
      tells-within (IsNamed text) place (map (λ p. port_use p.element p.end) r.path) points (all_of (port_named directory place) r.path) _
      (tells-all (IsNamed text) place (λ p. port_use p.element p.end) (port_named directory place) (λ p. port-tells text directory all leads place p.element p.end) r.path) (λ c.
      tells-within (IsNamed text) place (map (λ p. point_use p.0) r.points) flank (all_of (side_named directory place) r.points) _
      (tells-all (IsNamed text) place (λ p. point_use p.0) (side_named directory place) (side-tells text directory all leads place) r.points) (λ d.
      tells-within (IsNamed text) place (map (λ p. point_use p.0) r.flank) approach (all_of (side_named directory place) r.flank) _
      (tells-all (IsNamed text) place (λ p. point_use p.0) (side_named directory place) (side-tells text directory all leads place) r.flank) (λ e.
      tells-within (IsNamed text) place (map section_use r.approach) extra (all_of (section_named directory place) r.approach) _
      (tells-all (IsNamed text) place section_use (section_named directory place) (section-tells text directory all leads place) r.approach) (λ f.
      tells-end (IsNamed text) (all_at place extra) (all_of (route_named directory place) r.extra) (λ g. record { name = r.name; entry = a; exit = b; path = c; points = d; flank = e; approach = f; extra = g; aspect = r.aspect })
      (tells-all (IsNamed text) place route_use (route_named directory place) (route-tells text directory all leads place) r.extra)))))))

  routes-tell : Tells (IsNamed text) (listed used_by_route named.Route 1 text.routes) (each_of (route_entry directory) named.Route 1 text.routes)
  routes-tell = tells-each (IsNamed text) used_by_route (route_entry directory) one-route-tells named.Route 1 text.routes

  names-tell : Tells (IsNamed text) (names_used text) (site_of directory text)
  unfolding names_used site_of
  names-tell =
      let routes = listed used_by_route named.Route 1 text.routes in
      let detectors = listed (λ d. map section_use d.sections) named.Detector 1 text.detectors ++ routes in
      let signals = listed (λ s. port_use s.at.element s.at.end ∷ []) named.Signal 1 text.signals ++ detectors in
      let joints = listed (λ j. port_use j.first.element j.first.end ∷ port_use j.second.element j.second.end ∷ []) named.Joint 1 text.joints ++ signals in
      let points = listed (λ p. section_use p.section ∷ []) named.Point 1 text.points ++ joints in
      tells-then (IsNamed text) (listed (λ t. section_use t.section ∷ []) named.Track 1 text.tracks) points (each_of (track_named directory) named.Track 1 text.tracks) _ tracks-tell (λ a.
      tells-then (IsNamed text) (listed (λ p. section_use p.section ∷ []) named.Point 1 text.points) joints (each_of (point_named directory) named.Point 1 text.points) _ points-tell (λ b.
      tells-then (IsNamed text) (listed (λ j. port_use j.first.element j.first.end ∷ port_use j.second.element j.second.end ∷ []) named.Joint 1 text.joints) signals (each_of (joint_named directory) named.Joint 1 text.joints) _ joints-tell (λ c.
      tells-then (IsNamed text) (listed (λ s. port_use s.at.element s.at.end ∷ []) named.Signal 1 text.signals) detectors (each_of (signal_entry directory) named.Signal 1 text.signals) _ signals-tell (λ d.
      tells-then (IsNamed text) (listed (λ d. map section_use d.sections) named.Detector 1 text.detectors) routes (each_of (detector_entry directory) named.Detector 1 text.detectors) _ detectors-tell (λ e.
      tells-end (IsNamed text) routes (each_of (route_entry directory) named.Route 1 text.routes)
      (λ f. record { station = text.station; sections = text.sections; tracks = a; points = b; borders = text.borders; joints = c; signals = d; detectors = e; routes = f }) routes-tell)))))

-- the site has the sections of the text
same-sections : (text : LayoutText) (directory : List (List ℕ × Place)) (l : Site) → site_of directory text ≡ Ok l → l.sections ≡ text.sections
unfolding site_of
same-sections text directory l h =
    let a = came_from (each_of (track_named directory) named.Track 1 text.tracks) _ l h in
    let b = came_from (each_of (point_named directory) named.Point 1 text.points) _ l a.2 in
    let c = came_from (each_of (joint_named directory) named.Joint 1 text.joints) _ l b.2 in
    let d = came_from (each_of (signal_entry directory) named.Signal 1 text.signals) _ l c.2 in
    let e = came_from (each_of (detector_entry directory) named.Detector 1 text.detectors) _ l d.2 in
    let f = came_from (each_of (route_entry directory) named.Route 1 text.routes) _ l e.2 in
    sym (ap (λ p. p.sections) (same_ok _ l f.2))

-- ---- the sections

module _ (text : LayoutText) (reported : List (List ℕ × Place)) (all : reported ≡ sections_written text) (leads : Leads reported) where
  one-section-tells : (place : Place) (name : List ℕ) (o : Option Place) → lookup (same_name name) reported ≡ o → Tells (IsReported text) ((name, place) ∷ []) (if is_some o then Ok (tt {0}) else Err (UnknownName place))
  one-section-tells place name None h = tells-missed (IsReported text) name place (Err (UnknownName place)) (λ is.
      let found = leads name (is.name, is.place) (subst (λ es. Contains es (is.name, is.place)) (sym all) is.listed) is.same in
      let none : None ≡ Some is.place = sym h ∙ found in
      search (rules, none)) refl
  one-section-tells place name (Some found) h =
      let k = look-found (same_name name) reported found h in
      tells-held (IsReported text) name place (Ok tt) (record { name = k.0; place = found; listed = subst (λ es. Contains es (k.0, found)) all k.1; same = k.2 }) (quiet-ok tt)

  sections-tell : Tells (IsReported text) (numbered named.Section 1 text.sections) (all_within (section_reported reported) named.Section text.sections)
  sections-tell = tells-end (IsReported text) (numbered named.Section 1 text.sections) (each_of (section_reported reported) named.Section 1 text.sections) (λ _. tt)
      (tells-numbered (IsReported text) (section_reported reported) (λ place name. one-section-tells place name (lookup (same_name name) reported) refl) named.Section 1 text.sections)

-- without their places
each-of-numbered : {A : Type 0} (P : A → Type 0) (table : TableName) (n : ℕ) (xs : List A) → All (λ u. P u.0) (numbered table n xs) → All P xs
each-of-numbered P table n [] h = All-nil P
each-of-numbered P table n (x ∷ xs) h =
    let place : Place = record { table = table; entry = n } in
    All-cons P x xs (All-head (λ u. P u.0) (x, place) (numbered table (suc n) xs) h) (each-of-numbered P table (suc n) xs (All-tail (λ u. P u.0) (x, place) (numbered table (suc n) xs) h))

-- ---- the whole text

module _ (text : LayoutText) where
  quiet-names-of : Quiet (names_of text)
  unfolding names_of
  quiet-names-of =
      quiet-then (limits_of text) _ (quiet-limits text) (λ _.
      quiet-then (directory_of text) _ (quiet-directory text) (λ directory.
      quiet-then (ids_of text) _ (quiet-ids text) (λ _. quiet-ok directory)))

  its-directory : (directory : List (List ℕ × Place)) → names_of text ≡ Ok directory → (directory ≡ names_written text) × Leads directory
  unfolding names_of
  its-directory directory h =
      let a = came_from (limits_of text) _ directory h in
      let b = came_from (directory_of text) _ directory a.2 in
      let c = came_from (ids_of text) _ directory b.2 in
      directory-is text directory (b.1 ∙ c.2)

  pub first-unknown : (place : Place) → entries_of text ≡ Err (UnknownName place) → IsFirstUnknown text place
  unfolding entries_of
  first-unknown place h =
      ⊎_elim (λ e. absurd (quiet-names-of place e)) (λ a.
      let directory = its-directory a.0 a.1 in
      let names = names-tell text a.0 directory.0 directory.1 in
      ⊎_elim (λ e. absurd (quiet-reported text place e)) (λ b.
      let reported = reported-is text b.0 b.1 in
      ⊎_elim (λ e. inl (names.miss place e)) (λ c.
      ⊎_elim (λ e. inr (
        names.fine c.0 c.1,
        (sections-tell text b.0 reported.0 reported.1).miss place (subst (λ xs. all_within (section_reported b.0) named.Section xs ≡ Err (UnknownName place)) (same-sections text a.0 c.0 c.1) e),
      )) (λ d. never c.0 (UnknownName place) d.2)
      (failed_at (all_within (section_reported b.0) named.Section c.0.sections) (λ _. Ok c.0) (UnknownName place) c.2))
      (failed_at (site_of a.0 text) _ (UnknownName place) b.2))
      (failed_at (reported_of text.detectors) _ (UnknownName place) a.2))
      (failed_at (names_of text) _ (UnknownName place) h)

  pub names-kept : (l : Site) → entries_of text ≡ Ok l → NamesWhatIsThere text
  unfolding entries_of
  names-kept l h =
      let a = came_from (names_of text) _ l h in
      let b = came_from (reported_of text.detectors) _ l a.2 in
      let c = came_from (site_of a.0 text) _ l b.2 in
      let d = came_from (all_within (section_reported b.0) named.Section c.0.sections) (λ _. Ok c.0) l c.2 in
      let directory = its-directory a.0 a.1 in
      let reported = reported-is text b.0 b.1 in
      record {
        names = (names-tell text a.0 directory.0 directory.1).fine c.0 c.1;
        sections = each-of-numbered (IsReported text) named.Section 1 text.sections ((sections-tell text b.0 reported.0 reported.1).fine tt
            (subst (λ xs. all_within (section_reported b.0) named.Section xs ≡ Ok tt) (same-sections text a.0 c.0 c.1) d.1));
      }
