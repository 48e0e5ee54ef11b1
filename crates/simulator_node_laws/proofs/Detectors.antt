-- A detector lives on, whatever happens.
use Rattle.std.proofs.Common.{◌≡◌, ◌≢◌, ℕ, suc, ◌+◌, Bool, true, false, if◌then◌else◌, List, length, drop, Option, Some, None, slice_get, refl, sym, ap, subst, ◌∙◌, arith}
use Rattle.std.specs.Prelude.{◌==◌, slice_index_or}
use Rattle.simulator_spec.specs.sci_telegram.declared.message.Occupancy.{Occupancy}
use Rattle.simulator_spec.specs.layout.Entries.{DetectorEntry, Site}
use Rattle.simulator_spec.specs.layout.declared.entries.Signal.{Signal as SignalEntry}
use Rattle.simulator_spec.specs.layout.declared.entries.Point.{Point as PointEntry}
use Rattle.simulator_spec.specs.object_host.Host.{HostState}
use Rattle.simulator_spec.specs.layout.Station.{IsStation}
use Rattle.simulator_spec.specs.object_host.declared.input.Input.{Input}
use Rattle.simulator_spec.specs.object_host.declared.input.Input.TheVariants as inputs
use Rattle.simulator_spec.specs.tds_ctl.Controlled.{detection_behaviour}
use Rattle.simulator_spec.specs.tds_ctl.declared.section.Section.{Section}
use Rattle.simulator_spec.specs.ixl_spec.State.{changed}
use Rattle.simulator_spec.specs.ixl_spec.Step as ixl
use Rattle.simulator_spec.specs.ixl_spec.Table.{Table}
use Rattle.simulator_spec.specs.simulator_event.declared.event.Event.{Event}
use Rattle.simulator_spec.specs.simulator_event.declared.event.Event.TheVariants as event
use Rattle.simulator_spec.specs.First.{Beginning}
use Rattle.simulator_spec.specs.Happens.{coming, detector_anew, detector_stepped, happens, interlocking_stepped, made_anew, passed, point_anew, point_stepped, signal_anew, signal_stepped}
use Rattle.simulator_spec.specs.Nodes.{Node, Interlocking, Signal, Point, Detector, detector_link, node_at}
use Rattle.simulator_spec.specs.Controllers.{controller_anew}
use Rattle.simulator_spec.specs.State.{WorldState}
use Rattle.ixl_table.specs.Table.{IsTableOf}
use Rattle.simulator_node_laws.specs.Lives.{Life, LivesAsDetector, LivesAt, anew_where, detector_at, detector_hears, detector_sensing, hears, is_detector, life_after, occupied_after, own_occupancies, turned}
use Rattle.simulator_node_laws.specs.Split.{around, connection_in, stepped}
use Rattle.simulator_node_laws.specs.Told.{Told, Nobody, ToInterlocking, ToSignal, ToPoint, ToDetector, to_node, told}
use Rattle.simulator_node_laws.proofs.Controllers.{another_begins, begins_anew, goes_on, one_steps}
use Rattle.simulator_node_laws.proofs.Counts.{IsCounted}
use Rattle.simulator_node_laws.proofs.Lists.{other_number, same_number}
use Rattle.simulator_node_laws.proofs.Points.{dropped_at, one_and}
use Rattle.simulator_node_laws.proofs.Sections.{contact_told, made_of_its_own}
use Rattle.simulator_node_laws.proofs.Split.{is_split}

abbrev DetectorLife : Type 0
DetectorLife = Life (List Occupancy) Input

module _ (site : Site) (table : Table) (entry : DetectorEntry) (place : ℕ) where
  abbrev new : Beginning → List Occupancy → HostState (List Section)
  new begins sensed = detector_sensing site begins sensed entry

  told_on : (connection : ℕ) (what : Told) (world : WorldState) (life : DetectorLife) → LivesAt detection_behaviour new world.detectors place life
      → LivesAt detection_behaviour new (stepped site table connection what world).detectors place (hears occupied_after (detector_hears place what) life)
  unfolding interlocking_stepped signal_stepped point_stepped detector_stepped
  told_on connection Nobody world life lives = lives
  told_on connection (ToInterlocking input) world life lives = lives
  told_on connection (ToSignal at input) world life lives = lives
  told_on connection (ToPoint at input) world life lives = lives
  told_on connection (ToDetector at input) world life lives = one_steps detection_behaviour new occupied_after input connection world.time (detector_link site at) at place world.detectors world.sent life lives

  told_occupied : (connection : ℕ) (what : Told) (world : WorldState) → (stepped site table connection what world).occupancies ≡ world.occupancies
  unfolding interlocking_stepped signal_stepped point_stepped detector_stepped
  told_occupied connection Nobody world = refl
  told_occupied connection (ToInterlocking input) world = refl
  told_occupied connection (ToSignal at input) world = refl
  told_occupied connection (ToPoint at input) world = refl
  told_occupied connection (ToDetector at input) world = refl

  anew_on : slice_get site.detectors place ≡ Some entry → (begins : Beginning) (at : Option Node) (world : WorldState) (life : DetectorLife) → LivesAsDetector site entry world place life
      → LivesAsDetector site entry (made_anew site table begins at world) place (anew_where (is_detector place at) begins life)
  anew_on is begins None world life lives = lives
  anew_on is begins (Some Interlocking) world life lives = record { lives = lives.lives; occupied = lives.occupied }
  anew_on is begins (Some (Signal at)) world life lives = of_entry (slice_get site.signals at) where
    of_entry : (other : Option SignalEntry) → LivesAsDetector site entry (signal_anew site begins at other world) place life
    of_entry None = lives
    of_entry (Some other) = record { lives = lives.lives; occupied = lives.occupied }
  anew_on is begins (Some (Point at)) world life lives = of_entry (slice_get site.points at) where
    of_entry : (other : Option PointEntry) → LivesAsDetector site entry (point_anew site begins at other world) place life
    of_entry None = lives
    of_entry (Some other) = record { lives = lives.lives; occupied = lives.occupied }
  anew_on is begins (Some (Detector at)) world life lives = cases (at == place) refl where
    it : LivesAsDetector site entry (detector_anew site begins place (Some entry) world) place (anew_where true begins life)
    it = record {
      lives = subst (λ h. LivesAt detection_behaviour new (changed (controller_anew h begins.clock (length world.sent)) place world.detectors) place (anew_where true begins life))
          (ap (λ c. detector_sensing site begins c entry) lives.occupied ∙ sym (made_of_its_own site begins world.occupancies entry))
          (begins_anew detection_behaviour new begins (length world.sent) place world.detectors life lives.lives);
      occupied = lives.occupied;
    }

    another : (other : Option DetectorEntry) → place ≢ at → LivesAsDetector site entry (detector_anew site begins at other world) place life
    another None differ = lives
    another (Some other) differ = record { lives = another_begins detection_behaviour new _ at place world.detectors life differ lives.lives; occupied = lives.occupied }

    cases : (test : Bool) → (at == place) ≡ test → LivesAsDetector site entry (detector_anew site begins at (slice_get site.detectors at) world) place (anew_where test begins life)
    cases true same = subst (λ n. LivesAsDetector site entry (detector_anew site begins n (slice_get site.detectors n) world) place (anew_where true begins life)) (sym (same_number at place same))
        (subst (λ o. LivesAsDetector site entry (detector_anew site begins place o world) place (anew_where true begins life)) (sym is) it)
    cases false differ = another (slice_get site.detectors at) (λ same. other_number at place differ (sym same))

  -- the node itself, as what is around it changes
  turned_on : slice_get site.detectors place ≡ Some entry → (happening : Event) (world : WorldState) (life : DetectorLife) → IsCounted site world → LivesAsDetector site entry world place life
      → LivesAt detection_behaviour new (around site table happening world).detectors place (turned site (detector_at site place) happening life)
  unfolding passed
  turned_on is (event.Request command) world life counted lives = lives.lives
  turned_on is (event.Occupy section occupancy) world life counted lives = lives.lives
  turned_on is (event.Tick node) world life counted lives = lives.lives
  turned_on is (event.Time elapsed clocks) world life counted lives =
      goes_on detection_behaviour new (length world.sent) (drop (length world.points) (drop (length world.signals) (drop 1 clocks))) _ world.detectors place life tick lives.lives
    where
      sums : (s p : ℕ) → s + (p + place) ≡ s + p + place
      sums s p = omega arith

      tick : slice_index_or (drop (length world.points) (drop (length world.signals) (drop 1 clocks))) place 0 ≡ slice_index_or clocks (suc (detector_link site place)) 0
      tick = dropped_at (length world.points) (drop (length world.signals) (drop 1 clocks)) place (length world.points + place) refl
          ∙ dropped_at (length world.signals) (drop 1 clocks) (length world.points + place) (length world.signals + (length world.points + place)) refl
          ∙ ap (λ n. slice_index_or (drop 1 clocks) n 0) (sums (length world.signals) (length world.points))
          ∙ ap (λ n. slice_index_or (drop 1 clocks) (n + length world.points + place) 0) counted.signals
          ∙ ap (λ n. slice_index_or (drop 1 clocks) (length site.signals + n + place) 0) counted.points
          ∙ dropped_at 1 clocks (detector_link site place) (suc (detector_link site place)) (one_and (detector_link site place))
  turned_on is (event.Deliver node bytes) world life counted lives = lives.lives
  turned_on is (event.Lose bytes) world life counted lives = lives.lives
  turned_on is (event.Reach point position) world life counted lives = lives.lives
  turned_on is (event.Restart node clock first) world life counted lives = (anew_on is (record { clock = clock; first = first }) (node_at site node.0) world life lives).lives

  -- ---- how its sections are

  -- what is no contact of a section changes nothing
  unchanged : (here : ixl.Input) (input : Input) (life : DetectorLife) → occupied_after input life.contacts ≡ life.contacts → (at : Option Node) → (hears occupied_after (detector_hears place (to_node here input at)) life).contacts ≡ life.contacts
  unchanged here input life same None = refl
  unchanged here input life same (Some Interlocking) = refl
  unchanged here input life same (Some (Signal at)) = refl
  unchanged here input life same (Some (Point at)) = refl
  unchanged here input life same (Some (Detector at)) = cases (at == place) where
    cases : (test : Bool) → (hears occupied_after (if test then Some input else None) life).contacts ≡ life.contacts
    cases true = same
    cases false = refl

  occupied_on : IsStation site → IsTableOf site table → slice_get site.detectors place ≡ Some entry → (happening : Event) (world : WorldState) (life : DetectorLife) → IsCounted site world → LivesAsDetector site entry world place life
      → (life_after site table (detector_at site place) happening life).contacts ≡ own_occupancies (around site table happening world).occupancies entry.sections
  unfolding passed
  occupied_on station is_table is (event.Request command) world life counted lives = lives.occupied
  occupied_on station is_table is (event.Occupy section occupancy) world life counted lives =
      contact_told site table station is_table place entry is section.0 occupancy world.occupancies life counted.occupancies lives.occupied
  occupied_on station is_table is (event.Tick node) world life counted lives = unchanged ixl.Tick inputs.Tick life refl (node_at site node.0) ∙ lives.occupied
  occupied_on station is_table is (event.Time elapsed clocks) world life counted lives = lives.occupied
  occupied_on station is_table is (event.Deliver node bytes) world life counted lives = unchanged (ixl.Datagram bytes) (coming bytes) life refl (node_at site node.0) ∙ lives.occupied
  occupied_on station is_table is (event.Lose bytes) world life counted lives = lives.occupied
  occupied_on station is_table is (event.Reach point position) world life counted lives = lives.occupied
  occupied_on station is_table is (event.Restart node clock first) world life counted lives = (anew_on is (record { clock = clock; first = first }) (node_at site node.0) world life lives).occupied

  pub lives_on : IsStation site → IsTableOf site table → slice_get site.detectors place ≡ Some entry → (happening : Event) (world : WorldState) (life : DetectorLife) → IsCounted site world → LivesAsDetector site entry world place life
      → LivesAsDetector site entry (happens site table happening world) place (life_after site table (detector_at site place) happening life)
  lives_on station is_table is happening world life counted lives =
      let next = turned site (detector_at site place) happening life
      in let what = told site table happening
      in subst (λ (w : WorldState). LivesAsDetector site entry w place (life_after site table (detector_at site place) happening life)) (sym (is_split site table happening world)) (record {
        lives = told_on (connection_in happening world) what (around site table happening world) next (turned_on is happening world life counted lives);
        occupied = occupied_on station is_table is happening world life counted lives
            ∙ ap (λ l. own_occupancies l entry.sections) (sym (told_occupied (connection_in happening world) what (around site table happening world)));
      })
