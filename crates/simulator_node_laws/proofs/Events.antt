-- Which events contacts and noise are, and what these change.
use Rattle.std.proofs.Common.{◌≡◌, ℕ, zero, suc, ◌+◌, ◌-◌, ◌<◌, Bool, true, false, List, [], ◌∷◌, length, Option, Some, None, slice_get, slice_set, refl, ap, ◌∙◌, arith, if◌then◌else◌}
use Rattle.std.specs.Prelude.{◌&&◌, not, is_none, nat_le, nat_lt}
use Rattle.std.proofs.lemmas.Bool.Decides.{nat_tests}
use Rattle.std.proofs.lemmas.Option.{none-some, same_Some, slice_get_within}
use Rattle.simulator_spec.specs.sci_telegram.declared.message.Occupancy.{Occupancy}
use Rattle.simulator_spec.specs.sci_telegram.declared.message.Position.{Position}
use Rattle.simulator_spec.specs.layout.declared.entries.Point.{Point as PointEntry}
use Rattle.simulator_spec.specs.layout.declared.ids.SectionId.{SectionId}
use Rattle.simulator_spec.specs.layout.Entries.{Site}
use Rattle.simulator_spec.specs.rasta_core.Ends.{reading_of}
use Rattle.simulator_spec.specs.rasta_pdu.SafetyCode.{intact}
use Rattle.simulator_spec.specs.object_host.Host.{HostState}
use Rattle.simulator_spec.specs.object_host.declared.input.Input.{Input}
use Rattle.simulator_spec.specs.point_ctl.Drive.{PointState, drives}
use Rattle.simulator_spec.specs.ixl_spec.Step as ixl
use Rattle.simulator_spec.specs.ixl_spec.Table.{Table}
use Rattle.simulator_spec.specs.simulator_event.declared.event.Event.{Event}
use Rattle.simulator_spec.specs.simulator_event.declared.event.Event.TheVariants as event
use Rattle.simulator_spec.specs.simulator_event.layout.declared.ids.NodeId.{NodeId}
use Rattle.simulator_spec.specs.simulator_event.refused.Refused.TheVariants as refused
use Rattle.simulator_spec.specs.simulator_event.declared.snapshot.Snapshot.{Snapshot}
use Rattle.simulator_spec.specs.First.{IsOutsetOf, Outset, world_at}
use Rattle.simulator_spec.specs.Happens.{coming, detector_stepped, happens, interlocking_stepped, point_stepped, sensed_by, signal_stepped}
use Rattle.simulator_spec.specs.Network.{copy_of}
use Rattle.simulator_spec.specs.Nodes.{Signal, Point, Detector, detector_link, links, node_at, nodes, point_link}
use Rattle.simulator_spec.specs.Refusals.{driven_at, driven_by, is_missing, may_reach, refusal, refused_where}
use Rattle.simulator_spec.specs.Run.{after_all}
use Rattle.simulator_spec.specs.Seen.{IsSnapshotOf}
use Rattle.simulator_spec.specs.State.{ClockedControllerState, WorldState}
use Rattle.simulator_node_laws.specs.Contacts.{noise, point_now}
use Rattle.simulator_node_laws.specs.Lives.{Life}
use Rattle.simulator_node_laws.specs.Shown.{point_life}
use Rattle.simulator_node_laws.specs.Split.{connection_in, stepped}
use Rattle.simulator_node_laws.specs.Told.{Told, Nobody, ToInterlocking, ToSignal, ToPoint, ToDetector, to_node, told}
use Rattle.simulator_node_laws.proofs.Runs.{points_are}
use Rattle.simulator_node_laws.proofs.Split.{is_split}

-- ---- noise

never : (one : Bool) → (one && false) ≡ false
never true = refl
never false = refl

pub noise_allowed : (site : Site) (node : NodeId) (world : WorldState) → node.0 < nodes site → refusal site (event.Deliver node noise) world ≡ None
unfolding refusal intact
noise_allowed site node world there =
    ap (λ b. refused_where b refused.NoSuchNode (refused_where (is_none (copy_of noise world) && false) refused.NeverSent None)) found
    ∙ ap (λ b. refused_where b refused.NeverSent None) (never (is_none (copy_of noise world)))
  where
    found : is_missing node.0 site ≡ false
    found = grind (arith, nat_tests)

-- the controller of a place stands at its link
pub point_node : (site : Site) (place : ℕ) → place < length site.points → node_at site (suc (point_link site place)) ≡ Some (Point place)
point_node site place within = by_tests (nat_lt (point_link site place) (length site.signals)) (nat_lt (point_link site place) (point_link site (length site.points))) behind before
    ∙ ap (λ n. Some (Point n)) (from (length site.signals))
  where
    behind : nat_lt (point_link site place) (length site.signals) ≡ false
    behind = grind (arith, nat_tests)

    before : nat_lt (point_link site place) (point_link site (length site.points)) ≡ true
    before = grind (arith, nat_tests)

    from : (n : ℕ) → (n + place) - n ≡ place
    from n = omega arith

    by_tests : (one other : Bool) → one ≡ false → other ≡ true
        → (if one then Some (Signal (point_link site place)) else if other then Some (Point (point_link site place - length site.signals))
        else if nat_lt (point_link site place) (links site) then Some (Detector (point_link site place - detector_link site 0)) else None) ≡ Some (Point (point_link site place - length site.signals))
    by_tests one other past here = rw (past, here) refl

pub detector_node : (site : Site) (place : ℕ) → place < length site.detectors → node_at site (suc (detector_link site place)) ≡ Some (Detector place)
detector_node site place within = by_tests (nat_lt (detector_link site place) (length site.signals)) (nat_lt (detector_link site place) (point_link site (length site.points))) (nat_lt (detector_link site place) (links site)) behind beyond before
    ∙ ap (λ n. Some (Detector n)) (from (length site.signals) (length site.points))
  where
    behind : nat_lt (detector_link site place) (length site.signals) ≡ false
    behind = grind (arith, nat_tests)

    beyond : nat_lt (detector_link site place) (point_link site (length site.points)) ≡ false
    beyond = grind (arith, nat_tests)

    before : nat_lt (detector_link site place) (links site) ≡ true
    before = grind (arith, nat_tests)

    from : (n m : ℕ) → (n + m + place) - (n + m + 0) ≡ place
    from n m = omega arith

    by_tests : (one other third : Bool) → one ≡ false → other ≡ false → third ≡ true
        → (if one then Some (Signal (detector_link site place)) else if other then Some (Point (detector_link site place - length site.signals))
        else if third then Some (Detector (detector_link site place - detector_link site 0)) else None) ≡ Some (Detector (detector_link site place - detector_link site 0))
    by_tests one other third past beyond here = rw (past, beyond, here) refl

pub point_told_noise : (site : Site) (table : Table) (place : ℕ) → place < length site.points → told site table (event.Deliver (record { 0 = suc (point_link site place) }) noise) ≡ ToPoint place (coming noise)
point_told_noise site table place within = ap (to_node (ixl.Datagram noise) (coming noise)) (point_node site place within)

pub detector_told_noise : (site : Site) (table : Table) (place : ℕ) → place < length site.detectors → told site table (event.Deliver (record { 0 = suc (detector_link site place) }) noise) ≡ ToDetector place (coming noise)
detector_told_noise site table place within = ap (to_node (ixl.Datagram noise) (coming noise)) (detector_node site place within)

steps_move_nothing : (site : Site) (table : Table) (connection : ℕ) (what : Told) (world : WorldState)
    → ((stepped site table connection what world).positions ≡ world.positions) × ((stepped site table connection what world).occupancies ≡ world.occupancies)
unfolding interlocking_stepped signal_stepped point_stepped detector_stepped
steps_move_nothing site table connection Nobody world = (refl, refl)
steps_move_nothing site table connection (ToInterlocking input) world = (refl, refl)
steps_move_nothing site table connection (ToSignal at input) world = (refl, refl)
steps_move_nothing site table connection (ToPoint at input) world = (refl, refl)
steps_move_nothing site table connection (ToDetector at input) world = (refl, refl)

pub noise_moves_nothing : (site : Site) (table : Table) (node : NodeId) (world : WorldState)
    → ((happens site table (event.Deliver node noise) world).positions ≡ world.positions) × ((happens site table (event.Deliver node noise) world).occupancies ≡ world.occupancies)
noise_moves_nothing site table node world =
    let still = steps_move_nothing site table (connection_in (event.Deliver node noise) world) (told site table (event.Deliver node noise)) world
    in let split = is_split site table (event.Deliver node noise) world
    in (ap (λ (w : WorldState). w.positions) split ∙ still.0, ap (λ (w : WorldState). w.occupancies) split ∙ still.1)

-- ---- contacts of sections

pub section_allowed : (site : Site) (section : SectionId) (occupancy : Occupancy) (world : WorldState) → section.0 < length site.sections → refusal site (event.Occupy section occupancy) world ≡ None
unfolding refusal
section_allowed site section occupancy world there = ap (λ b. refused_where b refused.NoSuchNode None) found where
  found : nat_le (length site.sections) section.0 ≡ false
  found = grind (arith, nat_tests)

pub section_seen : (site : Site) (table : Table) (section : SectionId) (occupancy : Occupancy) (world : WorldState) (seen : Snapshot) → IsSnapshotOf table world seen
    → IsSnapshotOf table (happens site table (event.Occupy section occupancy) world) seen
unfolding happens detector_stepped
section_seen site table section occupancy world seen is = cases (slice_get table.reporters section.0) where
  cases : (reporter : Option (ℕ × ℕ)) → IsSnapshotOf table (sensed_by site occupancy reporter (record world { occupancies = slice_set world.occupancies section.0 occupancy })) seen
  cases None = record { shows = is.shows; held = is.held; position = is.position; driven = is.driven }
  cases (Some reporter) = record { shows = is.shows; held = is.held; position = is.position; driven = is.driven }

-- ---- contacts of points

driven_there : (place : ℕ) (servers : List (ClockedControllerState PointState)) (server : ClockedControllerState PointState) → slice_get servers place ≡ Some server → driven_at place servers ≡ driven_by server
driven_there place [] server is = absurd (none-some server is)
driven_there zero (first ∷ others) server is = ap driven_by (same_Some first server is)
driven_there (suc place) (first ∷ others) server is = driven_there place others server is

module _ (site : Site) (table : Table) (outset : Outset) (lies : IsOutsetOf site outset) (events : List Event) (place : ℕ) (entry : PointEntry) (is : slice_get site.points place ≡ Some entry) where
  abbrev life : Life Position Input
  life = point_life site table outset events place

  abbrev world : WorldState
  world = after_all site table events (world_at site table outset)

  driven_so : driven_at place world.points ≡ drives (reading_of life.clock) (point_now site entry life).object
  driven_so =
      let lives = (points_are site table outset lies events place entry is).lives
      in driven_there place world.points lives.server lives.there
      ∙ ap (λ (h : HostState PointState). drives (reading_of lives.server.clock) h.object) lives.state
      ∙ ap (λ n. drives (reading_of n) (point_now site entry life).object) lives.clock

  pub reach_allowed : (position : Position)
      → refusal site (event.Reach (record { 0 = place }) position) world ≡ refused_where (not (may_reach (drives (reading_of life.clock) (point_now site entry life).object) position)) refused.NotDriven None
  unfolding refusal
  reach_allowed position =
      ap (λ b. refused_where b refused.NoSuchNode (refused_where (not (may_reach (driven_at place world.points) position)) refused.NotDriven None)) found
      ∙ ap (λ d. refused_where (not (may_reach d position)) refused.NotDriven None) driven_so
    where
      within : place < length site.points
      within = slice_get_within site.points place entry is

      found : nat_le (length site.points) place ≡ false
      found = grind (arith, nat_tests, within)
