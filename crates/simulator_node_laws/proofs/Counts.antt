-- A world keeps as many signals, points, detectors and sections as its layout has.
use Rattle.std.proofs.Common.{◌≡◌, ℕ, zero, suc, List, [], ◌∷◌, length, map, Option, Some, None, slice_get, slice_set, refl, sym, ap, subst, ◌∙◌}
use Rattle.std.specs.List.{zip}
use Rattle.std.proofs.lemmas.Slice.Zip.{firsts-zip}
use Rattle.simulator_spec.specs.sci_telegram.declared.message.Position.{Position}
use Rattle.simulator_spec.specs.layout.Entries.{DetectorEntry, Site}
use Rattle.simulator_spec.specs.layout.declared.entries.Signal.{Signal as SignalEntry}
use Rattle.simulator_spec.specs.layout.declared.entries.Point.{Point as PointEntry}
use Rattle.simulator_spec.specs.rasta_core.Links.{OnLink}
use Rattle.simulator_spec.specs.object_host.Behaviour.{Behaviour}
use Rattle.simulator_spec.specs.object_host.declared.input.Input.{Input}
use Rattle.simulator_spec.specs.signal_ctl.Signal.{signal_behaviour}
use Rattle.simulator_spec.specs.point_ctl.Controlled.{point_behaviour}
use Rattle.simulator_spec.specs.tds_ctl.Controlled.{detection_behaviour}
use Rattle.simulator_spec.specs.ixl_spec.State.{changed}
use Rattle.simulator_spec.specs.ixl_spec.Table.{Table}
use Rattle.simulator_spec.specs.simulator_event.declared.event.Event.{Event}
use Rattle.simulator_spec.specs.simulator_event.declared.event.Event.TheVariants as event
use Rattle.simulator_spec.specs.First.{Beginning, IsOutsetOf, Outset, world_at}
use Rattle.simulator_spec.specs.Happens.{all_later, detector_anew, detector_stepped, happens, interlocking_stepped, made_anew, passed, point_anew, point_stepped, signal_anew, signal_stepped, stepped_at}
use Rattle.simulator_spec.specs.Nodes.{Node, Interlocking, Signal, Point, Detector, detector_link, node_at, point_link}
use Rattle.simulator_spec.specs.State.{ClockedControllerState, WorldState}
use Rattle.simulator_spec.specs.Run.{after_all}
use Rattle.simulator_node_laws.specs.Split.{around, connection_in, stepped}
use Rattle.simulator_node_laws.specs.Told.{Told, Nobody, ToInterlocking, ToSignal, ToPoint, ToDetector, told}
use Rattle.simulator_node_laws.proofs.Split.{is_split}

pub record IsCounted (site : Site) (world : WorldState) : Type 0 where
  pub signals : length world.signals ≡ length site.signals
  pub points : length world.points ≡ length site.points
  pub positions : length world.positions ≡ length site.points
  pub detectors : length world.detectors ≡ length site.detectors
  pub occupancies : length world.occupancies ≡ length site.sections

pub length_set : {A : Type 0} (list : List A) (place : ℕ) (one : A) → length (slice_set list place one) ≡ length list
length_set [] place one = refl
length_set (first ∷ others) zero one = refl
length_set (first ∷ others) (suc place) one = ap suc (length_set others place one)

length_changed : {A : Type 0} (change : A → A) (place : ℕ) (list : List A) → length (changed change place list) ≡ length list
length_changed change place [] = refl
length_changed change zero (first ∷ others) = refl
length_changed change (suc place) (first ∷ others) = ap suc (length_changed change place others)

length_later : {Object : Type 0} (moment : ℕ) (ticks : List ℕ) (servers : List (ClockedControllerState Object)) → length (all_later moment ticks servers) ≡ length servers
length_later moment ticks [] = refl
length_later moment [] (server ∷ servers) = refl
length_later moment (tick ∷ ticks) (server ∷ servers) = ap suc (length_later moment ticks servers)

pub length_mapped : {A B : Type 0} (f : A → B) (list : List A) → length (map f list) ≡ length list
length_mapped f [] = refl
length_mapped f (first ∷ others) = ap suc (length_mapped f others)

length_stepped : {Object : Type 0} (does : Behaviour Object) (input : Input) (connection time link place : ℕ) (found : Option (ClockedControllerState Object)) (servers : List (ClockedControllerState Object)) (sent : List OnLink)
    → length (stepped_at does input connection time link place found (record { servers = servers; sent = sent })).servers ≡ length servers
unfolding stepped_at
length_stepped does input connection time link place None servers sent = refl
length_stepped does input connection time link place (Some server) servers sent = length_set servers place _

module _ (site : Site) (table : Table) where
  told_counts : (connection : ℕ) (what : Told) (world : WorldState) → IsCounted site world → IsCounted site (stepped site table connection what world)
  unfolding interlocking_stepped signal_stepped point_stepped detector_stepped
  told_counts connection Nobody world counted = counted
  told_counts connection (ToInterlocking input) world counted = record { signals = counted.signals; points = counted.points; positions = counted.positions; detectors = counted.detectors; occupancies = counted.occupancies }
  told_counts connection (ToSignal at input) world counted = record {
    signals = length_stepped signal_behaviour input connection world.time at at (slice_get world.signals at) world.signals world.sent ∙ counted.signals;
    points = counted.points;
    positions = counted.positions;
    detectors = counted.detectors;
    occupancies = counted.occupancies;
  }
  told_counts connection (ToPoint at input) world counted = record {
    signals = counted.signals;
    points = length_stepped point_behaviour input connection world.time (point_link site at) at (slice_get world.points at) world.points world.sent ∙ counted.points;
    positions = counted.positions;
    detectors = counted.detectors;
    occupancies = counted.occupancies;
  }
  told_counts connection (ToDetector at input) world counted = record {
    signals = counted.signals;
    points = counted.points;
    positions = counted.positions;
    detectors = length_stepped detection_behaviour input connection world.time (detector_link site at) at (slice_get world.detectors at) world.detectors world.sent ∙ counted.detectors;
    occupancies = counted.occupancies;
  }

  anew_counts : (begins : Beginning) (at : Option Node) (world : WorldState) → IsCounted site world → IsCounted site (made_anew site table begins at world)
  anew_counts begins None world counted = counted
  anew_counts begins (Some Interlocking) world counted = record { signals = counted.signals; points = counted.points; positions = counted.positions; detectors = counted.detectors; occupancies = counted.occupancies }
  anew_counts begins (Some (Signal at)) world counted = of_entry (slice_get site.signals at) where
    of_entry : (entry : Option SignalEntry) → IsCounted site (signal_anew site begins at entry world)
    of_entry None = counted
    of_entry (Some entry) = record { signals = length_changed _ at world.signals ∙ counted.signals; points = counted.points; positions = counted.positions; detectors = counted.detectors; occupancies = counted.occupancies }
  anew_counts begins (Some (Point at)) world counted = of_entry (slice_get site.points at) where
    of_entry : (entry : Option PointEntry) → IsCounted site (point_anew site begins at entry world)
    of_entry None = counted
    of_entry (Some entry) = record { signals = counted.signals; points = length_changed _ at world.points ∙ counted.points; positions = counted.positions; detectors = counted.detectors; occupancies = counted.occupancies }
  anew_counts begins (Some (Detector at)) world counted = of_entry (slice_get site.detectors at) where
    of_entry : (entry : Option DetectorEntry) → IsCounted site (detector_anew site begins at entry world)
    of_entry None = counted
    of_entry (Some entry) = record { signals = counted.signals; points = counted.points; positions = counted.positions; detectors = length_changed _ at world.detectors ∙ counted.detectors; occupancies = counted.occupancies }

  pub around_counts : (happening : Event) (world : WorldState) → IsCounted site world → IsCounted site (around site table happening world)
  unfolding passed
  around_counts (event.Request command) world counted = counted
  around_counts (event.Occupy section occupancy) world counted = record {
    signals = counted.signals;
    points = counted.points;
    positions = counted.positions;
    detectors = counted.detectors;
    occupancies = length_set world.occupancies section.0 occupancy ∙ counted.occupancies;
  }
  around_counts (event.Tick node) world counted = counted
  around_counts (event.Time elapsed clocks) world counted = record {
    signals = length_later _ _ world.signals ∙ counted.signals;
    points = length_later _ _ world.points ∙ counted.points;
    positions = counted.positions;
    detectors = length_later _ _ world.detectors ∙ counted.detectors;
    occupancies = counted.occupancies;
  }
  around_counts (event.Deliver node bytes) world counted = counted
  around_counts (event.Lose bytes) world counted = record { signals = counted.signals; points = counted.points; positions = counted.positions; detectors = counted.detectors; occupancies = counted.occupancies }
  around_counts (event.Reach point position) world counted = record {
    signals = counted.signals;
    points = counted.points;
    positions = length_set world.positions point.0 position ∙ counted.positions;
    detectors = counted.detectors;
    occupancies = counted.occupancies;
  }
  around_counts (event.Restart node clock first) world counted = anew_counts (record { clock = clock; first = first }) (node_at site node.0) world counted

  pub counts_on : (happening : Event) (world : WorldState) → IsCounted site world → IsCounted site (happens site table happening world)
  counts_on happening world counted = subst (IsCounted site) (sym (is_split site table happening world))
      (told_counts (connection_in happening world) (told site table happening) (around site table happening world) (around_counts happening world counted))

  pub first_counts : (outset : Outset) → IsOutsetOf site outset → IsCounted site (world_at site table outset)
  unfolding world_at
  first_counts outset lies = record {
    signals = length_mapped _ site.signals;
    points = length_mapped _ (zip site.points outset.positions) ∙ sym (length_mapped (λ (p : PointEntry × Position). p.0) (zip site.points outset.positions)) ∙ ap length (firsts-zip site.points outset.positions lies.positions);
    positions = lies.positions;
    detectors = length_mapped _ site.detectors;
    occupancies = lies.occupancies;
  }

  pub counts_all : (events : List Event) (world : WorldState) → IsCounted site world → IsCounted site (after_all site table events world)
  counts_all [] world counted = counted
  counts_all (first ∷ others) world counted = counts_all others (happens site table first world) (counts_on first world counted)
