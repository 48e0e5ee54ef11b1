-- After every list of events.
use Rattle.std.proofs.Common.{◌≡◌, ◌∙◌, ◌<◌, ℕ, zero, suc, List, [], ◌∷◌, map, Some, None, slice_get, refl, sym, subst, ap}
use Rattle.std.specs.List.{zip}
use Rattle.std.proofs.lemmas.Option.{same_Some, slice_get-get_or, slice_get_within}
use Rattle.simulator_spec.specs.sci_telegram.declared.message.Occupancy.{Occupancy}
use Rattle.simulator_spec.specs.sci_telegram.declared.message.Position.{Position}
use Rattle.simulator_spec.specs.sci_telegram.declared.message.Position.TheVariants as positions
use Rattle.simulator_spec.specs.layout.Entries.{DetectorEntry, Site}
use Rattle.simulator_spec.specs.layout.Station.{IsStation}
use Rattle.simulator_spec.specs.layout.declared.entries.Point.{Point as PointEntry}
use Rattle.simulator_spec.specs.layout.declared.entries.Signal.{Signal as SignalEntry}
use Rattle.simulator_spec.specs.object_host.declared.input.Input.{Input}
use Rattle.simulator_spec.specs.ixl_spec.Step as ixl
use Rattle.simulator_spec.specs.ixl_spec.Table.{Table}
use Rattle.simulator_spec.specs.simulator_event.declared.event.Event.{Event}
use Rattle.simulator_spec.specs.First.{IsOutsetOf, Outset, at_zero, first_controller, new_detector, new_signal, point_standing, world_at}
use Rattle.simulator_spec.specs.Happens.{happens}
use Rattle.simulator_spec.specs.State.{WorldState}
use Rattle.simulator_spec.specs.Run.{after_all}
use Rattle.ixl_table.specs.Table.{IsTableOf}
use Rattle.simulator_node_laws.specs.Lives.{Life, LivesAsDetector, LivesAsInterlocking, LivesAsPoint, LivesAsSignal, detector_at, detector_sensing, first_life, host_after, ixl_after, life_after, life_in, occupancies_at, own_occupancies, point_at, position_in, sections_in, signal_at, the_interlocking}
use Rattle.simulator_node_laws.proofs.Counts.{IsCounted, counts_on, first_counts}
use Rattle.simulator_node_laws.proofs.Detectors.{lives_on as detector_lives_on}
use Rattle.simulator_node_laws.proofs.Points.{lives_on as point_lives_on}
use Rattle.simulator_node_laws.proofs.Sections.{made_of_its_own}
use Rattle.simulator_node_laws.proofs.Signals.{lives_on as signal_lives_on}
use Rattle.simulator_node_laws.proofs.Station.{lives_on as station_lives_on}

get_mapped : {A B : Type 0} (f : A → B) (list : List A) (place : ℕ) (one : A) → slice_get list place ≡ Some one → slice_get (map f list) place ≡ Some (f one)
get_mapped f [] place one is = absurd (none_is is) where
  none_is : None ≡ Some one → ⊥
  none_is e = cc (e)
get_mapped f (first ∷ others) zero one is = ap (λ o. Some (f o)) (same_Some first one is)
get_mapped f (first ∷ others) (suc place) one is = get_mapped f others place one is

zipped_there : {A B : Type 0} (xs : List A) (ys : List B) (place : ℕ) (x : A) (y : B) → slice_get xs place ≡ Some x → slice_get ys place ≡ Some y → slice_get (zip xs ys) place ≡ Some (x, y)
zipped_there [] ys place x y is at = absurd (none_some is) where
  none_some : None ≡ Some x → ⊥
  none_some e = cc (e)
zipped_there (first ∷ xs) [] place x y is at = absurd (none_some at) where
  none_some : None ≡ Some y → ⊥
  none_some e = cc (e)
zipped_there (first ∷ xs) (other ∷ ys) zero x y is at = ap (λ a. Some (a, other)) (same_Some first x is) ∙ ap (λ b. Some (x, b)) (same_Some other y at)
zipped_there (first ∷ xs) (other ∷ ys) (suc place) x y is at = zipped_there xs ys place x y is at

module _ (site : Site) (table : Table) (outset : Outset) (lies : IsOutsetOf site outset) where
  station_runs : (events : List Event) (world : WorldState) (life : Life (Unit {0}) ixl.Input) → LivesAsInterlocking site table world life
      → LivesAsInterlocking site table (after_all site table events world) (life_in site table the_interlocking events life)
  station_runs [] world life lives = lives
  station_runs (first ∷ others) world life lives =
      station_runs others (happens site table first world) (life_after site table the_interlocking first life) (station_lives_on site table first world life lives)

  pub station_first : LivesAsInterlocking site table (world_at site table outset) (first_life tt)
  unfolding world_at ixl_after
  station_first = record { state = refl; clock = refl }

  pub station_is : (events : List Event) → LivesAsInterlocking site table (after_all site table events (world_at site table outset)) (life_in site table the_interlocking events (first_life tt))
  station_is events = station_runs events (world_at site table outset) (first_life tt) station_first

  module _ (place : ℕ) (entry : SignalEntry) (is : slice_get site.signals place ≡ Some entry) where
    signal_runs : (events : List Event) (world : WorldState) (life : Life (Unit {0}) Input) → LivesAsSignal site entry world place life
        → LivesAsSignal site entry (after_all site table events world) place (life_in site table (signal_at place) events life)
    signal_runs [] world life lives = lives
    signal_runs (first ∷ others) world life lives =
        signal_runs others (happens site table first world) (life_after site table (signal_at place) first life) (signal_lives_on site table entry place is first world life lives)

    signal_first : LivesAsSignal site entry (world_at site table outset) place (first_life tt)
    unfolding world_at host_after
    signal_first = record {
      server = first_controller (new_signal site at_zero entry);
      there = get_mapped (λ signal. first_controller (new_signal site at_zero signal)) site.signals place entry is;
      state = refl;
      clock = refl;
    }

    signal_is : (events : List Event) → LivesAsSignal site entry (after_all site table events (world_at site table outset)) place (life_in site table (signal_at place) events (first_life tt))
    signal_is events = signal_runs events (world_at site table outset) (first_life tt) signal_first

  pub signals_are : (events : List Event) (place : ℕ) (entry : SignalEntry) → slice_get site.signals place ≡ Some entry
      → LivesAsSignal site entry (after_all site table events (world_at site table outset)) place (life_in site table (signal_at place) events (first_life tt))
  signals_are events place entry is = signal_is place entry is events

  -- a point has its position, and stands beside it
  standing_there : (place : ℕ) (entry : PointEntry) → slice_get site.points place ≡ Some entry → slice_get outset.positions place ≡ Some (position_in outset place)
  standing_there place entry is = slice_get-get_or outset.positions place positions.NoEndPosition (subst (λ n. place < n) (sym lies.positions) (slice_get_within site.points place entry is))

  both_there : (place : ℕ) (entry : PointEntry) → slice_get site.points place ≡ Some entry → slice_get (zip site.points outset.positions) place ≡ Some (entry, position_in outset place)
  both_there place entry is = zipped_there site.points outset.positions place entry (position_in outset place) is (standing_there place entry is)

  module _ (place : ℕ) (entry : PointEntry) (is : slice_get site.points place ≡ Some entry) where
    point_runs : (events : List Event) (world : WorldState) (life : Life Position Input) → IsCounted site world → LivesAsPoint site entry world place life
        → LivesAsPoint site entry (after_all site table events world) place (life_in site table (point_at site place) events life)
    point_runs [] world life counted lives = lives
    point_runs (first ∷ others) world life counted lives =
        point_runs others (happens site table first world) (life_after site table (point_at site place) first life) (counts_on site table first world counted) (point_lives_on site table entry place is first world life counted lives)

    point_first : LivesAsPoint site entry (world_at site table outset) place (first_life (position_in outset place))
    unfolding world_at host_after
    point_first = record {
      lives = record {
        server = point_standing site (entry, position_in outset place);
        there = get_mapped (point_standing site) (zip site.points outset.positions) place (entry, position_in outset place) (both_there place entry is);
        state = refl;
        clock = refl;
      };
      stands = standing_there place entry is;
    }

  pub points_are : (events : List Event) (place : ℕ) (entry : PointEntry) → slice_get site.points place ≡ Some entry
      → LivesAsPoint site entry (after_all site table events (world_at site table outset)) place (life_in site table (point_at site place) events (first_life (position_in outset place)))
  points_are events place entry is = point_runs place entry is events (world_at site table outset) (first_life (position_in outset place)) (first_counts site table outset lies) (point_first place entry is)

  module _ (station : IsStation site) (is_table : IsTableOf site table) (place : ℕ) (entry : DetectorEntry) (is : slice_get site.detectors place ≡ Some entry) where
    detector_runs : (events : List Event) (world : WorldState) (life : Life (List Occupancy) Input) → IsCounted site world → LivesAsDetector site entry world place life
        → LivesAsDetector site entry (after_all site table events world) place (life_in site table (detector_at site place) events life)
    detector_runs [] world life counted lives = lives
    detector_runs (first ∷ others) world life counted lives =
        detector_runs others (happens site table first world) (life_after site table (detector_at site place) first life) (counts_on site table first world counted)
        (detector_lives_on site table entry place station is_table is first world life counted lives)

    sections_there : sections_in site outset place ≡ own_occupancies outset.occupancies entry.sections
    sections_there = ap (occupancies_at outset.occupancies) is

    detector_first : LivesAsDetector site entry (world_at site table outset) place (first_life (sections_in site outset place))
    unfolding world_at host_after
    detector_first = record {
      lives = record {
        server = first_controller (new_detector site at_zero outset.occupancies entry);
        there = get_mapped (λ detector. first_controller (new_detector site at_zero outset.occupancies detector)) site.detectors place entry is;
        state = made_of_its_own site at_zero outset.occupancies entry ∙ ap (λ c. detector_sensing site at_zero c entry) (sym sections_there);
        clock = refl;
      };
      occupied = sections_there;
    }

  pub detectors_are : IsStation site → IsTableOf site table → (events : List Event) (place : ℕ) (entry : DetectorEntry) → slice_get site.detectors place ≡ Some entry
      → LivesAsDetector site entry (after_all site table events (world_at site table outset)) place (life_in site table (detector_at site place) events (first_life (sections_in site outset place)))
  detectors_are station is_table events place entry is = detector_runs station is_table place entry is events (world_at site table outset) (first_life (sections_in site outset place)) (first_counts site table outset lies) (detector_first station is_table place entry is)
