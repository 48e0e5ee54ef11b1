-- That the client and the controller of each link of a station belong together.
use Rattle.std.specs.Prelude.{◌≡◌, ℕ, List, [], ◌∷◌, map, Some, slice_get, slice_index_or, IsTrue}
use Rattle.simulator_spec.specs.control_table.Table.{telegram_version}
use Rattle.simulator_spec.specs.layout.Entries.{DetectorEntry, Site}
use Rattle.simulator_spec.specs.layout.declared.entries.Point.{Point as PointEntry}
use Rattle.simulator_spec.specs.layout.declared.entries.Signal.{Signal as SignalEntry}
use Rattle.simulator_spec.specs.sci_telegram.declared.message.Aspect.{Aspect}
use Rattle.simulator_spec.specs.sci_telegram.declared.message.Protocol.{Protocol}
use Rattle.simulator_spec.specs.sci_telegram.declared.message.Protocol.TheVariants as protocols
use Rattle.simulator_spec.specs.ixl_client.Client.{ClientState, PeerState}
use Rattle.simulator_spec.specs.ixl_client.Meaning.{is_in_version}
use Rattle.simulator_spec.specs.ixl_client.declared.indication.ObjectState.TheVariants as states
use Rattle.simulator_spec.specs.ixl_spec.StepSoFar.{Detector, Node, Point, Signal}
use Rattle.simulator_spec.specs.signal_ctl.Signal.{SignalState}
use Rattle.simulator_spec.specs.point_ctl.Drive.{PointState}
use Rattle.simulator_spec.specs.tds_ctl.declared.section.Section.{Section}
use Rattle.simulator_spec.specs.State.{ClockedControllerState, WorldState}
use Rattle.simulator_safety.specs.Represents.{IsHostOf}
use Rattle.simulator_recovery.specs.Counts.{EachClient}

-- whom the client of a controller of this name speaks with, and of which objects it hears
abbrev pub peer_for : Protocol → Site → List ℕ → List (List ℕ) → PeerState
peer_for protocol site name objects = record { protocol = protocol; version = telegram_version site; own_name = site.station.name; name = name; objects = objects }

-- the names of the sections that a detector reports
abbrev pub section_names : Site → DetectorEntry → List (List ℕ)
section_names site entry = map (λ section. slice_index_or site.sections section.0 []) entry.sections

-- A signal and a point tell of themselves, a detector of each of its sections.
abbrev pub IsPeerAt : Site → Node → PeerState → Type 0
IsPeerAt site (Signal place) peer = (entry : SignalEntry) → slice_get site.signals place ≡ Some entry → peer ≡ peer_for protocols.LightSignal site entry.name (entry.name ∷ [])
IsPeerAt site (Point place) peer = (entry : PointEntry) → slice_get site.points place ≡ Some entry → peer ≡ peer_for protocols.Point site entry.name (entry.name ∷ [])
IsPeerAt site (Detector place) peer = (entry : DetectorEntry) → slice_get site.detectors place ≡ Some entry → peer ≡ peer_for protocols.TrainDetection site entry.name (section_names site entry)

abbrev pub SpeaksAt : Site → Node → ClientState → Type 0
SpeaksAt site node client = IsPeerAt site node client.peer

-- an aspect that the version of a station's telegrams has
abbrev pub IsSpoken : Site → Aspect → Type 0
IsSpoken site aspect = IsTrue (is_in_version (telegram_version site) (states.Aspect aspect))

abbrev pub name_of : Section → List ℕ
name_of section = section.name

-- The client of each controller speaks with it, and each controller with the interlocking, under the names of the layout and in the version
-- of the station. A signal indicates an aspect that this version has, and a detector has the sections of the layout, in their order.
pub record AreMatchedAll (site : Site) (world : WorldState) : Type 0 where
  pub clients : EachClient (SpeaksAt site) world.interlocking.ixl
  pub signals : (place : ℕ) (controller : ClockedControllerState SignalState) (entry : SignalEntry) → slice_get world.signals place ≡ Some controller → slice_get site.signals place ≡ Some entry
      → IsHostOf site entry.name controller.host × IsSpoken site controller.host.object.lamp.indicated
  pub points : (place : ℕ) (controller : ClockedControllerState PointState) (entry : PointEntry) → slice_get world.points place ≡ Some controller → slice_get site.points place ≡ Some entry
      → IsHostOf site entry.name controller.host
  pub detectors : (place : ℕ) (controller : ClockedControllerState (List Section)) (entry : DetectorEntry) → slice_get world.detectors place ≡ Some controller → slice_get site.detectors place ≡ Some entry
      → IsHostOf site entry.name controller.host × (map name_of controller.host.object ≡ section_names site entry)
