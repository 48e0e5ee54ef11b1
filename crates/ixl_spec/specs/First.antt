-- How an interlocking is made.
use Rattle.std.specs.Prelude.{ℕ, false, List, [], ◌∷◌, length, map, None, slice_index_or, unwrap_or}
use Rattle.std.specs.FinSet.{empty}
use Rattle.md4.specs.declared.message.TheConstants.{STANDARD}
use Rattle.closings.specs.sci_telegram.declared.message.Protocol.{Protocol}
use Rattle.closings.specs.sci_telegram.declared.message.Protocol.TheVariants as protocols
use Rattle.rasta_pdu.specs.declared.key.Key.{Key}
use Rattle.rasta_core.specs.Names.{Names, identity_of}
use Rattle.rasta_core.specs.identity.Role.TheVariants as role
use Rattle.closings.specs.layout.declared.entries.Point.{Point}
use Rattle.closings.specs.layout.declared.entries.Signal.{Signal}
use Rattle.closings.specs.layout.Entries.{DetectorEntry, Site}
use Rattle.closings.specs.control_table.Table.{telegram_version}
use Rattle.closings.specs.Closed.{nothing}
use Rattle.release.specs.Passage.{passage_after}
use Rattle.ixl_client.specs.Client.{ClientState, new_client}
use Rattle.ixl_spec.specs.State.{KnownDetectorState, IxlState, KnownSignalState, RouteState, KnownPointState}
use Rattle.ixl_spec.specs.Table.{Row, Table}
use Rattle.ixl_spec.specs.declared.phase.Phase.TheVariants as phase

-- the key of the network: that of the layout, and otherwise the standard start of MD4
abbrev pub key_of : Site → Key
key_of site = record { 0 = unwrap_or site.station.key STANDARD }

-- the two ends of the link to a controller of this identity
abbrev pub names_of : Site → ℕ → Names
names_of site id = record { key = key_of site; client = site.station.id; server = id }

-- with which clock, in milliseconds, and with which number of its first PDU a node is made
pub record Beginning : Type 0 where
  pub clock : ℕ
  pub first : ℕ

-- its client of the controller under a name and an identity, which tells of these objects
abbrev pub client_of : Protocol → Site → Beginning → List ℕ → ℕ → List (List ℕ) → ClientState
client_of protocol site begins name id objects =
    new_client (identity_of role.Client (names_of site id))
    (record { protocol = protocol; version = telegram_version site; own_name = site.station.name; name = name; objects = objects })
    begins.first begins.clock

abbrev pub new_known_signal_of : Site → Beginning → Signal → KnownSignalState
new_known_signal_of site begins signal = record {
  client = client_of protocols.LightSignal site begins signal.name signal.id (signal.name ∷ []);
  aspect = None;
  number = 0;
  indicated = None;
}

abbrev pub new_known_point_of : Site → Beginning → Point → KnownPointState
new_known_point_of site begins point = record {
  client = client_of protocols.Point site begins point.name point.id (point.name ∷ []);
  side = None;
  moved = empty;
}

abbrev pub new_detector_of : Site → Beginning → DetectorEntry → KnownDetectorState
new_detector_of site begins detector = record {
  client = client_of protocols.TrainDetection site begins detector.name detector.id
      (map (λ section. slice_index_or site.sections section.0 []) detector.sections);
  occupied = empty;
}

abbrev pub new_route_of : Row → RouteState
new_route_of row = record { phase = phase.Free; cancelled = false; passage = passage_after (length row.sections) []; approached = false; released = None }

-- no route is set, nothing is closed, and every link is in no connection
unfoldable pub new_ixl : Site → Table → Beginning → IxlState
new_ixl site table begins = record {
  known_signals = map (new_known_signal_of site begins) site.signals;
  known_points = map (new_known_point_of site begins) site.points;
  detectors = map (new_detector_of site begins) site.detectors;
  routes = map new_route_of table.rows;
  created = begins.clock;
  resumed = false;
  closed = nothing;
}
