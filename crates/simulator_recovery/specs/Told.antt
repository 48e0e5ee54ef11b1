-- What the controllers of a station have given in their connections.
use Rattle.std.specs.Prelude.{◌≡◌, ℕ, true, List, [], ◌∷◌, ◌++◌, map, Some, slice_get, Ok}
use Rattle.simulator_spec.specs.control_table.Table.{telegram_version}
use Rattle.simulator_spec.specs.layout.Entries.{DetectorEntry, Site}
use Rattle.simulator_spec.specs.layout.declared.entries.Point.{Point as PointEntry}
use Rattle.simulator_spec.specs.layout.declared.entries.Signal.{Signal as SignalEntry}
use Rattle.simulator_spec.specs.rasta_core.Each.{Each}
use Rattle.simulator_spec.specs.rasta_core.Links.{Links}
use Rattle.simulator_spec.specs.rasta_core.Ends.{EndState}
use Rattle.simulator_spec.specs.rasta_core.State.{is_open}
use Rattle.simulator_spec.specs.sci_telegram.TelegramRead.{reading}
use Rattle.simulator_spec.specs.sci_telegram.Telegrams.{writing}
use Rattle.simulator_spec.specs.sci_telegram.declared.message.Agreement.TheVariants.{NoMatch, Match}
use Rattle.simulator_spec.specs.sci_telegram.declared.message.Initialisation.TheVariants.{VersionAnswer, VersionCheck}
use Rattle.simulator_spec.specs.sci_telegram.declared.message.Message.TheVariants as message
use Rattle.simulator_spec.specs.sci_telegram.declared.message.Protocol.{Protocol}
use Rattle.simulator_spec.specs.sci_telegram.declared.telegram.Telegram.{Telegram}
use Rattle.simulator_spec.specs.object_host.Behaviour.{Behaviour}
use Rattle.simulator_spec.specs.object_host.Host.{HostState, said, sender_of}
use Rattle.simulator_spec.specs.object_host.Told.{initialisation}
use Rattle.simulator_spec.specs.object_host.declared.report.Report.{Report}
use Rattle.simulator_spec.specs.object_host.declared.stage.Stage.{Stage}
use Rattle.simulator_spec.specs.object_host.declared.stage.Stage.TheVariants as stage
use Rattle.simulator_spec.specs.signal_ctl.Signal.{SignalState, signal_behaviour}
use Rattle.simulator_spec.specs.point_ctl.Controlled.{point_behaviour}
use Rattle.simulator_spec.specs.point_ctl.Drive.{PointState}
use Rattle.simulator_spec.specs.tds_ctl.Controlled.{detection_behaviour}
use Rattle.simulator_spec.specs.tds_ctl.declared.section.Section.{Section}
use Rattle.simulator_spec.specs.Nodes.{detector_link, point_link}
use Rattle.simulator_spec.specs.State.{ClockedControllerState, WorldState}
use Rattle.simulator_link_laws.specs.HasLinks.{HasLinks, links_in}
use Rattle.simulator_recovery.specs.Matched.{IsSpoken, name_of, section_names}

-- one list is a beginning of another
pub record Begins {X : Type 0} (front whole : List X) : Type 0 where
  pub rest : List X
  pub are : whole ≡ front ++ rest

-- ---- a check of another version

pub record AsksOther (version : ℕ) (item : List ℕ) : Type 0 where
  pub telegram : Telegram
  pub read : reading item ≡ Ok telegram
  pub protocol : Protocol
  pub asked : ℕ
  pub says : telegram.message ≡ message.Initialisation protocol (VersionCheck asked)
  pub other : asked ≡ version → ⊥

-- one of these items asks another version
pub record SomeAsks (version : ℕ) (items : List (List ℕ)) : Type 0 where
  pub front : List (List ℕ)
  pub item : List ℕ
  pub rest : List (List ℕ)
  pub are : items ≡ front ++ item ∷ rest
  pub asks : AsksOther version item

-- ---- a conversation

-- a report of a controller of this name to this peer, as an item
abbrev pub item_for : List ℕ → List ℕ → Report → List ℕ
item_for own_name peer_name report = writing (record { sender = sender_of report.section own_name; receiver = peer_name; message = report.message })

-- a report that an object of this kind owes
pub record OwedFit {Object : Type 0} (does : Behaviour Object) (Fits : Object → Type 0) (report : Report) : Type 0 where
  pub object : Object
  pub fits : Fits object
  pub owes : does.owed object ≡ Some report

-- the answer of the version, the whole initialisation of an object of this kind, and reports that such objects owe
pub record SaidAll {Object : Type 0} (does : Behaviour Object) (Fits : Object → Type 0) (item : Report → List ℕ) (version : ℕ) (items : List (List ℕ)) : Type 0 where
  pub object : Object
  pub fits : Fits object
  pub reports : List Report
  pub owed : Each (OwedFit does Fits) reports
  pub are : items ≡ item (said does (VersionAnswer Match version)) ∷ (map item (initialisation does object) ++ map item reports)

-- What a host says by its stage. It refuses a version where it was a wrong one that was asked.
abbrev pub SaidBy : {Object : Type 0} → Behaviour Object → (Object → Type 0) → Type 0 → (Report → List ℕ) → ℕ → Stage → List (List ℕ) → Type 0
SaidBy does Fits Wrong item version stage.Outside items = items ≡ []
SaidBy does Fits Wrong item version stage.AwaitsCheck items = items ≡ []
SaidBy does Fits Wrong item version stage.AwaitsRequest items = items ≡ item (said does (VersionAnswer Match version)) ∷ []
SaidBy does Fits Wrong item version stage.Completed items = SaidAll does Fits item version items
SaidBy does Fits Wrong item version stage.Refused items = Wrong × (items ≡ item (said does (VersionAnswer NoMatch version)) ∷ [])

-- a beginning of what a host says by some stage: also once it has left its connection
pub record SaidSome {Object : Type 0} (does : Behaviour Object) (Fits : Object → Type 0) (Wrong : Type 0) (item : Report → List ℕ) (version : ℕ) (items : List (List ℕ)) : Type 0 where
  pub by : Stage
  pub whole : List (List ℕ)
  pub said : SaidBy does Fits Wrong item version by whole
  pub begins : Begins items whole

-- A host of this name, and what its end of the link has given and taken in its last connection: what its stage tells while the link is
-- open, and the beginning of a conversation in any case.
pub record HostTalks {Object : Type 0} (does : Behaviour Object) (Fits : Object → Type 0) (site : Site) (name : List ℕ) (host : HostState Object) (end : EndState) : Type 0 where
  pub said : is_open host.link.phase ≡ true → SaidBy does Fits (SomeAsks (telegram_version site) end.taken) (item_for name site.station.name) (telegram_version site) host.stage end.given
  pub ever : SaidSome does Fits (SomeAsks (telegram_version site) end.taken) (item_for name site.station.name) (telegram_version site) end.given

-- ---- the kinds of a station's objects

-- A signal indicates an aspect that the version of the station has.
abbrev pub IndicatesSpoken : Site → SignalState → Type 0
IndicatesSpoken site signal = IsSpoken site signal.lamp.indicated

-- any point
abbrev pub Any : PointState → Type 0
Any point = Unit {0}

-- A detector has sections of these names, in order.
abbrev pub HasNames : List (List ℕ) → List Section → Type 0
HasNames names list = map name_of list ≡ names

-- All controllers of a station, with what was given and taken at their ends of the links.
pub record AllHostsTalk (site : Site) (world : WorldState) (network : Links) : Type 0 where
  pub signals : (place : ℕ) (controller : ClockedControllerState SignalState) (entry : SignalEntry) → slice_get world.signals place ≡ Some controller → slice_get site.signals place ≡ Some entry
      → HostTalks signal_behaviour (IndicatesSpoken site) site entry.name controller.host (network.ends place).server
  pub points : (place : ℕ) (controller : ClockedControllerState PointState) (entry : PointEntry) → slice_get world.points place ≡ Some controller → slice_get site.points place ≡ Some entry
      → HostTalks point_behaviour Any site entry.name controller.host (network.ends (point_link site place)).server
  pub detectors : (place : ℕ) (controller : ClockedControllerState (List Section)) (entry : DetectorEntry) → slice_get world.detectors place ≡ Some controller → slice_get site.detectors place ≡ Some entry
      → HostTalks detection_behaviour (HasNames (section_names site entry)) site entry.name controller.host (network.ends (detector_link site place)).server

-- the links of a station, and what its controllers have given there
pub record HaveTold (site : Site) (world : WorldState) : Type 0 where
  pub has : HasLinks site world
  pub told : AllHostsTalk site world (links_in has)
