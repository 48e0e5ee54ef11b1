-- What every layout is: a station, which names only what is there, keeps every limit, and reports each section once.
use Rattle.std.specs.Prelude.{◌≢◌, ℕ, ◌<◌, ◌≤◌, List, length, IsTrue}
use Rattle.std.specs.List.{All, Contains, flat_map}
use Rattle.sci_telegram.specs.Names.{IsName}
use Rattle.sci_telegram.specs.declared.message.Aspect.TheVariants.{Stop}
use Rattle.layout.specs.declared.ids.SectionId.{SectionId}
use Rattle.layout.specs.declared.ids.PointId.{PointId}
use Rattle.layout.specs.declared.ids.SignalId.{SignalId}
use Rattle.layout.specs.declared.ids.RouteId.{RouteId}
use Rattle.layout.specs.declared.port.Port.{Port}
use Rattle.layout.specs.declared.port.Element.{Element}
use Rattle.layout.specs.declared.port.Element.TheVariants as element
use Rattle.layout.specs.declared.entries.Exit.{Exit}
use Rattle.layout.specs.declared.entries.Exit.TheVariants as exit
use Rattle.layout.specs.Entries.{DetectorEntry, RouteEntry, Site}
use Rattle.layout.specs.Once.{Distinct, all_ids, all_names}
use Rattle.layout.specs.NamesResolved.{has_port}

-- An entry that is named is there: its place lies within its list.
abbrev pub HasSection : Site → SectionId → Type 0
HasSection l s = s.0 < length l.sections

abbrev pub HasPoint : Site → PointId → Type 0
HasPoint l p = p.0 < length l.points

abbrev pub HasSignal : Site → SignalId → Type 0
HasSignal l s = s.0 < length l.signals

abbrev pub HasRoute : Site → RouteId → Type 0
HasRoute l r = r.0 < length l.routes

abbrev pub HasElement : Site → Element → Type 0
HasElement l (element.Track t) = t.0 < length l.tracks
HasElement l (element.Point p) = HasPoint l p
HasElement l (element.Border b) = b.0 < length l.borders

abbrev pub HasExit : Site → Exit → Type 0
HasExit l (exit.Signal s) = HasSignal l s
HasExit l (exit.Border b) = b.0 < length l.borders

-- A port is there: its element is, and has this port.
pub record HasPort (l : Site) (p : Port) : Type 0 where
  pub element : HasElement l p.element
  pub end : IsTrue (has_port p.element p.end)

-- A route names only what is there, its path has at most 64 elements, and its aspect isn't stop.
pub record IsRouteOf (l : Site) (r : RouteEntry) : Type 0 where
  pub entry : HasSignal l r.entry
  pub exit : HasExit l r.exit
  pub path : All (HasPort l) r.path
  pub points : All (λ p. HasPoint l p.0) r.points
  pub flank : All (λ p. HasPoint l p.0) r.flank
  pub approach : All (HasSection l) r.approach
  pub extra : All (HasRoute l) r.extra
  pub elements : length r.path ≤ 64
  pub aspect : r.aspect ≢ Stop

-- A detection controller reports 1 to 16 sections, all of which are there.
pub record IsDetectorOf (l : Site) (d : DetectorEntry) : Type 0 where
  pub sections : All (HasSection l) d.sections
  pub some : 1 ≤ length d.sections
  pub few : length d.sections ≤ 16

-- How many entries there are at most.
pub record IsWithinLimits (l : Site) : Type 0 where
  pub sections : length l.sections ≤ 64
  pub tracks : length l.tracks ≤ 128
  pub points : length l.points ≤ 32
  pub borders : length l.borders ≤ 16
  pub signals : length l.signals ≤ 32
  pub detectors : length l.detectors ≤ 16
  pub routes : length l.routes ≤ 64

-- The sections of all detection controllers, one list after the other.
abbrev pub reported_sections : Site → List SectionId
reported_sections l = flat_map (λ d. d.sections) l.detectors

-- Each section is reported by one detection controller, and stands once in its list.
pub record ReportsEachOnce (l : Site) : Type 0 where
  pub each : (s : SectionId) → HasSection l s → Contains (reported_sections l) s
  pub once : Distinct (reported_sections l)

-- The identity of a node is 1 to 4294967295.
abbrev pub IsNodeId : ℕ → Type 0
IsNodeId id = (1 ≤ id) × (id ≤ 4294967295)

-- A layout is a station.
pub record IsStation (l : Site) : Type 0 where
  pub limits : IsWithinLimits l
  pub ids : All IsNodeId (all_ids l)
  pub names : All IsName (all_names l)
  pub tracks : All (λ t. HasSection l t.section) l.tracks
  pub points : All (λ p. HasSection l p.section) l.points
  pub joints : All (λ j. HasPort l j.first × HasPort l j.second) l.joints
  pub signals : All (λ s. HasPort l s.at) l.signals
  pub detectors : All (IsDetectorOf l) l.detectors
  pub routes : All (IsRouteOf l) l.routes
  pub reported : ReportsEachOnce l
