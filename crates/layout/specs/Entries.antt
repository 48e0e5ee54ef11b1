-- Detectors and routes as plain records, and a whole layout.
use Rattle.std.specs.Prelude.{ℕ, List}
use Rattle.sci_telegram.specs.declared.message.Aspect.{Aspect}
use Rattle.sci_telegram.specs.declared.message.Side.{Side}
use Rattle.layout.specs.declared.ids.SectionId.{SectionId}
use Rattle.layout.specs.declared.ids.PointId.{PointId}
use Rattle.layout.specs.declared.ids.SignalId.{SignalId}
use Rattle.layout.specs.declared.ids.RouteId.{RouteId}
use Rattle.layout.specs.declared.port.Port.{Port}
use Rattle.layout.specs.declared.entries.Exit.{Exit}
use Rattle.layout_text.specs.declared.entries.Station.{Station}
use Rattle.layout.specs.declared.entries.Track.{Track}
use Rattle.layout.specs.declared.entries.Point.{Point}
use Rattle.layout.specs.declared.entries.Joint.{Joint}
use Rattle.layout.specs.declared.entries.Signal.{Signal}

-- A detection controller, and the sections that it reports.
pub record DetectorEntry : Type 0 where
  pub name : List ℕ
  pub id : ℕ
  pub sections : List SectionId

-- A route: the signal at which it begins, where it ends, the port by which each of its elements is left,
-- its written points and flank points, its approach sections, the routes that it lists as conflicting, and the aspect
-- at which it is passed.
pub record RouteEntry : Type 0 where
  pub name : List ℕ
  pub entry : SignalId
  pub exit : Exit
  pub path : List Port
  pub points : List (PointId × Side)
  pub flank : List (PointId × Side)
  pub approach : List SectionId
  pub extra : List RouteId
  pub aspect : Aspect

-- A whole layout. An entry is named by its place in its list, counted from 0.
pub record Site : Type 0 where
  pub station : Station
  pub sections : List (List ℕ)
  pub tracks : List Track
  pub points : List Point
  pub borders : List (List ℕ)
  pub joints : List Joint
  pub signals : List Signal
  pub detectors : List DetectorEntry
  pub routes : List RouteEntry
