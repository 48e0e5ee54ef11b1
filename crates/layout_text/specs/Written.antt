-- Detectors, routes and a whole layout as they are written: their entries call one another by name.
use Rattle.std.specs.Prelude.{ℕ, List}
use Rattle.sci_telegram.specs.declared.message.Aspect.{Aspect}
use Rattle.sci_telegram.specs.declared.message.Side.{Side}
use Rattle.layout_text.specs.declared.entries.Station.{Station}
use Rattle.layout_text.specs.declared.entries.PortName.{PortName}
use Rattle.layout_text.specs.declared.entries.WrittenTrack.{WrittenTrack}
use Rattle.layout_text.specs.declared.entries.WrittenPoint.{WrittenPoint}
use Rattle.layout_text.specs.declared.entries.WrittenJoint.{WrittenJoint}
use Rattle.layout_text.specs.declared.entries.WrittenSignal.{WrittenSignal}

pub record DetectorText : Type 0 where
  pub name : List ℕ
  pub id : ℕ
  pub sections : List (List ℕ)

pub record RouteText : Type 0 where
  pub name : List ℕ
  pub entry : List ℕ
  pub exit : List ℕ
  pub path : List PortName
  pub points : List (List ℕ × Side)
  pub flank : List (List ℕ × Side)
  pub approach : List (List ℕ)
  pub extra : List (List ℕ)
  pub aspect : Aspect

pub record LayoutText : Type 0 where
  pub station : Station
  pub sections : List (List ℕ)
  pub tracks : List WrittenTrack
  pub points : List WrittenPoint
  pub borders : List (List ℕ)
  pub joints : List WrittenJoint
  pub signals : List WrittenSignal
  pub detectors : List DetectorText
  pub routes : List RouteText
