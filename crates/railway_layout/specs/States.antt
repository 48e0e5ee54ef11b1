-- The lines of a railway, and a whole one, as plain records.
use Rattle.std.specs.Prelude.{ℕ, List}
use Rattle.control_table.specs.layout.declared.ids.BorderId.{BorderId}
use Rattle.control_table.specs.layout.declared.ids.PointId.{PointId}
use Rattle.control_table.specs.layout.declared.ids.SectionId.{SectionId}
use Rattle.railway_layout.specs.declared.found.RailwayStation.{RailwayStation}
use Rattle.railway_layout.specs.declared.ids.StationId.{StationId}

-- One end of a line: its station, the border of this at which the line begins, the lock, the section that the end tells, those of its
-- part, and its identity on the line's link.
pub record EndState : Type 0 where
  pub station : StationId
  pub border : BorderId
  pub lock : PointId
  pub clear : SectionId
  pub part : List SectionId
  pub id : ℕ

pub record LineState : Type 0 where
  pub name : List ℕ
  pub first : EndState
  pub second : EndState

pub record RailwayState : Type 0 where
  pub stations : List RailwayStation
  pub lines : List LineState
