-- What is told of the traffic in a node's record.
use Rattle.std.specs.Prelude.{◌≡◌, ℕ, List, Option, Ok}
use Rattle.std.specs.Io.KnownBytes.{Appends}
use Rattle.control_table.specs.layout.Entries.{Site}
use Rattle.station_check.specs.Failures.{ExplainsLines, ReadsLines}
use Rattle.station_check.specs.Report.{IsSound}
use Rattle.station_check.specs.declared.failure.Failure.{Failure}
use Rattle.node_record.specs.NodeLines.{lines_text}
use Rattle.node_record.specs.NodeTraffic.{traffic}
use Rattle.node_record.specs.RecordLines.{Line}
use Rattle.node_record.specs.Records.{record_said}
use Rattle.node_record.specs.declared.record_head.Head.{Head}

-- The layout is sound, no line of the record is faulty, and the traffic in it was told.
pub record IsDecoded (layout name text : List ℕ) (before now : Option (List ℕ)) : Type 0 where
  pub site : Site
  pub sound : IsSound layout site
  pub head : Head
  pub lines : List Line
  pub says : record_said site name text ≡ Ok (head, lines)
  pub appended : Appends before now (lines_text site head.node (traffic head.node 0 lines))

-- a layout is sound, and a record is one of its node of this name
abbrev pub CanRead : List ℕ → List ℕ → List ℕ → Type 0
CanRead layout name text = ReadsLines (λ site. record_said site name text) layout

-- Why a record isn't told. That the name is that of no node is told as a fault of the first line.
abbrev pub ExplainsRecord : List ℕ → List ℕ → List ℕ → Failure → Type 0
ExplainsRecord layout name text = ExplainsLines (λ site. record_said site name text) layout
