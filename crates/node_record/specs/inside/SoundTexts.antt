-- Texts without a fault.
use Rattle.std.specs.Prelude.{◌≡◌, ℕ, List, Ok}
use Rattle.control_table.specs.layout.Entries.{Site}
use Rattle.station_check.specs.Report.{IsSound}
use Rattle.node_record.specs.Records.{record_said}
use Rattle.node_record.specs.declared.record.Record.{Record}
use Rattle.node_record.specs.inside.RecordsRead.{said}

-- texts tell of a station and of the record of a node of it
pub record AreTexts (layout name text : List ℕ) (site : Site) (read : Record) : Type 0 where
  pub sound : IsSound layout site
  pub says : record_said site name text ≡ Ok (said read)
