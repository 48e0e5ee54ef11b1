-- A record as the code has it.
use Rattle.std.specs.Prelude.{map}
use Rattle.node_record.specs.RecordLines.{told}
use Rattle.node_record.specs.Records.{Said}
use Rattle.node_record.specs.declared.record.Record.{Record}

abbrev pub said : Record → Said
said read = (read.head, map told read.lines.items)
