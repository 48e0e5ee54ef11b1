-- A datagram as the code has it.
use Rattle.node_record.specs.NodeTraffic.{Passed}
use Rattle.node_record.specs.declared.passage.Passed.{Passed as Code}

abbrev pub seen : Code → Passed
seen one = record { reading = one.reading; way = one.way; bytes = one.bytes.now }
