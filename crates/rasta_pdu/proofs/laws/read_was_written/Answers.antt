use Rattle.rasta_pdu.proofs.CodecLaws.{reading_found, reading_ok_intact}
use Rattle.rasta_pdu.proofs.laws.read_was_written.Goals as goal

pub returns-clause-intact : goal.returns-clause-intact
returns-clause-intact c = reading_ok_intact

pub returns-clause-written : goal.returns-clause-written
returns-clause-written c = reading_found
