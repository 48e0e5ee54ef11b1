use Rattle.rasta_pdu.proofs.CodecLaws.{writing_long, writing_short, writing_intact, reading_writing}
use Rattle.rasta_pdu.proofs.laws.written_is_read.Goals as goal

pub returns-clause-least : goal.returns-clause-least
returns-clause-least c = writing_long

pub returns-clause-most : goal.returns-clause-most
returns-clause-most c = writing_short

pub returns-clause-intact : goal.returns-clause-intact
returns-clause-intact c = writing_intact

pub returns-clause-read : goal.returns-clause-read
returns-clause-read c = reading_writing
