use Rattle.rasta_pdu.proofs.HeaderLaws.{sender_read}
use Rattle.rasta_pdu.proofs.laws.the_sender_is_told.Goals as goal

pub returns : goal.returns
returns c = sender_read
