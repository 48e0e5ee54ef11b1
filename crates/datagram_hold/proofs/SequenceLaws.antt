-- What the first bytes of a written PDU tell.
use Rattle.std.proofs.Common.{◌≡◌, ◌∙◌, List, ℕ, ap}
use Rattle.std.proofs.lemmas.Nat.{from_le_bytes-to_le_bytes_4}
use Rattle.rasta_pdu.specs.Header.{AreOf}
use Rattle.rasta_pdu.specs.Spelling.{writing, text, fields}
use Rattle.rasta_pdu.specs.declared.pdu.Pdu.{Pdu}
use Rattle.datagram_hold.specs.Sequence.{number_of}

pub number_written : (pdu : Pdu) (bytes : List ℕ) → AreOf pdu bytes → number_of bytes ≡ pdu.sequence_number
unfolding writing text fields
number_written pdu bytes are = ap number_of are.written ∙ from_le_bytes-to_le_bytes_4 pdu.sequence_number are.is.sequence_number
