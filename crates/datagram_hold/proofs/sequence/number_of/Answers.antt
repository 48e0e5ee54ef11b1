use Rattle.std.proofs.Common.{◌≡◌, ◌∙◌, rules}
use Rattle.datagram_hold.specs.Sequence.{number_of}
use Rattle.datagram_hold.proofs.SequenceLaws.{number_written}
use Rattle.datagram_hold.proofs.sequence.number_of.Goals as goal

pub returns-clause-written : goal.returns-clause-written
returns-clause-written c pdu are =
    let value : c.from_le_bytes.result ≡ number_of c.args.bytes.now = search rules
    in value ∙ number_written pdu c.args.bytes.now are
