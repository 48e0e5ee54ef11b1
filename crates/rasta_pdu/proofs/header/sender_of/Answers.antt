use Rattle.std.proofs.Common.{◌≡◌, ◌∙◌, rules}
use Rattle.rasta_pdu.specs.Header.{sender_of}
use Rattle.rasta_pdu.proofs.HeaderLaws.{sender_written}
use Rattle.rasta_pdu.proofs.header.sender_of.Goals as goal

pub returns-clause-written : goal.returns-clause-written
returns-clause-written c pdu are =
    let value : c.from_le_bytes.result ≡ sender_of c.args.bytes.now = search rules
    in value ∙ sender_written pdu c.args.bytes.now are
