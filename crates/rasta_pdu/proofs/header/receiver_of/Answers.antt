use Rattle.std.proofs.Common.{◌≡◌, ◌∙◌, rules}
use Rattle.rasta_pdu.specs.Header.{receiver_of}
use Rattle.rasta_pdu.proofs.HeaderLaws.{receiver_written}
use Rattle.rasta_pdu.proofs.header.receiver_of.Goals as goal

pub returns-clause-written : goal.returns-clause-written
returns-clause-written c pdu are =
    let value : c.from_le_bytes.result ≡ receiver_of c.args.bytes.now = search rules
    in value ∙ receiver_written pdu c.args.bytes.now are
