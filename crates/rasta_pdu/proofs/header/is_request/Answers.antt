use Rattle.std.proofs.Common.{◌≡◌, ◌==◌, ◌∙◌, rules}
use Rattle.rasta_pdu.specs.Header.{is_request}
use Rattle.rasta_pdu.proofs.HeaderLaws.{request_written}
use Rattle.rasta_pdu.proofs.header.is_request.Goals as goal

pub returns-clause-written : goal.returns-clause-written
returns-clause-written c pdu are =
    let value : (c.from_le_bytes.result == 6200) ≡ is_request c.args.bytes.now = search rules
    in value ∙ request_written pdu c.args.bytes.now are
