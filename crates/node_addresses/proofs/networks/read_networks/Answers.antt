use Rattle.std.proofs.lemmas.Result.{err_from_is_err_and}
use Rattle.toml.specs.View.{table_view}
use Rattle.node_addresses.proofs.NetworksExplained.{document_fault, key_fault, node_fault}
use Rattle.node_addresses.proofs.networks.read_networks.Goals as goal

pub returns-in_err-document-clause-fault : goal.returns-in_err-document-clause-fault
returns-in_err-document-clause-fault c =
    let p = err_from_is_err_and c.from_residual.result c.from_residual.ensures.1 in
    rw (p.1, p.2) (document_fault c.args.layout.now c.args.text.now c.in_err-document.field-0.0 c.in_err-document.ensures.fault)

pub returns-in_err-networks-clause-fault : goal.returns-in_err-networks-clause-fault
returns-in_err-networks-clause-fault c =
    let p = err_from_is_err_and c.from_residual-in_err-networks.result c.from_residual-in_err-networks.ensures.1 in
    rw (p.1, p.2) (node_fault c.args.layout.now c.args.text.now (table_view c.in_ok-document.document) c.in_err-networks.field-0.0 c.in_ok-document.ensures.read c.in_err-networks.ensures.fault)

pub returns-in_err-check_keys-clause-fault : goal.returns-in_err-check_keys-clause-fault
returns-in_err-check_keys-clause-fault c =
    let p = err_from_is_err_and c.from_residual-in_err-check_keys.result c.from_residual-in_err-check_keys.ensures.1 in
    rw (p.1, p.2) (key_fault c.args.layout.now c.args.text.now (table_view c.in_ok-document.document) c.in_ok-networks.networks c.in_err-check_keys.field-0.0 c.in_ok-document.ensures.read c.in_ok-networks.ensures.found c.in_err-check_keys.ensures.unknown)
