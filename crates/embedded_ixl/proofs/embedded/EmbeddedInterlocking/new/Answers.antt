use Rattle.embedded_ixl.specs.Made.{fault_of_table}
use Rattle.embedded_ixl.proofs.Clocks.{may_begin}
use Rattle.embedded_ixl.proofs.FaultsTold.{explains_table, told_by}
use Rattle.embedded_ixl.proofs.embedded.EmbeddedInterlocking.new.Goals as goal

pub invariant_of-result : goal.invariant_of-result
invariant_of-result c =
    let state = c.in_ok-interlocking.interlocking.state in
    may_begin state.sited.site state.sited.table (record { clock = c.args.now; first = c.args.first }) state c.in_ok-interlocking.ensures.ixl

pub returns-in_err-checked-clause-fault : goal.returns-in_err-checked-clause-fault
returns-in_err-checked-clause-fault c =
    let fault = c.in_err-checked.field-0.0 in
    told_by c.args.text.now c.from_residual-in_err-checked.result (fault_of_table fault) c.from_residual-in_err-checked.ensures.1
    (explains_table c.args.text.now c.in_ok-layout.layout fault c.in_ok-layout.ensures.read c.in_err-checked.ensures.refuses)
