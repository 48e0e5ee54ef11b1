use Rattle.node_kinds.proofs.Clocks.{may_begin}
use Rattle.node_kinds.proofs.interlocking_steps.SteppedInterlocking.new.Goals as goal

pub invariant_of-result : goal.invariant_of-result
invariant_of-result c =
    let state = c.in_ok-interlocking.interlocking.state in
    may_begin state.sited.site state.sited.table (record { clock = c.args.reading; first = c.args.first }) state c.in_ok-interlocking.ensures.ixl
