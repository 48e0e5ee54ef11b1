use Rattle.std.proofs.Common.{refl, sym, ◌∙◌}
use Rattle.simulator.proofs.Clocks.{may_begin}
use Rattle.simulator.proofs.Made.{first_made}
use Rattle.simulator.proofs.clocked_interlocking.ClockedInterlocking.new.Goals as goal

pub invariant_of-result : goal.invariant_of-result
invariant_of-result c =
    let state = c.in_ok-interlocking.interlocking.state
    in may_begin state.sited.site state.sited.table (record { clock = 0; first = 0 }) 0 state c.in_ok-interlocking.ensures.ixl refl

pub returns-clause-station : goal.returns-clause-station
returns-clause-station c =
    let sited = c.in_ok-interlocking.interlocking.state.sited
    in first_made sited.site c.layout.result.now sited.table c.in_ok-interlocking.interlocking.state.ixl c.in_ok-connections.connections.begun.items
    c.in_ok-interlocking.ensures.ixl c.in_ok-connections.ensures (c.layout.ensures.entries ∙ sym c.in_ok-interlocking.ensures.site)
