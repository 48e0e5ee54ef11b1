use Rattle.std.proofs.Common.{sym}
use Rattle.simulator.proofs.Clocks.{may_begin, reading_restarted}
use Rattle.simulator.proofs.Made.{station_restarted}
use Rattle.simulator.proofs.clocked_interlocking.ClockedInterlocking.restart.Goals as goal

pub invariant_of-self-2 : goal.invariant_of-self-2
invariant_of-self-2 c =
    let sited = c.self.inside.interlocking.state.sited
    in may_begin sited.site sited.table (record { clock = c.args.clock; first = c.args.first_sequence_number }) _ c.restart.new.self.state c.in_ok-restart.ensures.ixl (sym (reading_restarted c.args.clock))

pub returns-clause-made : goal.returns-clause-made
returns-clause-made c =
    let inside = c.self.inside
    in station_restarted inside.interlocking.state.sited c.restart.new.self.state.sited c.restart.new.self.state.ixl inside.interlocking.state.ixl inside.connections.begun.items inside.clock c.args.clock c.args.first_sequence_number
    c.args.self.now c.self.view_is c.restart.ensures.sited c.in_ok-restart.ensures.ixl
