use Rattle.std.proofs.Common.{sym, subst}
use Rattle.ixl_state.specs.State.{AllAt, StateView}
use Rattle.ixl.proofs.CommandEffects.{changing_clock, command_obeyed, command_refused}
use Rattle.ixl.proofs.commands.command.Goals as goal

pub move_at_once-requires-clause-clock : goal.move_at_once-requires-clause-clock
move_at_once-requires-clause-clock c = subst (λ (s : StateView). AllAt c.args.now s) (sym c.obey.ensures) (changing_clock c.args.now c.args.command c.args.state.now c.requires.clock)

pub returns-in-None-clause-goes : goal.returns-in-None-clause-goes
returns-in-None-clause-goes c = command_obeyed c.args.now c.args.command c.args.state.now c.obey.new.state c.move_at_once.new.state c.args.outbox.now c.move_at_once.new.outbox c.requires.clock
    (sym c.in-None.ensures) c.obey.ensures c.move_at_once.ensures

pub returns-in-Some-clause-goes : goal.returns-in-Some-clause-goes
returns-in-Some-clause-goes c = command_refused c.args.now c.args.command c.in-Some.cause c.args.state.now c.args.outbox.now c.requires.clock (sym c.in-Some.ensures)
