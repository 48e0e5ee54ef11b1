use Rattle.ixl.specs.declared.input.Input.TheVariants as inputs
use Rattle.ixl.proofs.InputEffects.{command_given, given_as, tick_given}
use Rattle.ixl.proofs.step.give.Goals as goal

pub returns-in-Tick-clause-goes : goal.returns-in-Tick-clause-goes
returns-in-Tick-clause-goes c = given_as c.args.now c.args.state.now.sited.table c.args.key.now c.args.input.now inputs.Tick c.args.state.now c.args.outbox.now c.args.state.now c.args.outbox.now c.in-Tick.is
    (tick_given c.args.now c.args.state.now.sited.table c.args.key.now c.args.state.now c.args.outbox.now c.requires.clock)

pub returns-in-Some-clause-goes : goal.returns-in-Some-clause-goes
returns-in-Some-clause-goes c = given_as c.args.now c.args.state.now.sited.table c.args.key.now c.args.input.now (inputs.Command c.in-Command.wanted) c.args.state.now c.args.outbox.now c.command.new.state c.command.new.outbox c.in-Command.is
    (command_given c.args.now c.args.state.now.sited.table c.args.key.now c.in-Command.wanted c.args.state.now c.args.outbox.now c.command.new.state c.command.new.outbox c.command.ensures.goes)

pub returns-in-None-clause-goes : goal.returns-in-None-clause-goes
returns-in-None-clause-goes c = given_as c.args.now c.args.state.now.sited.table c.args.key.now c.args.input.now (inputs.Command c.in-Command.wanted) c.args.state.now c.args.outbox.now c.command.new.state c.command.new.outbox c.in-Command.is
    (command_given c.args.now c.args.state.now.sited.table c.args.key.now c.in-Command.wanted c.args.state.now c.args.outbox.now c.command.new.state c.command.new.outbox c.command.ensures.goes)
