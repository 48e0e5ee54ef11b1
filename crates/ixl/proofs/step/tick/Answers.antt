use Rattle.ixl.proofs.InputEffects.{not_ticked}
use Rattle.ixl.proofs.step.tick.Goals as goal

pub returns-in_default : goal.returns-in_default
returns-in_default c = not_ticked c.args.now c.args.input.now c.args.state.now c.args.outbox.now c.requires.clock c.in_default.not-Tick
