use Rattle.std.proofs.Common.{sym, subst}
use Rattle.ixl_state.specs.ixl_spec.Commands.{moved_at_once}
use Rattle.ixl_state.specs.ixl_spec.declared.command.Command.{Command}
use Rattle.std.specs.Prelude.{None}
use Rattle.ixl_state.specs.State.{Goes}
use Rattle.ixl.proofs.CommandEffects.{not_moved}
use Rattle.ixl.proofs.commands.move_at_once.Goals as goal

pub returns-in-Move : goal.returns-in-Move
unfolding moved_at_once
returns-in-Move c =
    subst (λ (k : Command). Goes c.args.now 2 (moved_at_once c.args.now None k) c.args.state.now c.args.outbox.now c.give_move.new.self c.give_move.new.outbox) (sym c.in-Move.is) c.give_move.ensures

pub returns-in_default : goal.returns-in_default
returns-in_default c = not_moved c.args.now c.args.command c.args.state.now c.args.outbox.now c.requires.clock c.in_default.not-Move
