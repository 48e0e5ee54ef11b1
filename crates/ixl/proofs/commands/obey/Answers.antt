use Rattle.std.proofs.Common.{◌∙◌, ap, sym, arith}
use Rattle.ixl_state.specs.ixl_spec.Commands.{obeyed}
use Rattle.ixl_state.specs.ixl_spec.declared.command.Command.{Command}
use Rattle.ixl.proofs.Causes.{get_inside}
use Rattle.ixl.proofs.CommandEffects.{cancelled_there, changing, closed_there, is_free, is_unblocked, opened_there, released_there, set_there}
use Rattle.ixl.proofs.commands.obey.Goals as goal

pub set-requires-clause-there : goal.set-requires-clause-there
set-requires-clause-there c =
    let may = set_there c.args.now c.args.state.now c.args.command c.in-Request.route c.in-Request.is c.requires
    in get_inside c.args.state.now.sited.table.rows c.in-Request.route.0 may.row may.is_row

pub set-requires-clause-free : goal.set-requires-clause-free
set-requires-clause-free c = is_free c.args.state.now c.in-Request.route.0 (set_there c.args.now c.args.state.now c.args.command c.in-Request.route c.in-Request.is c.requires)

pub set-requires-clause-unblocked : goal.set-requires-clause-unblocked
set-requires-clause-unblocked c = is_unblocked c.args.state.now c.in-Request.route.0 (set_there c.args.now c.args.state.now c.args.command c.in-Request.route c.in-Request.is c.requires)

pub cancel-requires : goal.cancel-requires
cancel-requires c = omega (arith, cancelled_there c.args.now c.args.state.now c.args.command c.in-Cancel.route c.in-Cancel.is c.requires, c.keeps_each_route.ensures)

pub returns-in-Request : goal.returns-in-Request
unfolding obeyed
returns-in-Request c = c.set.ensures ∙ ap (λ (k : Command). changing c.args.now k c.args.state.now) (sym c.in-Request.is)

pub returns-in-Cancel : goal.returns-in-Cancel
unfolding obeyed
returns-in-Cancel c = c.cancel.ensures ∙ ap (λ (k : Command). changing c.args.now k c.args.state.now) (sym c.in-Cancel.is)

pub returns-in-Resume : goal.returns-in-Resume
unfolding obeyed
returns-in-Resume c = c.resume.ensures ∙ ap (λ (k : Command). changing c.args.now k c.args.state.now) (sym c.in-Resume.is)

pub release-requires : goal.release-requires
release-requires c = omega (arith, released_there c.args.now c.args.state.now c.args.command c.in-Release.route c.in-Release.is c.requires, c.keeps_each_route.ensures)

pub close_named-requires : goal.close_named-requires
close_named-requires c = closed_there c.args.now c.args.state.now c.args.command c.in-Close.named c.in-Close.is c.requires

pub open_named-requires : goal.open_named-requires
open_named-requires c = opened_there c.args.now c.args.state.now c.args.command c.in-Open.named c.in-Open.is c.requires

pub returns-in-Release : goal.returns-in-Release
unfolding obeyed
returns-in-Release c = c.release.ensures ∙ ap (λ (k : Command). changing c.args.now k c.args.state.now) (sym c.in-Release.is)

pub returns-in-Move : goal.returns-in-Move
unfolding obeyed
returns-in-Move c = ap (λ (k : Command). changing c.args.now k c.args.state.now) (sym c.in-Move.is)

pub returns-in-Close : goal.returns-in-Close
unfolding obeyed
returns-in-Close c = c.close_named.ensures ∙ ap (λ (k : Command). changing c.args.now k c.args.state.now) (sym c.in-Close.is)

pub returns-in-Open : goal.returns-in-Open
unfolding obeyed
returns-in-Open c = c.open_named.ensures ∙ ap (λ (k : Command). changing c.args.now k c.args.state.now) (sym c.in-Open.is)
