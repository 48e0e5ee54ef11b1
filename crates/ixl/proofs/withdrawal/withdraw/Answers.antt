use Rattle.std.proofs.Common.{sym, ◌∙◌}
use Rattle.ixl.proofs.RowLaws.{and_yes}
use Rattle.ixl.proofs.Rules.{is_withdrawn_alone, is_withdrawn_and_stopped, nothing_withdrawn, phase_proceeding}
use Rattle.ixl.proofs.withdrawal.withdraw.Goals as goal

pub returns-then-not-is_stop_due : goal.returns-then-not-is_stop_due
returns-then-not-is_stop_due c = nothing_withdrawn c.args.now c.args.number c.args.state.now c.args.outbox.now c.is_stop_due.result c.keeps_route.ensures.kept c.requires.clock c.is_stop_due.ensures c.if-not-is_stop_due.true

pub withdraw-requires-clause-proceeding : goal.withdraw-requires-clause-proceeding
withdraw-requires-clause-proceeding c row route kept = phase_proceeding route.phase (and_yes _ _ (sym (c.is_stop_due.ensures row route kept) ∙ c.if-not-is_stop_due.false)).0

pub returns-then-is_ready : goal.returns-then-is_ready
returns-then-is_ready c = is_withdrawn_and_stopped c.args.now c.args.number c.entry-signal.result c.args.state.now c.withdraw.new.self c.args.outbox.now c.give_aspect.new.self c.give_aspect.new.outbox c.is_stop_due.result c.is_signal_ready-is_ready.result
    c.keeps_route.ensures.kept c.requires.clock c.is_stop_due.ensures c.if-not-is_stop_due.false c.is_signal_ready-is_ready.ensures c.if-is_ready.true c.entry-signal.ensures c.withdraw.ensures c.give_aspect.ensures

pub returns-else-is_ready : goal.returns-else-is_ready
returns-else-is_ready c = is_withdrawn_alone c.args.now c.args.number c.args.state.now c.withdraw.new.self c.args.outbox.now c.is_stop_due.result c.is_signal_ready-is_ready.result
    c.keeps_route.ensures.kept c.requires.clock c.is_stop_due.ensures c.if-not-is_stop_due.false c.is_signal_ready-is_ready.ensures c.if-is_ready.false c.withdraw.ensures
