use Rattle.std.proofs.Common.{sym, ◌∙◌}
use Rattle.ixl.proofs.RowLaws.{and_yes}
use Rattle.ixl.proofs.Rules.{authority_ended, nothing_ended, phase_withdrawn}
use Rattle.ixl.proofs.authority_end.end_authority.Goals as goal

pub end_authority-requires-clause-withdrawn : goal.end_authority-requires-clause-withdrawn
end_authority-requires-clause-withdrawn c row route kept = phase_withdrawn route.phase (and_yes _ _ (sym (c.is_end_due.ensures row route kept) ∙ c.if-is_end_due.true)).0

pub returns-then-is_end_due : goal.returns-then-is_end_due
returns-then-is_end_due c = authority_ended c.args.now c.args.number c.args.state.now c.end_authority.new.self c.is_end_due.result c.keeps_route.ensures.kept c.is_end_due.ensures c.if-is_end_due.true c.end_authority.ensures

pub returns-else-is_end_due : goal.returns-else-is_end_due
returns-else-is_end_due c = nothing_ended c.args.now c.args.number c.args.state.now c.is_end_due.result c.keeps_route.ensures.kept c.is_end_due.ensures c.if-is_end_due.false
