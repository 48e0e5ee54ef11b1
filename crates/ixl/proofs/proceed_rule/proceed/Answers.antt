use Rattle.std.proofs.Common.{sym, ◌∙◌, subst}
use Rattle.ixl_state.specs.State.{AllAt, StateView}
use Rattle.ixl.proofs.RowLaws.{and_yes}
use Rattle.ixl.proofs.Rules.{authority_given, nothing_given, phase_waiting}
use Rattle.ixl.proofs.proceed_rule.proceed.Goals as goal

pub returns-then-not-is_proceed_due : goal.returns-then-not-is_proceed_due
returns-then-not-is_proceed_due c = nothing_given c.args.now c.args.number c.args.state.now c.args.outbox.now c.is_proceed_due.result c.keeps_route.ensures.kept c.requires.clock c.is_proceed_due.ensures c.if-not-is_proceed_due.true

pub authorise-requires-clause-waiting : goal.authorise-requires-clause-waiting
authorise-requires-clause-waiting c row route kept = phase_waiting route.phase
    (and_yes _ _ (and_yes _ _ (and_yes _ _ (and_yes _ _ (and_yes _ _ (sym (c.is_proceed_due.ensures row route kept) ∙ c.if-not-is_proceed_due.false)).0).0).0).0).0

pub give_aspect-requires-clause-clock : goal.give_aspect-requires-clause-clock
give_aspect-requires-clause-clock c =
    let there = c.keeps_route.ensures.kept
    in subst (λ (s : StateView). AllAt c.args.now s) (sym (c.authorise.ensures there.0 there.1 there.2)) (record { known_signals = c.requires.clock.known_signals; known_points = c.requires.clock.known_points; detectors = c.requires.clock.detectors })

pub returns : goal.returns
returns c = authority_given c.args.now c.args.number c.entry-signal.result c.aspect-aspect.result c.is_approach_clear-is_clear.result c.args.state.now c.authorise.new.self c.args.outbox.now c.give_aspect.new.self c.give_aspect.new.outbox c.is_proceed_due.result
    c.keeps_route.ensures.kept c.requires.clock c.is_proceed_due.ensures c.if-not-is_proceed_due.false c.entry-signal.ensures c.aspect-aspect.ensures c.is_approach_clear-is_clear.ensures c.authorise.ensures c.give_aspect.ensures
