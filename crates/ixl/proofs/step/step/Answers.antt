use Rattle.std.proofs.Common.{◌∙◌, ap, sym}
use Rattle.ixl_state.specs.First.{key_of}
use Rattle.ixl_state.specs.State.{StateView}
use Rattle.ixl.specs.Interlocking.{meant, told}
use Rattle.ixl.proofs.Whole.{step_answers, step_goes}
use Rattle.ixl.proofs.step.step.Goals as goal

pub give-reply-requires-clause-clocked : goal.give-reply-requires-clause-clocked
give-reply-requires-clause-clocked c = (c.args.state.now.ixl, ap (λ (s : StateView). s.ixl) c.settle.ensures.state)

pub give-reply-requires-clause-under : goal.give-reply-requires-clause-under
give-reply-requires-clause-under c = c.requires.under ∙ ap (λ (s : StateView). key_of s.sited.site) (sym c.settle.ensures.state)

pub returns-clause-goes : goal.returns-clause-goes
returns-clause-goes c = step_goes c.args.now c.args.key.now (meant c.args.input.now) c.args.state.now c.settle.new.self c.give-reply.new.state c.watch.new.state c.apply_rules.new.state c.tick.new.state
    c.args.outbox.now c.give-reply.new.outbox c.apply_rules.new.outbox c.tick.new.outbox c.settle.ensures.state c.give-reply.ensures.goes c.watch.ensures c.apply_rules.ensures c.tick.ensures

pub returns-clause-answer : goal.returns-clause-answer
returns-clause-answer c = step_answers c.args.now c.args.key.now (meant c.args.input.now) c.args.state.now c.settle.new.self (told c.give-reply.result) c.settle.ensures.state c.give-reply.ensures.answer
