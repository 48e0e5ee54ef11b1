use Rattle.std.proofs.Common.{sym, ◌∙◌, arith}
use Rattle.std.proofs.lemmas.List.{get_or_default}
use Rattle.line_host.proofs.Loops.{begins_giving, gives_on, gave_all, gave_some}
use Rattle.line_host.proofs.Staying.{more_stays}
use Rattle.line_host.proofs.talk.Talk.give_all.Goals as goal

pub loop-item-init : goal.loop-item-init
loop-item-init c = begins_giving _ _ _ c.requires.clock

pub loop-item-preserved : goal.loop-item-preserved
loop-item-preserved c = gives_on _ _ _ _ _ _ _ c.loop-item.invariant c.loop-item-test.true (get_or_default c.args.items.now c.loop-item.item-index _ _ c.loop-item-test.true)
    (sym c.is_up.ensures ∙ c.if-not-is_up.false) c.give.ensures.talk c.give.ensures.stays

pub returns-then-not-is_up-clause-talk : goal.returns-then-not-is_up-clause-talk
returns-then-not-is_up-clause-talk c = gave_some _ _ _ _ _ c.loop-item.invariant (sym c.is_up.ensures ∙ c.if-not-is_up.true)

pub returns-then-not-is_up-clause-stays : goal.returns-then-not-is_up-clause-stays
returns-then-not-is_up-clause-stays c = more_stays _ _ _ _ _ c.loop-item.invariant.stays (omega (arith, c.loop-item-test.true, c.requires.few))

pub returns-clause-talk : goal.returns-clause-talk
returns-clause-talk c = gave_all _ _ _ _ _ c.loop-item.invariant c.loop-item-test.false

pub returns-clause-stays : goal.returns-clause-stays
returns-clause-stays c = more_stays _ _ _ _ _ c.loop-item.invariant.stays (omega (arith, c.loop-item.auto.item-index-end, c.requires.few))
