use Rattle.std.proofs.Common.{sym, ◌∙◌, arith}
use Rattle.line_host.proofs.Loops.{begins_acting, acts_on, acted_all, acted_some}
use Rattle.line_host.proofs.Staying.{more_stays}
use Rattle.line_host.proofs.talk.Talk.act_all.Goals as goal

pub loop-item-init : goal.loop-item-init
loop-item-init c = begins_acting _ _ _ _ c.requires.clock c.new-taken.ensures

pub loop-item-preserved : goal.loop-item-preserved
loop-item-preserved c = acts_on _ _ _ c.item-item.result _ _ _ _ _ c.act-told.result c.loop-item.invariant c.loop-item-test.true c.item-item.is (sym c.is_open.ensures ∙ c.if-not-is_open.false)
    c.act-told.ensures.talk c.act-told.ensures.item c.act-told.ensures.stays c.put_item.ensures

pub returns-then-not-is_open-clause-all : goal.returns-then-not-is_open-clause-all
returns-then-not-is_open-clause-all c = acted_some _ _ _ _ _ _ c.loop-item.invariant (sym c.is_open.ensures ∙ c.if-not-is_open.true)

pub returns-then-not-is_open-clause-stays : goal.returns-then-not-is_open-clause-stays
returns-then-not-is_open-clause-stays c = more_stays _ _ _ _ _ c.loop-item.invariant.stays (omega (arith, c.loop-item-test.true, c.requires.few))

pub returns-clause-all : goal.returns-clause-all
returns-clause-all c = acted_all _ _ _ _ _ _ c.loop-item.invariant c.loop-item-test.false

pub returns-clause-stays : goal.returns-clause-stays
returns-clause-stays c = more_stays _ _ _ _ _ c.loop-item.invariant.stays (omega (arith, c.loop-item.auto.item-index-end, c.requires.few))
