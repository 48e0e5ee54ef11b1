-- each round sends one report, and the first that isn't sent ends the loop
use Rattle.std.proofs.Common.{sym, ◌∙◌, arith}
use Rattle.object_host.proofs.OwedReports.{paying_next, paying_stops, nothing_at_end}
use Rattle.object_host.proofs.UnderWay.{begins, comes_to_end}
use Rattle.object_host.proofs.host.Host.pay.Goals as goal

pub loop-round-init : goal.loop-round-init
loop-round-init g c = record { way = begins _ _ _ _ c.requires.at }

pub loop-round-preserved : goal.loop-round-preserved
loop-round-preserved g c =
    paying_next g.C.Controller.behaviour _ _ _ _ _ _ _ _ c.loop-round.invariant c.loop-round-test.true
    (sym c.pay_first.ensures.answer ∙ c.if-not-pay_first.false) c.pay_first.ensures.performed

pub returns-then-not-pay_first : goal.returns-then-not-pay_first
returns-then-not-pay_first g c =
    paying_stops g.C.Controller.behaviour _ _ _ _ _ _ _ _ c.loop-round.invariant c.loop-round-test.true
    (sym c.pay_first.ensures.answer ∙ c.if-not-pay_first.true) c.pay_first.ensures.performed

pub returns : goal.returns
returns g c = comes_to_end _ _ _ _ _ _ _ c.loop-round.invariant.way
    (nothing_at_end g.C.Controller.behaviour _ _ _ (omega (arith, c.loop-round-test.false, c.loop-round.auto._round-end)))
