-- each round tells one report, and the first place without one ends the loop
use Rattle.std.proofs.Common.{ap, sym, ◌∙◌, arith}
use Rattle.object_host.proofs.Status.{nothing_at, nothing_at_end, telling_next}
use Rattle.object_host.proofs.UnderWay.{begins, comes_to_end}
use Rattle.object_host.proofs.host.Host.post_status.Goals as goal

pub loop-place-init : goal.loop-place-init
loop-place-init g c = record { way = begins _ _ _ _ c.requires.at }

pub loop-place-preserved : goal.loop-place-preserved
loop-place-preserved g c =
    telling_next g.C.Controller.behaviour _ _ _ _ _ _ c.in-Some.report _ _ c.loop-place.invariant c.loop-place-test.true
    (ap (λ h. g.C.Controller.behaviour.status c.loop-place.place h.object) (sym c.self.view_is) ∙ sym c.status.ensures ∙ c.in-Some.is)
    c.post.ensures.performed

pub returns-in-None : goal.returns-in-None
returns-in-None g c = comes_to_end _ _ _ _ _ _ _ c.loop-place.invariant.way
    (nothing_at g.C.Controller.behaviour _ _ _ c.loop-place-test.true
    (ap (λ h. g.C.Controller.behaviour.status c.loop-place.place h.object) (sym c.self.view_is) ∙ sym c.status.ensures ∙ c.in-None.is))

pub returns : goal.returns
returns g c = comes_to_end _ _ _ _ _ _ _ c.loop-place.invariant.way
    (nothing_at_end g.C.Controller.behaviour _ _ _ (omega (arith, c.loop-place-test.false, c.loop-place.auto.place-end)))
