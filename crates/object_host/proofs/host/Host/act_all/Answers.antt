-- each round acts on one item; a closed link drops those that are left
use Rattle.std.proofs.Common.{ap, sym, ◌∙◌}
use Rattle.rasta_core.specs.State.{is_open}
use Rattle.object_host.proofs.ItemActions.{acting_next, closed_drops, nothing_at_end}
use Rattle.object_host.proofs.UnderWay.{begins, comes_to_end}
use Rattle.object_host.proofs.host.Host.act_all.Goals as goal

pub loop-item-init : goal.loop-item-init
loop-item-init g c = record { way = begins _ _ _ _ c.requires.at }

pub loop-item-preserved : goal.loop-item-preserved
loop-item-preserved g c =
    acting_next g.C.Controller.behaviour _ _ _ c.item-item.result _ _ _ _ _ _ c.loop-item.invariant c.loop-item-test.true c.item-item.is
    (ap (λ h. is_open h.link.phase) (sym c.self.view_is) ∙ sym c.is_open.ensures ∙ c.if-not-is_open.false) c.act.ensures

pub returns-then-not-is_open : goal.returns-then-not-is_open
returns-then-not-is_open g c = comes_to_end _ _ _ _ _ _ _ c.loop-item.invariant.way
    (closed_drops g.C.Controller.behaviour _ _ _ (ap (λ h. is_open h.link.phase) (sym c.self.view_is) ∙ sym c.is_open.ensures ∙ c.if-not-is_open.true))

pub returns : goal.returns
returns g c = comes_to_end _ _ _ _ _ _ _ c.loop-item.invariant.way
    (nothing_at_end g.C.Controller.behaviour _ _ _ _ c.loop-item-test.false)
