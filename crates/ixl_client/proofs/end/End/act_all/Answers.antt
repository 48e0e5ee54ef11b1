-- each round acts on one item; a closed link drops those that are left
use Rattle.std.proofs.Common.{ap, sym, ◌∙◌, arith}
use Rattle.rasta_core.specs.State.{is_open}
use Rattle.ixl_client.specs.Client.{ClientState}
use Rattle.ixl_client.proofs.ItemActions.{acts_on, begins, ends, ends_closed}
use Rattle.ixl_client.proofs.end.End.act_all.Goals as goal

pub loop-item-init : goal.loop-item-init
loop-item-init c = begins _ _ _ c.requires.clock c.requires.heard

pub loop-item-preserved : goal.loop-item-preserved
loop-item-preserved c = acts_on _ _ _ c.item-item.result _ _ _ c.loop-item.invariant c.loop-item-test.true c.item-item.is
    (ap (λ (o : ClientState). is_open o.link.phase) (sym c.self.view_is) ∙ sym c.is_open.ensures ∙ c.if-not-is_open.false) c.act.ensures.goes c.act.ensures.one

pub returns-then-not-is_open : goal.returns-then-not-is_open
returns-then-not-is_open c = ends_closed _ _ _ _ _ c.loop-item.invariant
    (ap (λ (o : ClientState). is_open o.link.phase) (sym c.self.view_is) ∙ sym c.is_open.ensures ∙ c.if-not-is_open.true) (omega (arith, c.loop-item-test.true, c.requires.items))

pub returns : goal.returns
returns c = ends _ _ _ _ _ c.loop-item.invariant c.loop-item-test.false (omega (arith, c.loop-item.auto.item-index-end, c.requires.items))
