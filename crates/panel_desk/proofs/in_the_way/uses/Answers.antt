use Rattle.std.proofs.Common.{◌↔◌, subst, sym}
use Rattle.std.specs.Prelude.{IsTrue}
use Rattle.node_lines.specs.closings.declared.thing.Thing.{Thing}
use Rattle.panel_desk.specs.InTheWay.{UsedBy}
use Rattle.panel_desk.proofs.InTheWay.{enters}
use Rattle.panel_desk.proofs.in_the_way.uses.Goals as goal

pub returns-in-Signal : goal.returns-in-Signal
returns-in-Signal c =
    subst (λ (t : Thing). IsTrue c.eq.result ↔ UsedBy c.args.table.now c.args.route t) (sym c.in-Signal.is)
    (enters c.args.table.now c.args.route c.masks-in-Signal.result.entry c.in-Signal.signal c.eq.result c.requires c.masks-in-Signal.ensures.entry c.eq.ensures)
