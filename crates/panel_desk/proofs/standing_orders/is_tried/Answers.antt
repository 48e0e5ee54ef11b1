use Rattle.std.proofs.Common.{◌↔◌, Option, subst, sym}
use Rattle.std.specs.Prelude.{IsTrue}
use Rattle.std.proofs.lemmas.Option.{slice_get-get_or}
use Rattle.panel_desk.specs.StandingOrders.{IsTriedOf}
use Rattle.panel_desk.specs.declared.standing_orders.Waiting.{Waiting}
use Rattle.panel_desk.proofs.standing_orders.is_tried.Goals as goal

pub returns : goal.returns
returns c =
    subst (λ (one : Option Waiting). IsTrue c.may_be_tried.result ↔ IsTriedOf c.args.table.now c.args.lines.now c.args.millis c.args.waiting.now one c.args.place)
    (sym (slice_get-get_or c.args.waiting.now c.args.place _ c.requires)) c.may_be_tried.ensures
