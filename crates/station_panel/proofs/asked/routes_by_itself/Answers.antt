use Rattle.std.proofs.Common.{◌/◌, List, subst, sym}
use Rattle.panel_desk.specs.StandingOrders.{Tried}
use Rattle.panel_desk.specs.node_lines.layout.declared.ids.RouteId.{RouteId}
use Rattle.station_panel.proofs.Unasked.{nothing_tried}
use Rattle.station_panel.proofs.asked.routes_by_itself.Goals as goal

pub returns-then-is_empty : goal.returns-then-is_empty
returns-then-is_empty g c =
    let site = g.S.Station.site c.args.station.now in
    let lines = g.S.Pictured.lines c.args.station.now in
    let orders = c.args.orders.now in
    subst (λ (routes : List RouteId). Tried site lines (c.args.reading / 1000) orders routes orders) (sym c.new.ensures.items)
    (nothing_tried site lines (c.args.reading / 1000) orders (c.is_empty.ensures.0 c.if-is_empty.true))
