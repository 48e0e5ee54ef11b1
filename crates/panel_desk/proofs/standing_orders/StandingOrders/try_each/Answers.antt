use Rattle.std.proofs.Common.{◌≡◌, ◌∙◌, length, ap, refl, arith}
use Rattle.panel_desk.specs.StandingOrders.{StandingView}
use Rattle.panel_desk.proofs.TriesEach.{all_tried, none_yet, one_further}
use Rattle.panel_desk.proofs.standing_orders.StandingOrders.try_each.Goals as goal

pub loop-place-init : goal.loop-place-init
loop-place-init c = (none_yet c.args.table.now c.args.lines.now c.args.millis c.args.self.now.waiting c.args.routes.now.items, refl)

pub loop-place-preserved : goal.loop-place-preserved
loop-place-preserved c =
    let before = c.loop-place.invariant in
    let long : length c.loop-place.self.waiting ≡ length c.args.self.now.waiting = before.0.long in
    let view = ap (λ (o : StandingView). length o.waiting) c.self.view_is in
    let inside = c.loop-place-test.true in (
      one_further c.args.table.now c.args.lines.now c.args.millis c.args.self.now.waiting c.loop-place.place _ _ c.loop-place.self.waiting _ _ before.0 (omega (arith, long, view, inside)) c.in_ok-try_one.ensures.tried,
      c.try_one.ensures.automatic ∙ before.1,
    )

pub try_one-requires : goal.try_one-requires
try_one-requires c =
    let long : length c.loop-place.self.waiting ≡ length c.args.self.now.waiting = c.loop-place.invariant.0.long in
    let view = ap (λ (o : StandingView). length o.waiting) c.self.view_is in
    let inside = c.loop-place-test.true in
    omega (arith, long, view, inside)

pub returns-clause-tried : goal.returns-clause-tried
returns-clause-tried c =
    let before = c.loop-place.invariant in
    let long : length c.loop-place.self.waiting ≡ length c.args.self.now.waiting = before.0.long in
    let view = ap (λ (o : StandingView). length o.waiting) c.self.view_is in
    let past = c.loop-place-test.false in
    all_tried c.args.table.now c.args.lines.now c.args.millis c.args.self.now.waiting c.loop-place.place _ _ c.loop-place.self.waiting before.0 (omega (arith, long, view, past))
