use Rattle.std.proofs.Common.{◌∙◌, Bool, List, length, ap, slice_get, arith}
use Rattle.panel_desk.specs.Inside.{begins_by}
use Rattle.panel_desk.specs.StandingOrders.{StandingView}
use Rattle.panel_desk.proofs.FlagRows.{begun_next}
use Rattle.panel_desk.proofs.standing_orders.StandingOrders.begin_to_wait.Goals as goal

pub loop-place-preserved : goal.loop-place-preserved
loop-place-preserved c =
    let before = c.loop-place.invariant in
    let is = c.in_ok-begin_one.ensures.begun in
    let place = c.loop-place.place in
    let same = before.1 in
    let long = ap (λ (l : List Bool). length l) same in
    let view = ap (λ (o : StandingView). length o.automatic) c.self.view_is in
    let inside = c.loop-place-test.true in (
      begun_next c.args.lines.now place c.args.self.now.automatic c.loop-place.self.waiting c.begin_one.new.self.waiting _ (omega (arith, long, view, inside))
          (ap (λ (o : StandingView). o.waiting) is ∙ ap (λ (l : List Bool). begins_by c.args.lines.now (record { 0 = place }) (slice_get l place) c.loop-place.self.waiting) same) before.0,
      ap (λ (o : StandingView). o.automatic) is ∙ same,
    )
