use Rattle.std.proofs.Common.{◌≡◌, ◌∙◌, ◌++◌, ◌∷◌, [], ap, map}
use Rattle.std.proofs.lemmas.List.{map_push}
use Rattle.lane_chart.specs.Drawn.{band_of, drawn_of, seen_row}
use Rattle.lane_chart.specs.declared.drawn.DrawnRow.{DrawnRow}
use Rattle.lane_chart.proofs.Grown.{grown_by_all, grows_by_one}
use Rattle.lane_chart.proofs.drawn.all_drawn.Goals as goal

pub loop-row-preserved : goal.loop-row-preserved
loop-row-preserved c =
    let row = c.row-item.result in
    let before = c.loop-row.drawn.items in
    let upper = c.in_ok-upper.upper in
    let lower = c.in_ok-lower.lower in
    let one : DrawnRow = record { row = row; upper = upper; lower = lower } in
    let of_upper = c.in_ok-upper.ensures ∙ ap (λ kind. band_of c.args.window c.args.changes.now kind row.place) c.upper_kind.ensures in
    let of_lower = c.in_ok-lower.ensures ∙ ap (λ kind. band_of c.args.window c.args.changes.now kind row.place) c.lower_kind.ensures in
    let is : seen_row one ≡ drawn_of c.args.window c.args.changes.now row =
    ap (λ spans. record { row = row; upper = spans; lower = lower.items }) of_upper
    ∙ ap (λ spans. record { row = row; upper = (drawn_of c.args.window c.args.changes.now row).upper; lower = spans }) of_lower in
    grows_by_one [] c.args.rows.now c.loop-row.row-index row (map seen_row before) (map seen_row c.push.new.self.items) (drawn_of c.args.window c.args.changes.now)
    c.loop-row-test.true c.row-item.is c.loop-row.invariant
    (ap (λ rows. map seen_row rows) c.in_ok-push.ensures.items ∙ (map_push seen_row before one ∙ ap (λ drawn. map seen_row before ++ drawn ∷ []) is))

pub returns : goal.returns
returns c = grown_by_all (drawn_of c.args.window c.args.changes.now) [] c.args.rows.now c.loop-row.row-index (map seen_row c.loop-row.drawn.items) c.loop-row-test.false c.loop-row.invariant
