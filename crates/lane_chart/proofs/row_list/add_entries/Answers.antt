use Rattle.std.proofs.Common.{◌∙◌, [], ◌∷◌, ◌++◌, ap}
use Rattle.lane_chart.specs.Subjects.{row_of}
use Rattle.lane_chart.proofs.RowsMore.{ends, goes_on}
use Rattle.lane_chart.proofs.row_list.add_entries.Goals as goal

pub loop-place-preserved : goal.loop-place-preserved
loop-place-preserved g c =
    let more = c.in_ok-push.ensures.items ∙ ap (λ name. c.loop-place.rows.items ++ row_of c.args.sort c.loop-place.place name ∷ []) c.own_name.ensures in
    goes_on g.T.Named.own_name c.args.sort c.args.entries.now c.loop-place.place c.index-entries-place.result c.loop-place.rows.items c.push.new.self.items _
    c.loop-place-test.true c.index-entries-place.is more c.loop-place.invariant

pub returns : goal.returns
returns g c = ends g.T.Named.own_name c.args.sort c.args.entries.now c.loop-place.place c.loop-place.rows.items _ c.loop-place-test.false c.loop-place.invariant
