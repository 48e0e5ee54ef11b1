use Rattle.lane_chart.specs.Chart.{faces}
use Rattle.lane_chart.specs.Faces.{row_face}
use Rattle.lane_chart.proofs.Grown.{grown_by_all, grows_by_one}
use Rattle.lane_chart.proofs.picture.add_rows.Goals as goal

pub loop-row-preserved : goal.loop-row-preserved
loop-row-preserved c =
    let scene = c.args.scene
    in grows_by_one (faces c.args.groups.now.items) c.args.rows.now c.loop-row.row-index c.row-item.result (faces c.loop-row.groups.items) (faces c.add_row.new.groups.items)
    (row_face scene.nodes scene.window scene.happenings.now) c.loop-row-test.true c.row-item.is c.loop-row.invariant
    c.in_ok-add_row.ensures

pub returns : goal.returns
returns c =
    let scene = c.args.scene
    in grown_by_all (row_face scene.nodes scene.window scene.happenings.now) (faces c.args.groups.now.items) c.args.rows.now c.loop-row.row-index (faces c.loop-row.groups.items)
    c.loop-row-test.false c.loop-row.invariant
