use Rattle.lane_chart.specs.Chart.{faces}
use Rattle.lane_chart.specs.Faces.{happening_face}
use Rattle.lane_chart.proofs.Grown.{grown_by_all, grows_by_one}
use Rattle.lane_chart.proofs.happening_marks.add_happenings.Goals as goal

pub loop-happening-preserved : goal.loop-happening-preserved
loop-happening-preserved c =
    grows_by_one (faces c.args.groups.now.items) c.args.happenings.now c.loop-happening.happening-index c.happening-item.result (faces c.loop-happening.groups.items) (faces c.add_happening.new.groups.items)
    (happening_face c.args.window) c.loop-happening-test.true c.happening-item.is c.loop-happening.invariant
    c.in_ok-add_happening.ensures

pub returns : goal.returns
returns c =
    grown_by_all (happening_face c.args.window) (faces c.args.groups.now.items) c.args.happenings.now c.loop-happening.happening-index (faces c.loop-happening.groups.items)
    c.loop-happening-test.false c.loop-happening.invariant
