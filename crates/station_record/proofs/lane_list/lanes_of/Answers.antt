use Rattle.std.proofs.Common.{◌∙◌, ap, length}
use Rattle.station_record.proofs.LanesMore.{all_lanes, kinds_all, kinds_more}
use Rattle.station_record.proofs.lane_list.lanes_of.Goals as goal

pub loop-kind-preserved : goal.loop-kind-preserved
loop-kind-preserved c =
    kinds_more _ c.loop-kind.kind-index _ c.loop-kind.lanes.items c.add_lanes.new.lanes.items c.loop-kind-test.true c.loop-kind.invariant c.in_ok-add_lanes.ensures

pub returns : goal.returns
returns c =
    kinds_all _ c.loop-kind.kind-index c.loop-kind.lanes.items c.loop-kind-test.false c.loop-kind.invariant
    ∙ all_lanes c.args.layout.now (length c.signals.result.now) (length c.points.result.now) (length c.sections.result.now) (length c.routes.result.now) (length c.detectors.result.now)
    (ap length c.signals.ensures) (ap length c.points.ensures) (ap length c.sections.ensures) (ap length c.routes.ensures) (ap length c.detectors.ensures)
