use Rattle.station_record.proofs.LanesMore.{lanes_more}
use Rattle.station_record.proofs.lane_list.add_lanes.Goals as goal

pub loop-place-preserved : goal.loop-place-preserved
loop-place-preserved c =
    lanes_more c.args.kind c.loop-place.place c.args.lanes.now.items c.loop-place.lanes.items c.push.new.self.items c.loop-place.invariant c.in_ok-push.ensures.items
