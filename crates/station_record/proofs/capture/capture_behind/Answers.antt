use Rattle.replay.specs.World.{played}
use Rattle.station_record.specs.Traffic.{left_by}
use Rattle.station_record.proofs.Captures.{capture_of_sent, no_capture_of_sent}
use Rattle.station_record.proofs.capture.capture_behind.Goals as goal

pub returns-clause-is : goal.returns-clause-is
returns-clause-is c =
    capture_of_sent c.args.endpoints.now (λ file. file.items) c.network.result.now.sent (played c.apply_all.new.world) (left_by (played c.args.world.now) c.args.entries.now)
    c.capture_of.result c.network.ensures.sent c.in_ok-apply_all.ensures c.capture_of.ensures.is

pub returns-clause-failed : goal.returns-clause-failed
returns-clause-failed c =
    no_capture_of_sent c.network.result.now.sent (played c.apply_all.new.world) (left_by (played c.args.world.now) c.args.entries.now)
    c.capture_of.result c.network.ensures.sent c.in_ok-apply_all.ensures c.capture_of.ensures.failed
