use Rattle.replay.specs.World.{played}
use Rattle.station_record.proofs.Captures.{file_told, no_file_told}
use Rattle.station_record.proofs.capture.file_of.Goals as goal

pub returns-clause-is : goal.returns-clause-is
returns-clause-is c =
    file_told c.args.endpoints.now (λ file. file.items) c.args.table (played c.in_ok-world.world) c.args.entries.now c.capture_behind-file.result
    c.in_ok-world.ensures c.capture_behind-file.ensures.is

pub returns-clause-failed : goal.returns-clause-failed
returns-clause-failed c =
    no_file_told c.args.table (played c.in_ok-world.world) c.args.entries.now c.capture_behind-file.result c.in_ok-world.ensures c.capture_behind-file.ensures.failed
