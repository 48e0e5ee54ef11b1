use Rattle.std.proofs.Common.{refl}
use Rattle.station_run.proofs.RunEnds.{drive_ends, for_reason, has_ended, has_run, picture_ends}
use Rattle.station_run.proofs.prepared.StationRun.go.Goals as goal

pub returns-in-Err-clause-failed : goal.returns-in-Err-clause-failed
returns-in-Err-clause-failed g c = (
  has_ended g.N.Datagrams c.args.for_ms _ _ _ c.args.self.now (record { engine = c.drive.new.self; script = c.self.inside.script.items }) _ c.of_drive.result c.self.view_is c.deref.ensures.value (drive_ends c.in-Err.fault c.of_drive.result c.of_drive.ensures c.in-Err.ensures.stopped),
  λ other. refl,
)

pub returns-clause-done : goal.returns-clause-done
returns-clause-done g c =
    has_run g.N.Datagrams c.args.for_ms _ _ _ _ c.args.self.now (record { engine = c.drive.new.self; script = c.self.inside.script.items }) _ _ _ c.write_picture.result c.self.view_is c.deref.ensures.value c.in-Ok.ensures.time c.in-Ok.ensures.done c.write_picture.ensures.done

pub returns-clause-failed : goal.returns-clause-failed
returns-clause-failed g c =
    for_reason c.write_picture.result _ _ _
    (λ why late. has_ended g.N.Datagrams c.args.for_ms _ _ _ c.args.self.now (record { engine = c.drive.new.self; script = c.self.inside.script.items }) _ why c.self.view_is c.deref.ensures.value (picture_ends why late c.in-Ok.ensures.time c.in-Ok.ensures.done)) c.write_picture.ensures.failed
