use Rattle.std.proofs.Common.{◌≡◌, drop}
use Rattle.station_track.specs.Ports.{beyond}
use Rattle.station_track.proofs.ports.beyond.Given as goal

abbrev pub invariant-loop-joint : goal.invariant-loop-joint
invariant-loop-joint l = beyond (drop l.joint-index l.joints) l.port ≡ beyond l.joints l.port
