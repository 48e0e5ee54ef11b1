use Rattle.std.proofs.Common.{◌≡◌, drop}
use Rattle.station_track.specs.Ports.{signal_from}
use Rattle.station_track.proofs.ports.signal_at.Given as goal

abbrev pub invariant-loop-number : goal.invariant-loop-number
invariant-loop-number l = signal_from l.number (drop l.number l.signals) l.port ≡ signal_from 0 l.signals l.port
