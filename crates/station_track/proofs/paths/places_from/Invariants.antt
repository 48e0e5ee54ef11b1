use Rattle.std.proofs.Common.{◌≡◌, ◌++◌, drop}
use Rattle.station_track.specs.Paths.{places_from}
use Rattle.station_track.proofs.paths.places_from.Given as goal

abbrev pub invariant-loop-left : goal.invariant-loop-left
invariant-loop-left l = l.places.items ++ places_from l.layout l.before (drop l.left-index l.ports) ≡ places_from l.fn.layout l.fn.from l.fn.ports
