use Rattle.std.proofs.Common.{map, take, string_bytes}
use Rattle.railway_layout.specs.Stations.{AreStations}
use Rattle.railway_layout.proofs.found.stations.Given as goal

abbrev pub invariant-loop-place : goal.invariant-loop-place
invariant-loop-place l = AreStations (take l.place l.written) (map string_bytes (take l.place l.layouts)) l.stations.items
