use Rattle.std.proofs.Common.{◌≡◌, drop}
use Rattle.station_run.specs.Panel.{route_held}
use Rattle.station_run.proofs.pictured_world.first_held.Given as goal

-- none of those so far is for the signal
abbrev pub invariant-loop-place : goal.invariant-loop-place
invariant-loop-place l = route_held l.signal l.held ≡ route_held l.signal (drop l.place l.held)
