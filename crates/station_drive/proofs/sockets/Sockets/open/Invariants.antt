use Rattle.std.proofs.Common.{◌≡◌, length}
use Rattle.station_drive.proofs.sockets.Sockets.open.Given as goal

-- there is a socket for each node so far
abbrev pub invariant-loop : goal.invariant-loop
invariant-loop g l = length l.ports.items ≡ l.counter
