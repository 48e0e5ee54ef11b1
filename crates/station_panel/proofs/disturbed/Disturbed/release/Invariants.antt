use Rattle.std.proofs.Common.{◌≡◌, ◌+◌, length}
use Rattle.station_panel.specs.DisturbedNetwork.{DisturbedView, Released, disturbance}
use Rattle.station_panel.proofs.disturbed.Disturbed.release.Given as goal

-- as many went on as there were turns of the loop, and where the rest leads, all leads
abbrev pub invariant-loop : goal.invariant-loop
invariant-loop g l =
    let told = g.N.Datagrams.told in
    let carries = g.N.Datagrams.carries in
    (length (disturbance l.self).late + l.counter ≡ length (disturbance l.fn.self).late)
    × ((last : DisturbedView g.row.N.Denot) → Released told carries (disturbance l.self) last → Released told carries (disturbance l.fn.self) last)
