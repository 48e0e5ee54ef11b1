use Rattle.std.proofs.Common.{◌≡◌, ◌++◌, ℕ, List, map, drop}
use Rattle.simulator_event.specs.layout.declared.ids.NodeId.{NodeId}
use Rattle.station_drive.specs.Told.{Carried, Sends}
use Rattle.station_drive.proofs.events_performed.send_from.Given as goal

-- what was sent so far, and after it what is left
abbrev pub invariant-loop-place : goal.invariant-loop-place
invariant-loop-place g l =
    let all : List (NodeId × List ℕ) = g.S.Station.does.sent (g.S.Station.state l.station) in
    (done : List (NodeId × List ℕ))
    × (done ++ drop l.place all ≡ drop l.first all)
    × Carried g.N.Datagrams.carries (g.N.Datagrams.told l.fn.net) (g.N.Datagrams.told l.net) (map (λ one. Sends one.0 one.1) done)
