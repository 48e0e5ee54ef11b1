use Rattle.replay_lines.proofs.AgreedSoFar.{Stands}
use Rattle.replay_lines.proofs.agreement.replay.Given as goal

-- the events so far answered as it was recorded, so what is told of those that are left is told of all
abbrev pub invariant-loop-place : goal.invariant-loop-place
invariant-loop-place g l =
    let station = g.S.Station in
    Stands station.does l.entries (station.state l.fn.station) l.place (station.state l.station)
