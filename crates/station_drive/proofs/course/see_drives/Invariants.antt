use Rattle.std.proofs.Common.{◌≡◌, ◌++◌, take, drop}
use Rattle.station_drive.specs.Rounds.{drives_after}
use Rattle.station_drive.proofs.course.see_drives.Given as goal

-- the drives in front are as they are after the round
abbrev pub invariant-loop-place : goal.invariant-loop-place
invariant-loop-place g l =
    let driven = g.S.Station.does.driven (g.S.Station.state l.station) in
    take l.place l.drives ++ drives_after l.reading driven l.place (drop l.place l.drives) ≡ drives_after l.reading driven 0 l.fn.drives
