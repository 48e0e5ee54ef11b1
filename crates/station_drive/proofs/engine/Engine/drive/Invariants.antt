use Rattle.std.proofs.Common.{◌≡◌, ◌<◌, ◌≤◌, ◌-◌, ◌/◌, ◌∷◌, List, length, map}
use Rattle.std.specs.List.{AllByRecursion}
use Rattle.station_drive.specs.Told.{Grows}
use Rattle.station_drive.specs.Drives.{IsPlain, beginning}
use Rattle.station_drive.specs.Engines.{EnginePerforms}
use Rattle.station_drive.specs.Rounds.{RoundHeard, rounds}
use Rattle.station_drive.proofs.Turns.{standing_end}
use Rattle.station_drive.proofs.engine.Engine.drive.Given as goal

-- the rounds so far, none of which was the last
abbrev pub invariant-loop : goal.invariant-loop
invariant-loop g l =
    let s = g.S.Station in
    let site = s.site l.fn.self.station in
    let state = s.state l.fn.self.station in
    let start = beginning site l.script l.first in
    (turns : List RoundHeard)
    × Grows (g.C.Clock.readings l.fn.clock) (g.C.Clock.readings l.clock) (l.first ∷ map (λ turn. turn.reading) turns)
    × AllByRecursion (IsPlain site) turns
    × AllByRecursion (λ turn. (turn.reading - l.first) / 1000 < l.for_ms) turns
    × EnginePerforms s g.N.Datagrams (rounds s.does site state start turns) l.fn.self l.self
    × (l.course ≡ standing_end s.does site state start turns)
    × (l.course.first ≡ l.first)
    × (length l.course.drives ≡ length site.points)
    × AllByRecursion (λ turn. (turn.reading - l.first) / 1000 ≤ l.most) turns
