use Rattle.std.proofs.Common.{◌≡◌, ℕ, List}
use Rattle.station_drive.specs.Told.{Grows}
use Rattle.station_panel.specs.Turns.{Turns}
use Rattle.station_panel.proofs.panel.Panel.attend.Given as goal

-- the turns so far
abbrev pub invariant-loop : goal.invariant-loop
invariant-loop g l =
    (readings : List ℕ)
    × Grows (g.C.Clock.readings l.fn.clock) (g.C.Clock.readings l.clock) readings
    × Turns g.S.Station g.N.Datagrams g.S.Pictured l.limits.memory l.fn.self readings l.self
    × (l.self.run.first ≡ l.fn.self.run.first)
