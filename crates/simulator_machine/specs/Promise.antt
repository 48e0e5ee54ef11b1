-- What is promised of a station.
use Rattle.std.specs.Prelude.{◌≡◌, ◌≢◌, ℕ, true}
use Rattle.simulator_machine.specs.Signal.{Stop, shown}
use Rattle.simulator_machine.specs.Point.{Side, StandsUndriven}
use Rattle.simulator_machine.specs.Table.{Table}
use Rattle.simulator_machine.specs.Machine.{Machine, is_held}

-- a signal shows an aspect other than stop
abbrev pub ShowsOther : Machine → ℕ → Type 0
ShowsOther machine signal = shown (machine.signals signal) ≢ Stop

-- a route is held for the signal at which it begins
abbrev pub IsHeldFor : Table → Machine → (signal route : ℕ) → Type 0
IsHeldFor table machine signal route = (table.entry route ≡ signal) × (is_held machine route ≡ true)

-- Exactly one route is held for a signal, the signal shows this route's aspect, and every point that this route
-- requires stands undriven in the required position.
pub record IsProtected (table : Table) (machine : Machine) (signal : ℕ) : Type 0 where
  pub route : ℕ
  pub held : IsHeldFor table machine signal route
  pub only : (other : ℕ) → IsHeldFor table machine signal other → other ≡ route
  pub aspect : shown (machine.signals signal) ≡ table.aspect route
  pub points : (point : ℕ) (side : Side) → table.requires route point side ≡ true → StandsUndriven side (machine.points point)

-- Each signal that shows an aspect other than stop is so protected, and the routes of two such signals don't conflict.
pub record Promise (table : Table) (machine : Machine) : Type 0 where
  pub each : (signal : ℕ) → ShowsOther machine signal → IsProtected table machine signal
  pub apart : (signal other a b : ℕ) → signal ≢ other → ShowsOther machine signal → ShowsOther machine other
      → IsHeldFor table machine signal a → IsHeldFor table machine other b → table.conflict a b ≡ true → ⊥
