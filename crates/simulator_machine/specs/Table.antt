-- What a station's control table says of its routes.
use Rattle.std.specs.Prelude.{◌≡◌, ◌≢◌, ℕ, Bool, true}
use Rattle.simulator_machine.specs.Signal.{Aspect}
use Rattle.simulator_machine.specs.Point.{Side}

-- A control table. Signals, points and routes are numbers, of which any may be in use.
pub record Table : Type 0 where
  -- the signal at which a route begins, and the aspect that it shows for this route
  pub entry : (route : ℕ) → ℕ
  pub aspect : (route : ℕ) → Aspect
  -- a route requires a point at a side
  pub requires : (route point : ℕ) → Side → Bool
  -- two routes conflict
  pub conflict : (route other : ℕ) → Bool

-- What the theorem needs of a table.
pub record IsSound (table : Table) : Type 0 where
  -- conflict goes both ways
  pub both_ways : (a b : ℕ) → table.conflict a b ≡ true → table.conflict b a ≡ true
  -- two routes that begin at one signal conflict
  pub one_entry : (a b : ℕ) → a ≢ b → table.entry a ≡ table.entry b → table.conflict a b ≡ true
