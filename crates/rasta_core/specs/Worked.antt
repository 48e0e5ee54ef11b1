-- A clock that runs fast, by events that are shorter than a millisecond.
use Rattle.std.specs.Prelude.{ℕ, zero, suc, ◌+◌, ◌*◌, ◌-◌, ◌/◌, ◌≤◌, List, [], ◌∷◌}
use Rattle.rasta_core_spec.specs.Events.{Event, Passes}

-- what such a clock has after so many events of 100 microseconds: it gains one in each ten of them, which is 1 in 1000
abbrev pub fast_clock : ℕ → ℕ
fast_clock count = 100 * count + count / 10

-- so many of these events, after this number of them: the client's clock runs fast, the server's is true
abbrev pub fast_from : ℕ → ℕ → List Event
fast_from number zero = []
fast_from number (suc count) = Passes 100 (fast_clock (suc number) - fast_clock number) 100 ∷ fast_from (suc number) count

-- A wrong premise: each event gives or takes a microsecond anew.
pub record IsWithinDriftAnew (elapsed own : ℕ) : Type 0 where
  pub least : 999 * elapsed ≤ 1000 * own + 1000
  pub most : 1000 * own ≤ 1001 * elapsed + 1000

-- so many events of one microsecond, in each of which the client's clock goes on by two
abbrev pub runaway : ℕ → List Event
runaway zero = []
runaway (suc count) = Passes 1 2 1 ∷ runaway count
