-- When clocks drift, every reading goes on.
use Rattle.std.proofs.Common.{◌≡◌, ℕ, ◌+◌, ◌*◌, ◌<◌, ◌≤◌, Bool, true, false, refl, arith}
use Rattle.std.specs.Prelude.{◌&&◌, nat_le}
use Rattle.std.proofs.lemmas.Bool.Decides.{nat_tests}
use Rattle.simulator_spec.specs.rasta_core.Ends.{reading_of}
use Rattle.simulator_spec.specs.Refusals.{keeps_time}

pub both_hold : (one other : Bool) → (one && other) ≡ true → (one ≡ true) × (other ≡ true)
both_hold true other is = (refl, is)
both_hold false other is = absurd (none is) where
  none : false ≡ true → ⊥
  none e = cc (e)

pub no_more : (one other : ℕ) → nat_le one other ≡ true → one ≤ other
no_more one other is = grind (arith, nat_tests)

keeps_within : (elapsed of_clock : ℕ) → keeps_time elapsed of_clock ≡ true → (999 * elapsed ≤ 1000 * of_clock) × (1000 * of_clock ≤ 1001 * elapsed)
keeps_within elapsed of_clock keeps =
    let tests = both_hold (nat_le (999 * elapsed) (1000 * of_clock)) (nat_le (1000 * of_clock) (1001 * elapsed)) keeps
    in (no_more (999 * elapsed) (1000 * of_clock) tests.0, no_more (1000 * of_clock) (1001 * elapsed) tests.1)

pub no_drift : (elapsed of_clock : ℕ) → elapsed < 1000 → keeps_time elapsed of_clock ≡ true → of_clock ≡ elapsed
no_drift elapsed of_clock short keeps =
    let within = keeps_within elapsed of_clock keeps
    in let least = within.0
    in let most = within.1
    in omega (arith, short, least, most)

pub every_reading_turns : (elapsed of_clock clock : ℕ) → 1000 < elapsed → keeps_time elapsed of_clock ≡ true → reading_of clock < reading_of (clock + of_clock)
every_reading_turns elapsed of_clock clock long keeps =
    let within = keeps_within elapsed of_clock keeps
    in let least = within.0
    in omega (arith, long, least)
