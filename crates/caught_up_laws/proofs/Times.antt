-- Whatever returns a stamp was sent after that was read.
use Rattle.std.proofs.Common.{◌≡◌, ℕ, ◌+◌, ◌-◌, ◌*◌, ◌^◌, ◌≤◌, ◌<◌, ◌/◌, arith}
use Rattle.rasta_core_spec.specs.Sequence.{distance, stamp}

-- a reading of less than a turn of the stamps ago is told by its stamp
told : (read now : ℕ) → read ≤ now → now < read + 2 ^ 32 → now - distance (stamp read) (stamp now) ≡ read
told read now before lately = omega (arith, before, lately)

pub told_by_then : (read clock_then clock_now time_then time_now back at off : ℕ) → 1000 * read ≤ clock_then → 1000 * clock_then + 1001 * back ≤ 1000000 * read + 1001 * time_then + 999000 + off
    → off ≤ 10000 → at < back + 3802000 → time_now ≤ at + 2000000 → time_then ≤ time_now
    → 1000 * clock_now + 1001 * time_then ≤ 1000 * clock_then + 1001 * time_now → 999 * time_now + 1000 * clock_then ≤ 1000 * clock_now + 999 * time_then
    → clock_now / 1000 - distance (stamp read) (stamp (clock_now / 1000)) ≤ clock_then / 1000
told_by_then read clock_then clock_now time_then time_now back at off before most small promptly alive later steady slow =
    let not_after : read ≤ clock_now / 1000 = omega (arith, before, slow, later)
    in let lately : clock_now / 1000 < read + 2 ^ 32 = omega (arith, most, small, promptly, alive, later, steady)
    in let then : read ≤ clock_then / 1000 = omega (arith, before)
    in omega (arith, told read (clock_now / 1000) not_after lately, then)
