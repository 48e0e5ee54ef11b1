-- A point drives as its line says.
use Rattle.std.proofs.Common.{◌≡◌, ℕ, Bool, Some, None, if◌then◌else◌, refl, ap, arith}
use Rattle.std.specs.Prelude.{◌&&◌, min, nat_lt}
use Rattle.std.proofs.lemmas.Bool.Decides.{nat_tests}
use Rattle.simulator_spec.specs.sci_telegram.declared.message.Position.{Position}
use Rattle.simulator_spec.specs.point_ctl.Drive.{PointState, drive_end, drive_of, driven_by, drives}
use Rattle.simulator_spec.specs.point_ctl.declared.progress.Progress.{Progress}
use Rattle.simulator_spec.specs.point_ctl.declared.progress.Progress.TheVariants.{Answered, Driving, Arrived, TimedOut}

before_both : (now one other : ℕ) → (nat_lt now one && nat_lt now other) ≡ nat_lt now (min one other)
before_both now one other = grind (arith, nat_tests)

drives_so : (sensed : Position) (progress : Progress) (until now : ℕ)
    → drives now (record { sensed = sensed; progress = progress; until = until }) ≡ driven_by (drive_of (record { sensed = sensed; progress = progress; until = until })) now
drives_so sensed Answered until now = refl
drives_so sensed (Driving side since) until now = ap (λ (b : Bool). if b then Some side else None) (before_both now (drive_end since) until)
drives_so sensed Arrived until now = refl
drives_so sensed TimedOut until now = refl

pub drives_by_line : (point : PointState) (now : ℕ) → drives now point ≡ driven_by (drive_of point) now
drives_by_line point now = drives_so point.sensed point.progress point.until now
