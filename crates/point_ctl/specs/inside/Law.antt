-- A point keeps the law of field objects.
use Rattle.std.specs.Prelude.{◌≡◌, ℕ, ◌≤◌, nat_lt, ◌&&◌, Bool, true, false, Some, None, is_none, refl, if◌then◌else◌}
use Rattle.std.proofs.Common.{ap, ◌∙◌}
use Rattle.std.proofs.Math.Nat.{le_refl}
use Rattle.std.proofs.lemmas.Bool.{le-ltb, false≢true}
use Rattle.sci_telegram.specs.declared.message.Position.{Position}
use Rattle.object_host.specs.declared.sense.Sense.{Sense}
use Rattle.object_host.specs.declared.sense.Sense.TheVariants as sense
use Rattle.object_host.specs.Lawful.{IsLawful}
use Rattle.point_ctl.specs.declared.progress.Progress.{Progress}
use Rattle.point_ctl.specs.declared.progress.Progress.TheVariants.{Answered, Driving, Arrived, TimedOut}
use Rattle.point_ctl.specs.Drive.{PointState, drive_end, limited, reached, answered, sensing, move_in, driven}
use Rattle.point_ctl.specs.Controlled.{point_behaviour}

and_false : (b : Bool) → (b && false) ≡ false
and_false true = refl
and_false false = refl

stops : (progress : Progress) (until now : ℕ) → until ≤ now → is_none (driven now until progress) ≡ true
stops Answered until now past = refl
stops (Driving side since) until now past =
    ap (λ (before : Bool). is_none (if nat_lt now (drive_end since) && before then Some side else None)) (le-ltb now until past)
    ∙ ap (λ (before : Bool). is_none (if before then Some side else None)) (and_false (nat_lt now (drive_end since)))
stops Arrived until now past = refl
stops TimedOut until now past = refl

idles : (progress : Progress) (until now : ℕ) → is_none (move_in progress) ≡ true → is_none (driven now until progress) ≡ true
idles Answered until now idle = refl
idles (Driving side since) until now idle = absurd (false≢true idle)
idles Arrived until now idle = refl
idles TimedOut until now idle = refl

limit_idles : (progress : Progress) (now : ℕ) → is_none (move_in progress) ≡ true → is_none (move_in (limited now progress)) ≡ true
limit_idles Answered now idle = refl
limit_idles (Driving side since) now idle = absurd (false≢true idle)
limit_idles Arrived now idle = refl
limit_idles TimedOut now idle = refl

reaching_idles : (progress : Progress) (position : Position) → is_none (move_in progress) ≡ true → is_none (move_in (reached position progress)) ≡ true
reaching_idles Answered position idle = refl
reaching_idles (Driving side since) position idle = absurd (false≢true idle)
reaching_idles Arrived position idle = refl
reaching_idles TimedOut position idle = refl

answer_idles : (progress : Progress) → is_none (move_in progress) ≡ true → is_none (move_in (answered progress)) ≡ true
answer_idles Answered idle = refl
answer_idles (Driving side since) idle = absurd (false≢true idle)
answer_idles Arrived idle = refl
answer_idles TimedOut idle = refl

sense_idles : (now : ℕ) (sense : Sense) (point : PointState) → is_none (move_in point.progress) ≡ true
    → is_none (move_in (sensing now sense point).progress) ≡ true
sense_idles now (sense.Position position) point idle =
    reaching_idles (limited now point.progress) position (limit_idles point.progress now idle)
sense_idles now (sense.Section place occupancy) point idle = idle

sense_keeps : (now : ℕ) (sense : Sense) (point : PointState) → (sensing now sense point).until ≡ point.until
sense_keeps now (sense.Position position) point = refl
sense_keeps now (sense.Section place occupancy) point = refl

pub point_is_lawful : IsLawful point_behaviour
point_is_lawful = record {
  dies = λ now point past. stops point.progress point.until now past;
  idle_is_restrictive = λ now point idle. idles point.progress point.until now idle;
  loss_idles = λ point. refl;
  loss_forgets = λ point. refl;
  tick_idles = λ now point idle. limit_idles point.progress now idle;
  sense_idles = sense_idles;
  keep_idles = λ moment point idle. idle;
  paid_idles = λ point idle. answer_idles point.progress idle;
  keeps = λ moment point. le_refl moment;
  take_keeps = λ now telegram point. refl;
  tick_keeps = λ now point. refl;
  sense_keeps = sense_keeps;
  paid_keeps = λ point. refl;
  loss_keeps = λ point. refl;
}
