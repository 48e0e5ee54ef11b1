-- Each move that was taken has one final report, or waits for it.
use Rattle.std.proofs.Common.{◌≡◌, ℕ, ◌+◌, nat_le, Bool, true, false, List, [], ◌∷◌, length, Option, Some, None, refl, arith, if◌then◌else◌}
use Rattle.sci_telegram.specs.declared.message.Side.{Side}
use Rattle.sci_telegram.specs.declared.message.Position.{Position}
use Rattle.sci_telegram.specs.declared.telegram.Telegram.{Telegram}
use Rattle.object_host.specs.declared.report.Report.{Report}
use Rattle.object_host.specs.declared.sense.Sense.{Sense}
use Rattle.object_host.specs.declared.sense.Sense.TheVariants as sense
use Rattle.point_ctl.specs.declared.progress.Progress.{Progress}
use Rattle.point_ctl.specs.declared.progress.Progress.TheVariants.{Answered, Driving, Arrived, TimedOut}
use Rattle.point_ctl.specs.Drive.{is_at, drive_end, commanded_by, begun, limited, reached}
use Rattle.object_host.specs.Object.{ObjectCall, Takes, Ticks, Senses, Keeps, Pays, Loses}
use Rattle.point_ctl.specs.History.{History, IsAnsweredOnce, one_more, next, told}

-- a history of these parts
abbrev pub of : Progress → Position → ℕ → List Side → List Report → History
of progress sensed until moves reports =
    record { point = record { sensed = sensed; progress = progress; until = until }; moves = moves; reports = reports }

-- a move begins at a point that has answered all
begins : (order : Option Side) (now : ℕ) (sensed : Position) (until : ℕ) (moves : List Side) (reports : List Report)
    → length reports + 0 ≡ length moves
    → IsAnsweredOnce (of (begun now (record { sensed = sensed; progress = Answered; until = until }) order) sensed until (one_more order moves) reports)
begins None now sensed until moves reports each = record { each = each; last = tt }
begins (Some side) now sensed until moves reports each =
    elim (is_at side sensed) as (λ (b : Bool). IsAnsweredOnce (of (if b then Arrived else Driving side now) sensed until (side ∷ moves) reports)) [
      | true ↦ record { each = omega arith; last = tt }
      | false ↦ record { each = omega arith; last = (moves, refl) }
    ]

takes : (progress : Progress) (now : ℕ) (telegram : Telegram) (sensed : Position) (until : ℕ) (moves : List Side) (reports : List Report)
    → IsAnsweredOnce (of progress sensed until moves reports)
    → IsAnsweredOnce (next (Takes now telegram) (of progress sensed until moves reports))
takes Answered now telegram sensed until moves reports once = begins (commanded_by telegram.message) now sensed until moves reports once.each
takes (Driving side since) now telegram sensed until moves reports once = once
takes Arrived now telegram sensed until moves reports once = once
takes TimedOut now telegram sensed until moves reports once = once

limits : (progress : Progress) (now : ℕ) (sensed : Position) (until : ℕ) (moves : List Side) (reports : List Report)
    → IsAnsweredOnce (of progress sensed until moves reports)
    → IsAnsweredOnce (of (limited now progress) sensed until moves reports)
limits Answered now sensed until moves reports once = once
limits (Driving side since) now sensed until moves reports once =
    elim (nat_le (drive_end since) now) as (λ (b : Bool). IsAnsweredOnce (of (if b then TimedOut else Driving side since) sensed until moves reports)) [
      | true ↦ record { each = once.each; last = tt }
      | false ↦ once
    ]
limits Arrived now sensed until moves reports once = once
limits TimedOut now sensed until moves reports once = once

reaches : (progress : Progress) (position sensed : Position) (until : ℕ) (moves : List Side) (reports : List Report)
    → IsAnsweredOnce (of progress sensed until moves reports)
    → IsAnsweredOnce (of (reached position progress) position until moves reports)
reaches Answered position sensed until moves reports once = record { each = once.each; last = tt }
reaches (Driving side since) position sensed until moves reports once =
    elim (is_at side position) as (λ (b : Bool). IsAnsweredOnce (of (if b then Arrived else Driving side since) position until moves reports)) [
      | true ↦ record { each = once.each; last = tt }
      | false ↦ record { each = once.each; last = once.last }
    ]
reaches Arrived position sensed until moves reports once = record { each = once.each; last = tt }
reaches TimedOut position sensed until moves reports once = record { each = once.each; last = tt }

pays : (progress : Progress) (sensed : Position) (until : ℕ) (moves : List Side) (reports : List Report)
    → IsAnsweredOnce (of progress sensed until moves reports)
    → IsAnsweredOnce (next Pays (of progress sensed until moves reports))
pays Answered sensed until moves reports once = once
pays (Driving side since) sensed until moves reports once = once
pays Arrived sensed until moves reports once = let e : length reports + 1 ≡ length moves = once.each in record { each = omega arith; last = tt }
pays TimedOut sensed until moves reports once = let e : length reports + 1 ≡ length moves = once.each in record { each = omega arith; last = tt }

senses : (sense : Sense) (now : ℕ) (history : History) → IsAnsweredOnce history → IsAnsweredOnce (next (Senses now sense) history)
senses (sense.Position position) now history once =
    reaches (limited now history.point.progress) position history.point.sensed history.point.until history.moves history.reports
    (limits history.point.progress now history.point.sensed history.point.until history.moves history.reports once)
senses (sense.Section place occupancy) now history once = once

pub call_answers_once : (call : ObjectCall) (history : History) → IsAnsweredOnce history → IsAnsweredOnce (next call history)
call_answers_once (Takes now telegram) history once =
    takes history.point.progress now telegram history.point.sensed history.point.until history.moves history.reports once
call_answers_once (Ticks now) history once =
    limits history.point.progress now history.point.sensed history.point.until history.moves history.reports once
call_answers_once (Senses now sense) history once = senses sense now history once
call_answers_once (Keeps until) history once = record { each = once.each; last = once.last }
call_answers_once Pays history once =
    pays history.point.progress history.point.sensed history.point.until history.moves history.reports once
call_answers_once Loses history once = record { each = refl; last = tt }

pub answers_once : (calls : List ObjectCall) (history : History) → IsAnsweredOnce history → IsAnsweredOnce (told calls history)
answers_once [] history once = once
answers_once (call ∷ calls) history once = answers_once calls (next call history) (call_answers_once call history once)
